-- What a look tells of the offers of a tree.
use Rattle.std.specs.Prelude.{◌≡◌, List, [], ◌∷◌}
use Rattle.base.specs.declared.step.CoreAsk.{CoreAsk}
use Rattle.cursors.specs.declared.telling.Next.{Next}
use Rattle.cursors.specs.declared.telling.Next.TheVariants as next

-- there is none; or this ask is the only one; or nothing is told
abbrev pub Tells : Next → List CoreAsk → Type 0
Tells next.Nothing offers = offers ≡ []
Tells (next.Alone ask) offers = offers ≡ ask ∷ []
Tells next.Unknown offers = Unit {0}
