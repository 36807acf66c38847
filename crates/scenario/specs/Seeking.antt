-- Where an offer is: among those of one tree, and of several.
use Rattle.std.specs.Prelude.{◌≡◌, ◌<◌, ◌+◌, ℕ, zero, suc, List, [], ◌∷◌, length, take, Some, slice_get, Result, Ok, Err}
use Rattle.base.specs.declared.step.CoreAsk.{CoreAsk}
use Rattle.scenario.specs.Tree.{Tree, trees_of}
use Rattle.scenario.specs.Taking.{offers, offers_of_all}

-- the ask at a place of a list, or how far behind its end the place is
abbrev pub sought : List CoreAsk → ℕ → Result CoreAsk ℕ
sought [] i = Err i
sought (ask ∷ asks) zero = Ok ask
sought (ask ∷ asks) (suc i) = sought asks i

-- offer i of all these trees is offer k of tree j
abbrev pub IsOfferOf : List Tree → ℕ → ℕ → ℕ → Type 0
IsOfferOf ts i j k = (t : Tree) × (slice_get ts j ≡ Some t) × (k < length (offers t)) × (i ≡ length (offers_of_all (trees_of (take j ts))) + k)
