-- Trees that can't be told apart by taking offers.
use Rattle.std.specs.Prelude.{◌≡◌, ◌≤◌, ℕ, Bool, if◌then◌else◌, nat_lt, List, [], ◌∷◌, length}
use Rattle.std.specs.Prelude.{Option, Some, None, option_map, slice_get}
use Rattle.base.specs.declared.step.CoreAsk.{CoreAsk}
use Rattle.scenario.specs.Tree.{Tree}
use Rattle.scenario.specs.Taking.{ends, offers, left}

-- what is seen of a tree: its offers, and whether it may end
pub record SeenTree : Type 0 where
  pub offers : List CoreAsk
  pub ends : Bool

abbrev pub seen : Tree → SeenTree
seen t = record { offers = offers t; ends = ends t }

-- what is left once these offers are taken one behind the other, if each of them is offered
abbrev pub followed : Tree → List ℕ → Option Tree
followed t [] = Some t
followed t (i ∷ path) = if nat_lt i (length (offers t)) then followed (left t i) path else None

-- whichever offers are taken, the same is seen of both
abbrev pub Alike : Tree → Tree → Type 0
Alike s t = (path : List ℕ) → option_map seen (followed s path) ≡ option_map seen (followed t path)

-- there is no such offer: nothing is answered, and the tree is as it was
-- or an offer is taken: it is answered, and what stands then is alike to what is left
abbrev pub Takes : Tree → ℕ → Option CoreAsk → Tree → Type 0
Takes old i None new = (length (offers old) ≤ i) × (new ≡ old)
Takes old i (Some ask) new = (slice_get (offers old) i ≡ Some ask) × Alike new (left old i)
