-- Ranked pairs in which blame works.
use Rattle.std.specs.Prelude.{◌≡◌, ◌⊎◌, ℕ, List, Some, None, true, slice_get}
use Rattle.network.specs.declared.message.ForwardKind.{ForwardKind}
use Rattle.tables.specs.Tables.{Tables}
use Rattle.pairs.specs.declared.pair.Pair.{Pair}
use Rattle.closing.specs.declared.ranked.RankedPair.{RankedPair}
use Rattle.closing.specs.Blamed.{is_held, is_noisy, is_silent, awaits_home, IsBlamed}

-- somebody is to blame
abbrev pub HasBlame : Tables → List RankedPair → Pair → Type 0
HasBlame tables list p = (kind : ForwardKind) × IsBlamed tables list p kind

-- where the pair is held, no Data is on its way to the home, and what the first waits for is told
pub record IsAnswered (tables : Tables) (list : List RankedPair) (p : Pair) : Type 0 where
  pub home_data : p.shared.home_data ≡ 0
  pub blame : is_noisy p.first ≡ true → (awaits_home p ≡ true) ⊎ HasBlame tables list p

pub record IsExplained (tables : Tables) (list : List RankedPair) (p : Pair) : Type 0 where
  pub done : is_silent p ≡ true → p.first.waits ≡ None
  pub answered : is_held tables p ≡ true → IsAnswered tables list p

abbrev pub AreExplained : Tables → List RankedPair → Type 0
AreExplained tables list = (k : ℕ) (r : RankedPair) → slice_get list k ≡ Some r → IsExplained tables list r.pair
