-- Pairs that begin with the same cache stand together.
use Rattle.std.specs.Prelude.{◌≡◌, ◌<◌, ◌≤◌, ℕ, List, Some, Bool, false, true, if◌then◌else◌, slice_get}
use Rattle.pairs.specs.declared.pair.Pair.{Pair}
use Rattle.closing.specs.declared.numbering.View.{View}
use Rattle.closing.specs.declared.numbering.Span.{Span}
use Rattle.closing.specs.declared.ranked.RankedPair.{RankedPair}

abbrev pub first_view : Pair → View
first_view p = record { shared = p.shared; side = p.first }

abbrev pub second_view : Pair → View
second_view p = record { shared = p.shared; side = p.second }

-- this is the first of these views that is so
pub record IsNumberOfView (views : List View) (view : View) (number : ℕ) : Type 0 where
  pub there : slice_get views number ≡ Some view
  pub first : (k : ℕ) → k < number → ¬ (slice_get views k ≡ Some view)

-- no view stands here twice
abbrev pub AreDistinct : List View → Type 0
AreDistinct views = (n : ℕ) (v : View) → slice_get views n ≡ Some v → (k : ℕ) → k < n → ¬ (slice_get views k ≡ Some v)

-- each pair has the number of its first view, or of its second one
abbrev pub HaveNumbers : Bool → List RankedPair → List View → List ℕ → Type 0
HaveNumbers second list views numbers =
    (k : ℕ) (r : RankedPair) → slice_get list k ≡ Some r →
    (n : ℕ) × (slice_get numbers k ≡ Some n) × IsNumberOfView views (if second then second_view r.pair else first_view r.pair) n

-- each place is within the span of its number
abbrev pub AreWithin : List ℕ → List Span → Type 0
AreWithin firsts spans = (k n : ℕ) → slice_get firsts k ≡ Some n → (s : Span) × (slice_get spans n ≡ Some s) × (s.begin ≤ k) × (k < s.end)

-- each pair has the numbers of its two views, and stands within the span of its first one's
pub record AreNumbered (list : List RankedPair) (views : List View) (firsts seconds : List ℕ) (spans : List Span) : Type 0 where
  pub first : HaveNumbers false list views firsts
  pub second : HaveNumbers true list views seconds
  pub within : AreWithin firsts spans
