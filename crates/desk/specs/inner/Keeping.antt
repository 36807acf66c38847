-- What a desk and a seat keep, and what the close has put together so far. For private clauses.
use Rattle.std.specs.Prelude.{◌≡◌, ℕ, ◌<◌, nat_lt, List, [], length, slice_index_or, slice_get, Bool, true, false, Option, Some, None}
use Rattle.std.specs.List.Sorted.{IsStrictlyIncreasing}
use Rattle.atomic_table.specs.Table.{Me}
use Rattle.atomic_table.specs.Seated.{TableId}
use Rattle.trials.specs.declared.verdict.TrialResult.{TrialResult}
use Rattle.desk.specs.declared.word.WordTokenView.{WordTokenView}
use Rattle.desk.specs.declared.word.Size.{Size}
use Rattle.desk.specs.declared.seats.NumberStage.{NumberStage}
use Rattle.desk.specs.declared.seats.NumberStage.TheVariants.{Free, Claimed, Posted}
use Rattle.trials.specs.Terms.{Plan}
use Rattle.desk.specs.Plans.{IsResultOf}
use Rattle.desk.specs.Counting.{times}
use Rattle.desk.specs.Seats.{DeskSeatView, HasPosted, Knows}
use Rattle.desk.specs.Opening.{AreWithinLimits}
use Rattle.desk.specs.Closing.{IsPlace}

-- whether a number at this stage is claimed
abbrev pub is_claimed : NumberStage → Bool
is_claimed Free = false
is_claimed Claimed = true
is_claimed Posted = true

-- whether a number at this stage is posted
abbrev pub is_posted : NumberStage → Bool
is_posted Free = false
is_posted Claimed = false
is_posted Posted = true

-- a desk has the plan that its type names, one word that counts to its numbers, and numbers and seats within the limits
pub record IsDesk (plan mine : Plan) (table : TableId) (key : Size) (cells seats : ℕ) : Type 0 where
  pub plan_is : mine ≡ plan
  pub one : table.words ≡ 1
  pub key_is : key ≡ record { count = cells; parts = seats }
  pub within : AreWithinLimits cells seats

-- the result of a number that the seat has posted: it claimed the number, and knows the result
abbrev pub IsOwn : List ℕ → List (Option TrialResult) → ℕ → Type 0
IsOwn drawn known k = (0 < times k drawn) × (r : TrialResult) × (slice_index_or known k None ≡ Some r) × (r.number ≡ k)

-- a seat has a token of one part that drew what it claimed, in rising order, and knows what it posted
pub record IsDeskSeat (me : Me (Unit {0}) WordTokenView) (count : ℕ) (told : Bool) (claims posts : List Bool) (known : List (Option TrialResult)) : Type 0 where
  pub me_is : me ≡ (record { parts = 1; count = count; drawn = me.0.drawn; over = told }, [])
  pub rises : IsStrictlyIncreasing me.0.drawn
  pub below : (x : ℕ) → 0 < times x me.0.drawn → x < count
  pub claims_length : length claims ≡ count
  pub posts_length : length posts ≡ count
  pub known_length : length known ≡ count
  pub claims_are : (k : ℕ) → k < count → slice_index_or claims k false ≡ nat_lt 0 (times k me.0.drawn)
  pub posts_are : (k : ℕ) → slice_index_or posts k false ≡ true → IsOwn me.0.drawn known k

-- what one seat adds to a place: what it posted there, else nothing
abbrev pub Collects : Plan → DeskSeatView → ℕ → Option TrialResult → Option TrialResult → Type 0
Collects plan s k o new = (¬ HasPosted s k → new ≡ o) × (HasPosted s k → (r : TrialResult) × (new ≡ Some r) × Knows s k r × IsResultOf plan k r)

-- what stands at a place once the first m seats have added to it
abbrev pub IsPlaceUpTo : Plan → List DeskSeatView → ℕ → ℕ → Option TrialResult → Type 0
IsPlaceUpTo plan row m k None = (i : ℕ) (s : DeskSeatView) → i < m → slice_get row i ≡ Some s → HasPosted s k → ⊥
IsPlaceUpTo plan row m k (Some r) = IsPlace plan row k (Some r)
