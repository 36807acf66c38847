-- What a claim, a post and a look do to a seat, and why a post is refused.
use Rattle.std.specs.Prelude.{◌≡◌, ℕ, ◌<◌, Some, None, false, slice_index_or}
use Rattle.trials.specs.declared.verdict.TrialResult.{TrialResult}
use Rattle.trials.specs.Terms.{Plan}
use Rattle.desk.specs.declared.faults.PostFault.{PostFault}
use Rattle.desk.specs.declared.faults.PostFault.TheVariants.{NotYours, Already, NoMemory}
use Rattle.desk.specs.Plans.{IsResultOf}
use Rattle.desk.specs.Seats.{DeskSeatView, HasClaimed, HasPosted, Knows, numbers_of, with_claim, with_known, with_post}

-- a seat that wasn't told that there are no more has claimed this number: one of its desk's, above all that it had claimed
pub record Claims (old : DeskSeatView) (number : ℕ) (new : DeskSeatView) : Type 0 where
  pub claims : new ≡ with_claim old number
  pub on : old.told ≡ false
  pub within : number < numbers_of old.desk
  pub next : (claimed : ℕ) → HasClaimed old claimed → claimed < number
  pub unposted : ¬ HasPosted new number

-- the seat has claimed the number, and hasn't posted it
abbrev pub CanPost : DeskSeatView → ℕ → Type 0
CanPost seat number = HasClaimed seat number × ¬ HasPosted seat number

-- the seat has posted this result of a number that it could post, and knew none of before
pub record Posts (old : DeskSeatView) (number : ℕ) (result : TrialResult) (new : DeskSeatView) : Type 0 where
  pub could : CanPost old number
  pub first : (found : TrialResult) → ¬ Knows old number found
  pub posts : new ≡ with_post old number result
  pub posted : HasPosted new number
  pub known : Knows new number result

-- why a result of the number isn't posted: memory is all that a seat that can post it may lack
abbrev pub IsPostFault : DeskSeatView → ℕ → PostFault → Type 0
IsPostFault seat number NotYours = ¬ HasClaimed seat number
IsPostFault seat number Already = HasClaimed seat number × HasPosted seat number
IsPostFault seat number NoMemory = CanPost seat number

-- the seat has found this result of the number's trial, and the same as before if it knew one
pub record FindsResult (plan : Plan) (old : DeskSeatView) (number : ℕ) (result : TrialResult) (new : DeskSeatView) : Type 0 where
  pub its : IsResultOf plan number result
  pub again : (found : TrialResult) → Knows old number found → found ≡ result
  pub finds : new ≡ with_known old number (Some result)
  pub known : Knows new number result

-- the seat has found no result of the number, has posted none, and knew none before
pub record FindsNoResult (old : DeskSeatView) (number : ℕ) (new : DeskSeatView) : Type 0 where
  pub unposted : ¬ HasPosted old number
  pub before : (found : TrialResult) → ¬ Knows old number found
  pub others : new ≡ with_known old number (slice_index_or new.known number None)
  pub unknown : (found : TrialResult) → ¬ Knows new number found
