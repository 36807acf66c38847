-- What the calls of halls and floors promise, told of one answer or of one refusal at a time.
use Rattle.std.proofs.Common.{◌≡◌, ◌<◌, ◌≤◌, ◌↔◌, ℕ, List, [], Option, Some, None, Result, Ok, Err, arith, false, length, refl, true}
use Rattle.std.proofs.Common.{IfErr, IfNone, IfOk, IfSome, IsErrOf, IsOkUnless, MatchResult, OnErr}
use Rattle.base.specs.declared.step.Step.{Step}
use Rattle.floor.specs.declared.floors.FloorFault.{FloorFault}
use Rattle.floor.specs.declared.floors.FloorFault.TheVariants as unopened
use Rattle.floor.specs.declared.halls.TurnFault.{TurnFault}
use Rattle.floor.specs.declared.halls.TurnFault.TheVariants.{NotYours, Full, NoMemory}
use Rattle.floor.specs.FloorId.{FloorId}
use Rattle.floor.specs.Opening.{IsFloorSize, IsUnopened}
use Rattle.floor.specs.Turning.{Draws, HallView, SeatView, is_its, its_ready, with_receipt}
use Rattle.floor.specs.HallCalling.{Refuses, RefusesDraw, Turns, TurnsAny}
use Rattle.floor.specs.SeatCalling.{HadNone, IsMoment, ReceivesAny, WasDrawn, WasDrawRefused, WasRefused}

-- a floor is refused for having no seats exactly where it has none
pub open-no-seats : {T : Type 0} (seats capacity : ℕ) (r : Result T FloorFault) →
    MatchResult r (λ _. IsFloorSize seats capacity) (IsUnopened seats capacity) → IsErrOf r unopened.NoSeats ↔ (seats ≡ 0)
open-no-seats seats capacity (Ok opened) told = ((λ e. absurd (cc e)), λ e. absurd (omega (arith, e, told.0.0)))
open-no-seats seats capacity (Err unopened.NoSeats) told = ((λ e. told), λ e. refl)
open-no-seats seats capacity (Err unopened.TooManySeats) told = ((λ e. absurd (cc e)), λ e. absurd (omega (arith, e, told)))
open-no-seats seats capacity (Err unopened.OverLimit) told = ((λ e. absurd (cc e)), λ e. absurd (omega (arith, e, told.0.0)))
open-no-seats seats capacity (Err unopened.NoMemory) told = ((λ e. absurd (cc e)), λ e. absurd (omega (arith, e, told.0.0)))

-- for having too many exactly where it has more than 64
pub open-too-many-seats : {T : Type 0} (seats capacity : ℕ) (r : Result T FloorFault) →
    MatchResult r (λ _. IsFloorSize seats capacity) (IsUnopened seats capacity) → IsErrOf r unopened.TooManySeats ↔ (64 < seats)
open-too-many-seats seats capacity (Ok opened) told = ((λ e. absurd (cc e)), λ e. absurd (omega (arith, e, told.0.1)))
open-too-many-seats seats capacity (Err unopened.NoSeats) told = ((λ e. absurd (cc e)), λ e. absurd (omega (arith, e, told)))
open-too-many-seats seats capacity (Err unopened.TooManySeats) told = ((λ e. told), λ e. refl)
open-too-many-seats seats capacity (Err unopened.OverLimit) told = ((λ e. absurd (cc e)), λ e. absurd (omega (arith, e, told.0.1)))
open-too-many-seats seats capacity (Err unopened.NoMemory) told = ((λ e. absurd (cc e)), λ e. absurd (omega (arith, e, told.0.1)))

-- and for its capacity exactly where else that is over 1,000,000
pub open-over-limit : {T : Type 0} (seats capacity : ℕ) (r : Result T FloorFault) →
    MatchResult r (λ _. IsFloorSize seats capacity) (IsUnopened seats capacity) →
    IsErrOf r unopened.OverLimit ↔ ((0 < seats) × (seats ≤ 64) × (1000000 < capacity))
open-over-limit seats capacity (Ok opened) told = ((λ e. absurd (cc e)), λ e. absurd (omega (arith, e.2, told.1)))
open-over-limit seats capacity (Err unopened.NoSeats) told = ((λ e. absurd (cc e)), λ e. absurd (omega (arith, e.0, told)))
open-over-limit seats capacity (Err unopened.TooManySeats) told = ((λ e. absurd (cc e)), λ e. absurd (omega (arith, e.1, told)))
open-over-limit seats capacity (Err unopened.OverLimit) told = ((λ e. (told.0.0, told.0.1, told.1)), λ e. refl)
open-over-limit seats capacity (Err unopened.NoMemory) told = ((λ e. absurd (cc e)), λ e. absurd (omega (arith, e.2, told.1)))

-- a turn by a step that isn't the seat's is refused as such
pub turn-not-yours : (f : FloorId) (old new : HallView) (seat left : SeatView) (step : Step) (r : Result _ TurnFault) →
    IfOk r (Turns f old new seat left step) → IfErr r (Refuses f old new seat left step) →
    is_its f old.entries seat.number step ≡ false → IsErrOf r NotYours
turn-not-yours f old new seat left step (Ok receipt) made refused foreign = cc (made.own, foreign)
turn-not-yours f old new seat left step (Err NotYours) made refused foreign = refl
turn-not-yours f old new seat left step (Err Full) made refused foreign = cc (refused.reason.0, foreign)
turn-not-yours f old new seat left step (Err NoMemory) made refused foreign = cc (refused.reason.0, foreign)

-- else it is refused where there are as many entries as the floor takes
pub turn-full : (f : FloorId) (old new : HallView) (seat left : SeatView) (step : Step) (r : Result _ TurnFault) →
    IfOk r (Turns f old new seat left step) → IfErr r (Refuses f old new seat left step) →
    is_its f old.entries seat.number step ≡ true → length old.entries ≡ f.capacity → IsErrOf r Full
turn-full f old new seat left step (Ok receipt) made refused own full = absurd (omega (arith, made.room, full))
turn-full f old new seat left step (Err NotYours) made refused own full = cc (refused.reason, own)
turn-full f old new seat left step (Err Full) made refused own full = refl
turn-full f old new seat left step (Err NoMemory) made refused own full = absurd (omega (arith, refused.reason.1, full))

-- and else only for want of memory
pub turn-else-memory : (f : FloorId) (old new : HallView) (seat left : SeatView) (step : Step) (r : Result _ TurnFault) →
    IfOk r (Turns f old new seat left step) → IfErr r (Refuses f old new seat left step) →
    is_its f old.entries seat.number step ≡ true → length old.entries < f.capacity → IsOkUnless r NoMemory
turn-else-memory f old new seat left step (Ok receipt) made refused own room = tt
turn-else-memory f old new seat left step (Err NotYours) made refused own room = cc (refused.reason, own)
turn-else-memory f old new seat left step (Err Full) made refused own room = absurd (omega (arith, refused.reason.1, room))
turn-else-memory f old new seat left step (Err NoMemory) made refused own room = refl

-- whatever comes of it, it was made at a moment of the seat's, at which there were no more entries than the floor takes
pub turn-moment : (f : FloorId) (old new : HallView) (seat left : SeatView) (step : Step) (r : Result _ TurnFault) →
    IfOk r (Turns f old new seat left step) → IfErr r (Refuses f old new seat left step) →
    IsMoment f seat old.entries old.owners × (length old.entries ≤ f.capacity)
turn-moment f old new seat left step (Ok receipt) made refused = (made.moment, made.moment.within)
turn-moment f old new seat left step (Err fault) made refused = (refused.leaves.moment, refused.leaves.moment.within)

-- where it is refused, nothing has changed
pub turn-err : (f : FloorId) (old new : HallView) (seat left : SeatView) (step : Step) (r : Result _ TurnFault) →
    IfOk r (Turns f old new seat left step) → IfErr r (Refuses f old new seat left step) → OnErr r ((new ≡ old) × (left ≡ seat))
turn-err f old new seat left step (Ok receipt) made refused = tt
turn-err f old new seat left step (Err fault) made refused = (refused.leaves.hall_stays, refused.leaves.seat_stays)

-- a draw is refused where there are as many entries as the floor takes
pub turn_any-full : (f : FloorId) (old new : HallView) (seat left : SeatView) (word : ℕ) (r : Result (Option _) TurnFault) →
    IfOk r (TurnsAny f old new seat left word) → IfErr r (RefusesDraw f old new seat left) → length old.entries ≡ f.capacity → IsErrOf r Full
turn_any-full f old new seat left word (Ok None) made refused full = absurd (omega (arith, made.room, full))
turn_any-full f old new seat left word (Ok (Some receipt)) made refused full = absurd (let room = made.2.room in omega (arith, room, full))
turn_any-full f old new seat left word (Err NotYours) made refused full = cc (refused.reason)
turn_any-full f old new seat left word (Err Full) made refused full = refl
turn_any-full f old new seat left word (Err NoMemory) made refused full = absurd (omega (arith, refused.reason.1, full))

-- and else only for want of memory
pub turn_any-else-memory : (f : FloorId) (old new : HallView) (seat left : SeatView) (word : ℕ) (r : Result (Option _) TurnFault) →
    IfOk r (TurnsAny f old new seat left word) → IfErr r (RefusesDraw f old new seat left) → length old.entries < f.capacity → IsOkUnless r NoMemory
turn_any-else-memory f old new seat left word (Ok made-of) made refused room = tt
turn_any-else-memory f old new seat left word (Err NotYours) made refused room = cc (refused.reason)
turn_any-else-memory f old new seat left word (Err Full) made refused room = absurd (omega (arith, refused.reason.1, room))
turn_any-else-memory f old new seat left word (Err NoMemory) made refused room = refl

-- it is made at a moment
pub turn_any-moment : (f : FloorId) (old new : HallView) (seat left : SeatView) (word : ℕ) (r : Result (Option _) TurnFault) →
    IfOk r (TurnsAny f old new seat left word) → IfErr r (RefusesDraw f old new seat left) →
    IsMoment f seat old.entries old.owners × (length old.entries ≤ f.capacity)
turn_any-moment f old new seat left word (Ok None) made refused = (made.leaves.moment, made.leaves.moment.within)
turn_any-moment f old new seat left word (Ok (Some receipt)) made refused = (made.2.moment, made.2.moment.within)
turn_any-moment f old new seat left word (Err fault) made refused = (refused.leaves.moment, refused.leaves.moment.within)

-- none is answered where nothing is ready, and nothing has changed then
pub turn_any-none : (f : FloorId) (old new : HallView) (seat left : SeatView) (word : ℕ) (r : Result (Option _) TurnFault) →
    IfOk r (TurnsAny f old new seat left word) →
    IfOk r (λ made. IfNone made ((its_ready f old.entries seat.number ≡ []) × (new ≡ old) × (left ≡ seat)))
turn_any-none f old new seat left word (Ok None) made = (made.none, made.leaves.hall_stays, made.leaves.seat_stays)
turn_any-none f old new seat left word (Ok (Some receipt)) made = tt
turn_any-none f old new seat left word (Err fault) made = tt

-- a receipt is that of a turn by the step that the word draws
pub turn_any-some : (f : FloorId) (old new : HallView) (seat left : SeatView) (word : ℕ) (r : Result (Option _) TurnFault) →
    IfOk r (TurnsAny f old new seat left word) → IfOk r (λ made. IfSome made (λ receipt.
    (step : Step) × Draws f old.entries seat.number word step × Turns f old new seat left step receipt))
turn_any-some f old new seat left word (Ok None) made = tt
turn_any-some f old new seat left word (Ok (Some receipt)) made = made
turn_any-some f old new seat left word (Err fault) made = tt

-- where it is refused, nothing has changed
pub turn_any-err : {T : Type 0} (f : FloorId) (old new : HallView) (seat left : SeatView) (r : Result T TurnFault) →
    IfErr r (RefusesDraw f old new seat left) → OnErr r ((new ≡ old) × (left ≡ seat))
turn_any-err f old new seat left (Ok made) refused = tt
turn_any-err f old new seat left (Err fault) refused = (refused.leaves.hall_stays, refused.leaves.seat_stays)

-- at a floor a turn is refused as a foreign one only where the step wasn't the seat's, at a moment
pub floor_turn-foreign : {T : Type 0} (f : FloorId) (old new : SeatView) (step : Step) (r : Result T TurnFault) →
    IfErr r (WasRefused f old new step) → IsErrOf r NotYours →
    (before : List _) × (owners : List ℕ) × IsMoment f old before owners × (is_its f before old.number step ≡ false)
floor_turn-foreign f old new step (Ok receipt) refused is = absurd (cc is)
floor_turn-foreign f old new step (Err NotYours) refused is = (refused.before, refused.owners, refused.moment, refused.reason)
floor_turn-foreign f old new step (Err Full) refused is = absurd (cc is)
floor_turn-foreign f old new step (Err NoMemory) refused is = absurd (cc is)

-- and as one too many only where there were as many entries as the floor takes, at a moment
pub floor_turn-full : {T : Type 0} (f : FloorId) (old new : SeatView) (step : Step) (r : Result T TurnFault) →
    IfErr r (WasRefused f old new step) → IsErrOf r Full →
    (before : List _) × (owners : List ℕ) × IsMoment f old before owners × (length before ≡ f.capacity)
floor_turn-full f old new step (Ok receipt) refused is = absurd (cc is)
floor_turn-full f old new step (Err NotYours) refused is = absurd (cc is)
floor_turn-full f old new step (Err Full) refused is = (refused.before, refused.owners, refused.moment, refused.reason.1)
floor_turn-full f old new step (Err NoMemory) refused is = absurd (cc is)

pub floor_turn-err : {T : Type 0} (f : FloorId) (old new : SeatView) (step : Step) (r : Result T TurnFault) →
    IfErr r (WasRefused f old new step) → OnErr r (new ≡ old)
floor_turn-err f old new step (Ok receipt) refused = tt
floor_turn-err f old new step (Err fault) refused = refused.stays

-- what is drawn at a floor was drawn at a moment, and is added to the seat; and where nothing was, nothing was ready at a moment
pub floor_turn_any-made : {E : Type 0} (f : FloorId) (old new : SeatView) (word : ℕ) (r : Result (Option _) E) → IfOk r (ReceivesAny f old new word) →
    IfOk r (λ made. IfSome made (λ receipt. WasDrawn f old word receipt × (new ≡ with_receipt old receipt)) × IfNone made (HadNone f old × (new ≡ old)))
floor_turn_any-made f old new word (Ok None) made = (tt, made)
floor_turn_any-made f old new word (Ok (Some receipt)) made = (made, tt)
floor_turn_any-made f old new word (Err fault) made = tt

-- no draw is refused as a foreign one
pub floor_turn_any-yours : {T : Type 0} (f : FloorId) (old new : SeatView) (r : Result T TurnFault) →
    IfErr r (WasDrawRefused f old new) → ¬ IsErrOf r NotYours
floor_turn_any-yours f old new (Ok made) refused is = absurd (cc is)
floor_turn_any-yours f old new (Err NotYours) refused is = absurd (cc (refused.reason))
floor_turn_any-yours f old new (Err Full) refused is = absurd (cc is)
floor_turn_any-yours f old new (Err NoMemory) refused is = absurd (cc is)

pub floor_turn_any-full : {T : Type 0} (f : FloorId) (old new : SeatView) (r : Result T TurnFault) →
    IfErr r (WasDrawRefused f old new) → IsErrOf r Full →
    (before : List _) × (owners : List ℕ) × IsMoment f old before owners × (length before ≡ f.capacity)
floor_turn_any-full f old new (Ok made) refused is = absurd (cc is)
floor_turn_any-full f old new (Err NotYours) refused is = absurd (cc is)
floor_turn_any-full f old new (Err Full) refused is = (refused.before, refused.owners, refused.moment, refused.reason.1)
floor_turn_any-full f old new (Err NoMemory) refused is = absurd (cc is)

pub floor_turn_any-err : {T : Type 0} (f : FloorId) (old new : SeatView) (r : Result T TurnFault) →
    IfErr r (WasDrawRefused f old new) → OnErr r (new ≡ old)
floor_turn_any-err f old new (Ok made) refused = tt
floor_turn_any-err f old new (Err fault) refused = refused.stays
