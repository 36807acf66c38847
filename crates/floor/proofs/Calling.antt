-- What a hall's calls tell of a seat's.
use Rattle.std.proofs.Common.{◌≡◌, ◌<◌, ℕ, List, [], ◌∷◌, Option, Some, None, Result, Ok, Err, IfOk, IfErr, IsOkUnless, OnErr}
use Rattle.std.proofs.Common.{true, refl, length, ap, append-nil, sym, subst, ◌∙◌}
use Rattle.base.specs.declared.step.Step.{Step}
use Rattle.machine.specs.Machine.{next}
use Rattle.record_lines.specs.declared.entry.Entry.{Entry}
use Rattle.floor.specs.declared.halls.TurnFault.{TurnFault}
use Rattle.floor.specs.declared.halls.TurnFault.TheVariants.{NoMemory}
use Rattle.floor.specs.Crews.{GoesOn}
use Rattle.floor.specs.FloorId.{FloorId}
use Rattle.floor.specs.Turning.{Draws, Follows, HallView, SeatView, is_its, state_of, with_receipt}
use Rattle.floor.specs.SeatCalling.{IsMoment, IsTurnRefused, Receives, ReceivesAny, WasDrawRefused, WasRefused}
use Rattle.floor.specs.HallCalling.{Refuses, RefusesDraw, Turns, TurnsAny}

-- a turn that may be made and isn't is refused for memory
pub refuses : (f : FloorId) (old new : HallView) (seat left : SeatView) (step : Step) (r : Result (ℕ × Entry) TurnFault) →
    IsMoment f seat old.entries old.owners → is_its f old.entries seat.number step ≡ true → length old.entries < f.capacity →
    IsOkUnless r NoMemory → OnErr r ((new ≡ old) × (left ≡ seat)) → IfErr r (Refuses f old new seat left step)
refuses f old new seat left step (Ok receipt) moment own room only stay = tt
refuses f old new seat left step (Err fault) moment own room only stay = record {
  leaves = record { moment = moment; hall_stays = stay.0; seat_stays = stay.1 };
  reason = subst (λ (x : TurnFault). IsTurnRefused f old.entries (is_its f old.entries seat.number step) x) (sym only) (own, room);
}

-- and so is a draw
pub refuses_draw : (f : FloorId) (old new : HallView) (seat left : SeatView) (fault : TurnFault) →
    IsMoment f seat old.entries old.owners → length old.entries < f.capacity → fault ≡ NoMemory → (new ≡ old) × (left ≡ seat) →
    RefusesDraw f old new seat left fault
refuses_draw f old new seat left fault moment room only stay = record {
  leaves = record { moment = moment; hall_stays = stay.0; seat_stays = stay.1 };
  reason = subst (λ (x : TurnFault). IsTurnRefused f old.entries true x) (sym only) (refl, room);
}

-- the receipt of a turn is of the step that it was to make, and follows the entries before
step_of : (f : FloorId) (old new : HallView) (seat turned : SeatView) (step : Step) (receipt : ℕ × Entry) →
    Turns f old new seat turned step receipt → receipt.1.step ≡ step
step_of f old new seat turned step receipt made = ap (λ (entry : Entry). entry.step) made.entry

follows : (f : FloorId) (old new : HallView) (seat turned : SeatView) (step : Step) (receipt : ℕ × Entry) →
    Turns f old new seat turned step receipt → Follows f old.entries receipt
follows f old new seat turned step receipt made = record {
  number = made.number;
  outcome = ap (λ (entry : Entry). entry.outcome) made.entry
      ∙ ap (λ (s : Step). (next f.setup.tables (state_of f.setup old.entries) s).outcome) (sym (step_of f old new seat turned step receipt made));
}

pub received : {E : Type 0} (f : FloorId) (old new : HallView) (seat turned : SeatView) (step : Step) (r : Result (ℕ × Entry) E) →
    IfOk r (Turns f old new seat turned step) → IfOk r (Receives f seat turned step)
received f old new seat turned step (Err fault) made = tt
received f old new seat turned step (Ok receipt) made =
    let same : receipt.1.step ≡ step = step_of f old new seat turned step receipt made in record {
      step_is = same;
      its = (
        old.entries,
        old.owners,
        made.moment,
        follows f old new seat turned step receipt made,
        ap (λ (s : Step). is_its f old.entries seat.number s) same ∙ made.own,
      );
      added = made.added;
    }

pub received_any : {E : Type 0} (f : FloorId) (old new : HallView) (seat turned : SeatView) (word : ℕ) (r : Result (Option (ℕ × Entry)) E) →
    IfOk r (TurnsAny f old new seat turned word) → IfOk r (ReceivesAny f seat turned word)
received_any f old new seat turned word (Err fault) made = tt
received_any f old new seat turned word (Ok None) made = ((old.entries, old.owners, made.leaves.moment, made.none), made.leaves.seat_stays)
received_any f old new seat turned word (Ok (Some receipt)) made =
    let turn : Turns f old new seat turned made.0 receipt = made.2 in
    let same : receipt.1.step ≡ made.0 = step_of f old new seat turned made.0 receipt turn in (
      (
        old.entries,
        old.owners,
        turn.moment,
        follows f old new seat turned made.0 receipt turn,
        subst (λ (s : Step). Draws f old.entries seat.number word s) (sym same) made.1,
      ),
      turn.added,
    )

pub was_refused : {T : Type 0} (f : FloorId) (old new : HallView) (seat left : SeatView) (step : Step) (r : Result T TurnFault) →
    IfErr r (Refuses f old new seat left step) → IfErr r (WasRefused f seat left step)
was_refused f old new seat left step (Ok made) refused = tt
was_refused f old new seat left step (Err fault) refused = record {
  stays = refused.leaves.seat_stays;
  before = old.entries;
  owners = old.owners;
  moment = refused.leaves.moment;
  reason = refused.reason;
}

pub was_draw_refused : {T : Type 0} (f : FloorId) (old new : HallView) (seat left : SeatView) (r : Result T TurnFault) →
    IfErr r (RefusesDraw f old new seat left) → IfErr r (WasDrawRefused f seat left)
was_draw_refused f old new seat left (Ok made) refused = tt
was_draw_refused f old new seat left (Err fault) refused = record {
  stays = refused.leaves.seat_stays;
  before = old.entries;
  owners = old.owners;
  moment = refused.leaves.moment;
  reason = refused.reason;
}

-- a seat that is as it was, or has one receipt more, goes on
pub goes_on_as_is : (old new : SeatView) → new ≡ old → GoesOn old new
goes_on_as_is old new same = (
  ap (λ (s : SeatView). s.number) same,
  [],
  ap (λ (s : SeatView). s.made) same ∙ sym (append-nil old.made),
)

pub goes_on_with : (old new : SeatView) (receipt : ℕ × Entry) → new ≡ with_receipt old receipt → GoesOn old new
goes_on_with old new receipt added = (
  ap (λ (s : SeatView). s.number) added,
  receipt ∷ [],
  ap (λ (s : SeatView). s.made) added,
)

pub goes_on_by_draw : (f : FloorId) (old new : SeatView) (word : ℕ) (r : Result (Option (ℕ × Entry)) TurnFault) →
    IfOk r (ReceivesAny f old new word) → IfErr r (WasDrawRefused f old new) → GoesOn old new
goes_on_by_draw f old new word (Ok None) made refused = goes_on_as_is old new made.1
goes_on_by_draw f old new word (Ok (Some receipt)) made refused = goes_on_with old new receipt made.1
goes_on_by_draw f old new word (Err fault) made refused = goes_on_as_is old new refused.stays

pub stays_by_draw : {T : Type 0} (f : FloorId) (old new : SeatView) (r : Result T TurnFault) → IfErr r (WasDrawRefused f old new) → OnErr r (new ≡ old)
stays_by_draw f old new (Ok made) refused = tt
stays_by_draw f old new (Err fault) refused = refused.stays
