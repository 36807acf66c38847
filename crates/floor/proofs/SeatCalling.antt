-- What a call finds at a hall is a moment at its floor.
use Rattle.std.proofs.Common.{◌≡◌, ◌≤◌, ◌∙◌, ℕ, List, [], Option, length, ap, refl, subst, sym}
use Rattle.atomic_table.specs.Seated.{TableId}
use Rattle.atomic_table.specs.Table.{Me}
use Rattle.monitor.specs.declared.violation.Violation.{Violation}
use Rattle.record_lines.specs.declared.entry.Entry.{Entry}
use Rattle.record.specs.View.{RecordingView}
use Rattle.world.specs.View.{View}
use Rattle.floor.specs.declared.tokens.TokenView.{TokenView}
use Rattle.floor.specs.FloorId.{FloorId}
use Rattle.floor.specs.Turning.{HallView, SeatView}
use Rattle.floor.specs.Histories.{history}
use Rattle.floor.specs.SeatCalling.{IsMoment}
use Rattle.floor.specs.inner.Keeping.{IsKeptUp}
use Rattle.floor.specs.inner.Tokens.{AreTied, Token, keeper, sitting}

-- the tokens of a hall and of a seat of one floor are tied
pub are_tied : (f : FloorId) (table_id : TableId) (hall seat : Token) (es : List Entry) (os : List ℕ) (number : ℕ) (made : List (ℕ × Entry)) →
    table_id ≡ f.ground → f.ground.words ≡ 1 → hall.table_id ≡ f.ground → hall.me ≡ (keeper es os f.seats, []) →
    seat.table_id ≡ f.ground → seat.me ≡ (sitting number made, []) → AreTied table_id hall seat
are_tied f table_id hall seat es os number made table one hall_is keeps seat_is sits = record {
  table = hall_is ∙ sym table;
  one = ap (λ (t : TableId). t.words) table ∙ one;
  keeps = subst (λ (m : Me Entry TokenView). m ≡ (keeper m.0.entries m.0.owners m.0.next, [])) (sym keeps) refl;
  same = seat_is ∙ sym table;
  sits = subst (λ (m : Me Entry TokenView). m ≡ (sitting m.0.number m.0.made, [])) (sym sits) refl;
}

-- what two tokens tell is so of a hall and a seat that have them
pub told : (hall seat : Me Entry TokenView) (es : List Entry) (os : List ℕ) (seats number : ℕ) (made : List (ℕ × Entry)) →
    hall ≡ (keeper es os seats, []) → seat ≡ (sitting number made, []) →
    seat.0.made ≡ history seat.0.number hall.0.entries hall.0.owners → made ≡ history number es os
told hall seat es os seats number made keeps sits tells =
    subst (λ (h : Me Entry TokenView). made ≡ history number h.0.entries h.0.owners) keeps
    (subst (λ (s : Me Entry TokenView). s.0.made ≡ history s.0.number hall.0.entries hall.0.owners) sits tells)

-- what a hall keeps up, and a seat's history, are a moment
pub found : (f : FloorId) (world : View) (watch : List ℕ) (recording : RecordingView) (os : List ℕ) (violation : Option (ℕ × Violation))
    (number : ℕ) (made : List (ℕ × Entry)) (hall : HallView) (seat : SeatView) →
    IsKeptUp f world watch recording os violation → length recording.entries ≤ f.capacity → made ≡ history number recording.entries os →
    record { entries = recording.entries; owners = os; violation = violation } ≡ hall → record { number = number; made = made } ≡ seat →
    IsMoment f seat hall.entries hall.owners
found f world watch recording os violation number made hall seat kept within tells is sits =
    subst (λ (s : SeatView). IsMoment f s hall.entries hall.owners) sits
    (subst (λ (h : HallView). IsMoment f (record { number = number; made = made }) h.entries h.owners) is
    (record { within = within; legal = kept.legal; owned = kept.owned; made = tells }))
