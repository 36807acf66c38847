use Rattle.std.proofs.Common.{◌<◌, length, sym, subst, ◌∙◌, arith}
use Rattle.std.proofs.lemmas.Grind.{common_steps}
use Rattle.cursors.specs.Cursors.{progress}
use Rattle.cursors.specs.inner.Parts.{MovesTo, behind, wants_behind, place_of}
use Rattle.scenario.specs.Taking.{offers}
use Rattle.scenario.specs.Tree.{plain}
use Rattle.scenario.proofs.Failing.{match-map}
use Rattle.cursors.proofs.Going.{none-behind, turn-offered}
use Rattle.cursors.proofs.part.taking.go_on.Goals as goal

pub unreachable-requires : goal.unreachable-requires
unreachable-requires g c = none-behind (place_of c.args.part.now) c.place.result c.args.at c.place.ensures c.in-Nothing.is c.requires

pub start-requires : goal.start-requires
start-requires g c = subst (λ at. c.args.at < length (offers (behind at))) (sym c.place.ensures ∙ c.in-Whole.is) c.requires

pub start_row-requires : goal.start_row-requires
start_row-requires g c = subst (λ at. c.args.at < length (offers (behind at))) (sym c.place.ensures ∙ c.in-InSeq.is) c.requires

pub start_turn-requires-clause-turns : goal.start_turn-requires-clause-turns
start_turn-requires-clause-turns g c =
    let low = subst (λ at. c.args.at < length (offers (behind at))) (sym c.place.ensures ∙ c.in-InTimes.is) c.requires in
    (turn-offered c.in-InTimes.turns (plain c.in-InTimes.child.now) c.args.at low).0

pub start_turn-requires-clause-offer : goal.start_turn-requires-clause-offer
start_turn-requires-clause-offer g c =
    let low = subst (λ at. c.args.at < length (offers (behind at))) (sym c.place.ensures ∙ c.in-InTimes.is) c.requires in
    (turn-offered c.in-InTimes.turns (plain c.in-InTimes.child.now) c.args.at low).1

pub returns-in-Whole-clause-moves : goal.returns-in-Whole-clause-moves
returns-in-Whole-clause-moves g c =
    let is = sym (sym c.place.ensures ∙ c.in-Whole.is) in
    let new = progress c.start.new.part in
    match-map c.start.result (λ _ h. subst (λ at. MovesTo (behind at) c.args.at (wants_behind at) new) is h) (λ h. h) c.start.ensures.moves

pub returns-in-InSeq-clause-moves : goal.returns-in-InSeq-clause-moves
returns-in-InSeq-clause-moves g c =
    let is = sym (sym c.place.ensures ∙ c.in-InSeq.is) in
    let new = progress c.start_row.new.part in
    match-map c.start_row.result (λ _ h. subst (λ at. MovesTo (behind at) c.args.at (wants_behind at) new) is h) (λ h. h) c.start_row.ensures.moves

pub returns-in-InTimes-clause-moves : goal.returns-in-InTimes-clause-moves
returns-in-InTimes-clause-moves g c =
    let is = sym (sym c.place.ensures ∙ c.in-InTimes.is) in
    let new = progress c.start_turn.new.part in
    match-map c.start_turn.result (λ _ h. subst (λ at. MovesTo (behind at) c.args.at (wants_behind at) new) is h) (λ h. h) c.start_turn.ensures.moves

pub unreachable-unreachable : goal.unreachable-unreachable
unreachable-unreachable g c = grind (arith, common_steps)
