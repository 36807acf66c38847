use Rattle.std.proofs.Common.{◌≡◌, ◌∙◌, ap, arith, inl, inr, refl, subst, sym, length, true≢false, ◌≤◌}
use Rattle.std.proofs.lemmas.Grind.{common_steps}
use Rattle.base.specs.declared.step.Step.{Step}
use Rattle.tables.specs.Tables.{Tables}
use Rattle.machine.specs.declared.decision.Decision.{Decision}
use Rattle.machine.specs.declared.decision.Decision.TheVariants.{Refused}
use Rattle.machine.specs.declared.made.Made.{Made}
use Rattle.machine.specs.Block.{BlockState}
use Rattle.machine.specs.Made.{acted_by, is_crowded}
use Rattle.machine.specs.Transition.{Transition, carried_out, decision_of, messages_of}
use Rattle.blocks.specs.Marking.{marks_of}
use Rattle.network.specs.Traffic.{message_count}
use Rattle.blocks.specs.View.{Space, acts, lines_after}
use Rattle.blocks.proofs.Asked.{first-right-after}
use Rattle.blocks.proofs.Going.{acting}
use Rattle.blocks.proofs.Relinking.{right-after, some-both, some-map}
use Rattle.blocks.proofs.Sends.{sends-counted}
use Rattle.blocks.proofs.block.Block.serve.Goals as goal

-- what was decided by the controllers' tables
decided : (tables told : Tables) (step : Step) (b : BlockState) {d : Decision} → d ≡ decision_of told step b → told ≡ tables → d ≡ decision_of tables step b
decided tables told step b is same = is ∙ ap (λ (t : Tables). decision_of t step b) same

-- what a decision is told as
abbrev made_by : Decision → BlockState → Made
made_by d b = record { outcome = (carried_out d b).outcome; acted = acted_by d (is_crowded (carried_out d b).block) }

pub returns-in-Refused-clause-ok : goal.returns-in-Refused-clause-ok
returns-in-Refused-clause-ok g c =
    let b = c.args.self.now.state in
    let was : Refused c.in-Refused.outcome ≡ decision_of c.args.controllers.now (g.S.Served.step c.args.served.now) b = sym c.in-Refused.is
    ∙ (decided c.args.controllers.now c.tables.result.now (g.S.Served.step c.args.served.now) c.args.self.now.state
    c.decide-decision.ensures.decision c.tables.ensures) in
    record {
      told = c.refused.ensures ∙ ap (λ e. made_by e b) was;
      state = ap (λ e. (carried_out e b).block) was;
      marks = c.requires;
      sent = subst (λ e. length (messages_of e b) ≤ message_count b.traffic) was (omega arith);
      lines = ap (λ e. lines_after e c.args.self.now.space.lines) was;
      idle = λ none. refl;
    }

pub returns-in-Err-clause-err : goal.returns-in-Err-clause-err
returns-in-Err-clause-err g c = record {
  state = c.prepare.ensures.state;
  marks = c.prepare.ensures.marks ∙ c.requires ∙ ap (marks_of c.args.controllers.now) (sym c.prepare.ensures.state);
  lines = c.prepare.ensures.lines;
}

pub returns-in-Err-clause-succeeds : goal.returns-in-Err-clause-succeeds
returns-in-Err-clause-succeeds g c wants = elim wants [
  | inl space ↦ c.in-Err.ensures.succeeds (rw (decided c.args.controllers.now c.tables.result.now (g.S.Served.step c.args.served.now) c.args.self.now.state
      c.decide-decision.ensures.decision c.tables.ensures) space)
  | inr none ↦ (let sends = none.0 in let asleep = none.1 in grind (arith, common_steps))
]

pub returns-clause-ok : goal.returns-clause-ok
returns-clause-ok g c =
    let d = c.decide-decision.result in
    let before = c.args.self.now.state in
    let is = (decided c.args.controllers.now c.tables.result.now (g.S.Served.step c.args.served.now) c.args.self.now.state
    c.decide-decision.ensures.decision c.tables.ensures) in
    let tables = c.args.controllers.now in
    let after = c.mark_after.new.self in
    let counted = sends-counted d before c.decide-decision.ensures.among c.decide-decision.ensures.fits in
    let done = ap (carried_out d) (sym c.prepare.ensures.state) ∙ c.carry_out-outcome.ensures.done in
    let stays = sym c.mark_after.ensures.state in
    let block : after.state ≡ (carried_out d before).block = c.mark_after.ensures.state ∙ sym (ap (λ (t : Transition). t.block) done) in
    let what : c.carry_out-outcome.result ≡ (carried_out d before).outcome = sym (ap (λ (t : Transition). t.outcome) done) in
    let acted = c.acted_by-acted.ensures ∙ ap (acted_by d) (c.is_crowded.ensures ∙ ap is_crowded block) in
    record {
      told = (λ i. record { outcome = what i; acted = acted i }) ∙ ap (λ e. made_by e before) is;
      state = block ∙ ap (λ e. (carried_out e before).block) is;
      marks = c.mark_after.ensures.marks ∙ ap (marks_of tables) stays;
      sent = subst (λ e. length (messages_of e before) ≤ message_count after.state.traffic) is
          (omega (arith, counted, ap (λ (b : BlockState). message_count b.traffic) block));
      lines = ap (λ (s : Space). s.lines) c.mark_after.ensures.space ∙ c.carry_out-outcome.ensures.lines ∙ ap (lines_after d) c.prepare.ensures.lines
          ∙ ap (λ e. lines_after e c.args.self.now.space.lines) is;
      idle = λ none. absurd (true≢false (sym (acting d c.in_default.not-Refused) ∙ ap acts is ∙ none));
    }

pub mark_after-requires : goal.mark_after-requires
mark_after-requires g c =
    let before = c.args.self.now.state in
    let marks = c.args.self.now.marks in
    let after = c.carry_out-outcome.new.self in
    let done = ap (carried_out c.decide-decision.result) (sym c.prepare.ensures.state) ∙ c.carry_out-outcome.ensures.done in
    record {
      links =
          some-map c.others-others.result
          (λ o own. right-after c.args.controllers.now c.decide-decision.result before after.state c.carry_out-outcome.result marks after.marks o.cache
          c.requires own done
          (rw (c.prepare.ensures.state, c.prepare.ensures.marks) at c.carry_out-outcome.ensures.links o.cache own))
          c.others-others.ensures.own;
      requests =
          some-map c.others-others.result
          (λ o known. first-right-after c.args.controllers.now c.decide-decision.result before after.state c.carry_out-outcome.result marks after.marks o.cache
          o.requests c.requires known.0 done
          (rw (c.prepare.ensures.marks) at c.carry_out-outcome.ensures.requests o.cache known.0) known.1)
          (some-both _ _ c.others-others.result c.others-others.ensures.own c.others-others.ensures.requests);
    }
