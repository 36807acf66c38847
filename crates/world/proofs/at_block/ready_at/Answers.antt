use Rattle.std.proofs.Common.{◌∙◌, Some, ap, arith, inl, inr, length, subst, sym, true≢false}
use Rattle.std.proofs.lemmas.Grind.{common_steps}
use Rattle.std.proofs.lemmas.List.{length-set}
use Rattle.blocks.specs.Marking.{marks_of}
use Rattle.rows.specs.Flags.{is_set}
use Rattle.world.specs.inner.Holding.{kept_at}
use Rattle.world.specs.inner.Tests.{IsMarked}
use Rattle.world.proofs.Touching.{either-at, lines-put, marked-put, others-set}
use Rattle.world.proofs.at_block.ready_at.Goals as goal

pub returns-in_err-outcome-clause-succeeds : goal.returns-in_err-outcome-clause-succeeds
returns-in_err-outcome-clause-succeeds c needs =
    elim (either-at c.args.tables.now c.args.step c.args.caches c.args.value (kept_at c.args.blocks.now.items c.args.number) needs) [
      | inl some ↦ absurd (true≢false (sym (rw c.in_err-outcome.was at c.touch.ensures.there some)))
      | inr none ↦ absurd (true≢false (sym (rw c.in_err-outcome.was at c.touch.ensures.succeeds none)))
    ]

pub returns-clause-kept : goal.returns-clause-kept
returns-clause-kept c =
    let tables = c.args.tables.now in
    let touches = c.touch.ensures.touches in
    let there = rw c.in-Some-get_mut.is at c.get_mut.follows in
    let long = ap length touches.others.items ∙ length-set c.args.blocks.now.items c.args.number _ in
    record {
      others = others-set c.args.blocks.now.items c.touch.new.blocks.items c.args.number (Some c.ready.new.self) c.requires touches.others;
      state = grind (arith, common_steps);
      marked = λ m.
          let before = subst (IsMarked tables) (sym there) (touches.marked m) in
          marked-put tables c.touch.new.blocks.items c.args.number c.ready.new.self (omega (arith, long, c.requires))
          (c.ready.ensures.kept.marks ∙ before ∙ ap (marks_of tables) (sym c.ready.ensures.kept.state));
      idle = grind (arith, common_steps);
      lines = λ cache.
          lines-put c.args.blocks.now.items c.touch.new.blocks.items c.args.number cache _ c.ready.new.self (omega (arith, long, c.requires)) there
          (ap (λ ls. is_set ls cache) c.ready.ensures.kept.lines) (touches.lines cache);
    }
