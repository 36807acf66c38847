use Rattle.std.proofs.Common.{◌∙◌, ap, sym, subst}
use Rattle.pairs.specs.declared.pair.Pair.{Pair}
use Rattle.pairs.specs.Marking.{IsMarked}
use Rattle.pairs.specs.Sights.{looked_at}
use Rattle.pairs.specs.inner.Following.{done}
use Rattle.pairs.proofs.Completing.{line_settled-looked_at, line_settled-lost, line_settled-spoilt, few_pair-some, marked-done, marked-state}
use Rattle.pairs.proofs.lines.see_answered.Goals as goal

pub returns-then-returns_old : goal.returns-then-returns_old
returns-then-returns_old c =
    (sym (line_settled-spoilt c.args.rule c.args.to c.args.concerned c.args.next c.args.actions.now c.args.pair.now (sym c.if-returns_old.ensures)), tt)

pub returns-in_default : goal.returns-in_default
returns-in_default c = (
  sym (line_settled-lost c.args.rule c.args.to c.args.concerned c.args.next c.args.actions.now c.args.pair.now (sym c.if-returns_old.ensures)
      c.in_default.ensures.pair),
  tt,
)

pub look_at-requires : goal.look_at-requires
look_at-requires c =
    subst (λ (p : Pair). IsMarked p) (sym c.complete.ensures)
    (marked-done c.args.rule _ (marked-state c.in-Some.after c.args.next c.in-Some.ensures.marked))

pub returns : goal.returns
returns c =
    let same = few_pair-some _ c.in-Some.after c.in-Some.ensures.pair in
    let moved = λ (q : Pair). done c.args.rule (record q { first = record q.first { state = c.args.next } }) in (
      c.look_at.ensures.0
          ∙ ap (λ (q : Pair). looked_at c.args.concerned q) (c.complete.ensures ∙ ap moved same)
          ∙ sym (line_settled-looked_at c.args.rule c.args.to c.args.concerned c.args.next c.args.actions.now c.args.pair.now
          (sym c.if-returns_old.ensures)),
      c.look_at.ensures.1,
    )
