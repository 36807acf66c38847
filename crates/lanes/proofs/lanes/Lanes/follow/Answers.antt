use Rattle.std.proofs.Common.{◌≡◌, ◌∙◌, false, inl, inr, ap, subst, sym, arith}
use Rattle.std.proofs.lemmas.Grind.{common_steps}
use Rattle.base.specs.Steps.{block_of}
use Rattle.machine.specs.Machine.{State}
use Rattle.schedule.specs.Choices.{chosen_step}
use Rattle.lanes.specs.Lanes.{Laned}
use Rattle.lanes.specs.Picks.{choice_of}
use Rattle.lanes.specs.inner.Changes.{AgreeBut, AreMarked}
use Rattle.lanes.specs.inner.Kept.{AreListed}
use Rattle.lanes.proofs.Fitting.{keeps-both, keeps-same}
use Rattle.lanes.proofs.Counting.{all-counted, counted-at-all, stays-agreed, stays-quiet, where-sound}
use Rattle.lanes.proofs.Touched.{agree-but, was-sound}
use Rattle.lanes.proofs.lanes.Lanes.follow.Goals as goal

pub returns-clause-made : goal.returns-clause-made
returns-clause-made g c = record {
  left = record {
    usable = ap (λ (l : Laned). l.usable) c.count_anew.ensures.counts.same ∙ ap (λ (l : Laned). l.usable) c.count_at.ensures.counts.same
        ∙ c.mark_again-marked.ensures.same.usable ∙ c.in_ok-anew.ensures.left.usable;
    alike = grind (arith, common_steps);
  };
  ready = λ before cb ready follows free.
      let world = c.args.world.now in
      let cores = c.args.cores.now in
      let step = chosen_step (choice_of c.args.self.now c.args.pick.now) in
      let taken = c.take_picked.new.self in
      let marked = c.mark_again-marked.new.self in
      let anew = c.in_ok-anew.anew in
      let listed : AreListed taken =
      subst AreListed c.self.view_is (c.self.invariant.listed (ap (λ (l : Laned). l.usable) c.self.view_is ∙ c.in_ok-anew.ensures.left.usable)) in
      let at = c.changed_at-at.result in
      let here : c.block.result.0 ≡ block_of step = c.block.ensures ∙ ap block_of (c.step.ensures c.args.self.now) in
      where-sound world.tables world.state cores c.count_anew.new.self (λ sn.
      let sound = was-sound world.tables before step (ap (λ (s : State). s.broken) (sym follows.told.state) ∙ sn) in
      let were = c.in_ok-anew.ensures.were before cb sound ready in
      let right : world.state.broken ≡ false → AreMarked world.tables world.state marked =
      (λ now. c.mark_again-marked.ensures.marked world.state step before cb cores anew listed c.in_ok-anew.ensures.marked
      sound now here follows were) in
      all-counted world.tables before world.state cb cores anew at taken marked c.count_at.new.self c.count_anew.new.self
      were c.mark_again-marked.ensures.same right c.count_at.ensures.counts c.count_at.ensures.each c.count_anew.ensures.counts c.count_anew.ensures.each
      (λ now. elim c.changed_at-at.ensures [
        | inl e ↦ stays-agreed world.tables before world.state cb cores anew at (block_of step) taken listed sound now
            (subst (λ p. AgreeBut p (block_of step) before world.state cb cores) (sym e)
            (agree-but world.tables step c.args.made.now before world.state cb cores sound follows))
        | inr h ↦ stays-quiet world.tables before world.state cb cores anew at taken were
            (subst (AreMarked world.tables world.state) (c.mark_again-marked.ensures.left h.2) (right now)) (free h.1)
      ]));
}

pub returns-in_err-anew-clause-made : goal.returns-in_err-anew-clause-made
returns-in_err-anew-clause-made g c = grind (arith, common_steps)

pub count_anew-requires-clause-counted : goal.count_anew-requires-clause-counted
count_anew-requires-clause-counted g c =
    counted-at-all c.args.cores.now c.changed_at-at.result c.mark_again-marked.new.self
    c.count_at.new.self c.count_at.ensures.counts c.count_at.ensures.each

pub returns-clause-stays : goal.returns-clause-stays
returns-clause-stays g c =
    keeps-both c.args.self.now c.take_picked.new.self c.count_anew.new.self c.take_picked.ensures.stays
    (keeps-same c.take_picked.new.self c.count_anew.new.self
    (ap (λ (l : Laned). l.source) c.count_anew.ensures.counts.same ∙ ap (λ (l : Laned). l.source) c.count_at.ensures.counts.same
    ∙ c.mark_again-marked.ensures.same.source)
    (ap (λ (l : Laned). l.stocks) c.count_anew.ensures.counts.same ∙ ap (λ (l : Laned). l.stocks) c.count_at.ensures.counts.same
    ∙ c.mark_again-marked.ensures.same.stocks))

pub returns-in_err-anew-clause-stays : goal.returns-in_err-anew-clause-stays
returns-in_err-anew-clause-stays g c = c.take_picked.ensures.stays
