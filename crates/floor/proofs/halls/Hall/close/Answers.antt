use Rattle.std.proofs.Common.{◌≡◌, ◌∙◌, arith, length, subst, sym}
use Rattle.std.proofs.lemmas.Grind.{common_steps}
use Rattle.base.specs.Extent.{IsWithinLimits}
use Rattle.record.specs.View.{RecordingView, steps_of}
use Rattle.floor.specs.Closing.{AreHistories}
use Rattle.floor.specs.Turning.{HallView, recorded}
use Rattle.floor.proofs.halls.Hall.close.Goals as goal

pub returns : goal.returns
returns g c = record {
  setup = grind (arith, common_steps);
  legal = grind (arith, common_steps);
  owners = grind (arith, common_steps);
  histories =
      subst (λ (h : HallView). AreHistories h.entries h.owners c.args.seats.items) (sym (c.self.view_is ∙ c.compare_all.ensures.same.0))
      c.compare_all.ensures.histories;
  violation = grind (arith, common_steps);
  clean = λ restrained.
      let i = c.self.inside in
      let setup = g.F.Naming.floor.setup in
      let kept = c.self.invariant.0 in
      c.no_violation_under_restrained_tables.ensures.answer setup.shape setup.tables setup.opening (steps_of (recorded setup i.recording.entries))
      i.violation restrained
      (subst (λ (r : RecordingView). IsWithinLimits r.shape) kept.recorded_is c.opening-opening.ensures.within)
      (subst (λ (r : RecordingView). length r.opening ≡ r.shape.blocks) kept.recorded_is c.opening-opening.ensures.each)
      kept.first;
  seats = grind (arith, common_steps);
}
