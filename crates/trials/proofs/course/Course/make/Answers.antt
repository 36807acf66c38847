use Rattle.std.proofs.Common.{refl}
use Rattle.record.specs.View.{with_entry}
use Rattle.trials.proofs.course.Course.make.Goals as goal

pub returns-clause-makes : goal.returns-clause-makes
returns-clause-makes g c r told = (
  with_entry r (record { step = c.in_ok-step.step; outcome = c.in_ok-step.made.outcome }),
  c.in_ok-add.ensures r told,
  record {
    step = c.in_ok-step.step;
    made = c.in_ok-step.made;
    makes = c.in_ok-step.ensures.made;
    like = c.make.ensures.like;
    dice = refl;
    recorded = refl;
    world = c.world.result.now;
    is = c.world.ensures;
    answer = c.violation_after.ensures.history;
  },
)
