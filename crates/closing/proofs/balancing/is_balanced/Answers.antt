use Rattle.closing.proofs.LineActing.{both-true}
use Rattle.closing.proofs.balancing.is_balanced.Goals as goal

pub returns : goal.returns
returns c = λ both.
    let each = both-true c.home_is_balanced.result c.steps_are_balanced.result both in
    record { steps = c.steps_are_balanced.ensures each.1; home_data = c.home_is_balanced.ensures each.0 }
