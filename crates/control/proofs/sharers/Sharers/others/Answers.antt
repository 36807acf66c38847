use Rattle.std.proofs.Common.{◌≡◌, ap, arith, sym, ◌∙◌}
use Rattle.control.proofs.Shared.{others-count}
use Rattle.control.specs.Sharing.{shares}
use Rattle.network.specs.Room.{one_if}
use Rattle.rows.specs.Flags.{set_count}
use Rattle.control.proofs.sharers.Sharers.others.Goals as goal

pub overflow_sub-result : goal.overflow_sub-result
overflow_sub-result c =
    let one : one_if (shares c.args.self.now c.args.cache.0) ≡ 1 = ap one_if (sym c.contains.ensures ∙ c.if-contains.true) in
    omega (arith, one, others-count c.args.self.now 0 c.args.cache.0 c.args.cache.0 (omega arith), c.ones-sharers.ensures, ap set_count c.self.view_is)

pub returns-then-contains : goal.returns-then-contains
returns-then-contains c =
    let one : one_if (shares c.args.self.now c.args.cache.0) ≡ 1 = ap one_if (sym c.contains.ensures ∙ c.if-contains.true) in
    omega (arith, one, others-count c.args.self.now 0 c.args.cache.0 c.args.cache.0 (omega arith), c.ones-sharers.ensures, ap set_count c.self.view_is)

pub returns-else-contains : goal.returns-else-contains
returns-else-contains c =
    let none : one_if (shares c.args.self.now c.args.cache.0) ≡ 0 = ap one_if (sym c.contains.ensures ∙ c.if-contains.false) in
    omega (arith, none, others-count c.args.self.now 0 c.args.cache.0 c.args.cache.0 (omega arith), c.ones-sharers.ensures, ap set_count c.self.view_is)
