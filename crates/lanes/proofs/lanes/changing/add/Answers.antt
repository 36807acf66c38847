use Rattle.std.proofs.Common.{sym, subst}
use Rattle.std.specs.List.{Contains}
use Rattle.lanes.proofs.Reached.{contains-insert}
use Rattle.lanes.proofs.lanes.changing.add.Goals as goal

pub returns-in_ok-insert-clause-more : goal.returns-in_ok-insert-clause-more
returns-in_ok-insert-clause-more c other there =
    subst (λ xs. Contains xs other) (sym c.in_ok-insert.ensures.items)
    (contains-insert c.args.lanes.now.items c.in-Err.place other c.args.lane there)
