use Rattle.std.proofs.Common.{◌*◌, ◌+◌, arith}
use Rattle.rows.proofs.Tree.{no-fewer, numbers-none}
use Rattle.rows.proofs.sums.Sums.open.Goals as goal

pub overflow_add-levels : goal.overflow_add-levels
overflow_add-levels c =
    let fewer = no-fewer c.loop-first.levels in
    omega (arith, fewer, c.loop-first.invariant.begins, c.loop-first-test.true, c.ranges.count.fits)

pub returns : goal.returns
returns c =
    rw (c.in_ok-tree.ensures.items_if_clones_equal (λ y e. e))
    (numbers-none (4 * c.loop-first.first + 1) c.loop-first.first c.args.count (omega (arith, c.loop-first-test.false)))
