use Rattle.std.proofs.Common.{arith}
use Rattle.cores.proofs.Touched.{below-more, below-none, idle-all, none-past}
use Rattle.cores.proofs.cores.make_idle.Goals as goal

pub loop-from-init : goal.loop-from-init
loop-from-init c = (c.places-count.ensures, below-none c.args.touched.now c.args.cores.now.items c.requires)

pub loop-from-preserved : goal.loop-from-preserved
loop-from-preserved c = (
  c.loop-from.invariant.0,
  rw c.idle.ensures (below-more c.args.touched.now c.loop-from.from c.in-Some.at c.loop-from.cores.items c.loop-from.invariant.1 c.in-Some.ensures.some),
)

pub returns-in_default : goal.returns-in_default
returns-in_default c = idle-all c.args.touched.now c.loop-from.from c.loop-from.cores.items c.loop-from.invariant.1 c.in_default.ensures.none

pub returns : goal.returns
returns c =
    idle-all c.args.touched.now c.loop-from.from c.loop-from.cores.items c.loop-from.invariant.1
    (none-past c.args.touched.now c.loop-from.from (omega (arith, c.loop-from-test.false, c.loop-from.invariant.0)))
