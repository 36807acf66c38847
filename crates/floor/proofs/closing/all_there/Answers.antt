use Rattle.std.proofs.Common.{below_more}
use Rattle.floor.specs.Closing.{IsThere}
use Rattle.floor.proofs.closing.all_there.Goals as goal

pub loop-number-preserved : goal.loop-number-preserved
loop-number-preserved g c = below_more (IsThere c.args.seats.now) c.loop-number.number c.loop-number.invariant c.if-not-is_there.ensures
