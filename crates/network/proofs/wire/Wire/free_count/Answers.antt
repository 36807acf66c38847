use Rattle.std.proofs.Common.{arith}
use Rattle.network.proofs.Counted.{held-few, held-or-free}
use Rattle.network.proofs.wire.Wire.free_count.Goals as goal

pub overflow_sub-result : goal.overflow_sub-result
overflow_sub-result g c =
    omega (arith, held-few c.self.inside.marked.items, c.self.invariant.count, c.self.invariant.few, c.len.ensures, c.self.inside.marked.ok.0)

pub returns : goal.returns
returns g c =
    rw (← c.self.view_is)
    (omega (arith, held-or-free c.self.inside.marked.items, c.self.invariant.count, c.self.invariant.few, c.len.ensures, c.self.inside.marked.ok.0))
