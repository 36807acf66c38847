use Rattle.std.proofs.Common.{length}
use Rattle.cores.proofs.Touched.{counted-idle, idle-opened}
use Rattle.cores.proofs.cores.Cores.reset.Goals as goal

pub make_idle-requires : goal.make_idle-requires
make_idle-requires c = c.self.invariant.1

pub invariant_of-self-2 : goal.invariant_of-self-2
invariant_of-self-2 c =
    rw (c.make_idle.ensures, c.clear.ensures) (counted-idle (length c.self.inside.touched), idle-opened (length c.self.inside.touched))
