use Rattle.cores.proofs.Touched.{counted-idle, idle-opened}
use Rattle.cores.proofs.cores.Cores.open.Goals as goal

pub invariant_of-result : goal.invariant_of-result
invariant_of-result c = rw (c.in_ok-cores.ensures, c.in_ok-touched.ensures) (counted-idle c.args.n, idle-opened c.args.n)
