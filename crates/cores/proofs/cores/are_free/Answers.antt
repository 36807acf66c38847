use Rattle.std.proofs.Common.{arith, refl}
use Rattle.cores.proofs.Touched.{free-all, none-past}
use Rattle.cores.proofs.cores.are_free.Goals as goal

pub loop-from-init : goal.loop-from-init
loop-from-init c = (c.places-count.ensures, omega arith, λ number low. absurd (omega (arith, low)))

pub returns-in_default : goal.returns-in_default
returns-in_default c =
    let all = free-all c.args.touched.now c.loop-from.from c.args.cores.now c.requires c.loop-from.invariant.2 c.in_default.ensures.none in
    (λ e. all, λ each. refl)

pub returns : goal.returns
returns c =
    let left = none-past c.args.touched.now c.loop-from.from (omega (arith, c.loop-from-test.false, c.loop-from.invariant.0)) in
    let all = free-all c.args.touched.now c.loop-from.from c.args.cores.now c.requires c.loop-from.invariant.2 left in
    (λ e. all, λ each. refl)
