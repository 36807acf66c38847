use Rattle.std.proofs.Common.{◌≡◌, ◌+◌, ◌∙◌, ap, arith, length}
use Rattle.std.proofs.lemmas.Grind.{common_steps}
use Rattle.std.proofs.lemmas.List.{length-append, length-set}
use Rattle.schedule.proofs.places.empty_rows.Goals as goal

pub loop-number-init : goal.loop-number-init
loop-number-init c = grind (arith, common_steps)

pub loop-number-preserved : goal.loop-number-preserved
loop-number-preserved c = (length-set c.loop-number.rows.items c.loop-number.number c.clear.new.self ∙ c.loop-number.invariant.0, c.loop-number.invariant.1)

pub loop-init : goal.loop-init
loop-init c =
    let long = c.loop-number.invariant.0 in
    let few = c.loop-number.invariant.1 in
    let counted : c.len-counter.result ≡ length c.loop-number.rows.items = grind (arith, common_steps) in
    (omega (arith, counted), omega (arith, counted, long, few))

pub loop-preserved : goal.loop-preserved
loop-preserved c =
    let long : length c.push.new.self.items ≡ length c.loop.rows.items + 1 = ap length c.in_ok-push.ensures.items ∙ length-append c.loop.rows.items _ in
    let was = c.loop.invariant.0 in
    let low = c.loop-test.true in
    (omega (arith, long, was), omega (arith, low))

pub returns : goal.returns
returns c =
    let was = c.loop.invariant.0 in
    let few = c.loop.invariant.1 in
    let end = c.loop-test.false in
    omega (arith, was, few, end)
