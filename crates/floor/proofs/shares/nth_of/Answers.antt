use Rattle.std.proofs.Common.{◌+◌, ◌∙◌, ap, arith, filter, length, slice_get, sym}
use Rattle.std.proofs.lemmas.Grind.{common_steps, elements}
use Rattle.std.proofs.lemmas.List.{take_all}
use Rattle.std.proofs.lemmas.Option.{slice_get_past}
use Rattle.world.specs.Enabled.{enabled_at_block}
use Rattle.floor.specs.Belonging.{belongs}
use Rattle.floor.proofs.Sharing.{nth-passes, passes-more, passes-not}
use Rattle.floor.proofs.shares.nth_of.Goals as goal

pub unreachable-requires : goal.unreachable-requires
unreachable-requires c = grind (arith, elements)

pub loop-k-preserved-then-not-is_of : goal.loop-k-preserved-then-not-is_of
loop-k-preserved-then-not-is_of c =
    ap (λ m. c.loop-k.left + m)
    (passes-not (λ step. belongs c.args.seats c.args.world.now.shape.caches c.args.world.now.state c.args.seat step)
    (enabled_at_block c.args.world.now.tables c.args.kind c.args.world.now.state c.args.block) c.loop-k.k c.in-Some.step
    c.in-Some.ensures (omega (arith, c.loop-k-test.true, c.enabled_count_of-k-end.ensures)) (grind (arith, common_steps)))
    ∙ c.loop-k.invariant

pub loop-k-preserved : goal.loop-k-preserved
loop-k-preserved c =
    let more = passes-more (λ step. belongs c.args.seats c.args.world.now.shape.caches c.args.world.now.state c.args.seat step)
    (enabled_at_block c.args.world.now.tables c.args.kind c.args.world.now.state c.args.block) c.loop-k.k c.in-Some.step
    c.in-Some.ensures (omega (arith, c.loop-k-test.true, c.enabled_count_of-k-end.ensures)) (grind (arith, common_steps)) in
    grind (arith, common_steps, more, c.loop-k.invariant)

pub returns-then-left-eq0 : goal.returns-then-left-eq0
returns-then-left-eq0 c =
    let front = c.loop-k.invariant in
    let none = c.if-left-eq0.true in
    sym (nth-passes (λ step. belongs c.args.seats c.args.world.now.shape.caches c.args.world.now.state c.args.seat step)
    (enabled_at_block c.args.world.now.tables c.args.kind c.args.world.now.state c.args.block) c.loop-k.k c.in-Some.step
    (sym c.in-Some.ensures) (grind (arith, common_steps)))
    ∙ ap (slice_get (filter (λ step. belongs c.args.seats c.args.world.now.shape.caches c.args.world.now.state c.args.seat step)
    (enabled_at_block c.args.world.now.tables c.args.kind c.args.world.now.state c.args.block))) (omega (arith, front, none))

pub returns : goal.returns
returns c =
    let front = c.loop-k.invariant in
    let whole = ap (λ xs. length (filter (λ step. belongs c.args.seats c.args.world.now.shape.caches c.args.world.now.state c.args.seat step) xs))
    (take_all c.loop-k.k (enabled_at_block c.args.world.now.tables c.args.kind c.args.world.now.state c.args.block)
    (omega (arith, c.loop-k-test.false, c.enabled_count_of-k-end.ensures))) in
    sym (slice_get_past _ c.args.n (omega (arith, front, whole)))
