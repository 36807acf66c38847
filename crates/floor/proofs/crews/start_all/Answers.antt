use Rattle.std.proofs.Common.{length, map, vec_capacity, arith}
use Rattle.std.proofs.lemmas.Grind.{common_steps}
use Rattle.floor.proofs.Crewing.{one_started, all_started}
use Rattle.floor.proofs.crews.start_all.Goals as goal

pub loop-flag-preserved : goal.loop-flag-preserved
loop-flag-preserved g c =
    let i = c.loop-flag.invariant in
    let r = c.remove-seat.ensures in
    let p = c.push_reserved.ensures in
    one_started c.loop-flag.running.items c.push_reserved.new.self.items c.loop-flag.members.items c.remove-seat.new.self.items
    (map (λ m. m.0) c.args.members.items)
    c.remove-seat.result c.start.result c.loop-flag.flag-index (length c.args.flags.now) (vec_capacity c.loop-flag.running)
    (vec_capacity c.push_reserved.new.self)
    i.0 i.1 i.2 c.loop-flag-test.true r.value r.items c.start.ensures p.items p.capacity

pub returns : goal.returns
returns g c =
    let i = c.loop-flag.invariant in
    all_started c.loop-flag.running.items c.loop-flag.members.items (map (λ m. m.0) c.args.members.items)
    c.loop-flag.flag-index (length c.args.flags.now) i.0 i.1 c.loop-flag-test.false

pub loop-flag-init : goal.loop-flag-init
loop-flag-init g c = grind (arith, common_steps)

pub offset_bounds-flags-flag-index : goal.offset_bounds-flags-flag-index
offset_bounds-flags-flag-index g c = grind (arith, common_steps)

pub bounds-flags-flag-index : goal.bounds-flags-flag-index
bounds-flags-flag-index g c = grind (arith, common_steps)

pub loop-flag-smaller : goal.loop-flag-smaller
loop-flag-smaller g c = grind (arith, common_steps)
