use Rattle.std.proofs.Common.{◌∙◌, ap, length, sym}
use Rattle.lanes.specs.Lanes.{whole}
use Rattle.moment.proofs.Holding.{choices-seen}
use Rattle.moment.proofs.moments.Moment.count.Goals as goal

pub count-requires : goal.count-requires
count-requires g c usable = (c.self.invariant.holds usable).ready

pub returns : goal.returns
returns g c =
    let m = c.self.inside in
    rw (← c.self.view_is)
    (c.count.ensures
    ∙ sym (ap length (choices-seen m.lanes.usable m.world.tables (record { state = m.world.state; cores = m.cores; rest = whole m.lanes }))))
