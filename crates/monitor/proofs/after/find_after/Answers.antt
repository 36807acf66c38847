use Rattle.monitor.proofs.Told.{unsuspected}
use Rattle.monitor.proofs.after.find_after.Goals as goal

pub find_loaded-requires : goal.find_loaded-requires
find_loaded-requires c =
    let told =
    unsuspected c.args.world.now.tables c.args.step c.args.made.now c.args.world.now.state c.requires (rw c.is_suspect.ensures at c.if-is_suspect.false) in
    record { met = told.0; uncrowded = told.1 }
