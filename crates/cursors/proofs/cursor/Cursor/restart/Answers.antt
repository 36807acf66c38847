use Rattle.std.proofs.Common.{refl}
use Rattle.cursors.specs.Stock.{room}
use Rattle.scenario.specs.Tree.{plain}
use Rattle.cursors.proofs.Stock.{room-few, within-same}
use Rattle.cursors.proofs.cursor.Cursor.restart.Goals as goal

pub returns : goal.returns
returns g c = record {
  left = rw c.move_to.ensures.place refl;
  fits = λ fits. record {
    held = rw c.move_to.ensures.held fits.held;
    wanted = rw c.move_to.ensures.place (within-same (room (plain c.args.tree.now)));
  };
  fits_other = λ other fits within. record {
    held = rw c.move_to.ensures.held fits.held;
    wanted = rw c.move_to.ensures.place within;
  };
  used = rw c.move_to.ensures.place (room-few (plain c.args.tree.now));
}
