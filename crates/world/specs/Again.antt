-- What a world is that nothing has happened to: a new one, and one that begins again; and what another of the same is.
use Rattle.std.specs.Prelude.{◌≡◌, ℕ, List, [], None, replicate}
use Rattle.base.specs.Extent.{Extent}
use Rattle.tables.specs.Tables.{Tables}
use Rattle.machine.specs.Machine.{IsHistory, opened}
use Rattle.world.specs.Coherent.{HasBeenSafe, IsUnstuck}
use Rattle.world.specs.Keeping.{KeepsNoLine, KeepsNoOther, KeepsSameLines}
use Rattle.world.specs.View.{View}

-- a world was opened: of this shape, under these tables and with these opening values nothing has happened to it, and it keeps no block
pub record OpensWorld (extent : Extent) (cells : Tables) (values : List ℕ) (world : View) : Type 0 where
  pub shape : world.shape ≡ extent
  pub tables : world.tables ≡ cells
  pub opening : world.opening ≡ values
  pub state : world.state ≡ opened extent values
  pub history : IsHistory world.shape world.tables values [] world.state
  pub safe : HasBeenSafe world
  pub unstuck : IsUnstuck world
  pub tested : world.tested ≡ 0
  pub none_kept : world.spaces ≡ replicate extent.blocks None

-- a world is one that nothing has happened to: with these opening values, of the shape that it had and under the tables that it had. It
-- keeps no block but those that it kept, and no line
pub record BeginsAgain (old : View) (values : List ℕ) (new : View) : Type 0 where
  pub shape : new.shape ≡ old.shape
  pub tables : new.tables ≡ old.tables
  pub opening : new.opening ≡ values
  pub state : new.state ≡ opened old.shape values
  pub history : IsHistory new.shape new.tables values [] new.state
  pub safe : HasBeenSafe new
  pub unstuck : IsUnstuck new
  pub tested : new.tested ≡ 0
  pub kept : KeepsNoOther old new
  pub lines : KeepsNoLine new

-- a world is another one again: it keeps no block but those that that one keeps, and the same lines
pub record IsSameAgain (old new : View) : Type 0 where
  pub shape : new.shape ≡ old.shape
  pub tables : new.tables ≡ old.tables
  pub opening : new.opening ≡ old.opening
  pub state : new.state ≡ old.state
  pub tested : new.tested ≡ old.tested
  pub kept : KeepsNoOther old new
  pub lines : KeepsSameLines old new
