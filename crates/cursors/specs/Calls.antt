-- What the calls of a cursor make of it.
use Rattle.std.specs.Prelude.{◌≡◌, ◌≤◌, ℕ, Result, OnErr, OnOk}
use Rattle.scenario.specs.Alike.{Alike}
use Rattle.scenario.specs.Taking.{left}
use Rattle.scenario.specs.Tree.{Tree}
use Rattle.cursors.specs.Cursors.{remaining, standing}
use Rattle.cursors.specs.Stock.{FitsIn, Within, most_used, nodes, room}
use Rattle.cursors.specs.declared.cursor.Cursor.{Cursor}

-- all of this tree is left, whatever was. The cursor fits in it and in every tree that has room for it, if it fitted there
pub record Restarts {A B : Type 0} (old : Cursor A B) (tree : Tree) (new : Cursor A B) : Type 0 where
  pub left : remaining new ≡ tree
  pub fits : FitsIn old tree → FitsIn new tree
  pub fits_other : (other : Tree) → FitsIn old other → Within (room tree) (room other) → FitsIn new other
  pub used : most_used (standing new) ≤ nodes tree

-- a cursor fits wherever it fitted, and comes to have no more parts in use at once
pub record StaysSmall {A B : Type 0} (old new : Cursor A B) : Type 0 where
  pub fits : (tree : Tree) → FitsIn old tree → FitsIn new tree
  pub used : most_used (standing new) ≤ most_used (standing old)

-- an offer is passed, where this is how the call ended. Else the same is left as before
pub record Passes {A B T E : Type 0} (old : Cursor A B) (at : ℕ) (result : Result T E) (new : Cursor A B) : Type 0 where
  pub ok : OnOk result (Alike (remaining new) (left (remaining old) at))
  pub err : OnErr result (remaining new ≡ remaining old)
  pub small : StaysSmall old new
