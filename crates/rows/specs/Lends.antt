-- What a row ends as, once a `&mut` into it has ended.
use Rattle.std.specs.Prelude.{ℕ, Option}
use Rattle.std.specs.Borrow.{Fml, LendsIf, MutBor, RattleType}
use Rattle.rows.specs.Row.{Row, with_item}
use Rattle.rows.specs.contracts.sparse.Sparse.{the_row}

-- the place has the last value written through r, and at `None` the row stays as it is
abbrev pub lends_item : (T : RattleType) → MutBor (Row T.Denot) → ℕ → Option (MutBor T.Denot) → Fml
lends_item T row at r = LendsIf (the_row T) T row r (with_item row.now at) row.now
