-- What names a floor.
use Rattle.std.specs.Prelude.{ℕ, []}
use Rattle.atomic_table.specs.Seated.{TableId}
use Rattle.tables.specs.Tables.{baseline}
use Rattle.trials.specs.Terms.{Terms}

-- the ground that a floor stands on, the setup of its world, how many seats it has, and how many entries it takes
pub record FloorId : Type 0 where
  pub ground : TableId
  pub setup : Terms
  pub seats : ℕ
  pub capacity : ℕ

-- the floor on this ground
abbrev pub floor_id : TableId → Terms → ℕ → ℕ → FloorId
floor_id ground setup seats capacity = record { ground = ground; setup = setup; seats = seats; capacity = capacity }

-- a name that no floor has
abbrev pub no_floor : FloorId
no_floor =
    floor_id (record { words = 0; slots = 0; views_name = 0; atom = 0; block = 0; offset = 0; slot_names = [] })
    (record { shape = record { caches = 0; blocks = 0 }; tables = baseline; opening = []; seed = 0; limit = 0 }) 0 0
