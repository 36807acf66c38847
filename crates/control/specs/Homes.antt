use Rattle.std.specs.Prelude.{◌≡◌, ◌<◌, ℕ, Option, Some, None, true, false, length, replicate}
use Rattle.base.specs.declared.ids.CacheId.{CacheId}
use Rattle.directory_table.specs.declared.state.DirectoryState.TheVariants as state
use Rattle.control.specs.declared.home.Home.{Home}
use Rattle.control.specs.Sharing.{shares}

-- a home that nothing has happened to
abbrev pub opened_home : ℕ → ℕ → Home
opened_home caches memory = record { state = state.I; owner = None; sharers = replicate caches false; memory = memory }

-- the cache is one of so many, if there is one
abbrev pub IsBelow : Option CacheId → ℕ → Type 0
IsBelow None caches = Unit {0}
IsBelow (Some cache) caches = cache.0 < caches

-- the owner and each sharer are among so many caches
pub record NamesBelow (caches : ℕ) (home : Home) : Type 0 where
  pub owner : IsBelow home.owner caches
  pub sharers : (k : ℕ) → shares home.sharers k ≡ true → k < caches

-- a home among so many caches: a flag for each, and the owner is one of them
pub record IsAmong (caches : ℕ) (home : Home) : Type 0 where
  pub sharers : length home.sharers ≡ caches
  pub owner : IsBelow home.owner caches
