-- The protocol's own tables with one cell wrong, and what comes of it, worked out step by step: the definitions of a safe run and of
-- not being stuck refuse them.
use Rattle.std.specs.Prelude.{ℕ, List, [], ◌∷◌}
use Rattle.base.specs.Extent.{Extent}
use Rattle.base.specs.declared.step.Ask.TheVariants as ask
use Rattle.base.specs.declared.step.Step.{Step}
use Rattle.base.specs.declared.step.Step.TheVariants as step
use Rattle.cache_table.specs.Table as cache_table
use Rattle.cache_table.specs.declared.state.CacheState.{CacheState}
use Rattle.cache_table.specs.declared.state.CacheState.TheVariants as cache_state
use Rattle.cache_table.specs.declared.event.CacheEvent.{CacheEvent}
use Rattle.cache_table.specs.declared.event.CacheEvent.TheVariants as cache_event
use Rattle.cache_table.specs.Table.{CacheEntry}
use Rattle.base.specs.declared.controller.entry.CellEntry.TheVariants as table_entry
use Rattle.cache_table.specs.declared.actions.CacheAction.TheVariants as cache_action
use Rattle.directory_table.specs.Table as directory_table
use Rattle.directory_table.specs.declared.state.DirectoryState.{DirectoryState}
use Rattle.directory_table.specs.declared.state.DirectoryState.TheVariants as directory_state
use Rattle.directory_table.specs.declared.event.DirectoryEvent.{DirectoryEvent}
use Rattle.directory_table.specs.declared.event.DirectoryEvent.TheVariants as directory_event
use Rattle.directory_table.specs.Table.{DirectoryEntry}
use Rattle.directory_table.specs.declared.actions.DirectoryAction.TheVariants as directory_action
use Rattle.base.specs.declared.controller.protocol.Protocol.TheVariants.{MsiE}
use Rattle.tables.specs.Tables.{Tables, baseline, baseline_of}
use Rattle.machine.specs.Machine.{opened, after}
use Rattle.machine.specs.Restraint.{AreRestrained}
use Rattle.machine.specs.Coherence.{Safe}
use Rattle.machine.specs.Going.{KeepsGoing}
use Rattle.machine.specs.Unstuck.{Unstuck, Flowing}
use Rattle.machine.specs.Rows.{cache, block, load, store, request, forward, response}

-- two caches and one block
abbrev pub two_by_one : Extent
two_by_one = record { caches = 2; blocks = 1 }

-- a cache gives the block up
abbrev pub replace : ℕ → Step
replace c = step.Ask (cache c) block ask.Replace

-- the protocol's own tables but for this cell of a cache's
abbrev pub with_cache_cell : CacheState → CacheEvent → CacheEntry → Tables
with_cache_cell state event entry = record baseline { cache = cache_table.with_cell baseline.cache state event entry }

-- the protocol's own tables but for this cell of the directory's
abbrev pub with_directory_cell : DirectoryState → DirectoryEvent → DirectoryEntry → Tables
with_directory_cell state event entry = record baseline { directory = directory_table.with_cell baseline.directory state event entry }

-- with these tables, this run of a world of two caches and one block that opens at 0 isn't safe
abbrev pub IsUnsafe : Tables → List Step → Type 0
IsUnsafe tables steps = ¬ Safe two_by_one tables (0 ∷ []) steps

-- a cache that waits for the Data of a load answers an Inv at once, and stays as it is
abbrev pub hasty_ack : Tables
hasty_ack = with_cache_cell cache_state.IsD cache_event.Inv (table_entry.Act cache_state.IsD (cache_action.InvAck ∷ []))

-- the Data comes only after the other cache has stored: then it reads beside a writer
abbrev pub HastyReaderIsUnsafe : Type 0
HastyReaderIsUnsafe = IsUnsafe hasty_ack
    (load 0 ∷ request 0 ∷ store 1 5 ∷ request 0 ∷ forward 0 ∷ response 2 ∷ response 1 ∷ response 0 ∷ [])

-- where the other cache is giving the block up, nobody may write it, but the load returns a value before the last stored one
abbrev pub HastyLoadIsUnsafe : Type 0
HastyLoadIsUnsafe = IsUnsafe hasty_ack
    (load 0 ∷ request 0 ∷ store 1 5 ∷ request 0 ∷ forward 0 ∷ response 2 ∷ response 1 ∷ replace 1 ∷ response 0 ∷ [])

-- an owner has no rule for a reader's request
abbrev pub BlankCacheIsUnsafe : Type 0
BlankCacheIsUnsafe = IsUnsafe
    (with_cache_cell cache_state.M cache_event.FwdGetS table_entry.Blank)
    (store 0 7 ∷ request 0 ∷ response 0 ∷ load 1 ∷ request 0 ∷ forward 0 ∷ [])

-- a store doesn't wait for the acks that its Data announces
abbrev pub HastyWriterIsUnsafe : Type 0
HastyWriterIsUnsafe = IsUnsafe
    (with_cache_cell cache_state.ImAd cache_event.DataDirMore (table_entry.Act cache_state.M []))
    (load 0 ∷ request 0 ∷ response 0 ∷ store 1 5 ∷ request 0 ∷ response 0 ∷ [])

-- an owner that hands its block to another keeps it
abbrev pub SecondWriterIsUnsafe : Type 0
SecondWriterIsUnsafe = IsUnsafe
    (with_cache_cell cache_state.M cache_event.FwdGetM (table_entry.Act cache_state.M (cache_action.DataReq ∷ [])))
    (store 0 7 ∷ request 0 ∷ response 0 ∷ store 1 8 ∷ request 0 ∷ forward 0 ∷ response 0 ∷ [])

-- the directory drops the value that an owner gives back
abbrev pub DroppedValueIsUnsafe : Type 0
DroppedValueIsUnsafe = IsUnsafe
    (with_directory_cell directory_state.M directory_event.PutMOwner
    (table_entry.Act directory_state.I (directory_action.ClearOwner ∷ directory_action.PutAck ∷ [])))
    (store 0 7 ∷ request 0 ∷ response 0 ∷ replace 0 ∷ request 0 ∷ load 1 ∷ request 0 ∷ response 0 ∷ [])

-- the directory has no rule for a PutM that comes too late
abbrev pub BlankDirectoryIsUnsafe : Type 0
BlankDirectoryIsUnsafe = IsUnsafe
    (with_directory_cell directory_state.M directory_event.PutMNonOwner table_entry.Blank)
    (store 0 7 ∷ request 0 ∷ response 0 ∷ replace 0 ∷ store 1 8 ∷ request 1 ∷ request 0 ∷ [])

-- a sharer that gives its copy up leaves an Inv where it is
abbrev pub deaf_sharer : Tables
deaf_sharer = with_cache_cell cache_state.SiA cache_event.Inv table_entry.Stall

-- then its Put-Ack waits behind the Inv, and the other cache's store for an ack that nobody sends
abbrev pub DeafSharerIsStuck : Type 0
DeafSharerIsStuck = ¬ Unstuck deaf_sharer (after deaf_sharer (opened two_by_one (0 ∷ []))
    (load 0 ∷ request 0 ∷ response 0 ∷ replace 0 ∷ store 1 5 ∷ request 1 ∷ response 0 ∷ request 0 ∷ [])).state

-- yet all that its table does is stall where the own one acts
abbrev pub DeafSharerIsRestrained : Type 0
DeafSharerIsRestrained = AreRestrained deaf_sharer

-- under MSI+E an owner that only read stays so when it serves another reader
abbrev pub kept_e : Tables
kept_e = record (baseline_of MsiE) {
  cache =
      cache_table.with_cell (baseline_of MsiE).cache cache_state.E cache_event.FwdGetS
      (table_entry.Act cache_state.E (cache_action.DataReq ∷ cache_action.DataDir ∷ []));
}

-- then it may write beside a reader
abbrev pub KeptEIsUnsafe : Type 0
KeptEIsUnsafe = IsUnsafe kept_e (load 0 ∷ request 0 ∷ response 0 ∷ load 1 ∷ request 0 ∷ forward 0 ∷ response 0 ∷ [])

-- under MSI+E a reader has no rule for another reader's request that comes before its exclusive Data
abbrev pub blank_reader : Tables
blank_reader = record (baseline_of MsiE) {
  cache = cache_table.with_cell (baseline_of MsiE).cache cache_state.IsD cache_event.FwdGetS table_entry.Blank;
}

-- yet it is the owner from when the home sent that Data
abbrev pub BlankReaderIsUnsafe : Type 0
BlankReaderIsUnsafe = IsUnsafe blank_reader (load 0 ∷ request 0 ∷ load 1 ∷ request 0 ∷ forward 0 ∷ [])

-- the Data of a store waits until its acks have come
abbrev pub patient_data : Tables
patient_data = with_cache_cell cache_state.ImAd cache_event.DataDirMore table_entry.Stall

-- acks wait for the Data
abbrev pub patient_acks : Tables
patient_acks = with_cache_cell cache_state.ImAd cache_event.InvAck table_entry.Stall

-- both: each waits for the other
abbrev pub crossed_waits : Tables
crossed_waits = record baseline { cache = cache_table.with_cell patient_data.cache cache_state.ImAd cache_event.InvAck table_entry.Stall }

-- each alone lets messages flow
abbrev pub PatientDataKeepsGoing : Type 0
PatientDataKeepsGoing = KeepsGoing patient_data

abbrev pub PatientAcksKeepGoing : Type 0
PatientAcksKeepGoing = KeepsGoing patient_acks

abbrev pub CrossedWaitsAreRestrained : Type 0
CrossedWaitsAreRestrained = AreRestrained crossed_waits

-- but a sharer's ack and the home's Data stay on their way
abbrev pub CrossedWaitsAreStuck : Type 0
CrossedWaitsAreStuck = ¬ Flowing crossed_waits (after crossed_waits (opened two_by_one (0 ∷ []))
    (load 0 ∷ request 0 ∷ response 0 ∷ store 1 5 ∷ request 0 ∷ forward 0 ∷ [])).state

-- under MSI+E a reader leaves the exclusive Data that it waits for where it is
abbrev pub deaf_reader : Tables
deaf_reader = record (baseline_of MsiE) {
  cache = cache_table.with_cell (baseline_of MsiE).cache cache_state.IsD cache_event.DataDirExcl table_entry.Stall;
}

abbrev pub DeafReaderIsRestrained : Type 0
DeafReaderIsRestrained = AreRestrained deaf_reader

-- then nothing else can be delivered
abbrev pub DeafReaderIsStuck : Type 0
DeafReaderIsStuck = ¬ Flowing deaf_reader (after deaf_reader (opened two_by_one (0 ∷ [])) (load 0 ∷ request 0 ∷ [])).state

-- an owner that only read holds its core's stores
abbrev pub read_only_owner : Tables
read_only_owner = record (baseline_of MsiE) {
  cache = cache_table.with_cell (baseline_of MsiE).cache cache_state.E cache_event.Store table_entry.Stall;
}

-- then messages flow
abbrev pub ReadOnlyOwnerKeepsGoing : Type 0
ReadOnlyOwnerKeepsGoing = KeepsGoing read_only_owner

-- but a store waits for ever
abbrev pub ReadOnlyOwnerIsStuck : Type 0
ReadOnlyOwnerIsStuck = ¬ Unstuck read_only_owner (after read_only_owner (opened two_by_one (0 ∷ [])) (load 0 ∷ request 0 ∷ response 0 ∷ [])).state

-- tables with one wrong cell are refused: those that are unsafe, and one that gets stuck
pub record WrongTablesAreRefused : Type 0 where
  pub hasty_reader : HastyReaderIsUnsafe
  pub hasty_load : HastyLoadIsUnsafe
  pub blank_cache : BlankCacheIsUnsafe
  pub hasty_writer : HastyWriterIsUnsafe
  pub second_writer : SecondWriterIsUnsafe
  pub dropped_value : DroppedValueIsUnsafe
  pub blank_directory : BlankDirectoryIsUnsafe
  pub deaf_sharer : DeafSharerIsStuck
  pub kept_e : KeptEIsUnsafe
  pub blank_reader : BlankReaderIsUnsafe
