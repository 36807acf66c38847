-- Restrained tables under which no run gets stuck: which of their stalls are harmless.
use Rattle.std.specs.Prelude.{◌≡◌, ◌⊎◌}
use Rattle.base.specs.declared.controller.entry.CellEntry.TheVariants.{Blank, Stall}
use Rattle.cache_table.specs.declared.state.CacheState.{CacheState}
use Rattle.cache_table.specs.declared.state.CacheState.TheVariants.{I, ImAd, ImA, S, SmAd, SmA, M, E}
use Rattle.cache_table.specs.declared.event.CacheEvent.{CacheEvent}
use Rattle.cache_table.specs.declared.event.CacheEvent.TheVariants.{Load, Store, Replacement, DataDirMore, InvAck, LastInvAck}
use Rattle.cache_table.specs.Table as cache_table
use Rattle.directory_table.specs.declared.state.DirectoryState.{DirectoryState}
use Rattle.directory_table.specs.declared.state.DirectoryState.TheVariants as home
use Rattle.directory_table.specs.declared.event.DirectoryEvent.{DirectoryEvent}
use Rattle.directory_table.specs.declared.event.DirectoryEvent.TheVariants.{PutSNotLast, PutSLast, PutMNonOwner}
use Rattle.directory_table.specs.Table as directory_table
use Rattle.tables.specs.Tables.{Tables, baseline_of}
use Rattle.machine.specs.Restraint.{AreRestrained}

-- a store waits for its Data
abbrev pub AwaitsData : CacheState → Type 0
AwaitsData ImAd = Unit {0}
AwaitsData SmAd = Unit {0}
AwaitsData other = ⊥

-- the Data of a store waits for its acks, so that no line comes to gather them
abbrev pub DataWaits : Tables → CacheState → Type 0
DataWaits tables state = cache_table.cell tables.cache state DataDirMore ≡ Stall

-- an ack may wait for the Data that doesn't wait for it; and may wait where no line ever is
abbrev pub AckMayWait : Tables → CacheState → Type 0
AckMayWait tables ImAd = ¬ DataWaits tables ImAd
AckMayWait tables SmAd = ¬ DataWaits tables SmAd
AckMayWait tables ImA = DataWaits tables ImAd
AckMayWait tables SmA = DataWaits tables SmAd
AckMayWait tables other = ⊥

-- so may the last one
abbrev pub LastAckMayWait : Tables → CacheState → Type 0
LastAckMayWait tables ImA = DataWaits tables ImAd
LastAckMayWait tables SmA = DataWaits tables SmAd
LastAckMayWait tables other = ⊥

-- where a stall in the caches' table lets messages flow: asks are no messages
abbrev pub MayWait : Tables → CacheState → CacheEvent → Type 0
MayWait tables state Load = Unit {0}
MayWait tables state Store = Unit {0}
MayWait tables state Replacement = Unit {0}
MayWait tables state DataDirMore = AwaitsData state
MayWait tables state InvAck = AckMayWait tables state
MayWait tables state LastInvAck = LastAckMayWait tables state
MayWait tables state other = ⊥

-- and in the directory's: a Put may wait for the Data that its home waits for, and only a home in S has a last sharer that leaves
abbrev pub MayWaitAtHome : DirectoryState → DirectoryEvent → Type 0
MayWaitAtHome home.SD PutSNotLast = Unit {0}
MayWaitAtHome home.SD PutSLast = Unit {0}
MayWaitAtHome home.SD PutMNonOwner = Unit {0}
MayWaitAtHome home.I PutSLast = Unit {0}
MayWaitAtHome home.M PutSLast = Unit {0}
MayWaitAtHome other event = ⊥

-- each stall is an own one, or stands where no run comes, or lets messages flow
pub record KeepsGoing (tables : Tables) : Type 0 where
  pub cache : (state : CacheState) (event : CacheEvent) → cache_table.cell tables.cache state event ≡ Stall →
      (cache_table.cell (baseline_of tables.protocol).cache state event ≡ Stall) ⊎
      (cache_table.cell (baseline_of tables.protocol).cache state event ≡ Blank) ⊎ MayWait tables state event
  pub directory : (state : DirectoryState) (event : DirectoryEvent) → directory_table.cell tables.directory state event ≡ Stall →
      (directory_table.cell (baseline_of tables.protocol).directory state event ≡ Stall) ⊎
      (directory_table.cell (baseline_of tables.protocol).directory state event ≡ Blank) ⊎ MayWaitAtHome state event

-- a line that waits for nothing
abbrev pub IsSettled : CacheState → Type 0
IsSettled I = Unit {0}
IsSettled S = Unit {0}
IsSettled M = Unit {0}
IsSettled E = Unit {0}
IsSettled other = ⊥

-- such a line holds nothing that comes to it, so no ask either
pub record ServesAsks (tables : Tables) : Type 0 where
  pub served : (state : CacheState) (event : CacheEvent) → IsSettled state → cache_table.cell tables.cache state event ≡ Stall →
      cache_table.cell (baseline_of tables.protocol).cache state event ≡ Blank

-- tables under which nothing is ever stuck: restrained ones that keep going and serve asks
pub record AreNeverStuck (tables : Tables) : Type 0 where
  pub restrained : AreRestrained tables
  pub going : KeepsGoing tables
  pub serving : ServesAsks tables
