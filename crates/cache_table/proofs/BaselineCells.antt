use Rattle.std.proofs.Common.{◌≡◌, List, [], get_or, map, refl, ap, ◌∙◌}
use Rattle.cache_table.specs.declared.state.CacheState.{CacheState}
use Rattle.cache_table.specs.declared.state.CacheState.TheVariants.{I, IsD, ImAd, ImA, S, SmAd, SmA, M, MiA, SiA, IiA, E}
use Rattle.cache_table.specs.declared.event.CacheEvent.{CacheEvent}
use Rattle.cache_table.specs.declared.event.CacheEvent.TheVariants as event
use Rattle.base.specs.declared.controller.protocol.Protocol.{Protocol}
use Rattle.base.specs.declared.controller.entry.CellEntry.TheVariants.{Blank}
use Rattle.cache_table.specs.Table.{CacheEntry, cell, event_number, state_number}
use Rattle.cache_table.specs.Baseline.{baseline_cells, baseline_entry, baseline_row, all_events}

row-baseline : (p : Protocol) (state : CacheState) → get_or (baseline_cells p) (state_number state) [] ≡ baseline_row p state
row-baseline p I = refl
row-baseline p IsD = refl
row-baseline p ImAd = refl
row-baseline p ImA = refl
row-baseline p S = refl
row-baseline p SmAd = refl
row-baseline p SmA = refl
row-baseline p M = refl
row-baseline p MiA = refl
row-baseline p SiA = refl
row-baseline p IiA = refl
row-baseline p E = refl

at-event : (f : CacheEvent → CacheEntry) (e : CacheEvent) → get_or (map f all_events) (event_number e) Blank ≡ f e
at-event f event.Load = refl
at-event f event.Store = refl
at-event f event.Replacement = refl
at-event f event.FwdGetS = refl
at-event f event.FwdGetM = refl
at-event f event.Inv = refl
at-event f event.PutAck = refl
at-event f event.DataDirZero = refl
at-event f event.DataDirMore = refl
at-event f event.DataOwner = refl
at-event f event.InvAck = refl
at-event f event.LastInvAck = refl
at-event f event.DataDirExcl = refl

-- the cells of a baseline are those of the table by state and event
pub cell-baseline : (p : Protocol) (state : CacheState) (event : CacheEvent) → cell (baseline_cells p) state event ≡ baseline_entry p state event
cell-baseline p state event =
    ap (λ (r : List CacheEntry). get_or r (event_number event) Blank) (row-baseline p state) ∙ at-event (baseline_entry p state) event
