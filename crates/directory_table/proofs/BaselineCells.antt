use Rattle.std.proofs.Common.{◌≡◌, List, [], get_or, map, refl, ap, ◌∙◌}
use Rattle.directory_table.specs.declared.state.DirectoryState.{DirectoryState}
use Rattle.directory_table.specs.declared.state.DirectoryState.TheVariants.{I, S, M, SD}
use Rattle.directory_table.specs.declared.event.DirectoryEvent.{DirectoryEvent}
use Rattle.directory_table.specs.declared.event.DirectoryEvent.TheVariants as event
use Rattle.base.specs.declared.controller.protocol.Protocol.{Protocol}
use Rattle.base.specs.declared.controller.entry.CellEntry.TheVariants.{Blank}
use Rattle.directory_table.specs.Table.{DirectoryEntry, cell, event_number, state_number}
use Rattle.directory_table.specs.Baseline.{baseline_cells, baseline_entry, baseline_row, all_events}

row-baseline : (p : Protocol) (state : DirectoryState) → get_or (baseline_cells p) (state_number state) [] ≡ baseline_row p state
row-baseline p I = refl
row-baseline p S = refl
row-baseline p M = refl
row-baseline p SD = refl

at-event : (f : DirectoryEvent → DirectoryEntry) (e : DirectoryEvent) → get_or (map f all_events) (event_number e) Blank ≡ f e
at-event f event.GetS = refl
at-event f event.GetM = refl
at-event f event.PutSNotLast = refl
at-event f event.PutSLast = refl
at-event f event.PutMOwner = refl
at-event f event.PutMNonOwner = refl
at-event f event.Data = refl

-- the cells of a baseline are those of the table by state and event
pub cell-baseline : (p : Protocol) (state : DirectoryState) (event : DirectoryEvent) → cell (baseline_cells p) state event ≡ baseline_entry p state event
cell-baseline p state event =
    ap (λ (r : List DirectoryEntry). get_or r (event_number event) Blank) (row-baseline p state) ∙ at-event (baseline_entry p state) event
