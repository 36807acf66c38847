use Rattle.std.specs.Prelude.{List, [], ◌∷◌, map}
use Rattle.base.specs.declared.controller.protocol.Protocol.{Protocol}
use Rattle.base.specs.declared.controller.protocol.Protocol.TheVariants.{Msi, MsiE}
use Rattle.base.specs.declared.controller.entry.CellEntry.TheVariants.{Blank, Stall, Act}
use Rattle.directory_table.specs.Table.{Cells, DirectoryEntry}
use Rattle.directory_table.specs.declared.state.DirectoryState.{DirectoryState}
use Rattle.directory_table.specs.declared.state.DirectoryState.TheVariants.{I, S, M, SD}
use Rattle.directory_table.specs.declared.event.DirectoryEvent.{DirectoryEvent}
use Rattle.directory_table.specs.declared.event.DirectoryEvent.TheVariants as event
use Rattle.directory_table.specs.declared.actions.DirectoryAction.TheVariants.{DataReq, DataAcks, InvSharers, FwdGetS, FwdGetM, PutAck, AddReq}
use Rattle.directory_table.specs.declared.actions.DirectoryAction.TheVariants.{AddOwner, RemoveReq, ClearSharers, ClearOwner, SetOwner, CopyData, DataExcl}

-- the states, in the order of the rows
abbrev pub all_states : List DirectoryState
all_states = I ∷ S ∷ M ∷ SD ∷ []

-- the events, in the order of the columns
abbrev pub all_events : List DirectoryEvent
all_events =
    event.GetS ∷ event.GetM ∷ event.PutSNotLast ∷ event.PutSLast ∷ event.PutMOwner ∷ event.PutMNonOwner ∷
    event.Data ∷ []

-- the entry of MSI for a state and an event, after Primer, section 8.2; what isn't listed is blank
abbrev pub msi_entry : DirectoryState → DirectoryEvent → DirectoryEntry
msi_entry I event.GetS = Act S (DataReq ∷ AddReq ∷ [])
msi_entry I event.GetM = Act M (DataReq ∷ SetOwner ∷ [])
msi_entry I event.PutSNotLast = Act I (PutAck ∷ [])
msi_entry I event.PutSLast = Act I (PutAck ∷ [])
msi_entry I event.PutMNonOwner = Act I (PutAck ∷ [])
msi_entry S event.GetS = Act S (DataReq ∷ AddReq ∷ [])
msi_entry S event.GetM = Act M (DataAcks ∷ InvSharers ∷ ClearSharers ∷ SetOwner ∷ [])
msi_entry S event.PutSNotLast = Act S (RemoveReq ∷ PutAck ∷ [])
msi_entry S event.PutSLast = Act I (RemoveReq ∷ PutAck ∷ [])
msi_entry S event.PutMNonOwner = Act S (RemoveReq ∷ PutAck ∷ [])
msi_entry M event.GetS = Act SD (FwdGetS ∷ AddReq ∷ AddOwner ∷ ClearOwner ∷ [])
msi_entry M event.GetM = Act M (FwdGetM ∷ SetOwner ∷ [])
msi_entry M event.PutSNotLast = Act M (PutAck ∷ [])
msi_entry M event.PutSLast = Act M (PutAck ∷ [])
msi_entry M event.PutMOwner = Act I (CopyData ∷ ClearOwner ∷ PutAck ∷ [])
msi_entry M event.PutMNonOwner = Act M (PutAck ∷ [])
msi_entry SD event.GetS = Stall
msi_entry SD event.GetM = Stall
msi_entry SD event.PutSNotLast = Act SD (RemoveReq ∷ PutAck ∷ [])
msi_entry SD event.PutSLast = Act SD (RemoveReq ∷ PutAck ∷ [])
msi_entry SD event.PutMNonOwner = Act SD (RemoveReq ∷ PutAck ∷ [])
msi_entry SD event.Data = Act S (CopyData ∷ [])
msi_entry state event = Blank

-- the entry of MSI+E: who reads a block that no cache has is its owner
abbrev pub msi_e_entry : DirectoryState → DirectoryEvent → DirectoryEntry
msi_e_entry I event.GetS = Act M (DataExcl ∷ SetOwner ∷ [])
msi_e_entry state event = msi_entry state event

-- the entry of a protocol's baseline
abbrev pub baseline_entry : Protocol → DirectoryState → DirectoryEvent → DirectoryEntry
baseline_entry Msi state event = msi_entry state event
baseline_entry MsiE state event = msi_e_entry state event

-- the baseline's row for a state
abbrev pub baseline_row : Protocol → DirectoryState → List DirectoryEntry
baseline_row protocol state = map (baseline_entry protocol state) all_events

-- the cells of a protocol's baseline
abbrev pub baseline_cells : Protocol → Cells
baseline_cells protocol = map (baseline_row protocol) all_states
