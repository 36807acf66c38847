use Rattle.std.specs.Prelude.{List, [], ◌∷◌, map}
use Rattle.base.specs.declared.controller.protocol.Protocol.{Protocol}
use Rattle.base.specs.declared.controller.protocol.Protocol.TheVariants.{Msi, MsiE}
use Rattle.base.specs.declared.controller.entry.CellEntry.TheVariants.{Blank, Stall, Act}
use Rattle.cache_table.specs.Table.{Cells, CacheEntry}
use Rattle.cache_table.specs.declared.state.CacheState.{CacheState}
use Rattle.cache_table.specs.declared.state.CacheState.TheVariants.{I, IsD, ImAd, ImA, S, SmAd, SmA, M, MiA, SiA, IiA, E}
use Rattle.cache_table.specs.declared.event.CacheEvent.{CacheEvent}
use Rattle.cache_table.specs.declared.event.CacheEvent.TheVariants as event
use Rattle.cache_table.specs.declared.actions.CacheAction.TheVariants.{GetS, GetM, PutS, PutM, InvAck, DataReq, DataDir}

-- the states, in the order of the rows
abbrev pub all_states : List CacheState
all_states = I ∷ IsD ∷ ImAd ∷ ImA ∷ S ∷ SmAd ∷ SmA ∷ M ∷ MiA ∷ SiA ∷ IiA ∷ E ∷ []

-- the events, in the order of the columns
abbrev pub all_events : List CacheEvent
all_events =
    event.Load ∷ event.Store ∷ event.Replacement ∷ event.FwdGetS ∷ event.FwdGetM ∷ event.Inv ∷ event.PutAck ∷
    event.DataDirZero ∷ event.DataDirMore ∷ event.DataOwner ∷ event.InvAck ∷ event.LastInvAck ∷
    event.DataDirExcl ∷ []

-- the entry of MSI for a state and an event, after Primer, section 8.2; what isn't listed is blank
abbrev pub msi_entry : CacheState → CacheEvent → CacheEntry
msi_entry I event.Load = Act IsD (GetS ∷ [])
msi_entry I event.Store = Act ImAd (GetM ∷ [])
msi_entry IsD event.Load = Stall
msi_entry IsD event.Store = Stall
msi_entry IsD event.Replacement = Stall
msi_entry IsD event.Inv = Stall
msi_entry IsD event.DataDirZero = Act S []
msi_entry IsD event.DataOwner = Act S []
msi_entry ImAd event.Load = Stall
msi_entry ImAd event.Store = Stall
msi_entry ImAd event.Replacement = Stall
msi_entry ImAd event.FwdGetS = Stall
msi_entry ImAd event.FwdGetM = Stall
msi_entry ImAd event.DataDirZero = Act M []
msi_entry ImAd event.DataDirMore = Act ImA []
msi_entry ImAd event.DataOwner = Act M []
msi_entry ImAd event.InvAck = Act ImAd []
msi_entry ImA event.Load = Stall
msi_entry ImA event.Store = Stall
msi_entry ImA event.Replacement = Stall
msi_entry ImA event.FwdGetS = Stall
msi_entry ImA event.FwdGetM = Stall
msi_entry ImA event.InvAck = Act ImA []
msi_entry ImA event.LastInvAck = Act M []
msi_entry S event.Load = Act S []
msi_entry S event.Store = Act SmAd (GetM ∷ [])
msi_entry S event.Replacement = Act SiA (PutS ∷ [])
msi_entry S event.Inv = Act I (InvAck ∷ [])
msi_entry SmAd event.Load = Act SmAd []
msi_entry SmAd event.Store = Stall
msi_entry SmAd event.Replacement = Stall
msi_entry SmAd event.FwdGetS = Stall
msi_entry SmAd event.FwdGetM = Stall
msi_entry SmAd event.Inv = Act ImAd (InvAck ∷ [])
msi_entry SmAd event.DataDirZero = Act M []
msi_entry SmAd event.DataDirMore = Act SmA []
msi_entry SmAd event.InvAck = Act SmAd []
msi_entry SmA event.Load = Act SmA []
msi_entry SmA event.Store = Stall
msi_entry SmA event.Replacement = Stall
msi_entry SmA event.FwdGetS = Stall
msi_entry SmA event.FwdGetM = Stall
msi_entry SmA event.InvAck = Act SmA []
msi_entry SmA event.LastInvAck = Act M []
msi_entry M event.Load = Act M []
msi_entry M event.Store = Act M []
msi_entry M event.Replacement = Act MiA (PutM ∷ [])
msi_entry M event.FwdGetS = Act S (DataReq ∷ DataDir ∷ [])
msi_entry M event.FwdGetM = Act I (DataReq ∷ [])
msi_entry MiA event.Load = Stall
msi_entry MiA event.Store = Stall
msi_entry MiA event.Replacement = Stall
msi_entry MiA event.FwdGetS = Act SiA (DataReq ∷ DataDir ∷ [])
msi_entry MiA event.FwdGetM = Act IiA (DataReq ∷ [])
msi_entry MiA event.PutAck = Act I []
msi_entry SiA event.Load = Stall
msi_entry SiA event.Store = Stall
msi_entry SiA event.Replacement = Stall
msi_entry SiA event.Inv = Act IiA (InvAck ∷ [])
msi_entry SiA event.PutAck = Act I []
msi_entry IiA event.Load = Stall
msi_entry IiA event.Store = Stall
msi_entry IiA event.Replacement = Stall
msi_entry IiA event.PutAck = Act I []
msi_entry state event = Blank

-- the entry of MSI+E: what differs from MSI, which is about E and about an IS^D that is to be the owner
abbrev pub msi_e_entry : CacheState → CacheEvent → CacheEntry
msi_e_entry IsD event.FwdGetS = Stall
msi_e_entry IsD event.FwdGetM = Stall
msi_e_entry IsD event.DataDirExcl = Act E []
msi_e_entry E event.Load = Act E []
msi_e_entry E event.Store = Act M []
msi_e_entry E event.Replacement = Act MiA (PutM ∷ [])
msi_e_entry E event.FwdGetS = Act S (DataReq ∷ DataDir ∷ [])
msi_e_entry E event.FwdGetM = Act I (DataReq ∷ [])
msi_e_entry state event = msi_entry state event

-- the entry of a protocol's baseline
abbrev pub baseline_entry : Protocol → CacheState → CacheEvent → CacheEntry
baseline_entry Msi state event = msi_entry state event
baseline_entry MsiE state event = msi_e_entry state event

-- the baseline's row for a state
abbrev pub baseline_row : Protocol → CacheState → List CacheEntry
baseline_row protocol state = map (baseline_entry protocol state) all_events

-- the cells of a protocol's baseline
abbrev pub baseline_cells : Protocol → Cells
baseline_cells protocol = map (baseline_row protocol) all_states
