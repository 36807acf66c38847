use Rattle.std.specs.Prelude.{ℕ, List, [], ◌∷◌, Option, codes}
use Rattle.base.specs.Spelling.{named_in, named_of}
use Rattle.base.specs.declared.controller.protocol.Protocol.{Protocol}
use Rattle.cache_table.specs.Table.{has_state, has_event, has_action}
use Rattle.cache_table.specs.Baseline.{all_states, all_events}
use Rattle.cache_table.specs.declared.state.CacheState.{CacheState}
use Rattle.cache_table.specs.declared.state.CacheState.TheVariants as state
use Rattle.cache_table.specs.declared.event.CacheEvent.{CacheEvent}
use Rattle.cache_table.specs.declared.event.CacheEvent.TheVariants as event
use Rattle.cache_table.specs.declared.actions.CacheAction.{CacheAction}
use Rattle.cache_table.specs.declared.actions.CacheAction.TheVariants as action

-- how a state is spelled
abbrev pub state_name : CacheState → List ℕ
state_name state.I = codes "I"
state_name state.IsD = codes "IS^D"
state_name state.ImAd = codes "IM^AD"
state_name state.ImA = codes "IM^A"
state_name state.S = codes "S"
state_name state.SmAd = codes "SM^AD"
state_name state.SmA = codes "SM^A"
state_name state.M = codes "M"
state_name state.MiA = codes "MI^A"
state_name state.SiA = codes "SI^A"
state_name state.IiA = codes "II^A"
state_name state.E = codes "E"

-- the state that stands first
abbrev pub first_state : CacheState
first_state = state.I

-- the state that is spelled so, if there is one
abbrev pub state_named : List ℕ → Option CacheState
state_named text = named_in state_name all_states text

-- the same, if a protocol has it
abbrev pub state_named_of : Protocol → List ℕ → Option CacheState
state_named_of protocol text = named_of (has_state protocol) state_name all_states text

-- how an event is spelled
abbrev pub event_name : CacheEvent → List ℕ
event_name event.Load = codes "Load"
event_name event.Store = codes "Store"
event_name event.Replacement = codes "Replacement"
event_name event.FwdGetS = codes "Fwd-GetS"
event_name event.FwdGetM = codes "Fwd-GetM"
event_name event.Inv = codes "Inv"
event_name event.PutAck = codes "Put-Ack"
event_name event.DataDirZero = codes "Data-Dir-Zero"
event_name event.DataDirMore = codes "Data-Dir-More"
event_name event.DataOwner = codes "Data-Owner"
event_name event.InvAck = codes "Inv-Ack"
event_name event.LastInvAck = codes "Last-Inv-Ack"
event_name event.DataDirExcl = codes "Data-Dir-Excl"

-- the event that stands first
abbrev pub first_event : CacheEvent
first_event = event.Load

-- the event that is spelled so, if there is one
abbrev pub event_named : List ℕ → Option CacheEvent
event_named text = named_in event_name all_events text

-- the same, if a protocol has it
abbrev pub event_named_of : Protocol → List ℕ → Option CacheEvent
event_named_of protocol text = named_of (has_event protocol) event_name all_events text

-- how an action is spelled
abbrev pub action_name : CacheAction → List ℕ
action_name action.GetS = codes "gets"
action_name action.GetM = codes "getm"
action_name action.PutS = codes "puts"
action_name action.PutM = codes "putm"
action_name action.InvAck = codes "inv-ack"
action_name action.DataReq = codes "data-req"
action_name action.DataDir = codes "data-dir"

-- all actions
abbrev pub all_actions : List CacheAction
all_actions =
    action.GetS ∷ action.GetM ∷ action.PutS ∷ action.PutM ∷
    action.InvAck ∷ action.DataReq ∷ action.DataDir ∷ []

-- the number of an action among all actions, counted from 0
abbrev pub action_number : CacheAction → ℕ
action_number action.GetS = 0
action_number action.GetM = 1
action_number action.PutS = 2
action_number action.PutM = 3
action_number action.InvAck = 4
action_number action.DataReq = 5
action_number action.DataDir = 6

-- the action that stands first
abbrev pub first_action : CacheAction
first_action = action.GetS

-- the action that is spelled so, if there is one
abbrev pub action_named : List ℕ → Option CacheAction
action_named text = named_in action_name all_actions text

-- the same, if a protocol has it
abbrev pub action_named_of : Protocol → List ℕ → Option CacheAction
action_named_of protocol text = named_of (has_action protocol) action_name all_actions text
