use Rattle.std.specs.Prelude.{ℕ, List, [], ◌∷◌, Option, codes}
use Rattle.base.specs.Spelling.{named_in, named_of}
use Rattle.base.specs.declared.controller.protocol.Protocol.{Protocol}
use Rattle.directory_table.specs.Table.{has_state, has_event, has_action}
use Rattle.directory_table.specs.Baseline.{all_states, all_events}
use Rattle.directory_table.specs.declared.state.DirectoryState.{DirectoryState}
use Rattle.directory_table.specs.declared.state.DirectoryState.TheVariants as state
use Rattle.directory_table.specs.declared.event.DirectoryEvent.{DirectoryEvent}
use Rattle.directory_table.specs.declared.event.DirectoryEvent.TheVariants as event
use Rattle.directory_table.specs.declared.actions.DirectoryAction.{DirectoryAction}
use Rattle.directory_table.specs.declared.actions.DirectoryAction.TheVariants as action

-- how a state is spelled
abbrev pub state_name : DirectoryState → List ℕ
state_name state.I = codes "I"
state_name state.S = codes "S"
state_name state.M = codes "M"
state_name state.SD = codes "S^D"

-- the state that stands first
abbrev pub first_state : DirectoryState
first_state = state.I

-- the state that is spelled so, if there is one
abbrev pub state_named : List ℕ → Option DirectoryState
state_named text = named_in state_name all_states text

-- the same, if a protocol has it
abbrev pub state_named_of : Protocol → List ℕ → Option DirectoryState
state_named_of protocol text = named_of (has_state protocol) state_name all_states text

-- how an event is spelled
abbrev pub event_name : DirectoryEvent → List ℕ
event_name event.GetS = codes "GetS"
event_name event.GetM = codes "GetM"
event_name event.PutSNotLast = codes "PutS-NotLast"
event_name event.PutSLast = codes "PutS-Last"
event_name event.PutMOwner = codes "PutM-Owner"
event_name event.PutMNonOwner = codes "PutM-NonOwner"
event_name event.Data = codes "Data"

-- the event that stands first
abbrev pub first_event : DirectoryEvent
first_event = event.GetS

-- the event that is spelled so, if there is one
abbrev pub event_named : List ℕ → Option DirectoryEvent
event_named text = named_in event_name all_events text

-- the same, if a protocol has it
abbrev pub event_named_of : Protocol → List ℕ → Option DirectoryEvent
event_named_of protocol text = named_of (has_event protocol) event_name all_events text

-- how an action is spelled
abbrev pub action_name : DirectoryAction → List ℕ
action_name action.DataReq = codes "data-req"
action_name action.DataAcks = codes "data-acks"
action_name action.InvSharers = codes "inv-sharers"
action_name action.FwdGetS = codes "fwd-gets"
action_name action.FwdGetM = codes "fwd-getm"
action_name action.PutAck = codes "put-ack"
action_name action.AddReq = codes "add-req"
action_name action.AddOwner = codes "add-owner"
action_name action.RemoveReq = codes "remove-req"
action_name action.ClearSharers = codes "clear-sharers"
action_name action.ClearOwner = codes "clear-owner"
action_name action.SetOwner = codes "set-owner"
action_name action.CopyData = codes "copy-data"
action_name action.DataExcl = codes "data-excl"

-- all actions
abbrev pub all_actions : List DirectoryAction
all_actions =
    action.DataReq ∷ action.DataAcks ∷ action.InvSharers ∷ action.FwdGetS ∷ action.FwdGetM ∷ action.PutAck ∷ action.AddReq ∷
    action.AddOwner ∷ action.RemoveReq ∷ action.ClearSharers ∷ action.ClearOwner ∷ action.SetOwner ∷ action.CopyData ∷
    action.DataExcl ∷ []

-- the number of an action among all actions, counted from 0
abbrev pub action_number : DirectoryAction → ℕ
action_number action.DataReq = 0
action_number action.DataAcks = 1
action_number action.InvSharers = 2
action_number action.FwdGetS = 3
action_number action.FwdGetM = 4
action_number action.PutAck = 5
action_number action.AddReq = 6
action_number action.AddOwner = 7
action_number action.RemoveReq = 8
action_number action.ClearSharers = 9
action_number action.ClearOwner = 10
action_number action.SetOwner = 11
action_number action.CopyData = 12
action_number action.DataExcl = 13

-- the action that stands first
abbrev pub first_action : DirectoryAction
first_action = action.DataReq

-- the action that is spelled so, if there is one
abbrev pub action_named : List ℕ → Option DirectoryAction
action_named text = named_in action_name all_actions text

-- the same, if a protocol has it
abbrev pub action_named_of : Protocol → List ℕ → Option DirectoryAction
action_named_of protocol text = named_of (has_action protocol) action_name all_actions text
