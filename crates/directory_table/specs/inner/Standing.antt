-- Each state, event and action stands at its number in the list of its kind, is found by its name, and has a name of one word.
use Rattle.std.specs.Prelude.{◌≡◌, Some, slice_get, refl, true}
use Rattle.directory_table.specs.declared.state.DirectoryState.{DirectoryState}
use Rattle.directory_table.specs.declared.state.DirectoryState.TheVariants as state
use Rattle.directory_table.specs.declared.event.DirectoryEvent.{DirectoryEvent}
use Rattle.directory_table.specs.declared.event.DirectoryEvent.TheVariants as event
use Rattle.directory_table.specs.declared.actions.DirectoryAction.{DirectoryAction}
use Rattle.directory_table.specs.declared.actions.DirectoryAction.TheVariants as action
use Rattle.directory_table.specs.Baseline.{all_states, all_events}
use Rattle.directory_table.specs.Table.{state_number, event_number}
use Rattle.directory_table.specs.Names.{action_number, all_actions, state_name, event_name, action_name, state_named, event_named, action_named}
use Rattle.base.specs.Spelling.{is_name}

pub state_stands : (x : DirectoryState) → slice_get all_states (state_number x) ≡ Some x
state_stands state.I = refl
state_stands state.S = refl
state_stands state.M = refl
state_stands state.SD = refl

pub event_stands : (x : DirectoryEvent) → slice_get all_events (event_number x) ≡ Some x
event_stands event.GetS = refl
event_stands event.GetM = refl
event_stands event.PutSNotLast = refl
event_stands event.PutSLast = refl
event_stands event.PutMOwner = refl
event_stands event.PutMNonOwner = refl
event_stands event.Data = refl

pub action_stands : (x : DirectoryAction) → slice_get all_actions (action_number x) ≡ Some x
action_stands action.DataReq = refl
action_stands action.DataAcks = refl
action_stands action.InvSharers = refl
action_stands action.FwdGetS = refl
action_stands action.FwdGetM = refl
action_stands action.PutAck = refl
action_stands action.AddReq = refl
action_stands action.AddOwner = refl
action_stands action.RemoveReq = refl
action_stands action.ClearSharers = refl
action_stands action.ClearOwner = refl
action_stands action.SetOwner = refl
action_stands action.CopyData = refl
action_stands action.DataExcl = refl

pub state_found : (x : DirectoryState) → state_named (state_name x) ≡ Some x
state_found state.I = refl
state_found state.S = refl
state_found state.M = refl
state_found state.SD = refl

pub state_plain : (x : DirectoryState) → is_name (state_name x) ≡ true
state_plain state.I = refl
state_plain state.S = refl
state_plain state.M = refl
state_plain state.SD = refl

pub event_found : (x : DirectoryEvent) → event_named (event_name x) ≡ Some x
event_found event.GetS = refl
event_found event.GetM = refl
event_found event.PutSNotLast = refl
event_found event.PutSLast = refl
event_found event.PutMOwner = refl
event_found event.PutMNonOwner = refl
event_found event.Data = refl

pub event_plain : (x : DirectoryEvent) → is_name (event_name x) ≡ true
event_plain event.GetS = refl
event_plain event.GetM = refl
event_plain event.PutSNotLast = refl
event_plain event.PutSLast = refl
event_plain event.PutMOwner = refl
event_plain event.PutMNonOwner = refl
event_plain event.Data = refl

pub action_found : (x : DirectoryAction) → action_named (action_name x) ≡ Some x
action_found action.DataReq = refl
action_found action.DataAcks = refl
action_found action.InvSharers = refl
action_found action.FwdGetS = refl
action_found action.FwdGetM = refl
action_found action.PutAck = refl
action_found action.AddReq = refl
action_found action.AddOwner = refl
action_found action.RemoveReq = refl
action_found action.ClearSharers = refl
action_found action.ClearOwner = refl
action_found action.SetOwner = refl
action_found action.CopyData = refl
action_found action.DataExcl = refl

pub action_plain : (x : DirectoryAction) → is_name (action_name x) ≡ true
action_plain action.DataReq = refl
action_plain action.DataAcks = refl
action_plain action.InvSharers = refl
action_plain action.FwdGetS = refl
action_plain action.FwdGetM = refl
action_plain action.PutAck = refl
action_plain action.AddReq = refl
action_plain action.AddOwner = refl
action_plain action.RemoveReq = refl
action_plain action.ClearSharers = refl
action_plain action.ClearOwner = refl
action_plain action.SetOwner = refl
action_plain action.CopyData = refl
action_plain action.DataExcl = refl
