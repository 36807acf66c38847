-- Each state, event and action stands at its number in the list of its kind, is found by its name, and has a name of one word.
use Rattle.std.specs.Prelude.{◌≡◌, Some, slice_get, refl, true}
use Rattle.cache_table.specs.declared.state.CacheState.{CacheState}
use Rattle.cache_table.specs.declared.state.CacheState.TheVariants as state
use Rattle.cache_table.specs.declared.event.CacheEvent.{CacheEvent}
use Rattle.cache_table.specs.declared.event.CacheEvent.TheVariants as event
use Rattle.cache_table.specs.declared.actions.CacheAction.{CacheAction}
use Rattle.cache_table.specs.declared.actions.CacheAction.TheVariants as action
use Rattle.cache_table.specs.Baseline.{all_states, all_events}
use Rattle.cache_table.specs.Table.{state_number, event_number}
use Rattle.cache_table.specs.Names.{action_number, all_actions, state_name, event_name, action_name, state_named, event_named, action_named}
use Rattle.base.specs.Spelling.{is_name}

pub state_stands : (x : CacheState) → slice_get all_states (state_number x) ≡ Some x
state_stands state.I = refl
state_stands state.IsD = refl
state_stands state.ImAd = refl
state_stands state.ImA = refl
state_stands state.S = refl
state_stands state.SmAd = refl
state_stands state.SmA = refl
state_stands state.M = refl
state_stands state.MiA = refl
state_stands state.SiA = refl
state_stands state.IiA = refl
state_stands state.E = refl

pub event_stands : (x : CacheEvent) → slice_get all_events (event_number x) ≡ Some x
event_stands event.Load = refl
event_stands event.Store = refl
event_stands event.Replacement = refl
event_stands event.FwdGetS = refl
event_stands event.FwdGetM = refl
event_stands event.Inv = refl
event_stands event.PutAck = refl
event_stands event.DataDirZero = refl
event_stands event.DataDirMore = refl
event_stands event.DataOwner = refl
event_stands event.InvAck = refl
event_stands event.LastInvAck = refl
event_stands event.DataDirExcl = refl

pub action_stands : (x : CacheAction) → slice_get all_actions (action_number x) ≡ Some x
action_stands action.GetS = refl
action_stands action.GetM = refl
action_stands action.PutS = refl
action_stands action.PutM = refl
action_stands action.InvAck = refl
action_stands action.DataReq = refl
action_stands action.DataDir = refl

pub state_found : (x : CacheState) → state_named (state_name x) ≡ Some x
state_found state.I = refl
state_found state.IsD = refl
state_found state.ImAd = refl
state_found state.ImA = refl
state_found state.S = refl
state_found state.SmAd = refl
state_found state.SmA = refl
state_found state.M = refl
state_found state.MiA = refl
state_found state.SiA = refl
state_found state.IiA = refl
state_found state.E = refl

pub state_plain : (x : CacheState) → is_name (state_name x) ≡ true
state_plain state.I = refl
state_plain state.IsD = refl
state_plain state.ImAd = refl
state_plain state.ImA = refl
state_plain state.S = refl
state_plain state.SmAd = refl
state_plain state.SmA = refl
state_plain state.M = refl
state_plain state.MiA = refl
state_plain state.SiA = refl
state_plain state.IiA = refl
state_plain state.E = refl

pub event_found : (x : CacheEvent) → event_named (event_name x) ≡ Some x
event_found event.Load = refl
event_found event.Store = refl
event_found event.Replacement = refl
event_found event.FwdGetS = refl
event_found event.FwdGetM = refl
event_found event.Inv = refl
event_found event.PutAck = refl
event_found event.DataDirZero = refl
event_found event.DataDirMore = refl
event_found event.DataOwner = refl
event_found event.InvAck = refl
event_found event.LastInvAck = refl
event_found event.DataDirExcl = refl

pub event_plain : (x : CacheEvent) → is_name (event_name x) ≡ true
event_plain event.Load = refl
event_plain event.Store = refl
event_plain event.Replacement = refl
event_plain event.FwdGetS = refl
event_plain event.FwdGetM = refl
event_plain event.Inv = refl
event_plain event.PutAck = refl
event_plain event.DataDirZero = refl
event_plain event.DataDirMore = refl
event_plain event.DataOwner = refl
event_plain event.InvAck = refl
event_plain event.LastInvAck = refl
event_plain event.DataDirExcl = refl

pub action_found : (x : CacheAction) → action_named (action_name x) ≡ Some x
action_found action.GetS = refl
action_found action.GetM = refl
action_found action.PutS = refl
action_found action.PutM = refl
action_found action.InvAck = refl
action_found action.DataReq = refl
action_found action.DataDir = refl

pub action_plain : (x : CacheAction) → is_name (action_name x) ≡ true
action_plain action.GetS = refl
action_plain action.GetM = refl
action_plain action.PutS = refl
action_plain action.PutM = refl
action_plain action.InvAck = refl
action_plain action.DataReq = refl
action_plain action.DataDir = refl
