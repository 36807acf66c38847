use Rattle.std.specs.Prelude.{ℕ, List, [], ◌∷◌, ◌++◌, Option, Some, None, Bool, true, false, if◌then◌else◌, ℤ, pos, ◌-ℤ◌}
use Rattle.std.specs.Int.{saturate_signed, w64}
use Rattle.base.specs.declared.ids.CacheId.{CacheId}
use Rattle.base.specs.declared.step.Ask.{Ask}
use Rattle.base.specs.declared.step.Ask.TheVariants as ask
use Rattle.base.specs.declared.ids.Place.TheVariants.{Dir, Cache}
use Rattle.network.specs.declared.message.RequestKind.TheVariants as request
use Rattle.network.specs.declared.message.ForwardKind.{ForwardKind}
use Rattle.network.specs.declared.message.ForwardKind.TheVariants as forward
use Rattle.network.specs.declared.message.Response.TheVariants.{Data, InvAck, DataExcl}
use Rattle.network.specs.declared.message.Message.{Message}
use Rattle.network.specs.declared.message.Message.TheVariants as message
use Rattle.cache_table.specs.declared.actions.CacheAction.{CacheAction}
use Rattle.cache_table.specs.declared.actions.CacheAction.TheVariants as action
use Rattle.cache_table.specs.declared.state.CacheState.{CacheState}
use Rattle.cache_table.specs.declared.state.CacheState.TheVariants as state
use Rattle.control.specs.declared.line.Line.{Line}
use Rattle.control.specs.declared.line.LineInput.{LineInput}
use Rattle.control.specs.declared.line.LineInput.TheVariants as line_input
use Rattle.control.specs.declared.line.LineCompletion.{LineCompletion}
use Rattle.control.specs.declared.line.LineCompletion.TheVariants as done
use Rattle.control.specs.LineEvents.{more_acks}

-- a line that nothing has happened to
abbrev pub opened_line : Line
opened_line = record { state = state.I; value = 0; acks = pos 0; pending = None }

-- the acks after one came in; a difference that leaves 64 bits stays at their end
abbrev pub one_ack_less : ℤ → ℤ
one_ack_less acks = saturate_signed w64 (acks -ℤ pos 1)

-- first the line takes in what a response brings: a value, a number of acks to wait for, or one of these acks
abbrev pub taken_in : LineInput → Line → Line
taken_in (line_input.Response (Data (Cache from) to value more)) line = record line { value = value }
taken_in (line_input.Response (Data Dir to value more)) line = record line { value = value; acks = more_acks line.acks more }
taken_in (line_input.Response (InvAck from to)) line = record line { acks = one_ack_less line.acks }
taken_in (line_input.Response (DataExcl to value)) line = record line { value = value }
taken_in (line_input.Ask a) line = line
taken_in (line_input.Forward f) line = line

-- who waits for an answer to this kind of forward
abbrev pub forward_requestor : ForwardKind → CacheId → Option CacheId
forward_requestor forward.FwdGetS cache = Some cache
forward_requestor forward.FwdGetM cache = Some cache
forward_requestor forward.Inv cache = Some cache
forward_requestor forward.PutAck cache = None

-- the requestor, which only a Fwd-GetS, a Fwd-GetM and an Inv have
abbrev pub requestor_of : LineInput → Option CacheId
requestor_of (line_input.Forward f) = forward_requestor f.kind f.requestor
requestor_of (line_input.Ask a) = None
requestor_of (line_input.Response r) = None

-- what one action sends from the line of a cache, with the line's value, to the requestor if there is one
abbrev pub line_message : CacheId → ℕ → Option CacheId → CacheAction → List Message
line_message cache value to action.GetS = message.Request (record { kind = request.GetS; from = cache }) ∷ []
line_message cache value to action.GetM = message.Request (record { kind = request.GetM; from = cache }) ∷ []
line_message cache value to action.PutS = message.Request (record { kind = request.PutS; from = cache }) ∷ []
line_message cache value to action.PutM = message.Request (record { kind = request.PutM value; from = cache }) ∷ []
line_message cache value (Some to) action.InvAck = message.Response (InvAck cache to) ∷ []
line_message cache value (Some to) action.DataReq = message.Response (Data (Cache cache) (Cache to) value 0) ∷ []
line_message cache value None action.InvAck = []
line_message cache value None action.DataReq = []
line_message cache value to action.DataDir = message.Response (Data (Cache cache) Dir value 0) ∷ []

-- what the actions send, in order
abbrev pub line_messages : CacheId → ℕ → Option CacheId → List CacheAction → List Message
line_messages cache value to [] = []
line_messages cache value to (a ∷ actions) = line_message cache value to a ++ line_messages cache value to actions

-- what is sent where an input acts at a line: the value is that of the line after it took the input in
abbrev pub line_sends : CacheId → LineInput → List CacheAction → Line → List Message
line_sends cache input actions line = line_messages cache (taken_in input line).value (requestor_of input) actions

-- the states in which a cache may read its block
abbrev pub is_reader : CacheState → Bool
is_reader state.S = true
is_reader state.SmAd = true
is_reader state.SmA = true
is_reader state.M = true
is_reader state.E = true
is_reader other = false

-- the states in which a cache may write its block
abbrev pub is_writer : CacheState → Bool
is_writer state.M = true
is_writer state.E = true
is_writer other = false

-- the state in which a store is done: a store in E leads to it
abbrev pub is_modified : CacheState → Bool
is_modified state.M = true
is_modified other = false

-- the completion of an ask at a line, where the line's state allows it
abbrev pub completed : Ask → Line → Option LineCompletion
completed ask.Load line = if is_reader line.state then Some (done.Load line.value) else None
completed (ask.Store value) line = if is_modified line.state then Some (done.Store value) else None
completed ask.Replace line = None

-- the completion of the ask that waits, if one does
abbrev pub pending_completed : Option Ask → Line → Option LineCompletion
pending_completed None line = None
pending_completed (Some a) line = completed a line

-- what completes by an input at the line in its new state: the ask itself, or on a message the one that waits
abbrev pub settled : LineInput → Line → Option LineCompletion
settled (line_input.Ask a) line = completed a line
settled (line_input.Forward f) line = pending_completed line.pending line
settled (line_input.Response r) line = pending_completed line.pending line

-- a completed store writes its value
abbrev pub written : LineCompletion → Line → Line
written (done.Load value) line = line
written (done.Store value) line = record line { value = value }

-- an ask that completes leaves what waits alone; a load or store that doesn't complete waits from now on
abbrev pub after_ask : Ask → Option LineCompletion → Line → Line
after_ask a (Some completion) line = written completion line
after_ask ask.Load None line = record line { pending = Some ask.Load }
after_ask (ask.Store value) None line = record line { pending = Some (ask.Store value) }
after_ask ask.Replace None line = line

-- after a completion on a message nothing waits
abbrev pub after_message : Option LineCompletion → Line → Line
after_message None line = line
after_message (Some completion) line = record (written completion line) { pending = None }

-- the line in its new state, after what completes
abbrev pub after_settling : LineInput → Option LineCompletion → Line → Line
after_settling (line_input.Ask a) completion line = after_ask a completion line
after_settling (line_input.Forward f) completion line = after_message completion line
after_settling (line_input.Response r) completion line = after_message completion line

-- the line that took an input in and went to the next state
abbrev pub moved_on : LineInput → CacheState → Line → Line
moved_on input next line = record (taken_in input line) { state = next }

-- what completes where an input acts at a line
abbrev pub line_completes : LineInput → CacheState → Line → Option LineCompletion
line_completes input next line = settled input (moved_on input next line)

-- what the line becomes where an input acts at it
abbrev pub line_after : LineInput → CacheState → Line → Line
line_after input next line = after_settling input (line_completes input next line) (moved_on input next line)
