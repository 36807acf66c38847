use Rattle.std.specs.Prelude.{ℕ, Bool, false, if◌then◌else◌, ◌==◌, ℤ, pos, negsuc, ◌+ℤ◌}
use Rattle.std.specs.Int.{saturate_signed, w64}
use Rattle.base.specs.declared.step.Ask.{Ask}
use Rattle.base.specs.declared.step.Ask.TheVariants as ask
use Rattle.base.specs.declared.ids.Place.TheVariants.{Dir, Cache}
use Rattle.network.specs.declared.message.ForwardKind.{ForwardKind}
use Rattle.network.specs.declared.message.ForwardKind.TheVariants as forward
use Rattle.network.specs.declared.message.Response.{Response}
use Rattle.network.specs.declared.message.Response.TheVariants.{Data, InvAck, DataExcl}
use Rattle.cache_table.specs.declared.event.CacheEvent.{CacheEvent}
use Rattle.cache_table.specs.declared.event.CacheEvent.TheVariants as event
use Rattle.control.specs.declared.line.LineInput.{LineInput}
use Rattle.control.specs.declared.line.LineInput.TheVariants as line_input

-- the acks after so many more are announced; a sum that leaves 64 bits stays at their end
abbrev pub more_acks : ℤ → ℕ → ℤ
more_acks acks more = saturate_signed w64 (acks +ℤ pos more)

-- whether a count of acks is this number
abbrev pub is_count : ℤ → ℕ → Bool
is_count (pos m) n = m == n
is_count (negsuc m) n = false

-- the event that an ask is
abbrev pub ask_event : Ask → CacheEvent
ask_event ask.Load = event.Load
ask_event (ask.Store value) = event.Store
ask_event ask.Replace = event.Replacement

-- the event that the head of a link is
abbrev pub forward_event : ForwardKind → CacheEvent
forward_event forward.FwdGetS = event.FwdGetS
forward_event forward.FwdGetM = event.FwdGetM
forward_event forward.Inv = event.Inv
forward_event forward.PutAck = event.PutAck

-- the event that a response is at a line that waits for so many acks
abbrev pub response_event : ℤ → Response → CacheEvent
response_event acks (Data (Cache from) to value more) = event.DataOwner
response_event acks (Data Dir to value more) = if is_count (more_acks acks more) 0 then event.DataDirZero else event.DataDirMore
response_event acks (InvAck from to) = if is_count acks 1 then event.LastInvAck else event.InvAck
response_event acks (DataExcl to value) = event.DataDirExcl

-- the event that an input is at such a line
abbrev pub event_at_line : ℤ → LineInput → CacheEvent
event_at_line acks (line_input.Ask a) = ask_event a
event_at_line acks (line_input.Forward f) = forward_event f.kind
event_at_line acks (line_input.Response r) = response_event acks r
