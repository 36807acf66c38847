-- What the looks at one block show.
use Rattle.std.specs.Prelude.{ℕ, ◌+◌, List, [], ◌∷◌, Option, Some, None}
use Rattle.std.specs.Prelude.{Bool, true, false, if◌then◌else◌, slice_get}
use Rattle.std.specs.Option.{option_map}
use Rattle.base.specs.declared.ids.CacheId.{CacheId}
use Rattle.base.specs.declared.ids.Place.{Place}
use Rattle.base.specs.declared.ids.Place.TheVariants.{Dir, Cache}
use Rattle.base.specs.declared.step.Step.{Step}
use Rattle.base.specs.declared.step.Step.TheVariants as step
use Rattle.base.specs.declared.step.Outcome.{Outcome}
use Rattle.base.specs.declared.step.Outcome.TheVariants.{Held}
use Rattle.network.specs.declared.message.Request.{Request}
use Rattle.network.specs.declared.message.Forward.{Forward}
use Rattle.network.specs.declared.message.Response.{Response}
use Rattle.network.specs.declared.message.Response.TheVariants.{Data, InvAck, DataExcl}
use Rattle.network.specs.declared.message.Message.{Message}
use Rattle.network.specs.declared.message.Message.TheVariants as message
use Rattle.network.specs.Traffic.{Traffic, link}
use Rattle.control.specs.declared.line.Line.{Line}
use Rattle.control.specs.LineEffect.{is_writer}
use Rattle.tables.specs.Tables.{Tables}
use Rattle.machine.specs.Block.{BlockState}
use Rattle.machine.specs.Transition.{transition}

-- whether an outcome is that of a stall
abbrev pub is_held : Outcome → Bool
is_held Held = true
is_held other = false

-- a cache, if its line is there
abbrev pub cache_place : CacheId → Option Line → Option Place
cache_place cache None = None
cache_place cache (Some line) = Some (Cache cache)

-- the home, if the request is there
abbrev pub request_place : Option Request → Option Place
request_place None = None
request_place (Some r) = Some Dir

-- the cache of a link, if its head is there
abbrev pub forward_place : CacheId → Option Line → Option Forward → Option Place
forward_place cache line None = None
forward_place cache line (Some f) = cache_place cache line

-- the receiver of a response, if both are there
abbrev pub response_place : List Line → Option Response → Option Place
response_place lines None = None
response_place lines (Some (Data from Dir value acks)) = Some Dir
response_place lines (Some (Data from (Cache to) value acks)) = cache_place to (slice_get lines to.0)
response_place lines (Some (InvAck from to)) = cache_place to (slice_get lines to.0)
response_place lines (Some (DataExcl to value)) = cache_place to (slice_get lines to.0)

-- the controller that a step goes to in its block, if cache and message are there
abbrev pub place_in : Step → BlockState → Option Place
place_in (step.Ask cache block a) b = cache_place cache (slice_get b.lines cache.0)
place_in (step.Request block index) b = request_place (slice_get b.traffic.requests index)
place_in (step.Forward block cache) b = forward_place cache (slice_get b.lines cache.0) (slice_get (link b.traffic cache.0) 0)
place_in (step.Response block index) b = response_place b.lines (slice_get b.traffic.responses index)

-- the message that a delivery serves, if it is there; an ask serves none
abbrev pub message_in : Step → Traffic → Option Message
message_in (step.Ask cache block a) w = None
message_in (step.Request block index) w = option_map message.Request (slice_get w.requests index)
message_in (step.Forward block cache) w = option_map (message.Forward cache) (slice_get (link w cache.0) 0)
message_in (step.Response block index) w = option_map message.Response (slice_get w.responses index)

-- the least cache that may write a block, where the lines are those of the caches from a number on
abbrev pub writer_from : ℕ → List Line → Option CacheId
writer_from i [] = None
writer_from i (line ∷ lines) = if is_writer line.state then Some (record { 0 = i }) else writer_from (i + 1) lines

-- the least cache that may write a block
abbrev pub writer_in : List Line → Option CacheId
writer_in lines = writer_from 0 lines

-- whether a step would be held in its block
abbrev pub held_in : Tables → Step → BlockState → Bool
held_in tables s b = is_held (transition tables s b).outcome
