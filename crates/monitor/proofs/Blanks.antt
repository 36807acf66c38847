use Rattle.std.proofs.Common.{◌≡◌, ℕ, zero, suc, List, [], ◌∷◌, true, false, Option, Some, None, IsSome, refl, sym, ◌∙◌, slice_get, slice_set}
use Rattle.std.specs.Prelude.{if◌then◌else◌}
use Rattle.base.specs.Steps.{block_of}
use Rattle.base.specs.declared.ids.CacheId.{CacheId}
use Rattle.base.specs.declared.ids.Place.TheVariants.{Dir, Cache}
use Rattle.base.specs.declared.step.Ask.{Ask}
use Rattle.base.specs.declared.step.Step.{Step}
use Rattle.base.specs.declared.step.Step.TheVariants as step
use Rattle.base.specs.declared.step.Outcome.TheVariants as outcome
use Rattle.network.specs.declared.message.Request.{Request}
use Rattle.network.specs.declared.message.Forward.{Forward}
use Rattle.network.specs.declared.message.Response.{Response}
use Rattle.network.specs.declared.message.Response.TheVariants.{Data, InvAck, DataExcl}
use Rattle.network.specs.Traffic.{link}
use Rattle.control.specs.declared.line.Line.{Line}
use Rattle.control.specs.declared.line.LineInput.{LineInput}
use Rattle.control.specs.declared.line.LineInput.TheVariants as line_input
use Rattle.control.specs.declared.line.LineCompletion.{LineCompletion}
use Rattle.control.specs.declared.line.LineCompletion.TheVariants as done
use Rattle.control.specs.LineEffect.{line_completes}
use Rattle.cache_table.specs.Table as cache_table
use Rattle.machine.specs.declared.decision.Origin.{Origin}
use Rattle.machine.specs.declared.decision.Origin.TheVariants as origin
use Rattle.machine.specs.declared.decision.Decision.{Decision}
use Rattle.machine.specs.declared.decision.Decision.TheVariants.{Refused, AtLine, AtHome}
use Rattle.tables.specs.Tables.{Tables}
use Rattle.machine.specs.Block.{BlockState}
use Rattle.machine.specs.Transition.{at_ask, at_forward, at_line, at_request, at_response, carried_out, decided_outcome, decision_of, outcome_of}
use Rattle.machine.specs.Machine.{State, Next, next, next_at}
use Rattle.blocks.specs.Looks.{cache_place, forward_place, place_in, request_place, response_place}
use Rattle.world.specs.Looks.{place_at}

-- where a cell acts the outcome isn't blank
acts-blank : (cache : CacheId) (from : Origin) (what : Option LineCompletion) → ¬ (outcome_of cache from what ≡ outcome.Blank)
acts-blank cache origin.Core None e = cc
acts-blank cache (origin.Request index) None e = cc
acts-blank cache (origin.Head head) None e = cc
acts-blank cache (origin.Response index) None e = cc
acts-blank cache from (Some (done.Load value)) e = cc
acts-blank cache from (Some (done.Store value)) e = cc

-- a blank cell leaves the block as it was
kept-blank : (d : Decision) (b : BlockState) → decided_outcome d ≡ outcome.Blank → (carried_out d b).block ≡ b
kept-blank (Refused what) b e = refl
kept-blank (AtLine cache line input next actions from) b e = absurd (acts-blank cache from (line_completes input next line) e)
kept-blank (AtHome input next actions from) b e = cc

outcome-decided : (d : Decision) (b : BlockState) → (carried_out d b).outcome ≡ decided_outcome d
outcome-decided (Refused what) b = refl
outcome-decided (AtLine cache line input next actions from) b = refl
outcome-decided (AtHome input next actions from) b = refl

-- a blank cell of a line is that of a cache that is there
line-blank : (cells : cache_table.Cells) (cache : CacheId) (input : LineInput) (from : Origin) (line : Option Line) →
    decided_outcome (at_line cells cache input from line) ≡ outcome.Blank → IsSome (cache_place cache line)
line-blank cells cache input from None e = cc
line-blank cells cache input from (Some line) e = refl

ask-blank : (cells : cache_table.Cells) (cache : CacheId) (a : Ask) (line : Option Line) →
    decided_outcome (at_ask cells cache a line) ≡ outcome.Blank → IsSome (cache_place cache line)
ask-blank cells cache a None e = cc
ask-blank cells cache a (Some line) e = refl

request-blank : (tables : Tables) (b : BlockState) (index : ℕ) (r : Option Request) →
    decided_outcome (at_request tables.directory index b.home r) ≡ outcome.Blank → IsSome (request_place r)
request-blank tables b index None e = cc
request-blank tables b index (Some r) e = refl

forward-blank : (tables : Tables) (b : BlockState) (cache : CacheId) (f : Option Forward) →
    decided_outcome (at_forward tables.cache cache b.lines f) ≡ outcome.Blank → IsSome (forward_place cache (slice_get b.lines cache.0) f)
forward-blank tables b cache None e = cc
forward-blank tables b cache (Some f) e = line-blank tables.cache cache (line_input.Forward f) (origin.Head cache) (slice_get b.lines cache.0) e

response-blank : (tables : Tables) (b : BlockState) (index : ℕ) (r : Option Response) →
    decided_outcome (at_response tables index b r) ≡ outcome.Blank → IsSome (response_place b.lines r)
response-blank tables b index None e = cc
response-blank tables b index (Some (Data from Dir value acks)) e = refl
response-blank tables b index (Some (Data from (Cache to) value acks)) e =
    line-blank tables.cache to (line_input.Response (Data from (Cache to) value acks)) (origin.Response index) (slice_get b.lines to.0) e
response-blank tables b index (Some (InvAck from to)) e =
    line-blank tables.cache to (line_input.Response (InvAck from to)) (origin.Response index) (slice_get b.lines to.0) e
response-blank tables b index (Some (DataExcl to value)) e =
    line-blank tables.cache to (line_input.Response (DataExcl to value)) (origin.Response index) (slice_get b.lines to.0) e

-- a blank cell is that of a controller that can be named
place-blank : (tables : Tables) (s : Step) (b : BlockState) → decided_outcome (decision_of tables s b) ≡ outcome.Blank → IsSome (place_in s b)
place-blank tables (step.Ask cache block a) b e = ask-blank tables.cache cache a (slice_get b.lines cache.0) e
place-blank tables (step.Request block index) b e = request-blank tables b index (slice_get b.traffic.requests index) e
place-blank tables (step.Forward block cache) b e = forward-blank tables b cache (slice_get (link b.traffic cache.0) 0) e
place-blank tables (step.Response block index) b e = response-blank tables b index (slice_get b.traffic.responses index) e

-- what is set is there
set-there : (blocks : List BlockState) (number : ℕ) (old new : BlockState) → slice_get blocks number ≡ Some old →
    slice_get (slice_set blocks number new) number ≡ Some new
set-there [] number old new e = cc
set-there (b ∷ blocks) zero old new e = refl
set-there (b ∷ blocks) (suc number) old new e = set-there blocks number old new e

next_at-blank : (tables : Tables) (state : State) (s : Step) (b : Option BlockState) → slice_get state.blocks (block_of s) ≡ b →
    (next_at tables state s b).outcome ≡ outcome.Blank → IsSome (place_at (next_at tables state s b).state s)
next_at-blank tables state s None there e = cc
next_at-blank tables state s (Some b) there e =
    let d : Decision = decision_of tables s b in
    let blank : decided_outcome d ≡ outcome.Blank = sym (outcome-decided d b) ∙ e in
    rw (set-there state.blocks (block_of s) b (carried_out d b).block there, kept-blank d b blank) (place-blank tables s b blank)

-- after a blank cell the step's controller can be named
pub next-blank : (tables : Tables) (state : State) (s : Step) → (next tables state s).outcome ≡ outcome.Blank → IsSome (place_at (next tables state s).state s)
next-blank tables state s e =
    let broken : Next = record { state = state; outcome = outcome.Broken } in
    let made : Next = next_at tables state s (slice_get state.blocks (block_of s)) in
    elim state.broken as (λ t. (if t then broken else made).outcome ≡ outcome.Blank → IsSome (place_at (if t then broken else made).state s)) [
      | true ↦ λ e. cc
      | false ↦ λ e. next_at-blank tables state s (slice_get state.blocks (block_of s)) refl e
    ] e
