-- Where a step's cell acts: at the line that its controller has, or at the home.
use Rattle.std.proofs.Common.{◌≡◌, ◌≢◌, ℕ, List, Option, Some, None, true, false, if◌then◌else◌, slice_get, refl}
use Rattle.base.specs.declared.ids.CacheId.{CacheId}
use Rattle.base.specs.declared.ids.Place.{Place}
use Rattle.base.specs.declared.ids.Place.TheVariants.{Dir, Cache}
use Rattle.base.specs.declared.step.Ask.{Ask}
use Rattle.base.specs.declared.step.Outcome.{Outcome}
use Rattle.base.specs.declared.step.Outcome.TheVariants as outcome
use Rattle.base.specs.declared.step.Step.{Step}
use Rattle.base.specs.declared.step.Step.TheVariants as step
use Rattle.base.specs.declared.controller.entry.CellEntry.TheVariants as table_entry
use Rattle.network.specs.declared.message.Request.{Request}
use Rattle.network.specs.declared.message.Forward.{Forward}
use Rattle.network.specs.declared.message.Response.{Response}
use Rattle.network.specs.declared.message.Response.TheVariants.{Data, InvAck, DataExcl}
use Rattle.network.specs.Traffic.{link}
use Rattle.cache_table.specs.Table as cache_table
use Rattle.cache_table.specs.Table.{CacheEntry}
use Rattle.directory_table.specs.Table as directory_table
use Rattle.directory_table.specs.Table.{DirectoryEntry}
use Rattle.control.specs.declared.home.Home.{Home}
use Rattle.control.specs.declared.home.HomeInput.{HomeInput}
use Rattle.control.specs.declared.home.HomeInput.TheVariants as home_input
use Rattle.control.specs.declared.line.Line.{Line}
use Rattle.control.specs.declared.line.LineInput.{LineInput}
use Rattle.control.specs.declared.line.LineInput.TheVariants as line_input
use Rattle.machine.specs.declared.decision.Decision.{Decision}
use Rattle.machine.specs.declared.decision.Decision.TheVariants.{Refused, AtLine, AtHome}
use Rattle.machine.specs.declared.decision.Origin.{Origin}
use Rattle.machine.specs.declared.decision.Origin.TheVariants as origin
use Rattle.tables.specs.Tables.{Tables}
use Rattle.machine.specs.Block.{BlockState}
use Rattle.machine.specs.Machine.{IsRefusal}
use Rattle.machine.specs.Transition.{by_line_entry, by_home_entry, at_line, at_ask, at_request, at_forward, at_response, decision_of, is_idle}
use Rattle.blocks.specs.View.{acts}
use Rattle.blocks.specs.Looks.{cache_place, forward_place, place_in, response_place}

-- a decision has a cell act at a line that is there, which is that of the cache that the step goes to; or at the home; or it is a refusal
abbrev pub Goes : Decision → Option Place → List Line → Type 0
Goes (Refused what) at lines = IsRefusal what
Goes (AtLine cache line input next actions from) at lines = (at ≡ Some (Cache cache)) × (Some line ≡ slice_get lines cache.0)
Goes (AtHome input next actions from) at lines = Unit {0}

line-goes : (e : CacheEntry) (cache : CacheId) (line : Line) (input : LineInput) (from : Origin) (lines : List Line) → Some line ≡ slice_get lines cache.0 →
    Goes (by_line_entry e cache line input from) (Some (Cache cache)) lines
line-goes table_entry.Stall cache line input from lines e = tt
line-goes table_entry.Blank cache line input from lines e = tt
line-goes (table_entry.Act next actions) cache line input from lines e = (refl, e)

found-goes : (cells : cache_table.Cells) (cache : CacheId) (input : LineInput) (from : Origin) (found : Option Line) (lines : List Line) →
    found ≡ slice_get lines cache.0 → Goes (at_line cells cache input from found) (cache_place cache found) lines
found-goes cells cache input from None lines e = tt
found-goes cells cache input from (Some line) lines e = line-goes _ cache line input from lines e

ask-goes : (cells : cache_table.Cells) (cache : CacheId) (a : Ask) (found : Option Line) (lines : List Line) → found ≡ slice_get lines cache.0 →
    Goes (at_ask cells cache a found) (cache_place cache found) lines
ask-goes cells cache a None lines e = tt
ask-goes cells cache a (Some line) lines e =
    elim (is_idle a line.state) as
    (λ t. Goes (if t then Refused outcome.Idle else at_line cells cache (line_input.Ask a) origin.Core (Some line)) (Some (Cache cache)) lines) [
      | true ↦ tt
      | false ↦ found-goes cells cache (line_input.Ask a) origin.Core (Some line) lines e
    ]

home-goes : (e : DirectoryEntry) (input : HomeInput) (from : Origin) (at : Option Place) (lines : List Line) → Goes (by_home_entry e input from) at lines
home-goes table_entry.Stall input from at lines = tt
home-goes table_entry.Blank input from at lines = tt
home-goes (table_entry.Act next actions) input from at lines = tt

request-goes : (cells : directory_table.Cells) (i : ℕ) (home : Home) (r : Option Request) (at : Option Place) (lines : List Line) →
    Goes (at_request cells i home r) at lines
request-goes cells i home None at lines = tt
request-goes cells i home (Some r) at lines = home-goes _ (home_input.Request r) (origin.Request i) at lines

forward-goes : (cells : cache_table.Cells) (cache : CacheId) (lines : List Line) (f : Option Forward) →
    Goes (at_forward cells cache lines f) (forward_place cache (slice_get lines cache.0) f) lines
forward-goes cells cache lines None = tt
forward-goes cells cache lines (Some f) = found-goes cells cache (line_input.Forward f) (origin.Head cache) (slice_get lines cache.0) lines refl

response-goes : (tables : Tables) (i : ℕ) (b : BlockState) (r : Option Response) → Goes (at_response tables i b r) (response_place b.lines r) b.lines
response-goes tables i b None = tt
response-goes tables i b (Some (Data from Dir value acks)) = home-goes _ (home_input.Data value) (origin.Response i) (Some Dir) b.lines
response-goes tables i b (Some (Data from (Cache to) value acks)) =
    found-goes tables.cache to (line_input.Response (Data from (Cache to) value acks)) (origin.Response i) (slice_get b.lines to.0) b.lines refl
response-goes tables i b (Some (InvAck from to)) =
    found-goes tables.cache to (line_input.Response (InvAck from to)) (origin.Response i) (slice_get b.lines to.0) b.lines refl
response-goes tables i b (Some (DataExcl to value)) =
    found-goes tables.cache to (line_input.Response (DataExcl to value)) (origin.Response i) (slice_get b.lines to.0) b.lines refl

pub decision-goes : (tables : Tables) (s : Step) (b : BlockState) → Goes (decision_of tables s b) (place_in s b) b.lines
decision-goes tables (step.Ask cache block a) b = ask-goes tables.cache cache a (slice_get b.lines cache.0) b.lines refl
decision-goes tables (step.Request block i) b = request-goes tables.directory i b.home (slice_get b.traffic.requests i) _ b.lines
decision-goes tables (step.Forward block cache) b = forward-goes tables.cache cache b.lines (slice_get (link b.traffic cache.0) 0)
decision-goes tables (step.Response block i) b = response-goes tables i b (slice_get b.traffic.responses i)

-- a decision that isn't refused acts
pub acting : (d : Decision) → ((what : Outcome) → d ≢ Refused what) → acts d ≡ true
acting (Refused what) h = absurd (h what refl)
acting (AtLine cache line input next actions from) h = refl
acting (AtHome input next actions from) h = refl
