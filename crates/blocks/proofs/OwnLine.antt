-- A decision is about the line that the block has.
use Rattle.std.proofs.Common.{◌≡◌, ℕ, List, Option, Some, None, Bool, true, false, if◌then◌else◌, slice_get, refl}
use Rattle.base.specs.declared.ids.CacheId.{CacheId}
use Rattle.base.specs.declared.ids.Place.TheVariants.{Dir, Cache}
use Rattle.base.specs.declared.step.Ask.{Ask}
use Rattle.base.specs.declared.step.Step.{Step}
use Rattle.base.specs.declared.step.Step.TheVariants as step
use Rattle.base.specs.declared.controller.entry.CellEntry.TheVariants as table_entry
use Rattle.network.specs.declared.message.Request.{Request}
use Rattle.network.specs.declared.message.Forward.{Forward}
use Rattle.network.specs.declared.message.Response.{Response}
use Rattle.network.specs.declared.message.Response.TheVariants.{Data, InvAck, DataExcl}
use Rattle.network.specs.Traffic.{link}
use Rattle.cache_table.specs.Table.{CacheEntry}
use Rattle.cache_table.specs.Table as cache_table
use Rattle.directory_table.specs.Table.{DirectoryEntry}
use Rattle.directory_table.specs.Table as directory_table
use Rattle.control.specs.declared.line.Line.{Line}
use Rattle.control.specs.declared.line.LineInput.{LineInput}
use Rattle.control.specs.declared.line.LineInput.TheVariants as line_input
use Rattle.control.specs.declared.home.Home.{Home}
use Rattle.control.specs.declared.home.HomeInput.{HomeInput}
use Rattle.control.specs.declared.home.HomeInput.TheVariants as home_input
use Rattle.control.specs.LineEvents.{event_at_line}
use Rattle.control.specs.HomeEvents.{event_at_home}
use Rattle.machine.specs.declared.decision.Origin.{Origin}
use Rattle.machine.specs.declared.decision.Origin.TheVariants as origin
use Rattle.machine.specs.declared.decision.Decision.{Decision}
use Rattle.tables.specs.Tables.{Tables}
use Rattle.machine.specs.Block.{BlockState}
use Rattle.machine.specs.Transition.{by_line_entry, by_home_entry, at_line, at_ask, at_request, at_forward, at_response, decision_of, is_idle}
use Rattle.blocks.specs.inner.OwnLine.{IsAboutLine}

line_entry-about : (lines : List Line) (x : CacheEntry) (cache : CacheId) (line : Line) (input : LineInput) (from : Origin) →
    Some line ≡ slice_get lines cache.0 → IsAboutLine lines (by_line_entry x cache line input from)
line_entry-about lines table_entry.Blank cache line input from e = tt
line_entry-about lines table_entry.Stall cache line input from e = tt
line_entry-about lines (table_entry.Act next actions) cache line input from e = e

home-about : (lines : List Line) (x : DirectoryEntry) (input : HomeInput) (from : Origin) → IsAboutLine lines (by_home_entry x input from)
home-about lines table_entry.Blank input from = tt
home-about lines table_entry.Stall input from = tt
home-about lines (table_entry.Act next actions) input from = tt

line-about : (lines : List Line) (cells : cache_table.Cells) (cache : CacheId) (input : LineInput) (from : Origin) (found : Option Line) →
    found ≡ slice_get lines cache.0 → IsAboutLine lines (at_line cells cache input from found)
line-about lines cells cache input from None e = tt
line-about lines cells cache input from (Some line) e =
    line_entry-about lines (cache_table.cell cells line.state (event_at_line line.acks input)) cache line input from e

if-about : (lines : List Line) (test : Bool) (x y : Decision) → IsAboutLine lines x → IsAboutLine lines y → IsAboutLine lines (if test then x else y)
if-about lines true x y p q = p
if-about lines false x y p q = q

ask-about : (lines : List Line) (cells : cache_table.Cells) (cache : CacheId) (ask : Ask) (found : Option Line) → found ≡ slice_get lines cache.0 →
    IsAboutLine lines (at_ask cells cache ask found)
ask-about lines cells cache ask None e = tt
ask-about lines cells cache ask (Some line) e =
    if-about lines (is_idle ask line.state) _ _ tt (line-about lines cells cache (line_input.Ask ask) origin.Core (Some line) e)

request-about : (lines : List Line) (cells : directory_table.Cells) (index : ℕ) (r : Option Request) (home : Home) →
    IsAboutLine lines (at_request cells index home r)
request-about lines cells index None home = tt
request-about lines cells index (Some r) home =
    home-about lines (directory_table.cell cells home.state (event_at_home home.owner home.sharers (home_input.Request r))) _ _

forward-about : (cells : cache_table.Cells) (cache : CacheId) (lines : List Line) (f : Option Forward) →
    IsAboutLine lines (at_forward cells cache lines f)
forward-about cells cache lines None = tt
forward-about cells cache lines (Some f) = line-about lines cells cache (line_input.Forward f) (origin.Head cache) (slice_get lines cache.0) refl

response-about : (tables : Tables) (index : ℕ) (b : BlockState) (r : Option Response) → IsAboutLine b.lines (at_response tables index b r)
response-about tables index b None = tt
response-about tables index b (Some (Data from Dir value acks)) =
    home-about b.lines (directory_table.cell tables.directory b.home.state (event_at_home b.home.owner b.home.sharers (home_input.Data value))) _ _
response-about tables index b (Some (Data from (Cache to) value acks)) =
    line-about b.lines tables.cache to (line_input.Response (Data from (Cache to) value acks)) (origin.Response index) (slice_get b.lines to.0) refl
response-about tables index b (Some (InvAck from to)) =
    line-about b.lines tables.cache to (line_input.Response (InvAck from to)) (origin.Response index) (slice_get b.lines to.0) refl
response-about tables index b (Some (DataExcl to value)) =
    line-about b.lines tables.cache to (line_input.Response (DataExcl to value)) (origin.Response index) (slice_get b.lines to.0) refl

-- whatever the step
pub decision-about : (tables : Tables) (s : Step) (b : BlockState) → IsAboutLine b.lines (decision_of tables s b)
decision-about tables (step.Ask cache block ask) b = ask-about b.lines tables.cache cache ask (slice_get b.lines cache.0) refl
decision-about tables (step.Request block index) b = request-about b.lines tables.directory index (slice_get b.traffic.requests index) b.home
decision-about tables (step.Forward block cache) b = forward-about tables.cache cache b.lines (slice_get (link b.traffic cache.0) 0)
decision-about tables (step.Response block index) b = response-about tables index b (slice_get b.traffic.responses index)
