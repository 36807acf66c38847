-- Which messages on their way are held by a stall: their marks, and how many have none.
use Rattle.std.specs.Prelude.{ℕ, ◌+◌, List, [], ◌∷◌, Option, Some, None, Bool, true, false, if◌then◌else◌, map, slice_get}
use Rattle.base.specs.declared.controller.entry.CellEntry.{CellEntry}
use Rattle.base.specs.declared.controller.entry.CellEntry.TheVariants as table_entry
use Rattle.base.specs.declared.ids.Place.TheVariants.{Dir, Cache}
use Rattle.network.specs.declared.message.Forward.{Forward}
use Rattle.network.specs.declared.message.Response.{Response}
use Rattle.network.specs.declared.message.Response.TheVariants.{Data, InvAck, DataExcl}
use Rattle.network.specs.Marks.{Marks, unmarked_count, unmarked_heads_count}
use Rattle.cache_table.specs.Table as cache_table
use Rattle.directory_table.specs.Table as directory_table
use Rattle.control.specs.declared.line.Line.{Line}
use Rattle.control.specs.declared.line.LineInput.{LineInput}
use Rattle.control.specs.declared.line.LineInput.TheVariants as line_input
use Rattle.control.specs.declared.home.Home.{Home}
use Rattle.control.specs.declared.home.HomeInput.{HomeInput}
use Rattle.control.specs.declared.home.HomeInput.TheVariants as home_input
use Rattle.control.specs.LineEvents.{event_at_line}
use Rattle.control.specs.HomeEvents.{event_at_home}
use Rattle.base.specs.declared.step.Ask.{Ask}
use Rattle.tables.specs.Tables.{Tables}
use Rattle.machine.specs.Block.{BlockState}
use Rattle.machine.specs.Transition.{is_idle}

-- whether a cell is a stall
abbrev pub is_stall : {S A : Type 0} → CellEntry S A → Bool
is_stall table_entry.Stall = true
is_stall other = false

-- whether a home's cell for an input is a stall
abbrev pub home_stalls : directory_table.Cells → Home → HomeInput → Bool
home_stalls cells home input = is_stall (directory_table.cell cells home.state (event_at_home home.owner home.sharers input))

-- whether a line's cell for an input is a stall; false where there is no line
abbrev pub line_stalls : cache_table.Cells → Option Line → LineInput → Bool
line_stalls cells None input = false
line_stalls cells (Some line) input = is_stall (cache_table.cell cells line.state (event_at_line line.acks input))

-- whether an ask is held at a line: its cell is a stall, and the ask isn't idle
abbrev pub ask_stalls : cache_table.Cells → Ask → Option Line → Bool
ask_stalls cells a None = false
ask_stalls cells a (Some line) = if is_idle a line.state then false else line_stalls cells (Some line) (line_input.Ask a)

-- whether the cell of a response's receiver is a stall
abbrev pub response_stalls : Tables → BlockState → Response → Bool
response_stalls tables b (Data from Dir value acks) = home_stalls tables.directory b.home (home_input.Data value)
response_stalls tables b (Data from (Cache to) value acks) =
    line_stalls tables.cache (slice_get b.lines to.0) (line_input.Response (Data from (Cache to) value acks))
response_stalls tables b (InvAck from to) = line_stalls tables.cache (slice_get b.lines to.0) (line_input.Response (InvAck from to))
response_stalls tables b (DataExcl to value) = line_stalls tables.cache (slice_get b.lines to.0) (line_input.Response (DataExcl to value))

-- the marks of what is on the link to a cache, which is all for that cache's line
abbrev pub link_stalls : cache_table.Cells → List Line → ℕ → List Forward → List Bool
link_stalls cells lines cache fs = map (λ f. line_stalls cells (slice_get lines cache) (line_input.Forward f)) fs

-- the marks of what is on links, of those from a cache on
abbrev pub links_stall : cache_table.Cells → List Line → ℕ → List (List Forward) → List (List Bool)
links_stall cells lines cache [] = []
links_stall cells lines cache (l ∷ ls) = link_stalls cells lines cache l ∷ links_stall cells lines (cache + 1) ls

-- the marks of a block: that of a message is set where its receiver's cell for it is a stall now
abbrev pub marks_of : Tables → BlockState → Marks
marks_of tables b = record {
  requests = map (λ r. home_stalls tables.directory b.home (home_input.Request r)) b.traffic.requests;
  links = links_stall tables.cache b.lines 0 b.traffic.links;
  responses = map (response_stalls tables b) b.traffic.responses;
}

-- how many requests of a block aren't marked
abbrev pub free_requests : Tables → BlockState → ℕ
free_requests tables b = unmarked_count (marks_of tables b).requests

-- how many heads of links of a block aren't marked
abbrev pub free_heads : Tables → BlockState → ℕ
free_heads tables b = unmarked_heads_count (marks_of tables b).links

-- how many responses of a block aren't marked
abbrev pub free_responses : Tables → BlockState → ℕ
free_responses tables b = unmarked_count (marks_of tables b).responses
