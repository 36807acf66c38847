-- An ask is held exactly where its cell is a stall and it isn't idle.
use Rattle.std.proofs.Common.{◌≡◌, Bool, true, false, if◌then◌else◌, Option, Some, None, refl}
use Rattle.base.specs.declared.ids.CacheId.{CacheId}
use Rattle.base.specs.declared.step.Ask.{Ask}
use Rattle.base.specs.declared.controller.entry.CellEntry.TheVariants as table_entry
use Rattle.cache_table.specs.Table.{CacheEntry}
use Rattle.cache_table.specs.Table as cache_table
use Rattle.control.specs.declared.line.Line.{Line}
use Rattle.control.specs.declared.line.LineCompletion.{LineCompletion}
use Rattle.control.specs.declared.line.LineCompletion.TheVariants as done
use Rattle.control.specs.declared.line.LineInput.{LineInput}
use Rattle.control.specs.declared.line.LineInput.TheVariants as line_input
use Rattle.control.specs.LineEvents.{event_at_line}
use Rattle.control.specs.LineEffect.{line_completes}
use Rattle.machine.specs.declared.decision.Decision.TheVariants.{Refused}
use Rattle.base.specs.declared.step.Outcome.TheVariants.{Idle}
use Rattle.machine.specs.declared.decision.Origin.TheVariants as origin
use Rattle.machine.specs.Block.{BlockState}
use Rattle.machine.specs.Transition.{at_ask, at_line, by_line_entry, carried_out, is_idle, outcome_of}
use Rattle.blocks.specs.Looks.{is_held}
use Rattle.blocks.specs.Marking.{ask_stalls, is_stall}

core-moves : (cache : CacheId) (completion : Option LineCompletion) → is_held (outcome_of cache origin.Core completion) ≡ false
core-moves cache None = refl
core-moves cache (Some (done.Load value)) = refl
core-moves cache (Some (done.Store value)) = refl

by-entry : (e : CacheEntry) (cache : CacheId) (line : Line) (input : LineInput) (b : BlockState) →
    is_held (carried_out (by_line_entry e cache line input origin.Core) b).outcome ≡ is_stall e
by-entry table_entry.Blank cache line input b = refl
by-entry table_entry.Stall cache line input b = refl
by-entry (table_entry.Act next actions) cache line input b = core-moves cache (line_completes input next line)

unless-idle : (idle : Bool) (cells : cache_table.Cells) (cache : CacheId) (a : Ask) (line : Line) (b : BlockState) →
    is_held (carried_out (if idle then Refused Idle else at_line cells cache (line_input.Ask a) origin.Core (Some line)) b).outcome
    ≡ (if idle then false else is_stall (cache_table.cell cells line.state (event_at_line line.acks (line_input.Ask a))))
unless-idle true cells cache a line b = refl
unless-idle false cells cache a line b =
    by-entry (cache_table.cell cells line.state (event_at_line line.acks (line_input.Ask a))) cache line (line_input.Ask a) b

pub held-ask : (cells : cache_table.Cells) (cache : CacheId) (a : Ask) (line : Option Line) (b : BlockState) →
    is_held (carried_out (at_ask cells cache a line) b).outcome ≡ ask_stalls cells a line
held-ask cells cache a None b = refl
held-ask cells cache a (Some line) b = unless-idle (is_idle a line.state) cells cache a line b
