use Rattle.std.specs.Prelude.{ℕ, ◌≤◌, List, Option, Some, None, Bool, true, false, if◌then◌else◌, slice_set, ◌==◌}
use Rattle.base.specs.declared.step.Outcome.{Outcome}
use Rattle.network.specs.Marks.{Marks}
use Rattle.network.specs.Room.{Room, HasRoomFor}
use Rattle.cache_table.specs.declared.state.CacheState.{CacheState}
use Rattle.cache_table.specs.declared.state.CacheState.TheVariants as state
use Rattle.control.specs.declared.line.Line.{Line}
use Rattle.control.specs.LineEffect.{opened_line}
use Rattle.machine.specs.declared.decision.Origin.TheVariants as origin
use Rattle.machine.specs.declared.decision.Decision.{Decision}
use Rattle.machine.specs.declared.decision.Decision.TheVariants.{Refused, AtLine}
use Rattle.machine.specs.Block.{BlockState}
use Rattle.machine.specs.Transition.{Transition, messages_of}
use Rattle.rows.specs.Flags.{is_set}

-- what a block may still take without asking for memory: messages on its wires, and lines beside those that it keeps
pub record Space : Type 0 where
  pub wires : Room
  pub lines : List Bool
  pub spare : ℕ

-- a block as contracts see it: its state, the marks of its messages, and its room
pub record BlockView : Type 0 where
  pub state : BlockState
  pub marks : Marks
  pub space : Space

-- a line that isn't kept is as it opens
abbrev pub line_or : Option Line → Line
line_or None = opened_line
line_or (Some line) = line

-- a block came to this state, with this outcome
abbrev pub moved_to : BlockState → Outcome → Transition
moved_to b what = record { block = b; outcome = what }

-- whether a cell acts
abbrev pub acts : Decision → Bool
acts (Refused what) = false
acts other = true

-- how many lines a decision adds to those that are kept: the one that it acts at, if it isn't
abbrev pub lines_added : Decision → List Bool → ℕ
lines_added (AtLine cache line input next actions from) lines = if is_set lines cache.0 then 0 else 1
lines_added other lines = 0

-- whether a cell acts at the line of a cache
abbrev pub acts_at_line : Decision → ℕ → Bool
acts_at_line (AtLine own line input next actions from) cache = own.0 == cache
acts_at_line other cache = false

-- the lines that are kept once a decision was carried out: the one that it acts at is one of them
abbrev pub lines_after : Decision → List Bool → List Bool
lines_after (AtLine cache line input next actions from) lines = slice_set lines cache.0 true
lines_after other lines = lines

-- there is room for what a decision sends, and for the line that it acts at
pub record HasSpaceFor (d : Decision) (b : BlockState) (space : Space) : Type 0 where
  pub messages : HasRoomFor (messages_of d b) space.wires
  pub line : lines_added d space.lines ≤ space.spare

-- whether a line is in I
abbrev pub is_invalid : CacheState → Bool
is_invalid state.I = true
is_invalid other = false

-- whether an ask acts at a line in I
abbrev pub wakes_line : Decision → Bool
wakes_line (AtLine cache line input next actions origin.Core) = is_invalid line.state
wakes_line other = false
