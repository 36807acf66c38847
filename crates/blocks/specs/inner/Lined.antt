-- A block as the program holds it.
use Rattle.std.specs.Prelude.{◌≡◌, ℕ, ◌<◌, ◌^◌, List, Option, Bool, count_by, is_some, length, map}
use Rattle.control.specs.declared.line.Line.{Line}
use Rattle.control.specs.LineEffect.{is_reader, is_writer}
use Rattle.machine.specs.Block.{BlockState, IsBlockAmong}
use Rattle.blocks.specs.View.{line_or}
use Rattle.blocks.specs.inner.Named.{HomeNames, TrafficNames}

-- all lines, where those that aren't kept are as they open
abbrev pub lines_of : List (Option Line) → List Line
lines_of items = map line_or items

-- which lines are kept
abbrev pub kept_lines : List (Option Line) → List Bool
kept_lines items = map is_some items

-- a block holds together: it is whole, its lines are kept where they are named, and so many of them may read and write
pub record IsHeld (b : BlockState) (items : List (Option Line)) (reading writing : ℕ) : Type 0 where
  pub lines : b.lines ≡ lines_of items
  pub among : IsBlockAmong (length b.lines) b
  pub few : length b.lines < 2 ^ 32
  pub home : HomeNames (kept_lines items) b.home
  pub traffic : TrafficNames (kept_lines items) b.traffic
  pub readers : reading ≡ count_by (λ line. is_reader line.state) b.lines
  pub writers : writing ≡ count_by (λ line. is_writer line.state) b.lines
