-- The line that an input acted at.
use Rattle.std.proofs.Common.{◌≡◌, ℕ, List, Option, Some, None, refl, set, true}
use Rattle.std.proofs.lemmas.List.{map-set}
use Rattle.base.specs.declared.step.Ask.{Ask}
use Rattle.base.specs.declared.step.Ask.TheVariants as ask
use Rattle.cache_table.specs.declared.state.CacheState.{CacheState}
use Rattle.control.specs.declared.line.Line.{Line}
use Rattle.control.specs.declared.line.LineInput.{LineInput}
use Rattle.control.specs.declared.line.LineInput.TheVariants as line_input
use Rattle.control.specs.declared.line.LineCompletion.{LineCompletion}
use Rattle.control.specs.declared.line.LineCompletion.TheVariants as done
use Rattle.control.specs.LineEffect.{after_ask, after_message, line_after, line_completes, moved_on}
use Rattle.blocks.specs.View.{line_or}
use Rattle.blocks.specs.inner.Lined.{kept_lines, lines_of}

ask-state : (a : Ask) (completion : Option LineCompletion) (line : Line) → (after_ask a completion line).state ≡ line.state
ask-state a (Some (done.Load value)) line = refl
ask-state a (Some (done.Store value)) line = refl
ask-state ask.Load None line = refl
ask-state (ask.Store value) None line = refl
ask-state ask.Replace None line = refl

message-state : (completion : Option LineCompletion) (line : Line) → (after_message completion line).state ≡ line.state
message-state None line = refl
message-state (Some (done.Load value)) line = refl
message-state (Some (done.Store value)) line = refl

-- it is in the next state
pub after-state : (input : LineInput) (next : CacheState) (line : Line) → (line_after input next line).state ≡ next
after-state (line_input.Ask a) next line =
    ask-state a (line_completes (line_input.Ask a) next line) (moved_on (line_input.Ask a) next line)
after-state (line_input.Forward f) next line =
    message-state (line_completes (line_input.Forward f) next line) (moved_on (line_input.Forward f) next line)
after-state (line_input.Response r) next line =
    message-state (line_completes (line_input.Response r) next line) (moved_on (line_input.Response r) next line)

-- a line is put among the others
pub lines-put : (items : List (Option Line)) (i : ℕ) (line : Line) → lines_of (set items i (Some line)) ≡ set (lines_of items) i line
lines-put items i line = map-set line_or items i (Some line)

pub kept-put : (items : List (Option Line)) (i : ℕ) (line : Line) → kept_lines (set items i (Some line)) ≡ set (kept_lines items) i true
kept-put items i line = map-set _ items i (Some line)
