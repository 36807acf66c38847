-- What a step makes of its block, and when it can't fail.
use Rattle.std.specs.Prelude.{◌≡◌, ◌≤◌, ◌⊎◌, [], false, length}
use Rattle.base.specs.declared.step.Outcome.{Outcome}
use Rattle.base.specs.declared.step.Step.{Step}
use Rattle.network.specs.Traffic.{message_count}
use Rattle.tables.specs.Tables.{Tables}
use Rattle.machine.specs.declared.decision.Decision.{Decision}
use Rattle.machine.specs.declared.made.Made.{Made}
use Rattle.machine.specs.Block.{BlockState}
use Rattle.machine.specs.Made.{made_at}
use Rattle.machine.specs.Transition.{decision_of, messages_of, transition}
use Rattle.blocks.specs.Marking.{marks_of}
use Rattle.blocks.specs.View.{BlockView, HasSpaceFor, Space, acts, lines_after, wakes_line}

-- a block has made a step, which came to this: all marks are right behind it, and what it sent is on the wires
pub record MakesStep (tables : Tables) (old : BlockView) (step : Step) (made : Made) (new : BlockView) : Type 0 where
  pub told : made ≡ made_at tables step old.state
  pub state : new.state ≡ (transition tables step old.state).block
  pub marks : new.marks ≡ marks_of tables new.state
  pub sent : length (messages_of (decision_of tables step old.state) old.state) ≤ message_count new.state.traffic
  pub lines : new.space.lines ≡ lines_after (decision_of tables step old.state) old.space.lines
  pub idle : acts (decision_of tables step old.state) ≡ false → new.space ≡ old.space

-- there is room for a step now, which will have this outcome
pub record Foresees (tables : Tables) (old : BlockView) (step : Step) (what : Outcome) (new : BlockView) : Type 0 where
  pub outcome : what ≡ (transition tables step old.state).outcome
  pub room : HasSpaceFor (decision_of tables step old.state) old.state new.space

-- a block is as it was, but that it may have room for what was decided: none more where no cell acts
pub record IsBlockAsBefore (d : Decision) (old new : BlockView) : Type 0 where
  pub state : new.state ≡ old.state
  pub marks : new.marks ≡ old.marks
  pub lines : new.space.lines ≡ old.space.lines
  pub idle : acts d ≡ false → new.space ≡ old.space

-- a block is in the state that it was in, with right marks and with the same lines kept
pub record Stays (tables : Tables) (old new : BlockView) : Type 0 where
  pub state : new.state ≡ old.state
  pub marks : new.marks ≡ marks_of tables new.state
  pub lines : new.space.lines ≡ old.space.lines

-- what is decided wants no memory: there is room for it, or it sends nothing and is no ask that acts at a line in I
abbrev pub BlockNeedsNoMemory : Decision → BlockState → Space → Type 0
BlockNeedsNoMemory d b space = HasSpaceFor d b space ⊎ ((messages_of d b ≡ []) × (wakes_line d ≡ false))
