-- What one step makes of a world, and when it can't fail.
use Rattle.std.specs.Prelude.{◌≡◌, ◌≤◌, ◌⊎◌, [], ◌∷◌, false, length}
use Rattle.base.specs.Steps.{block_of}
use Rattle.base.specs.declared.step.Outcome.{Outcome}
use Rattle.base.specs.declared.step.Step.{Step}
use Rattle.machine.specs.declared.made.Made.{Made}
use Rattle.machine.specs.Made.{IsTold}
use Rattle.machine.specs.Machine.{next, sent_by}
use Rattle.world.specs.Coherent.{HasBeenSafe, IsUnstuck}
use Rattle.world.specs.Keeping.{KeepsAsIs}
use Rattle.world.specs.Messages.{messages_at, raised}
use Rattle.world.specs.View.{HasRoomToStep, LeadsOn, View, stepped, wakes}

-- a world has made a step, which came to this. It has tested no fewer messages than it sent, and no more than its block has now
pub record Steps (old : View) (step : Step) (made : Made) (new : View) : Type 0 where
  pub told : IsTold old.tables old.state step made new.state
  pub shape : new.shape ≡ old.shape
  pub tables : new.tables ≡ old.tables
  pub opening : new.opening ≡ old.opening
  pub tests_what_it_sends : raised old.tested (length (sent_by old.tables old.state step)) ≤ new.tested
  pub tests_its_block : new.tested ≤ raised old.tested (messages_at new.state (block_of step))
  pub keeps : KeepsAsIs old step new

-- a world is as it was before a step, but for the memory of the step's block
pub record IsAsBefore (old : View) (step : Step) (new : View) : Type 0 where
  pub state : new.state ≡ old.state
  pub shape : new.shape ≡ old.shape
  pub tables : new.tables ≡ old.tables
  pub opening : new.opening ≡ old.opening
  pub tested : new.tested ≡ old.tested
  pub keeps : KeepsAsIs old step new

-- a world has made a step with this outcome, and what led to it and the step lead to where it came to, which is safe and isn't stuck. It
-- has tested no fewer messages than it sent, and no more than its block has now
pub record StepsSafely (old : View) (step : Step) (what : Outcome) (new : View) : Type 0 where
  pub came : next old.tables old.state step ≡ stepped new.state what
  pub history : LeadsOn old (step ∷ []) new
  pub safe : HasBeenSafe new
  pub unstuck : IsUnstuck new
  pub shape : new.shape ≡ old.shape
  pub tables : new.tables ≡ old.tables
  pub opening : new.opening ≡ old.opening
  pub tests_what_it_sends : raised old.tested (length (sent_by old.tables old.state step)) ≤ new.tested
  pub tests_its_block : new.tested ≤ raised old.tested (messages_at new.state (block_of step))
  pub keeps : KeepsAsIs old step new

-- a world is as it was before a step, and as safe
pub record StaysSafely (old : View) (step : Step) (new : View) : Type 0 where
  pub as_before : IsAsBefore old step new
  pub safe : HasBeenSafe new
  pub unstuck : IsUnstuck new

-- this outcome is what a step will have, and there is room for it
pub record ForeseesStep (old : View) (step : Step) (what : Outcome) (new : View) : Type 0 where
  pub outcome : what ≡ (next old.tables old.state step).outcome
  pub room : HasRoomToStep new step

-- a step wants no memory: there is room for it, or it sends nothing and is no ask that acts at a line in I
abbrev pub NeedsNoMemory : View → Step → Type 0
NeedsNoMemory w step = HasRoomToStep w step ⊎ ((sent_by w.tables w.state step ≡ []) × (wakes w step ≡ false))
