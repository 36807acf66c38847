use Rattle.std.proofs.Common.{◌≡◌, ◌<◌, ℕ, Some, slice_get}
use Rattle.closing.specs.declared.following.Followed.{Followed}
use Rattle.closing.specs.Ranked.{KeepsBalance}
use Rattle.closing.proofs.balancing.steps_are_balanced.Given as goal

abbrev pub invariant-loop-step : goal.invariant-loop-step
invariant-loop-step l = (k : ℕ) → k < l.step-index → (f : Followed) → slice_get l.steps k ≡ Some f → KeepsBalance f.concerned l.pair f.after
