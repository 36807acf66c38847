use Rattle.std.proofs.Common.{◌≡◌, ◌<◌, ℕ, Some, slice_get}
use Rattle.closing.specs.declared.following.Followed.{Followed}
use Rattle.closing.specs.inner.Told.{LeadsInto}
use Rattle.closing.proofs.checking.all_lead.Given as goal

abbrev pub invariant-loop-step : goal.invariant-loop-step
invariant-loop-step l = (k : ℕ) → k < l.step-index → (f : Followed) → slice_get l.steps k ≡ Some f → LeadsInto l.list l.ranked f
