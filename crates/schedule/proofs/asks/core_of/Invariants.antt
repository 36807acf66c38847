use Rattle.std.proofs.Common.{◌≡◌, ◌<◌, ℕ, Some, slice_get}
use Rattle.base.specs.declared.step.CoreAsk.{CoreAsk}
use Rattle.schedule.proofs.asks.core_of.Given as goal

abbrev pub invariant-loop-ask : goal.invariant-loop-ask
invariant-loop-ask l = (at : ℕ) (ask : CoreAsk) → at < l.ask-index → slice_get l.asks at ≡ Some ask → ask.core ≡ l.core
