use Rattle.std.proofs.Common.{◌≡◌, ◌<◌, ℕ, Some, IfSome, length, map, slice_get}
use Rattle.std.specs.List.{Contains}
use Rattle.base.specs.declared.step.CoreAsk.{CoreAsk}
use Rattle.lanes.specs.inner.Kept.{lanes_of}
use Rattle.lanes.proofs.lanes.changing.reach.Given as goal

abbrev pub invariant-loop-ask : goal.invariant-loop-ask
invariant-loop-ask l =
    (length l.reached.items ≡ length l.initial.reached.items)
    × ((core other : ℕ) → Contains (lanes_of (map (λ of. of.items) l.initial.reached.items) core) other →
    Contains (lanes_of (map (λ of. of.items) l.reached.items) core) other)
    × ((at : ℕ) (ask : CoreAsk) → at < l.ask-index → slice_get l.offers at ≡ Some ask →
    Contains (lanes_of (map (λ of. of.items) l.reached.items) ask.core.0) l.lane)
    × IfSome l.last (λ core. Contains (lanes_of (map (λ of. of.items) l.reached.items) core.0) l.lane)
