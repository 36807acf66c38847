use Rattle.std.proofs.Common.{◌≡◌, ◌≤◌, ◌<◌, ℕ, length, get_or, None}
use Rattle.desk.specs.inner.Keeping.{Collects}
use Rattle.desk.proofs.closing.collect.Given as goal

abbrev pub invariant-loop-place : goal.invariant-loop-place
invariant-loop-place g l = record {
  seat : l.seat ≡ l.initial.seat;
  long : length l.places.items ≡ length l.initial.places.items;
  below : (k : ℕ) → k < l.place → Collects g.D.Planned.plan l.initial.seat k (get_or l.initial.places.items k None) (get_or l.places.items k None);
  rest : (k : ℕ) → l.place ≤ k → get_or l.places.items k None ≡ get_or l.initial.places.items k None;
}
