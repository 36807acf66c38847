use Rattle.std.proofs.Common.{◌≡◌, ◌≢◌, ◌⊎◌, ◌<◌, ℕ, length, map, get_or}
use Rattle.schedule.specs.Listed.{nothing_listed}
use Rattle.lanes.specs.inner.Changes.{count_by}
use Rattle.lanes.proofs.lanes.changing.count_each.Given as goal

abbrev pub invariant-loop-number : goal.invariant-loop-number
invariant-loop-number g l =
    (length l.ready ≡ length l.initial.ready)
    × ((lane : ℕ) → lane < length l.lanes →
    (get_or l.ready lane 0 ≡ count_by l.cores (get_or (map (λ x. x.asks) l.lanes) lane nothing_listed))
    ⊎ ((get_or l.ready lane 0 ≡ get_or l.initial.ready lane 0) × ((k : ℕ) → k < l.number-index → get_or l.which k 0 ≢ lane)))
