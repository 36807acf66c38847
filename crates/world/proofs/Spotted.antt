-- Where rows of counts say that the k-th delivery is, there it is.
use Rattle.std.proofs.Common.{◌≡◌, ℕ, ◌-◌, ◌≤◌, List, Some, None, length, slice_get}
use Rattle.std.proofs.Common.{arith, subst}
use Rattle.rows.specs.Counts.{Finds}
use Rattle.tables.specs.Tables.{Tables}
use Rattle.machine.specs.Block.{BlockState}
use Rattle.world.specs.Enabled.{all_enabled}
use Rattle.world.specs.inner.Counts.{AreCounted}
use Rattle.blocks.specs.Marking.{marks_of, free_requests, free_heads, free_responses}
use Rattle.world.specs.declared.counts.DeliveryKind.{DeliveryKind}
use Rattle.world.specs.declared.counts.DeliveryKind.TheVariants.{Request, Head, Response}
use Rattle.world.specs.declared.counts.Spot.{Spot}
use Rattle.world.specs.inner.Counts.{all_in, count_before, row_of_kind, step_at, step_of_kind, FallsAt, FallsInRow, Rows}
use Rattle.world.proofs.Counted.{enabled-count, enabled-request-step, enabled-head-step, enabled-response-step, enabled-none, found-there}

module _ (tables : Tables) (bs : List BlockState) (rows : Rows) (counted : AreCounted tables bs rows.requests rows.heads rows.responses) where
  -- as many as are counted
  pub all-counted : length (all_enabled tables bs) ≡ all_in rows
  all-counted = enabled-count tables bs rows.requests rows.heads rows.responses counted

  -- the block of a spot is there
  kind-there : (k : ℕ) (kind : DeliveryKind) (block rest : ℕ) → FallsInRow (row_of_kind rows kind) (count_before rows kind) k block rest →
      (b : BlockState) × (slice_get bs block ≡ Some b)
  kind-there k Request block rest falls = found-there (free_requests tables) bs rows.requests _ block rest counted.of_requests falls.found
  kind-there k Head block rest falls = found-there (free_heads tables) bs rows.heads _ block rest counted.of_heads falls.found
  kind-there k Response block rest falls = found-there (free_responses tables) bs rows.responses _ block rest counted.of_responses falls.found

  pub spot-there : (k : ℕ) (spot : Spot) → FallsAt rows k spot → (b : BlockState) × (slice_get bs spot.block ≡ Some b)
  spot-there k spot falls = kind-there k spot.kind spot.block spot.rest falls

  -- the k-th is the step there
  kind-step : (k : ℕ) (kind : DeliveryKind) (block rest : ℕ) (b : BlockState) → FallsInRow (row_of_kind rows kind) (count_before rows kind) k block rest →
      slice_get bs block ≡ Some b → slice_get (all_enabled tables bs) k ≡ step_of_kind (marks_of tables b) kind block rest
  kind-step k Request block rest b falls there =
      let same : k - 0 ≡ k = omega arith in
      enabled-request-step tables bs rows.requests rows.heads rows.responses counted k block rest b
      (subst (λ (n : ℕ). Finds rows.requests n block rest) same falls.found) there (omega (arith, falls.within))
  kind-step k Head block rest b falls there =
      enabled-head-step tables bs rows.requests rows.heads rows.responses counted k (k - count_before rows Head) block rest b
      (omega (arith, falls.behind)) falls.found there (omega (arith, falls.behind, falls.within))
  kind-step k Response block rest b falls there =
      enabled-response-step tables bs rows.requests rows.heads rows.responses counted k (k - count_before rows Response) block rest b
      (omega (arith, falls.behind)) falls.found there

  pub spot-step : (k : ℕ) (spot : Spot) (b : BlockState) → FallsAt rows k spot → slice_get bs spot.block ≡ Some b →
      slice_get (all_enabled tables bs) k ≡ step_at (marks_of tables b) spot
  spot-step k spot b falls there = kind-step k spot.kind spot.block spot.rest b falls there

  -- beyond them all there is none
  pub spot-none : (k : ℕ) → all_in rows ≤ k → slice_get (all_enabled tables bs) k ≡ None
  spot-none k past = enabled-none tables bs rows.requests rows.heads rows.responses counted k past
