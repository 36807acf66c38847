-- The delivery at a spot of the counts is the one that is listed there.
use Rattle.std.proofs.Common.{◌≡◌, ℕ, ◌+◌, ◌<◌, List, [], ◌∷◌, ◌++◌, Option, Some, None, refl, ap, sym, ◌∙◌, zero, suc}
use Rattle.std.proofs.Common.{length, map, replicate, get_or, slice_get, slice_index_or, take, inl, inr, arith}
use Rattle.std.proofs.lemmas.List.{take_more, length-map, get_or-map, get_or_past}
use Rattle.std.proofs.lemmas.Bool.{cases_lt}
use Rattle.std.proofs.lemmas.Option.{get_or_from_slice_get, slice_get_past}
use Rattle.base.specs.declared.ids.BlockId.{BlockId}
use Rattle.base.specs.declared.step.Step.{Step}
use Rattle.base.specs.Extent.{Extent}
use Rattle.network.specs.Marks.{no_marks}
use Rattle.tables.specs.Tables.{Tables}
use Rattle.machine.specs.Block.{BlockState, opened_block}
use Rattle.machine.specs.Machine.{State}
use Rattle.world.specs.Enabled.{all_enabled, enabled_at_block, kind_enabled, kind_found}
use Rattle.blocks.specs.View.{BlockView}
use Rattle.blocks.specs.Marking.{marks_of, free_requests, free_heads, free_responses}
use Rattle.network.specs.Marks.{is_stopped, unmarked}
use Rattle.world.specs.View.{state_or, states}
use Rattle.world.specs.declared.counts.DeliveryKind.{DeliveryKind}
use Rattle.world.specs.declared.counts.DeliveryKind.TheVariants.{Request, Head, Response}
use Rattle.world.specs.declared.counts.Spot.{Spot}
use Rattle.world.specs.inner.Counts.{row_of_kind, step_at, step_in, step_of_kind, AreCounted, FallsAt, Rows}
use Rattle.world.specs.inner.Holding.{kept_at, IsWorld}
use Rattle.world.specs.inner.Tests.{IsMarked}
use Rattle.world.proofs.Counted.{block-there}
use Rattle.world.proofs.Marking.{requests-count, heads-count, responses-count, requests-kth, heads-kth, responses-kth}
use Rattle.world.proofs.QuietMarks.{marks-quiet}
use Rattle.world.proofs.Spotted.{spot-step, spot-there}

-- the state of a block that is there
state-found : (caches : ℕ) (values : List ℕ) (ks : List (Option BlockView)) (i : ℕ) (b : BlockState) → slice_get (states caches values ks) i ≡ Some b →
    (v : ℕ) × (b ≡ state_or caches v (kept_at ks i))
state-found caches [] ks i b e = absurd (cc e)
state-found caches (v ∷ values) [] zero b e = (v, (let s : opened_block caches v ≡ b = cc e in sym s))
state-found caches (v ∷ values) [] (suc i) b e = state-found caches values [] i b e
state-found caches (v ∷ values) (k ∷ ks) zero b e = (v, (let s : state_or caches v k ≡ b = cc e in sym s))
state-found caches (v ∷ values) (k ∷ ks) (suc i) b e = state-found caches values ks i b e

no-heads : (n i : ℕ) → unmarked i (map is_stopped (replicate n [])) ≡ []
no-heads zero i = refl
no-heads (suc n) i = no-heads n (i + 1)

-- a block that nothing has happened to delivers nothing
none-step : (n : ℕ) (kind : DeliveryKind) (block rest : ℕ) → None ≡ step_of_kind (no_marks n) kind block rest
none-step n Request block rest = refl
none-step n Head block rest = rw (no-heads n 0) refl
none-step n Response block rest = refl

step-in : (tables : Tables) (caches v : ℕ) (spot : Spot) (k : Option BlockView) → IsMarked tables k →
    step_in spot k ≡ step_at (marks_of tables (state_or caches v k)) spot
step-in tables caches v spot None m =
    none-step caches spot.kind spot.block spot.rest
    ∙ ap (λ marks. step_at marks spot) (sym (marks-quiet tables (opened_block caches v) caches refl))
step-in tables caches v spot (Some k) m = ap (λ marks. step_at marks spot) m

-- the delivery where the k-th of all falls
pub delivery-right : (shape : Extent) (tables : Tables) (values : List ℕ) (ks : List (Option BlockView)) (rows : Rows) (s : State) (k : ℕ) (spot : Spot) →
    IsWorld shape tables values ks rows s → s.blocks ≡ states shape.caches values ks → FallsAt rows k spot →
    step_in spot (kept_at ks spot.block) ≡ slice_get (all_enabled tables s.blocks) k
delivery-right shape tables values ks rows s k spot h blocks falls =
    let there = spot-there tables s.blocks rows h.counted k spot falls in
    let found = state-found shape.caches values ks spot.block there.0 (ap (λ bs. slice_get bs spot.block) (sym blocks) ∙ there.1) in
    step-in tables shape.caches found.0 spot (kept_at ks spot.block) (h.marked spot.block)
    ∙ ap (λ (b : BlockState). step_at (marks_of tables b) spot) (sym found.1)
    ∙ sym (spot-step tables s.blocks rows h.counted k spot there.0 falls there.1)

-- the step at a spot of a block is one of those of its kind
kind-kth : (tables : Tables) (kind : DeliveryKind) (n k : ℕ) (b : BlockState) →
    step_of_kind (marks_of tables b) kind n k ≡ slice_get (kind_enabled tables kind (record { 0 = n }) b) k
kind-kth tables Request n k b = sym (requests-kth tables (record { 0 = n }) b k)
kind-kth tables Head n k b = sym (heads-kth tables (record { 0 = n }) b k)
kind-kth tables Response n k b = sym (responses-kth tables (record { 0 = n }) b k)

pub delivery-of : (shape : Extent) (tables : Tables) (values : List ℕ) (ks : List (Option BlockView)) (rows : Rows) (s : State) (spot : Spot) →
    IsWorld shape tables values ks rows s → s.blocks ≡ states shape.caches values ks →
    step_in spot (kept_at ks spot.block) ≡ slice_get (enabled_at_block tables spot.kind s (record { 0 = spot.block })) spot.rest
delivery-of shape tables values ks rows s spot h blocks =
    elim (cases_lt spot.block (length s.blocks)) [
      | inl inside ↦
          let there = block-there s.blocks spot.block inside in
          let found = state-found shape.caches values ks spot.block there.0 (ap (λ bs. slice_get bs spot.block) (sym blocks) ∙ there.1) in
          step-in tables shape.caches found.0 spot (kept_at ks spot.block) (h.marked spot.block)
          ∙ ap (λ (b : BlockState). step_at (marks_of tables b) spot) (sym found.1)
          ∙ kind-kth tables spot.kind spot.block spot.rest there.0
          ∙ ap (λ o. slice_get (kind_found tables spot.kind (record { 0 = spot.block }) o) spot.rest) (sym there.1)
      | inr past ↦
          let none : kept_at ks spot.block ≡ None = get_or_past ks spot.block None (omega (arith, past, h.places, h.shaped.blocks)) in
          ap (λ k. step_in spot k) none
          ∙ ap (λ o. slice_get (kind_found tables spot.kind (record { 0 = spot.block }) o) spot.rest) (sym (slice_get_past s.blocks spot.block past))
    ]

-- a row has of each block how many it delivers of a kind
row-of : (tables : Tables) (kind : DeliveryKind) (count : BlockState → ℕ) →
    ((block : BlockId) (b : BlockState) → length (kind_enabled tables kind block b) ≡ count b) →
    (bs : List BlockState) (numbers : List ℕ) (n : ℕ) → numbers ≡ map count bs →
    slice_index_or numbers n 0 ≡ length (kind_found tables kind (record { 0 = n }) (slice_get bs n))
row-of tables kind count counts bs numbers n e =
    elim (cases_lt n (length bs)) [
      | inl inside ↦
          let there = block-there bs n inside in
          ap (λ ns. get_or ns n 0) e ∙ get_or-map count bs n there.0 0 inside
          ∙ ap count (get_or_from_slice_get bs n there.0 there.0 there.1)
          ∙ sym (counts (record { 0 = n }) there.0)
          ∙ ap (λ o. length (kind_found tables kind (record { 0 = n }) o)) (sym there.1)
      | inr past ↦
          let l : length numbers ≡ length bs = ap length e ∙ length-map bs count in
          get_or_past numbers n 0 (omega (arith, l, past))
          ∙ ap (λ o. length (kind_found tables kind (record { 0 = n }) o)) (sym (slice_get_past bs n past))
    ]

pub count-of : (tables : Tables) (bs : List BlockState) (rows : Rows) (kind : DeliveryKind) (n : ℕ) →
    AreCounted tables bs rows.requests rows.heads rows.responses →
    slice_index_or (row_of_kind rows kind) n 0 ≡ length (kind_found tables kind (record { 0 = n }) (slice_get bs n))
count-of tables bs rows Request n h = row-of tables Request (free_requests tables) (requests-count tables) bs rows.requests n h.of_requests
count-of tables bs rows Head n h = row-of tables Head (free_heads tables) (heads-count tables) bs rows.heads n h.of_heads
count-of tables bs rows Response n h = row-of tables Response (free_responses tables) (responses-count tables) bs rows.responses n h.of_responses

-- one more of a list
pub taken-more : (all so_far now : List Step) (k : ℕ) (s : Step) → k < length all → so_far ≡ take k all → Some s ≡ slice_get all k →
    now ≡ so_far ++ s ∷ [] → now ≡ take (k + 1) all
taken-more all so_far now k s lt h e grown =
    grown ∙ ap (λ xs. xs ++ s ∷ []) h
    ∙ ap (λ x. take k all ++ x ∷ []) (sym (get_or_from_slice_get all k s s (sym e)))
    ∙ sym (take_more all k s lt)
