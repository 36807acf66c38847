-- What a step of one block makes of the world.
use Rattle.std.proofs.Common.{◌≡◌, ℕ, ◌+◌, ◌-◌, ◌^◌, ◌<◌, ◌≤◌, List, [], Option}
use Rattle.std.proofs.Common.{Some, None, Bool, false, inl, inr, refl, ap, sym, subst, ◌∙◌, arith}
use Rattle.std.proofs.Common.{length, get_or, set, slice_get}
use Rattle.std.proofs.lemmas.Option.{slice_get_within}
use Rattle.base.specs.Extent.{Extent}
use Rattle.base.specs.Steps.{block_of}
use Rattle.base.specs.declared.step.Step.{Step}
use Rattle.base.specs.declared.step.Outcome.{Outcome}
use Rattle.machine.specs.Block.{BlockState}
use Rattle.machine.specs.declared.made.Made.{Made}
use Rattle.machine.specs.Made.{made_at, made_in, made_of}
use Rattle.machine.specs.Machine.{State, is_blank, next, next_at, sent_at, sent_by}
use Rattle.tables.specs.Tables.{Tables}
use Rattle.machine.specs.Transition.{Transition, decision_of, messages_of, transition}
use Rattle.std.proofs.Math.Nat.{le-min, min-le_left, min-le_right}
use Rattle.std.specs.Option.{option_map_or}
use Rattle.network.specs.Traffic.{message_count}
use Rattle.world.specs.Messages.{messages_at, raised}
use Rattle.blocks.specs.View.{BlockView, moved_to}
use Rattle.world.specs.View.{View, IsShaped, HasRoomToStep, HasSpaceAt, HasSpaceIn, space_of, spaces_of, state_or, states, stepped, wakes, wakes_at}
use Rattle.world.specs.OneStep.{NeedsNoMemory}
use Rattle.world.specs.inner.AtBlock.{NeedsNoMemoryAt}
use Rattle.world.specs.inner.Counts.{AreCounted}
use Rattle.blocks.specs.Marking.{free_heads, free_requests, free_responses}
use Rattle.blocks.specs.declared.block.testing.Tested.{Tested}
use Rattle.world.specs.inner.Counts.{Rows}
use Rattle.world.specs.inner.Holding.{kept_at, SendsAndWakesNothing, IsWorld, OthersStay}
use Rattle.world.specs.inner.Tests.{counted, IsMarked}
use Rattle.world.specs.inner.Tests.{IsTested, tested_in}
use Rattle.world.proofs.Counted.{counted-set}
use Rattle.world.proofs.Keeping.{shaped-stepped, space-at, state-there, states-changed, states-stay, steps-at, world-changed}

-- a world whose blocks are kept so
abbrev pub state_of : Extent → List ℕ → List (Option BlockView) → Bool → State
state_of shape values ks broken = record { blocks = states shape.caches values ks; broken = broken }

abbrev pub view_of : Extent → Tables → List ℕ → List (Option BlockView) → Bool → ℕ → View
view_of shape tables values ks broken tested =
    record { shape = shape; tables = tables; opening = values; state = state_of shape values ks broken; spaces = spaces_of ks; tested = tested }

-- each block has a place
pub below-places : (shape : Extent) (tables : Tables) (values : List ℕ) (ks : List (Option BlockView)) (rows : Rows) (s : State) (i v : ℕ) →
    IsWorld shape tables values ks rows s → Some v ≡ slice_get values i → i < length ks
below-places shape tables values ks rows s i v h e = omega (arith, h.places, h.opening, slice_get_within values i v (sym e))

-- the room for a step is that of its block
pub room-at : (shape : Extent) (tables : Tables) (values : List ℕ) (ks : List (Option BlockView)) (tested : ℕ) (step : Step) (v : ℕ) →
    Some v ≡ slice_get values (block_of step) → HasRoomToStep (view_of shape tables values ks false tested) step →
    HasSpaceAt (decision_of tables step (state_or shape.caches v (kept_at ks (block_of step)))) (state_or shape.caches v (kept_at ks (block_of step)))
    (space_of (kept_at ks (block_of step)))
room-at shape tables values ks tested step v e h =
    let there = state-there shape.caches values ks (block_of step) v e in
    subst (λ s. HasSpaceIn tables step (Some (state_or shape.caches v (kept_at ks (block_of step)))) s) (space-at ks (block_of step))
    (subst (λ b. HasSpaceIn tables step b (get_or (spaces_of ks) (block_of step) None)) there (h refl))

pub room-back : (shape : Extent) (tables : Tables) (values : List ℕ) (ks : List (Option BlockView)) (broken : Bool) (tested : ℕ) (step : Step) (v : ℕ) →
    Some v ≡ slice_get values (block_of step) →
    HasSpaceAt (decision_of tables step (state_or shape.caches v (kept_at ks (block_of step)))) (state_or shape.caches v (kept_at ks (block_of step)))
    (space_of (kept_at ks (block_of step))) → HasRoomToStep (view_of shape tables values ks broken tested) step
room-back shape tables values ks broken tested step v e h whole =
    let there = state-there shape.caches values ks (block_of step) v e in
    subst (λ b. HasSpaceIn tables step b (get_or (spaces_of ks) (block_of step) None)) (sym there)
    (subst (λ s. HasSpaceIn tables step (Some (state_or shape.caches v (kept_at ks (block_of step)))) s) (sym (space-at ks (block_of step))) h)

-- so is what it wants
pub light-in : (shape : Extent) (tables : Tables) (values : List ℕ) (ks : List (Option BlockView)) (tested : ℕ) (step : Step) (v : ℕ) →
    Some v ≡ slice_get values (block_of step) → sent_by tables (state_of shape values ks false) step ≡ [] →
    wakes (view_of shape tables values ks false tested) step ≡ false → SendsAndWakesNothing tables step (state_or shape.caches v (kept_at ks (block_of step)))
light-in shape tables values ks tested step v e sends wakes =
    let there = state-there shape.caches values ks (block_of step) v e in
    record {
      sends = sym (ap (sent_at tables step) there) ∙ sends;
      wakes = sym (ap (wakes_at tables step) there) ∙ wakes;
    }

-- the next state
pub next-is : (shape : Extent) (tables : Tables) (values : List ℕ) (old new : List (Option BlockView)) (step : Step) (v : ℕ) (what : Outcome) →
    Some v ≡ slice_get values (block_of step) → block_of step < length old → OthersStay (block_of step) old new →
    transition tables step (state_or shape.caches v (kept_at old (block_of step))) ≡ moved_to (state_or shape.caches v (kept_at new (block_of step))) what →
    next tables (state_of shape values old false) step ≡ stepped (state_of shape values new (is_blank what)) what
next-is shape tables values old new step v what e lt others made =
    let there = state-there shape.caches values old (block_of step) v e in
    let changed = states-changed shape.caches values old new (block_of step) v e lt others in
    ap (next_at tables (state_of shape values old false) step) there
    ∙ ap (λ (t : Transition). record {
      state = record { blocks = set (states shape.caches values old) (block_of step) t.block; broken = is_blank t.outcome };
      outcome = t.outcome;
    }) made
    ∙ ap (λ (bs : List BlockState). stepped (record { blocks = bs; broken = is_blank what }) what) (sym changed)

-- what a block came to by what it tells
pub came-to : (tables : Tables) (step : Step) (b new : BlockState) (made : Made) → made ≡ made_at tables step b → (transition tables step b).block ≡ new →
    transition tables step b ≡ moved_to new made.outcome
came-to tables step b new made told state = λ i. record { block = state i; outcome = (ap (λ (m : Made). m.outcome) (sym told)) i }

-- what a step comes to is what it does at its block
pub made-is : (shape : Extent) (tables : Tables) (values : List ℕ) (ks : List (Option BlockView)) (step : Step) (v : ℕ) (made : Made) →
    Some v ≡ slice_get values (block_of step) → made ≡ made_at tables step (state_or shape.caches v (kept_at ks (block_of step))) →
    made ≡ made_of tables (state_of shape values ks false) step
made-is shape tables values ks step v made e is = is ∙ ap (made_in tables step) (sym (state-there shape.caches values ks (block_of step) v e))

-- the counts after the step
counted-stepped : (tables : Tables) (shape : Extent) (values : List ℕ) (old new : List (Option BlockView)) (rows : Rows) (i v : ℕ) (t : Option Tested) →
    AreCounted tables (states shape.caches values old) rows.requests rows.heads rows.responses → Some v ≡ slice_get values i → i < length old →
    OthersStay i old new → IsTested tables (state_or shape.caches v (kept_at old i)) (state_or shape.caches v (kept_at new i)) t →
    AreCounted tables (states shape.caches values new) (counted t i rows).requests (counted t i rows).heads (counted t i rows).responses
counted-stepped tables shape values old new rows i v None h e lt others same =
    subst (λ bs. AreCounted tables bs rows.requests rows.heads rows.responses) (sym (states-stay shape.caches values old new i v e lt others same)) h
counted-stepped tables shape values old new rows i v (Some t) h e lt others found =
    rw (found.requests, found.heads, found.responses)
    (subst (λ bs. AreCounted tables bs (set rows.requests i (free_requests tables (state_or shape.caches v (kept_at new i))))
    (set rows.heads i (free_heads tables (state_or shape.caches v (kept_at new i))))
    (set rows.responses i (free_responses tables (state_or shape.caches v (kept_at new i)))))
    (sym (states-changed shape.caches values old new i v e lt others))
    (counted-set tables (states shape.caches values old) rows.requests rows.heads rows.responses i (state_or shape.caches v (kept_at new i)) h))

-- a world still holds together after the step
pub world-stepped : (shape : Extent) (tables : Tables) (values : List ℕ) (old new : List (Option BlockView)) (rows : Rows) (step : Step) (v : ℕ)
    (what : Outcome) (t : Option Tested) (broken after : Bool) →
    IsWorld shape tables values old rows (state_of shape values old broken) → Some v ≡ slice_get values (block_of step) →
    OthersStay (block_of step) old new →
    transition tables step (state_or shape.caches v (kept_at old (block_of step))) ≡ moved_to (state_or shape.caches v (kept_at new (block_of step))) what →
    IsMarked tables (kept_at new (block_of step)) →
    IsTested tables (state_or shape.caches v (kept_at old (block_of step))) (state_or shape.caches v (kept_at new (block_of step))) t →
    IsWorld shape tables values new (counted t (block_of step) rows) (state_of shape values new after)
world-stepped shape tables values old new rows step v what t broken after h e others made marked tested =
    let i = block_of step in
    let lt = below-places shape tables values old rows _ i v h e in
    world-changed shape tables values old new rows (counted t i rows) _ _ i h others
    (shaped-stepped shape broken after tables step i (states shape.caches values old) (states shape.caches values new) what h.shaped
    (steps-at tables step shape.caches values old new i v what e lt others made))
    marked (counted-stepped tables shape values old new rows i v t h.counted e lt others tested)

-- and where its block is kept otherwise
pub world-stays : (shape : Extent) (tables : Tables) (values : List ℕ) (old new : List (Option BlockView)) (rows : Rows) (i v : ℕ) (broken : Bool) →
    IsWorld shape tables values old rows (state_of shape values old broken) → Some v ≡ slice_get values i → OthersStay i old new →
    state_or shape.caches v (kept_at new i) ≡ state_or shape.caches v (kept_at old i) → IsMarked tables (kept_at new i) →
    IsWorld shape tables values new rows (state_of shape values new broken)
world-stays shape tables values old new rows i v broken h e others same marked =
    let lt = below-places shape tables values old rows _ i v h e in
    let stay = sym (states-stay shape.caches values old new i v e lt others same) in
    world-changed shape tables values old new rows rows _ _ i h others
    (subst (λ (bs : List BlockState). IsShaped shape (record { blocks = bs; broken = broken })) stay h.shaped)
    marked
    (subst (λ bs. AreCounted tables bs rows.requests rows.heads rows.responses) stay h.counted)

-- a step that wants no memory wants none at its block
pub needs-in : (shape : Extent) (tables : Tables) (values : List ℕ) (ks : List (Option BlockView)) (tested : ℕ) (step : Step) (v : ℕ) →
    Some v ≡ slice_get values (block_of step) → NeedsNoMemory (view_of shape tables values ks false tested) step →
    NeedsNoMemoryAt tables shape.caches v (block_of step) step ks
needs-in shape tables values ks tested step v e (inl room) = inl (room-at shape tables values ks tested step v e room)
needs-in shape tables values ks tested step v e (inr light) = inr (light-in shape tables values ks tested step v e light.0 light.1)

-- the outcome of the next step
pub outcome-is : (shape : Extent) (tables : Tables) (values : List ℕ) (ks : List (Option BlockView)) (step : Step) (v : ℕ) →
    Some v ≡ slice_get values (block_of step) →
    (next tables (state_of shape values ks false) step).outcome
    ≡ (transition tables step (state_or shape.caches v (kept_at ks (block_of step)))).outcome
outcome-is shape tables values ks step v e =
    ap (λ b. (next_at tables (state_of shape values ks false) step b).outcome) (state-there shape.caches values ks (block_of step) v e)

raised-more : (count a b : ℕ) → a ≤ b → raised count a ≤ raised count b
raised-more count a b h =
    le-min (omega (arith, min-le_left (count + a) (2 ^ 64 - 1), h)) (min-le_right (count + a) (2 ^ 64 - 1))

-- as many messages are tested as are sent
pub tests-sent : (shape : Extent) (tables : Tables) (values : List ℕ) (ks : List (Option BlockView)) (step : Step) (v tested more : ℕ) →
    Some v ≡ slice_get values (block_of step) →
    length (messages_of (decision_of tables step (state_or shape.caches v (kept_at ks (block_of step))))
    (state_or shape.caches v (kept_at ks (block_of step)))) ≤ more →
    raised tested (length (sent_by tables (state_of shape values ks false) step)) ≤ raised tested more
tests-sent shape tables values ks step v tested more e h =
    let there = state-there shape.caches values ks (block_of step) v e in
    raised-more tested _ more (subst (λ b. length (sent_at tables step b) ≤ more) (sym there) h)

-- and no more than the block has
pub tests-block : (shape : Extent) (tables : Tables) (values : List ℕ) (new : List (Option BlockView)) (broken : Bool) (i v tested : ℕ) (old : BlockState)
    (t : Option Tested) → Some v ≡ slice_get values i → IsTested tables old (state_or shape.caches v (kept_at new i)) t →
    raised tested (tested_in t) ≤ raised tested (messages_at (state_of shape values new broken) i)
tests-block shape tables values new broken i v tested old t e h =
    let there = state-there shape.caches values new i v e in
    raised-more tested (tested_in t) _
    (subst (λ b. tested_in t ≤ option_map_or (λ (b : BlockState). message_count b.traffic) b 0) (sym there) (few t h))
  where
    few : (t : Option Tested) → IsTested tables old (state_or shape.caches v (kept_at new i)) t →
        tested_in t ≤ message_count (state_or shape.caches v (kept_at new i)).traffic
    few None h = omega arith
    few (Some t) h = omega (arith, h.messages)
