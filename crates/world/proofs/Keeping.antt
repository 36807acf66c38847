use Rattle.std.proofs.Common.{◌≡◌, ◌↔◌, ℕ, ◌<◌, List, [], ◌∷◌, length, get_or, map, replicate}
use Rattle.std.proofs.Common.{set, refl, ap, sym, ◌∙◌, Option, None, Some, IsSome, zero, suc}
use Rattle.std.proofs.Common.{◌≢◌, arith, inl, inr, subst, Bool, false, slice_get, slice_set}
use Rattle.std.specs.Prelude.{option_and_then}
use Rattle.base.specs.Extent.{Extent, IsWithinLimits}
use Rattle.std.proofs.lemmas.Bool.{cases_eq}
use Rattle.std.proofs.lemmas.List.{get_or-set_other, length-set, length-map, length-replicate}
use Rattle.std.specs.Option.{option_map}
use Rattle.base.specs.declared.step.Step.{Step}
use Rattle.base.specs.declared.step.Outcome.{Outcome}
use Rattle.control.specs.LineEffect.{opened_line}
use Rattle.tables.specs.Tables.{Tables}
use Rattle.machine.specs.Block.{BlockState, opened_block}
use Rattle.machine.specs.Transition.{Transition, decision_of, transition}
use Rattle.machine.specs.Machine.{State}
use Rattle.machine.specs.Coherence.{line_at}
use Rattle.machine.proofs.Whole.{lines-carried_out}
use Rattle.blocks.specs.View.{BlockView, moved_to}
use Rattle.world.specs.View.{AllLined, IsShaped, space_of, spaces_of, state_or, states}
use Rattle.world.specs.inner.Counts.{AreCounted, Rows, none_counted}
use Rattle.world.specs.inner.Holding.{kept_at, IsWorld, OthersStay}
use Rattle.world.specs.inner.Tests.{IsMarked}
use Rattle.world.proofs.QuietMarks.{counted-opened}

-- the block of a number has made this step, and the others are as they were
pub record StepsAt (tables : Tables) (step : Step) (number : ℕ) (old new : List BlockState) (what : Outcome) : Type 0 where
  pub made : (b : BlockState) × (slice_get old number ≡ Some b) × (new ≡ slice_set old number (transition tables step b).block)
      × (what ≡ (transition tables step b).outcome)

-- there is a state for each opening value
pub states-length : (caches : ℕ) (values : List ℕ) (ks : List (Option BlockView)) → length (states caches values ks) ≡ length values
states-length caches [] ks = refl
states-length caches (v ∷ values) [] = ap suc (states-length caches values [])
states-length caches (v ∷ values) (k ∷ ks) = ap suc (states-length caches values ks)

-- the state of a block, by its opening value and what is kept of it
pub state-at : (caches : ℕ) (values : List ℕ) (ks : List (Option BlockView)) (i : ℕ) →
    slice_get (states caches values ks) i ≡ option_map (λ v. state_or caches v (kept_at ks i)) (slice_get values i)
state-at caches [] ks i = refl
state-at caches (v ∷ values) [] zero = refl
state-at caches (v ∷ values) [] (suc i) = state-at caches values [] i
state-at caches (v ∷ values) (k ∷ ks) zero = refl
state-at caches (v ∷ values) (k ∷ ks) (suc i) = state-at caches values ks i

-- where the opening value is known
pub state-there : (caches : ℕ) (values : List ℕ) (ks : List (Option BlockView)) (i v : ℕ) → Some v ≡ slice_get values i →
    slice_get (states caches values ks) i ≡ Some (state_or caches v (kept_at ks i))
state-there caches values ks i v e = state-at caches values ks i ∙ ap (option_map (λ w. state_or caches w (kept_at ks i))) (sym e)

-- the room of a block, if it is kept
pub space-at : (ks : List (Option BlockView)) (i : ℕ) → get_or (spaces_of ks) i None ≡ space_of (kept_at ks i)
space-at [] i = refl
space-at (k ∷ ks) zero = refl
space-at (k ∷ ks) (suc i) = space-at ks i

states-set : (caches : ℕ) (values : List ℕ) (ks : List (Option BlockView)) (i v : ℕ) (k : Option BlockView) → Some v ≡ slice_get values i → i < length ks →
    states caches values (set ks i k) ≡ set (states caches values ks) i (state_or caches v k)
states-set caches [] ks i v k e lt = absurd (cc e)
states-set caches (w ∷ values) [] i v k e lt = absurd (omega arith)
states-set caches (w ∷ values) (x ∷ ks) zero v k e lt = let same : v ≡ w = cc e in ap (λ u. state_or caches u k ∷ states caches values ks) (sym same)
states-set caches (w ∷ values) (x ∷ ks) (suc i) v k e lt = ap (λ bs. state_or caches w x ∷ bs) (states-set caches values ks i v k e (omega arith))

-- one block has changed
pub states-changed : (caches : ℕ) (values : List ℕ) (old new : List (Option BlockView)) (i v : ℕ) → Some v ≡ slice_get values i → i < length old →
    OthersStay i old new → states caches values new ≡ set (states caches values old) i (state_or caches v (kept_at new i))
states-changed caches values old new i v e lt h = ap (states caches values) h.items ∙ states-set caches values old i v (kept_at new i) e lt

set-same : {X : Type 0} (xs : List X) (i : ℕ) (x : X) → slice_get xs i ≡ Some x → set xs i x ≡ xs
set-same [] i x e = refl
set-same (y ∷ ys) zero x e = let s : y ≡ x = cc e in ap (λ z. z ∷ ys) (sym s)
set-same (y ∷ ys) (suc i) x e = ap (λ zs. y ∷ zs) (set-same ys i x e)

-- a block is kept otherwise, in the same state
pub states-stay : (caches : ℕ) (values : List ℕ) (old new : List (Option BlockView)) (i v : ℕ) → Some v ≡ slice_get values i → i < length old →
    OthersStay i old new → state_or caches v (kept_at new i) ≡ state_or caches v (kept_at old i) → states caches values new ≡ states caches values old
states-stay caches values old new i v e lt h same =
    states-changed caches values old new i v e lt h
    ∙ set-same (states caches values old) i _ (state-there caches values old i v e ∙ ap (λ b. Some b) (sym same))

-- a block has made a step
pub steps-at : (tables : Tables) (step : Step) (caches : ℕ) (values : List ℕ) (old new : List (Option BlockView)) (i v : ℕ) (what : Outcome) →
    Some v ≡ slice_get values i → i < length old → OthersStay i old new →
    transition tables step (state_or caches v (kept_at old i)) ≡ moved_to (state_or caches v (kept_at new i)) what →
    StepsAt tables step i (states caches values old) (states caches values new) what
steps-at tables step caches values old new i v what e lt h made = record {
  made = (
    state_or caches v (kept_at old i),
    state-there caches values old i v e,
    states-changed caches values old new i v e lt h
        ∙ ap (λ (t : Transition). set (states caches values old) i t.block) (sym made),
    ap (λ (t : Transition). t.outcome) (sym made),
  );
}

AllLined-set : (n : ℕ) (bs : List BlockState) (i : ℕ) (b new : BlockState) → AllLined n bs → slice_get bs i ≡ Some b →
    length new.lines ≡ length b.lines → AllLined n (slice_set bs i new)
AllLined-set n [] i b new h e same = tt
AllLined-set n (x ∷ bs) zero b new h e same =
    let found : x ≡ b = cc in
    (same ∙ ap (λ (c : BlockState). length c.lines) (sym found) ∙ h.0, h.1)
AllLined-set n (x ∷ bs) (suc i) b new h e same = (h.0, AllLined-set n bs i b new h.1 e same)

-- a step leaves the blocks and the lines of the shape
pub shaped-stepped : (shape : Extent) (broken after : Bool) (tables : Tables) (step : Step) (number : ℕ) (old new : List BlockState) (what : Outcome) →
    IsShaped shape (record { blocks = old; broken = broken }) → StepsAt tables step number old new what →
    IsShaped shape (record { blocks = new; broken = after })
shaped-stepped shape broken after tables step number old new what h made =
    let b : BlockState = made.made.0 in
    let moved : BlockState = (transition tables step b).block in
    let kept : length moved.lines ≡ length b.lines = lines-carried_out (decision_of tables step b) b in
    rw made.made.2 (record {
      within = h.within;
      blocks = length-set old number moved ∙ h.blocks;
      lines = AllLined-set shape.caches old number b moved h.lines made.made.1 kept;
    })

AllLined-opened : (n : ℕ) (values : List ℕ) → AllLined n (map (opened_block n) values)
AllLined-opened n [] = tt
AllLined-opened n (v ∷ values) = (length-replicate n opened_line, AllLined-opened n values)

-- an opened world has its shape
pub shaped-opened : (shape : Extent) (values : List ℕ) (broken : Bool) → IsWithinLimits shape → length values ≡ shape.blocks →
    IsShaped shape (record { blocks = map (opened_block shape.caches) values; broken = broken })
shaped-opened shape values broken within e = record {
  within = within;
  blocks = length-map values (opened_block shape.caches) ∙ e;
  lines = AllLined-opened shape.caches values;
}

pub slice_get-some : {X : Type 0} (xs : List X) (i : ℕ) → i < length xs → IsSome (slice_get xs i)
slice_get-some [] i h = absurd (omega arith)
slice_get-some (x ∷ xs) zero h = refl
slice_get-some (x ∷ xs) (suc i) h = slice_get-some xs i (omega arith)

slice_get-below : {X : Type 0} (xs : List X) (i : ℕ) → IsSome (slice_get xs i) → i < length xs
slice_get-below [] i h = absurd (cc)
slice_get-below (x ∷ xs) zero h = omega arith
slice_get-below (x ∷ xs) (suc i) h = omega (arith, slice_get-below xs i h)

-- a line is there exactly where its cache and its block are
line-there : (n : ℕ) (bs : List BlockState) (c k : ℕ) → AllLined n bs → k < length bs → c < n →
    IsSome (option_and_then (λ b. slice_get b.lines c) (slice_get bs k))
line-there n [] c k h lt l = absurd (omega arith)
line-there n (b ∷ bs) c zero h lt l = slice_get-some b.lines c (omega (arith, h.0))
line-there n (b ∷ bs) c (suc k) h lt l = line-there n bs c k h.1 (omega arith) l

there-line : (n : ℕ) (bs : List BlockState) (c k : ℕ) → AllLined n bs → IsSome (option_and_then (λ b. slice_get b.lines c) (slice_get bs k)) →
    (c < n) × (k < length bs)
there-line n [] c k h s = absurd (cc)
there-line n (b ∷ bs) c zero h s = (omega (arith, h.0, slice_get-below b.lines c s), omega arith)
there-line n (b ∷ bs) c (suc k) h s = let r : (c < n) × (k < length bs) = there-line n bs c k h.1 s in (r.0, omega (arith, r.1))

pub line-there-iff : (shape : Extent) (state : State) (c k : ℕ) → IsShaped shape state
    → IsSome (line_at state c k) ↔ ((c < shape.caches) × (k < shape.blocks))
line-there-iff shape state c k h = (
  λ s. let r : (c < shape.caches) × (k < length state.blocks) = there-line shape.caches state.blocks c k h.lines s in (r.0, omega (arith, r.1, h.blocks)),
  λ p. line-there shape.caches state.blocks c k h.lines (omega (arith, p.1, h.blocks)) p.0,
)

-- the other blocks are kept as they were
pub kept-other : (old new : List (Option BlockView)) (i k : ℕ) → OthersStay i old new → k ≢ i → kept_at new k ≡ kept_at old k
kept-other old new i k h other = ap (λ ks. kept_at ks k) h.items ∙ get_or-set_other old i k (kept_at new i) None other

-- a world still holds together where at most one block is kept otherwise, in a state of the shape, with true marks and counts
pub world-changed : (shape : Extent) (tables : Tables) (values : List ℕ) (old new : List (Option BlockView)) (rows now : Rows) (before after : State) (i : ℕ) →
    IsWorld shape tables values old rows before → OthersStay i old new → IsShaped shape after → IsMarked tables (kept_at new i) →
    AreCounted tables after.blocks now.requests now.heads now.responses → IsWorld shape tables values new now after
world-changed shape tables values old new rows now before after i h others shaped marked counted = record {
  shaped = shaped;
  opening = h.opening;
  places = ap length others.items ∙ length-set old i (kept_at new i) ∙ h.places;
  marked = λ k. elim (cases_eq k i) [
    | inl same ↦ subst (λ j. IsMarked tables (kept_at new j)) (sym same) marked
    | inr other ↦ subst (IsMarked tables) (sym (kept-other old new i k others other)) (h.marked k)
  ];
  counted = counted;
}

none-at : (n i : ℕ) → kept_at (replicate n None) i ≡ None
none-at zero zero = refl
none-at zero (suc i) = refl
none-at (suc n) zero = refl
none-at (suc n) (suc i) = none-at n i

none-kept : (caches : ℕ) (values : List ℕ) (n : ℕ) → states caches values (replicate n None) ≡ map (opened_block caches) values
none-kept caches [] n = refl
none-kept caches (v ∷ values) zero = ap (λ bs. opened_block caches v ∷ bs) (none-kept caches values zero)
none-kept caches (v ∷ values) (suc n) = ap (λ bs. opened_block caches v ∷ bs) (none-kept caches values n)

-- nothing is kept in a world that opens
pub states-opened : (caches : ℕ) (values : List ℕ) (ks : List (Option BlockView)) (n : ℕ) → ks ≡ replicate n None →
    states caches values ks ≡ map (opened_block caches) values
states-opened caches values ks n e = ap (states caches values) e ∙ none-kept caches values n

pub world-opened : (shape : Extent) (tables : Tables) (values : List ℕ) (ks : List (Option BlockView)) (rows : Rows) → IsWithinLimits shape →
    length values ≡ shape.blocks → ks ≡ replicate shape.blocks None → rows ≡ none_counted shape.blocks →
    IsWorld shape tables values ks rows (record { blocks = states shape.caches values ks; broken = false })
world-opened shape tables values ks rows within e none counts =
    let opened = states-opened shape.caches values ks shape.blocks none in
    record {
      shaped = subst (λ (bs : List BlockState). IsShaped shape (record { blocks = bs; broken = false })) (sym opened)
          (shaped-opened shape values false within e);
      opening = e;
      places = ap length none ∙ length-replicate shape.blocks None;
      marked = λ i. subst (IsMarked tables) (sym (ap (λ os. kept_at os i) none ∙ none-at shape.blocks i)) tt;
      counted =
          rw counts
          (subst (λ (bs : List BlockState). AreCounted tables bs (replicate shape.blocks 0) (replicate shape.blocks 0) (replicate shape.blocks 0)) (sym opened)
          (counted-opened tables shape.caches shape.blocks values e));
    }

-- a block that is kept
pub found-kept : (caches : ℕ) (values : List ℕ) (ks : List (Option BlockView)) (i v : ℕ) (k : BlockView) → Some v ≡ slice_get values i
    → Some k ≡ kept_at ks i →
    Some k.state ≡ slice_get (states caches values ks) i
found-kept caches values ks i v k e at =
    ap (λ o. Some (state_or caches v o)) at ∙ sym (state-there caches values ks i v e)

-- one that isn't
pub found-opened : (caches : ℕ) (values : List ℕ) (ks : List (Option BlockView)) (i v : ℕ) → Some v ≡ slice_get values i → None ≡ kept_at ks i →
    Some (opened_block caches v) ≡ slice_get (states caches values ks) i
found-opened caches values ks i v e at =
    ap (λ o. Some (state_or caches v o)) at ∙ sym (state-there caches values ks i v e)

-- one that isn't in the shape
pub found-none : (caches : ℕ) (values : List ℕ) (ks : List (Option BlockView)) (i : ℕ) → None ≡ slice_get values i →
    None ≡ slice_get (states caches values ks) i
found-none caches values ks i e = sym (state-at caches values ks i ∙ ap (option_map (λ v. state_or caches v (kept_at ks i))) (sym e))
