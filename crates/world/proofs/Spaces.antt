-- What steps leave of the room of blocks.
use Rattle.std.proofs.Common.{◌≡◌, ◌≢◌, ◌<◌, ◌+◌, ℕ, zero, suc, List, [], ◌∷◌, ◌++◌, Option, None, Some, Bool, false, true, refl, ap, sym, ◌∙◌, arith, inl, inr}
use Rattle.std.proofs.lemmas.Bool.{cases_eq}
use Rattle.std.proofs.Common.{length, replicate, slice_get, get_or, take}
use Rattle.std.proofs.Math.Seq.{get_or-append_seam, map-set_same, take-append_seam}
use Rattle.std.proofs.lemmas.List.{length-append, take_more}
use Rattle.base.specs.Extent.{Extent}
use Rattle.base.specs.Steps.{block_of}
use Rattle.base.specs.declared.step.Step.{Step}
use Rattle.tables.specs.Tables.{Tables}
use Rattle.machine.specs.Machine.{State, next, state_after}
use Rattle.machine.specs.Transition.{decision_of}
use Rattle.blocks.specs.View.{BlockView, Space, acts, acts_at_line}
use Rattle.world.specs.Keeping.{KeepsAsIs, KeepsOthers, NoneActsAt, NoneActsThere, acts_at, acts_there, has_line, is_acted_in, is_acted_on}
use Rattle.world.specs.Keeping.{is_line_acted_in, is_line_acted_on, keeps_line}
use Rattle.world.specs.View.{View, space_of, spaces_of, state_or, states}
use Rattle.world.specs.inner.Holding.{kept_at, OthersStay}
use Rattle.world.proofs.Keeping.{kept-other, space-at, state-there}

-- no block is kept, so none has room
pub none-kept : (ks : List (Option BlockView)) (n : ℕ) → ks ≡ replicate n None → spaces_of ks ≡ replicate n None
none-kept ks zero is = ap spaces_of is
none-kept ks (suc n) is = ap spaces_of is ∙ ap (λ xs. None ∷ xs) (none-kept (replicate n None) n refl)

-- a step at one block, whose room stays where no cell acts on it
pub kept-as-is : (shape : Extent) (tables : Tables) (values : List ℕ) (old ks : List (Option BlockView)) (tested : ℕ) (step : Step) (v : ℕ) (new : View) →
    Some v ≡ slice_get values (block_of step) → OthersStay (block_of step) old ks →
    (acts (decision_of tables step (state_or shape.caches v (kept_at old (block_of step)))) ≡ false →
    space_of (kept_at ks (block_of step)) ≡ space_of (kept_at old (block_of step))) →
    ((cache : ℕ) → acts_at_line (decision_of tables step (state_or shape.caches v (kept_at old (block_of step)))) cache ≡ false →
    has_line (space_of (kept_at ks (block_of step))) cache ≡ has_line (space_of (kept_at old (block_of step))) cache) → new.spaces ≡ spaces_of ks →
    KeepsAsIs (record {
      shape = shape;
      tables = tables;
      opening = values;
      state = record { blocks = states shape.caches values old; broken = false };
      spaces = spaces_of old;
      tested = tested;
    }) step new
kept-as-is shape tables values old ks tested step v new at others idle lines is = record {
  others = λ block other.
      ap (λ xs. get_or xs block None) is ∙ space-at ks block ∙ ap space_of (kept-other old ks (block_of step) block others other) ∙ sym (space-at old block);
  idle = λ none.
      let here = sym (ap (acts_at tables step) (state-there shape.caches values old (block_of step) v at)) ∙ none in
      is ∙ ap spaces_of others.items ∙ map-set_same space_of old (block_of step) (kept_at ks (block_of step)) None (idle here);
  lines = λ cache none.
      let here = sym (ap (acts_there tables step cache) (state-there shape.caches values old (block_of step) v at)) ∙ none in
      ap (λ xs. has_line (get_or xs (block_of step) None) cache) is ∙ ap (λ o. has_line o cache) (space-at ks (block_of step)) ∙ lines cache here
      ∙ ap (λ o. has_line o cache) (sym (space-at old (block_of step)));
}

not-kept : (o : Option BlockView) → space_of o ≡ None → o ≡ None
not-kept None none = refl
not-kept (Some k) none = absurd (cc none)

-- no block is kept but where one was
pub keeps-no-other : (old ks : List (Option BlockView)) (block : ℕ) → ((at : ℕ) → kept_at old at ≡ None → kept_at ks at ≡ None) →
    get_or (spaces_of old) block None ≡ None → get_or (spaces_of ks) block None ≡ None
keeps-no-other old ks block none before =
    space-at ks block ∙ ap space_of (none block (not-kept (kept_at old block) (sym (space-at old block) ∙ before)))

by-cases : {X : Type 0} (b : Bool) → (b ≡ true → X) → (b ≡ false → X) → X
by-cases true on off = on refl
by-cases false on off = off refl

-- where a cell acts on one of these steps in its turn, that is of another block
acts-elsewhere : (tables : Tables) (s : State) (block : ℕ) (steps : List Step) (i : ℕ) (d : Step) → i < length steps → NoneActsAt tables s block steps →
    is_acted_in tables (state_after tables s (take i steps)) (get_or steps i d) ≡ true → block ≢ block_of (get_or steps i d)
acts-elsewhere tables s block [] i d low none acted = absurd (omega (arith, low))
acts-elsewhere tables s block (step ∷ steps) zero d low none acted = none.0 acted
acts-elsewhere tables s block (step ∷ steps) (suc i) d low none acted =
    acts-elsewhere tables (next tables s step).state block steps i d (omega (arith, low)) none.1 acted

-- the same of a cell at the line of a cache
acts-on-others : (tables : Tables) (s : State) (block cache : ℕ) (steps : List Step) (i : ℕ) (d : Step) → i < length steps →
    NoneActsThere tables s block cache steps → is_line_acted_in tables (state_after tables s (take i steps)) (get_or steps i d) cache ≡ true →
    block ≢ block_of (get_or steps i d)
acts-on-others tables s block cache [] i d low none acted = absurd (omega (arith, low))
acts-on-others tables s block cache (step ∷ steps) zero d low none acted = none.0 acted
acts-on-others tables s block cache (step ∷ steps) (suc i) d low none acted =
    acts-on-others tables (next tables s step).state block cache steps i d (omega (arith, low)) none.1 acted

-- one more step of a run, of which a cell acts on none at some blocks, and at some lines
pub keeps-more : (old mid new : View) (steps : List Step) (i : ℕ) (step d : Step) → i < length steps → step ≡ get_or steps i d →
    mid.state ≡ state_after old.tables old.state (take i steps) → mid.tables ≡ old.tables →
    KeepsOthers old steps mid → KeepsAsIs mid step new → KeepsOthers old steps new
keeps-more old mid new steps i step d low at state tables so_far keeps = record {
  blocks = λ block none.
      let acted-at : is_acted_on mid step ≡ is_acted_in old.tables (state_after old.tables old.state (take i steps)) (get_or steps i d) =
      rw at (rw state (rw tables refl)) in
      by-cases (is_acted_on mid step)
      (λ acted. keeps.others block (rw at (acts-elsewhere old.tables old.state block steps i d low none (sym acted-at ∙ acted))) ∙ so_far.blocks block none)
      (λ idle. ap (λ xs. get_or xs block None) (keeps.idle idle) ∙ so_far.blocks block none);
  lines = λ block cache none.
      let acted-at : is_line_acted_on mid step cache
      ≡ is_line_acted_in old.tables (state_after old.tables old.state (take i steps)) (get_or steps i d) cache =
      rw at (rw state (rw tables refl)) in
      by-cases (is_line_acted_on mid step cache)
      (λ acted. elsewhere block cache (rw at (acts-on-others old.tables old.state block cache steps i d low none (sym acted-at ∙ acted)))
      ∙ so_far.lines block cache none)
      (λ idle. elim (cases_eq block (block_of step)) [
        | inl same ↦ rw same (keeps.lines cache idle) ∙ so_far.lines block cache none
        | inr other ↦ elsewhere block cache other ∙ so_far.lines block cache none
      ]);
}
  where
    elsewhere : (block cache : ℕ) → block ≢ block_of step → keeps_line new block cache ≡ keeps_line mid block cache
    elsewhere block cache other = ap (λ (o : Option Space). has_line o cache) (keeps.others block other)

-- of the first of some steps none acts at a block where none of all does, nor at a line
none-front : (tables : Tables) (s : State) (block : ℕ) (xs ys : List Step) → NoneActsAt tables s block (xs ++ ys) → NoneActsAt tables s block xs
none-front tables s block [] ys none = _
none-front tables s block (x ∷ xs) ys none = (none.0, none-front tables (next tables s x).state block xs ys none.1)

none-there-front : (tables : Tables) (s : State) (block cache : ℕ) (xs ys : List Step) → NoneActsThere tables s block cache (xs ++ ys) →
    NoneActsThere tables s block cache xs
none-there-front tables s block cache [] ys none = _
none-there-front tables s block cache (x ∷ xs) ys none = (none.0, none-there-front tables (next tables s x).state block cache xs ys none.1)

-- what a run kept as it was up to a step, it keeps so behind it
pub keeps-front : (old mid new : View) (steps : List Step) (i : ℕ) (step d : Step) → i < length steps → step ≡ get_or steps i d →
    mid.state ≡ state_after old.tables old.state (take i steps) → mid.tables ≡ old.tables →
    KeepsOthers old (take i steps) mid → KeepsAsIs mid step new → KeepsOthers old (take (i + 1) steps) new
keeps-front old mid new steps i step d low at state tables so_far keeps =
    let front : List Step = take i steps in
    let all : take (i + 1) steps ≡ front ++ step ∷ [] = take_more steps i d low ∙ ap (λ x. front ++ x ∷ []) (sym at) in
    rw all (keeps-more old mid new (front ++ step ∷ []) (length front) step step (omega (arith, length-append front (step ∷ [])))
    (sym (get_or-append_seam front step [] step))
    (rw (take-append_seam front (step ∷ [])) state) tables
    (record {
      blocks = λ block none. so_far.blocks block (none-front old.tables old.state block front (step ∷ []) none);
      lines = λ block cache none. so_far.lines block cache (none-there-front old.tables old.state block cache front (step ∷ []) none);
    }) keeps)
