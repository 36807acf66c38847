-- One writer or many readers of a block: kept by a step that shows no violation.
use Rattle.std.proofs.Common.{◌≡◌, ◌≢◌, ◌⊎◌, inl, inr, ℕ, zero, suc, ◌<◌, Bool}
use Rattle.std.proofs.Common.{true, false, List, [], ◌∷◌, length, Option, Some, None, IsTrue}
use Rattle.std.proofs.Common.{slice_get, slice_set, refl, sym, ap, ◌∙◌, subst, arith}
use Rattle.std.proofs.lemmas.Bool.{cases_eq}
use Rattle.std.specs.Prelude.{if◌then◌else◌}
use Rattle.std.specs.Option.{option_and_then, IsSomeAnd}
use Rattle.base.specs.Steps.{block_of}
use Rattle.base.specs.declared.step.Step.{Step}
use Rattle.base.specs.declared.step.Outcome.TheVariants as outcome
use Rattle.control.specs.LineEffect.{is_reader, is_writer, line_completes}
use Rattle.cache_table.specs.declared.state.CacheState.{CacheState}
use Rattle.cache_table.specs.declared.state.CacheState.TheVariants as state
use Rattle.machine.specs.declared.decision.Decision.{Decision}
use Rattle.machine.specs.declared.decision.Decision.TheVariants.{Refused, AtLine, AtHome}
use Rattle.machine.specs.declared.decision.Origin.{Origin}
use Rattle.machine.specs.declared.decision.Origin.TheVariants as origin
use Rattle.control.specs.declared.line.LineCompletion.TheVariants as done
use Rattle.machine.specs.Block.{BlockState}
use Rattle.tables.specs.Tables.{Tables}
use Rattle.machine.specs.Transition.{carried_out, decision_of, outcome_of, plain_outcome, transition}
use Rattle.machine.specs.Machine.{State, Next, next, next_at}
use Rattle.machine.specs.Coherence.{Reads, Writes, line_at}
use Rattle.monitor.specs.declared.violation.Violation.TheVariants.{WriterBesideReader}
use Rattle.monitor.specs.Scenes.{Scene, HasNone, IsLeast, IsLookedAt}
use Rattle.monitor.specs.Watching.{scene_of}

-- ---- the least number for which a fact holds

find-below : (P : ℕ → Type 0) → ((n : ℕ) → P n ⊎ ¬ P n) → (k : ℕ) → ((m : ℕ) × IsLeast P m) ⊎ ((m : ℕ) → m < k → ¬ P m)
find-below P decide zero = inr (λ m h. absurd (omega (arith, h)))
find-below P decide (suc k) = elim (find-below P decide k) [
  | inl found ↦ inl found
  | inr none ↦ elim (decide k) [
    | inl p ↦ inl (k, record { holds = p; least = none })
    | inr not ↦ inr (λ m h. elim (cases_eq m k) [
      | inl e ↦ subst (λ n. ¬ P n) (sym e) not
      | inr ne ↦ none m (omega (arith, h, ne))
    ])
  ]
]

least-of : (P : ℕ → Type 0) → ((n : ℕ) → P n ⊎ ¬ P n) → (n : ℕ) → P n → (m : ℕ) × IsLeast P m
least-of P decide n p = elim (find-below P decide (suc n)) [
  | inl found ↦ found
  | inr none ↦ absurd (none n (omega arith) p)
]

true-or-not : (b : Bool) → IsTrue b ⊎ ¬ IsTrue b
true-or-not true = inl refl
true-or-not false = inr (λ e. absurd (cc e))

some-and : {T : Type 0} (o : Option T) (P : T → Type 0) → ((x : T) → P x ⊎ ¬ P x) → IsSomeAnd o P ⊎ ¬ IsSomeAnd o P
some-and None P decide = inr (λ none. none)
some-and (Some x) P decide = decide x

writes-or-not : (s : State) (cache block : ℕ) → Writes s cache block ⊎ ¬ Writes s cache block
writes-or-not s cache block = some-and (line_at s cache block) (λ line. IsTrue (is_writer line.state)) (λ line. true-or-not (is_writer line.state))

reads-or-not : (s : State) (cache block : ℕ) → Reads s cache block ⊎ ¬ Reads s cache block
reads-or-not s cache block = some-and (line_at s cache block) (λ line. IsTrue (is_reader line.state)) (λ line. true-or-not (is_reader line.state))

writer-reads : (c : CacheState) → IsTrue (is_writer c) → IsTrue (is_reader c)
writer-reads state.M w = refl
writer-reads state.E w = refl
writer-reads other w = absurd (cc w)

some-more : {T : Type 0} (o : Option T) (P Q : T → Type 0) → ((x : T) → P x → Q x) → IsSomeAnd o P → IsSomeAnd o Q
some-more None P Q f h = h
some-more (Some x) P Q f h = f x h

pub writes-reads : (s : State) (cache block : ℕ) → Writes s cache block → Reads s cache block
writes-reads s cache block w =
    some-more (line_at s cache block) (λ line. IsTrue (is_writer line.state)) (λ line. IsTrue (is_reader line.state)) (λ line. writer-reads line.state) w

-- ---- one block has one writer or many readers

abbrev pub SingleAt : State → ℕ → Type 0
SingleAt s block = (writer reader : ℕ) → Writes s writer block → Reads s reader block → writer ≡ reader

and-or-not : (P Q : Type 0) → P ⊎ ¬ P → Q ⊎ ¬ Q → (P × Q) ⊎ ¬ (P × Q)
and-or-not P Q (inl p) (inl q) = inl (p, q)
and-or-not P Q (inl p) (inr nq) = inr (λ both. nq both.1)
and-or-not P Q (inr np) q = inr (λ both. np both.0)

other-or-not : (m n : ℕ) → (m ≢ n) ⊎ ¬ (m ≢ n)
other-or-not m n = elim (cases_eq m n) [
  | inl e ↦ inr (λ ne. ne e)
  | inr ne ↦ inl ne
]

-- where the least writer has a reader beside it, there is a violation
beside-shown : (scene : Scene) → IsLookedAt scene.outcome → HasNone scene → (first : ℕ) →
    IsLeast (λ c. Writes scene.state c (block_of scene.step)) first
    → (reader : ℕ) → reader ≢ first → Reads scene.state reader (block_of scene.step) → ⊥
beside-shown scene looked none first least reader other reads =
    let block = block_of scene.step in
    let found =
    least-of (λ c. (c ≢ first) × Reads scene.state c block)
    (λ c. and-or-not (c ≢ first) (Reads scene.state c block) (other-or-not c first) (reads-or-not scene.state c block)) reader
    (other, reads) in
    none
    (WriterBesideReader (record { 0 = block }) (record { 0 = first }) (record { 0 = found.0 }))
    (refl, record { looked_at = looked; writes = least; beside = found.1 })

single-looked : (scene : Scene) → IsLookedAt scene.outcome → HasNone scene → SingleAt scene.state (block_of scene.step)
single-looked scene looked none writer reader writes reads =
    let block = block_of scene.step in
    let first = least-of (λ c. Writes scene.state c block) (λ c. writes-or-not scene.state c block) writer writes in
    elim (cases_eq writer reader) [
      | inl e ↦ e
      | inr ne ↦ elim (cases_eq reader first.0) [
        | inl e ↦ absurd (beside-shown scene looked none first.0 first.1 writer (λ f. ne (f ∙ sym e)) (writes-reads scene.state writer block writes))
        | inr beside ↦ absurd (beside-shown scene looked none first.0 first.1 reader beside reads)
      ]
    ]

-- ---- a step

get-set-other : {X : Type 0} (xs : List X) (i j : ℕ) (x : X) → j ≢ i → slice_get (slice_set xs i x) j ≡ slice_get xs j
get-set-other [] i j x ne = refl
get-set-other (y ∷ ys) zero zero x ne = absurd (ne refl)
get-set-other (y ∷ ys) zero (suc j) x ne = refl
get-set-other (y ∷ ys) (suc i) zero x ne = refl
get-set-other (y ∷ ys) (suc i) (suc j) x ne = get-set-other ys i j x (λ e. ne (ap suc e))

pub length-set : {X : Type 0} (xs : List X) (i : ℕ) (x : X) → length (slice_set xs i x) ≡ length xs
length-set [] i x = refl
length-set (y ∷ ys) zero x = refl
length-set (y ∷ ys) (suc i) x = ap suc (length-set ys i x)

-- the lines of a block are the same in two states
abbrev SameLines : State → State → ℕ → Type 0
SameLines s t block = (cache : ℕ) → line_at t cache block ≡ line_at s cache block

single-same : (s t : State) (block : ℕ) → SameLines s t block → SingleAt s block → SingleAt t block
single-same s t block same single writer reader writes reads =
    single writer reader
    (subst (λ l. IsSomeAnd l (λ line. IsTrue (is_writer line.state))) (same writer) writes)
    (subst (λ l. IsSomeAnd l (λ line. IsTrue (is_reader line.state))) (same reader) reads)

-- what a cell that acts comes to is looked at
looked-outcome : (cache : _) (from : Origin) (done : Option _) → IsLookedAt (outcome_of cache from done)
looked-outcome cache from None = looked-plain from
  where
    looked-plain : (from : Origin) → IsLookedAt (plain_outcome from)
    looked-plain origin.Core = tt
    looked-plain other = tt
looked-outcome cache from (Some (done.Load value)) = tt
looked-outcome cache from (Some (done.Store value)) = tt

-- either the block's lines stay, or the step is looked at
kept-or-looked : (d : Decision) (b : BlockState) → ((carried_out d b).block ≡ b) ⊎ IsLookedAt (carried_out d b).outcome
kept-or-looked (Refused what) b = inl refl
kept-or-looked (AtLine cache line input next actions from) b = inr (looked-outcome cache from (line_completes input next line))
kept-or-looked (AtHome input next actions from) b = inr tt

set-same : (blocks : List BlockState) (i : ℕ) (b c : BlockState) → slice_get blocks i ≡ Some b → c ≡ b → slice_set blocks i c ≡ blocks
set-same [] i b c e same = refl
set-same (x ∷ xs) zero b c e same = let e' : x ≡ b = cc e in ap (λ y. y ∷ xs) (same ∙ sym e')
set-same (x ∷ xs) (suc i) b c e same = ap (λ ys. x ∷ ys) (set-same xs i b c e same)

-- a step leaves the lines of a block, or is looked at and is of that block
same-or-looked : (tables : Tables) (s : State) (step : Step) (found : Option BlockState) (block : ℕ) → slice_get s.blocks (block_of step) ≡ found
    → SameLines s (next_at tables s step found).state block ⊎ (IsLookedAt (next_at tables s step found).outcome × (block ≡ block_of step))
same-or-looked tables s step None block there = inl (λ cache. refl)
same-or-looked tables s step (Some b) block there = elim (cases_eq block (block_of step)) [
  | inr ne ↦ inl
      (λ cache. ap (λ o. option_and_then (λ k. slice_get k.lines cache) o)
      (get-set-other s.blocks (block_of step) block (transition tables step b).block ne))
  | inl e ↦ elim (kept-or-looked (decision_of tables step b) b) [
    | inl kept ↦ inl
        (λ cache. ap (λ bs. option_and_then (λ k. slice_get k.lines cache) (slice_get bs block))
        (set-same s.blocks (block_of step) b (transition tables step b).block there kept))
    | inr looked ↦ inr (looked, e)
  ]
]

next-same-or-looked : (tables : Tables) (s : State) (step : Step) (block : ℕ) →
    SameLines s (next tables s step).state block ⊎ (IsLookedAt (next tables s step).outcome × (block ≡ block_of step))
next-same-or-looked tables s step block =
    let broken : Next = record { state = s; outcome = outcome.Broken } in
    let made : Next = next_at tables s step (slice_get s.blocks (block_of step)) in
    elim s.broken as (λ t. SameLines s (if t then broken else made).state block ⊎
    (IsLookedAt (if t then broken else made).outcome × (block ≡ block_of step))) [
      | true ↦ inl (λ cache. refl)
      | false ↦ same-or-looked tables s step (slice_get s.blocks (block_of step)) block refl
    ]

pub single-next : (tables : Tables) (s : State) (step : Step) (due' : Option ℕ) → HasNone (scene_of step (next tables s step) due') →
    ((block : ℕ) → SingleAt s block) → (block : ℕ) → SingleAt (next tables s step).state block
single-next tables s step due' none single block = elim (next-same-or-looked tables s step block) [
  | inl same ↦ single-same s (next tables s step).state block same (single block)
  | inr looked ↦ subst (SingleAt (next tables s step).state) (sym looked.1) (single-looked (scene_of step (next tables s step) due') looked.0 none)
]
