-- No step shows a violation exactly where the steps are safe.
use Rattle.std.proofs.Common.{◌≡◌, ◌⊎◌, inl, inr, ℕ, zero, suc, ◌<◌, ◌+◌, true}
use Rattle.std.proofs.Common.{false, List, [], ◌∷◌, ◌++◌, length, take, drop, map, Option, Some}
use Rattle.std.proofs.Common.{None, IsSome, IsTrue, slice_get, refl, sym, ap, ◌∙◌, subst, arith, add-one, append_assoc}
use Rattle.std.proofs.lemmas.List.{append-nil}
use Rattle.std.proofs.lemmas.Bool.{cases_eq}
use Rattle.std.specs.Prelude.{if◌then◌else◌, replicate}
use Rattle.std.specs.Option.{option_map, option_and_then, IsSomeAnd}
use Rattle.base.specs.Extent.{Extent}
use Rattle.base.specs.Steps.{block_of}
use Rattle.base.specs.declared.ids.Place.{Place}
use Rattle.base.specs.declared.step.Step.{Step}
use Rattle.base.specs.declared.step.Outcome.{Outcome}
use Rattle.base.specs.declared.step.Outcome.TheVariants as outcome
use Rattle.control.specs.LineEffect.{is_writer, opened_line}
use Rattle.machine.specs.Block.{BlockState, opened_block}
use Rattle.tables.specs.Tables.{Tables}
use Rattle.machine.specs.Transition.{transition}
use Rattle.machine.specs.Machine.{State, Next, next, next_at, opened, state_after, outcomes_of}
use Rattle.machine.specs.Completions.{Completion, load, completions, completed_by, due, last_of, stored_to, completions_of}
use Rattle.machine.specs.Coherence.{Safe, Single, Met, Explained}
use Rattle.world.specs.Looks.{place_at}
use Rattle.monitor.specs.declared.violation.Violation.{Violation}
use Rattle.monitor.specs.declared.violation.Violation.TheVariants.{Blank, SecondWriter, WriterBesideReader, StaleLoad}
use Rattle.monitor.specs.Scenes.{HasNone, IsLoadOf}
use Rattle.monitor.specs.Watching.{scene_after}
use Rattle.monitor.specs.Violations.{HasNoViolation, IsFirstViolation, AnswersFirst}
use Rattle.monitor.proofs.Singles.{writes-reads, SingleAt, length-set, single-next}

-- ---- an opened world has no writer

none-at-first : (caches cache : ℕ) → ¬ IsSomeAnd (slice_get (replicate caches opened_line) cache) (λ line. IsTrue (is_writer line.state))
none-at-first zero cache w = w
none-at-first (suc caches) zero w = absurd (cc w)
none-at-first (suc caches) (suc cache) w = none-at-first caches cache w

no-writer-at-first : (caches : ℕ) (opening : List ℕ) (cache block : ℕ)
    → ¬ IsSomeAnd (option_and_then (λ b. slice_get b.lines cache) (slice_get (map (opened_block caches) opening) block))
    (λ line. IsTrue (is_writer line.state))
no-writer-at-first caches [] cache block w = w
no-writer-at-first caches (v ∷ vs) cache zero w = none-at-first caches cache w
no-writer-at-first caches (v ∷ vs) cache (suc block) w = no-writer-at-first caches vs cache block w

single-at-first : (shape : Extent) (opening : List ℕ) (block : ℕ) → SingleAt (opened shape opening) block
single-at-first shape opening block writer reader writes reads = absurd (no-writer-at-first shape.caches opening writer block writes)

-- ---- lists of steps

get-mid : {X : Type 0} (front : List X) (x : X) (later : List X) → slice_get (front ++ x ∷ later) (length front) ≡ Some x
get-mid [] x later = refl
get-mid (y ∷ front) x later = get-mid front x later

take-mid : {X : Type 0} (front rest : List X) → take (length front) (front ++ rest) ≡ front
take-mid [] rest = refl
take-mid (y ∷ front) rest = ap (λ ys. y ∷ ys) (take-mid front rest)

split-at : {X : Type 0} (xs : List X) (i : ℕ) (x : X) → slice_get xs i ≡ Some x → xs ≡ take i xs ++ x ∷ drop (suc i) xs
split-at [] i x e = absurd (cc e)
split-at (y ∷ ys) zero x e = let e' : y ≡ x = cc e in ap (λ z. z ∷ ys) e'
split-at (y ∷ ys) (suc i) x e = ap (λ zs. y ∷ zs) (split-at ys i x e)

state-more : (tables : Tables) (s : State) (front : List Step) (step : Step) →
    state_after tables s (front ++ step ∷ []) ≡ (next tables (state_after tables s front) step).state
state-more tables s [] step = refl
state-more tables s (x ∷ front) step = state-more tables (next tables s x).state front step

completions-split : (tables : Tables) (s : State) (front : List Step) (step : Step) (later : List Step)
    → (rest : List Completion)
    × (completions (front ++ step ∷ later) (outcomes_of tables s (front ++ step ∷ later)) ≡ completions front (outcomes_of tables s front) ++
    (completed_by step (next tables (state_after tables s front) step).outcome ++ rest))
completions-split tables s [] step later = (completions later (outcomes_of tables (next tables s step).state later), refl)
completions-split tables s (x ∷ front) step later =
    let there = completions-split tables (next tables s x).state front step later in
    (there.0, ap (λ cs. completed_by x (next tables s x).outcome ++ cs) there.1 ∙ sym (append_assoc (completed_by x (next tables s x).outcome) _ _))

-- a step completes one ask at most
one-at-most : (step : Step) (o : Outcome) → (completed_by step o ≡ []) ⊎ ((c : Completion) × (completed_by step o ≡ c ∷ []))
one-at-most step o = grind (arith)

nothing-there : {X : Type 0} (before : List X) (c : X) (rest : List X) → [] ≡ before ++ c ∷ rest → ⊥
nothing-there [] c rest e = absurd (cc e)
nothing-there (b ∷ before) c rest e = absurd (cc e)

same-first : {X : Type 0} (a b : X) (u v : List X) → a ∷ u ≡ b ∷ v → a ≡ b
same-first a b u v e = cc e

same-others : {X : Type 0} (a b : X) (u v : List X) → a ∷ u ≡ b ∷ v → u ≡ v
same-others a b u v e = cc e

-- the step of a completion
record At (tables : Tables) (s : State) (steps : List Step) (before : List Completion) (c : Completion) : Type 0 where
  front : List Step
  step : Step
  later : List Step
  split : steps ≡ front ++ step ∷ later
  earlier : before ≡ completions front (outcomes_of tables s front)
  done : completed_by step (next tables (state_after tables s front) step).outcome ≡ c ∷ []

at-behind : (tables : Tables) (s : State) (x : Step) (xs : List Step) (before : List Completion) (c : Completion) →
    At tables (next tables s x).state xs before c
    → At tables s (x ∷ xs) (completed_by x (next tables s x).outcome ++ before) c
at-behind tables s x xs before c at = record {
  front = x ∷ at.front;
  step = at.step;
  later = at.later;
  split = ap (λ ys. x ∷ ys) at.split;
  earlier = ap (λ cs. completed_by x (next tables s x).outcome ++ cs) at.earlier;
  done = at.done;
}

at-first : (tables : Tables) (s : State) (x : Step) (xs : List Step) (c : Completion) → completed_by x (next tables s x).outcome ≡ c ∷ [] →
    At tables s (x ∷ xs) [] c
at-first tables s x xs c e = record { front = []; step = x; later = xs; split = refl; earlier = refl; done = e }

at-either : (tables : Tables) (s : State) (x : Step) (xs : List Step) (before : List Completion) (c c' : Completion) (rest : List Completion) →
    completed_by x (next tables s x).outcome ≡ c' ∷ []
    → ((before : List Completion) → completions xs (outcomes_of tables (next tables s x).state xs) ≡ before ++ c ∷ rest → At tables
    (next tables s x).state xs before c)
    → c' ∷ completions xs (outcomes_of tables (next tables s x).state xs) ≡ before ++ c ∷ rest → At tables s (x ∷ xs) before c
at-either tables s x xs [] c c' rest one there e = at-first tables s x xs c (one ∙ ap (λ d. d ∷ []) (same-first c' c _ rest e))
at-either tables s x xs (b ∷ before) c c' rest one there e =
    let behind = at-behind tables s x xs before c (there before (same-others c' b _ (before ++ c ∷ rest) e)) in
    subst (λ bs. At tables s (x ∷ xs) bs c) (ap (λ cs. cs ++ before) one ∙ ap (λ d. d ∷ before) (same-first c' b _ (before ++ c ∷ rest) e)) behind

completion-at : (tables : Tables) (s : State) (steps : List Step) (before : List Completion) (c : Completion) (rest : List Completion) →
    completions steps (outcomes_of tables s steps) ≡ before ++ c ∷ rest → At tables s steps before c
completion-at tables s [] before c rest e = absurd (nothing-there before c rest e)
completion-at tables s (x ∷ xs) before c rest e =
    let later = completions xs (outcomes_of tables (next tables s x).state xs) in
    elim (one-at-most x (next tables s x).outcome) [
      | inl none ↦ subst (λ bs. At tables s (x ∷ xs) bs c) (ap (λ cs. cs ++ before) none)
          (at-behind tables s x xs before c (completion-at tables (next tables s x).state xs before c rest (ap (λ cs. cs ++ later) (sym none) ∙ e)))
      | inr one ↦ at-either tables s x xs before c one.0 rest one.1 (λ bs f. completion-at tables (next tables s x).state xs bs c rest f)
          (ap (λ cs. cs ++ later) (sym one.1) ∙ e)
    ]

-- ---- without a violation the steps are safe

abbrev NoneSeen : Extent → Tables → List ℕ → List Step → Type 0
NoneSeen shape tables opening steps =
    (front : List Step) (step : Step) (later : List Step) → steps ≡ front ++ step ∷ later → HasNone (scene_after shape tables opening front step)

none-seen : (shape : Extent) (tables : Tables) (opening : List ℕ) (steps : List Step) → HasNoViolation shape tables opening steps →
    NoneSeen shape tables opening steps
none-seen shape tables opening steps none front step later e =
    subst (λ fs. HasNone (scene_after shape tables opening fs step)) (ap (take (length front)) e ∙ take-mid front (step ∷ later))
    (none (length front) step (ap (λ ss. slice_get ss (length front)) e ∙ get-mid front step later))

single-from : (shape : Extent) (tables : Tables) (opening : List ℕ) (steps : List Step) → NoneSeen shape tables opening steps →
    (done more rest : List Step) → steps ≡ done ++ (more ++ rest)
    → ((block : ℕ) → SingleAt (state_after tables (opened shape opening) done) block) → (block : ℕ) → SingleAt
    (state_after tables (opened shape opening) (done ++ more)) block
single-from shape tables opening steps none done [] rest e single block =
    subst (λ fs. SingleAt (state_after tables (opened shape opening) fs) block) (sym (append-nil done)) (single block)
single-from shape tables opening steps none done (x ∷ more) rest e single block =
    subst (λ fs. SingleAt (state_after tables (opened shape opening) fs) block) (append_assoc done (x ∷ []) more)
    (single-from shape tables opening steps none (done ++ x ∷ []) more rest (e ∙ sym (append_assoc done (x ∷ []) (more ++ rest)))
    (λ k. subst (λ t. SingleAt t k) (sym (state-more tables (opened shape opening) done x))
    (single-next tables (state_after tables (opened shape opening) done) x (due opening (completions_of shape tables opening done) (block_of x))
    (none done x (more ++ rest) e) single k))
    block)

some-place : (o : Option Place) → IsSome o → (p : Place) × (o ≡ Some p)
some-place None h = absurd (cc h)
some-place (Some p) h = (p, refl)

unmet-from : (shape : Extent) (tables : Tables) (opening : List ℕ) (steps : List Step) →
    ((s : State) (step : Step) → (next tables s step).outcome ≡ outcome.Blank → IsSome (place_at (next tables s step).state step))
    → NoneSeen shape tables opening steps → (front rest : List Step) (step : Step) → steps ≡ front ++ step ∷ rest → ¬ Met tables
    (state_after tables (opened shape opening) front) step
unmet-from shape tables opening steps known none front rest step e met =
    let place = some-place _ (known (state_after tables (opened shape opening) front) step met) in
    none front step rest e (Blank place.0 (record { 0 = block_of step })) (refl, record { was_blank = met; went_to = place.1 })

-- a load that completes
record Loaded (step : Step) (o : Outcome) (c : Completion) : Type 0 where
  value : ℕ
  is_load : IsLoadOf value o
  same_value : c.value ≡ value
  same_block : c.block ≡ block_of step

load-done : (step : Step) (o : Outcome) (c : Completion) → completed_by step o ≡ c ∷ [] → c.access ≡ load → Loaded step o c
load-done step (outcome.Load cache value) c e l =
    let e' =
    sym (same-first _ c [] [] e) in record {
      value = value;
      is_load = refl;
      same_value = ap (λ (d : Completion). d.value) e';
      same_block = ap
          (λ (d : Completion). d.block) e';
    }
load-done step (outcome.Store cache value) c e l = let e' = same-first _ c [] [] e in absurd (cc (ap (λ (d : Completion). d.access) e' ∙ l))
load-done step outcome.Sent c e l = absurd (cc e)
load-done step outcome.Moved c e l = absurd (cc e)
load-done step outcome.Held c e l = absurd (cc e)
load-done step outcome.Absent c e l = absurd (cc e)
load-done step outcome.Idle c e l = absurd (cc e)
load-done step outcome.Blank c e l = absurd (cc e)
load-done step outcome.Broken c e l = absurd (cc e)

-- the block of a load is there
at-load : (tables : Tables) (s : State) (step : Step) (found : Option BlockState) (value : ℕ) → IsLoadOf value (next_at tables s step found).outcome →
    (b : BlockState) × (found ≡ Some b)
at-load tables s step None value l = absurd l
at-load tables s step (Some b) value l = (b, refl)

load-there : (tables : Tables) (s : State) (step : Step) (value : ℕ) → IsLoadOf value (next tables s step).outcome →
    (b : BlockState) × (slice_get s.blocks (block_of step) ≡ Some b)
load-there tables s step value l =
    let broken : Next = record { state = s; outcome = outcome.Broken } in
    let made : Next = next_at tables s step (slice_get s.blocks (block_of step)) in
    elim s.broken as (λ t. IsLoadOf value (if t then broken else made).outcome → (b : BlockState) × (slice_get s.blocks (block_of step) ≡ Some b)) [
      | true ↦ λ l. absurd l
      | false ↦ at-load tables s step (slice_get s.blocks (block_of step)) value
    ] l

at-length : (tables : Tables) (s : State) (step : Step) (found : Option BlockState) → length (next_at tables s step found).state.blocks ≡ length s.blocks
at-length tables s step None = refl
at-length tables s step (Some b) = length-set s.blocks (block_of step) (transition tables step b).block

next-length : (tables : Tables) (s : State) (step : Step) → length (next tables s step).state.blocks ≡ length s.blocks
next-length tables s step =
    let broken : Next = record { state = s; outcome = outcome.Broken } in
    let made : Next = next_at tables s step (slice_get s.blocks (block_of step)) in
    elim s.broken as (λ t. length (if t then broken else made).state.blocks ≡ length s.blocks) [
      | true ↦ refl
      | false ↦ at-length tables s step (slice_get s.blocks (block_of step))
    ]

after-length : (tables : Tables) (s : State) (steps : List Step) → length (state_after tables s steps).blocks ≡ length s.blocks
after-length tables s [] = refl
after-length tables s (x ∷ steps) = after-length tables (next tables s x).state steps ∙ next-length tables s x

map-length : {X Y : Type 0} (f : X → Y) (xs : List X) → length (map f xs) ≡ length xs
map-length f [] = refl
map-length f (x ∷ xs) = ap suc (map-length f xs)

same-place : {X Y : Type 0} (xs : List X) (ys : List Y) (i : ℕ) (x : X) → length xs ≡ length ys → slice_get xs i ≡ Some x →
    (y : Y) × (slice_get ys i ≡ Some y)
same-place [] ys i x n e = absurd (cc e)
same-place (z ∷ xs) [] i x n e = absurd (omega (arith, n))
same-place (z ∷ xs) (y ∷ ys) zero x n e = (y, refl)
same-place (z ∷ xs) (y ∷ ys) (suc i) x n e = same-place xs ys i x (omega (arith, n)) e

due-there : (opening : List ℕ) (done : List Completion) (block value : ℕ) → slice_get opening block ≡ Some value →
    (d : ℕ) × (due opening done block ≡ Some d)
due-there opening done block value e = (_, ap (option_map (λ o. last_of o (stored_to block done))) e)

explained-from : (shape : Extent) (tables : Tables) (opening : List ℕ) (steps : List Step) → NoneSeen shape tables opening steps →
    Explained opening (completions_of shape tables opening steps)
explained-from shape tables opening steps none before rest c e l =
    let at = completion-at tables (opened shape opening) steps before c rest e in
    let s = state_after tables (opened shape opening) at.front in
    let loaded = load-done at.step (next tables s at.step).outcome c at.done l in
    let there = load-there tables s at.step loaded.value loaded.is_load in
    let opens =
    same-place s.blocks opening (block_of at.step) there.0
    (after-length tables (opened shape opening) at.front ∙ map-length (opened_block shape.caches) opening) there.1 in
    let was_due = due-there opening (completions_of shape tables opening at.front) (block_of at.step) opens.0 opens.1 in
    let here : due opening before c.block ≡ Some was_due.0 =
    ap (λ cs. due opening cs c.block) at.earlier ∙ (ap (due opening (completions_of shape tables opening at.front)) loaded.same_block ∙ was_due.1) in
    elim (cases_eq loaded.value was_due.0) [
      | inl same ↦ here ∙ ap Some (sym (loaded.same_value ∙ same))
      | inr differs ↦ absurd
          (none at.front at.step at.later at.split (StaleLoad (record { 0 = block_of at.step }) loaded.value was_due.0)
          (refl, record { loaded = loaded.is_load; was_due = was_due.1; differs = differs }))
    ]

pub none-safe : (shape : Extent) (tables : Tables) (opening : List ℕ) (steps : List Step) →
    ((s : State) (step : Step) → (next tables s step).outcome ≡ outcome.Blank → IsSome (place_at (next tables s step).state step))
    → HasNoViolation shape tables opening steps → Safe shape tables opening steps
none-safe shape tables opening steps known none =
    let seen = none-seen shape tables opening steps none in
    record {
      single =
          λ front rest e writer reader block. single-from shape tables opening steps seen [] front rest e (single-at-first shape opening) block writer reader;
      unmet = unmet-from shape tables opening steps known seen;
      explained = explained-from shape tables opening steps seen;
    }

-- ---- safe steps show no violation

safe-shows : (shape : Extent) (tables : Tables) (opening : List ℕ) (steps : List Step) → Safe shape tables opening steps →
    (front : List Step) (step : Step) (later : List Step) → steps ≡ front ++ step ∷ later
    → Single (next tables (state_after tables (opened shape opening) front) step).state
safe-shows shape tables opening steps safe front step later e =
    subst Single (state-more tables (opened shape opening) front step)
    (safe.single (front ++ step ∷ []) later (e ∙ sym (append_assoc front (step ∷ []) later)))

-- what a load that completes is
load-completes : (step : Step) (o : Outcome) (got : ℕ) → IsLoadOf got o →
    (c : Completion) × (completed_by step o ≡ c ∷ []) × (c.access ≡ load) × (c.value ≡ got) × (c.block ≡ block_of step)
load-completes step (outcome.Load cache value) got l = (_, refl, refl, sym l, refl)
load-completes step (outcome.Store cache value) got l = absurd l
load-completes step outcome.Sent got l = absurd l
load-completes step outcome.Moved got l = absurd l
load-completes step outcome.Held got l = absurd l
load-completes step outcome.Absent got l = absurd l
load-completes step outcome.Idle got l = absurd l
load-completes step outcome.Blank got l = absurd l
load-completes step outcome.Broken got l = absurd l

same-some : (m n : ℕ) → Some m ≡ Some n → m ≡ n
same-some m n e = cc e

safe-none-at : (shape : Extent) (tables : Tables) (opening : List ℕ) (steps : List Step) → Safe shape tables opening steps →
    (front : List Step) (step : Step) (later : List Step) → steps ≡ front ++ step ∷ later
    → HasNone (scene_after shape tables opening front step)
safe-none-at shape tables opening steps safe front step later e (Blank at block) shows = safe.unmet front later step e shows.1.was_blank
safe-none-at shape tables opening steps safe front step later e (SecondWriter block first second) shows =
    let made = (next tables (state_after tables (opened shape opening) front) step).state in
    let two = shows.1 in
    let same =
    safe-shows shape tables opening steps safe front step later e first.0 second.0 (block_of step) two.least.holds
    (writes-reads made second.0 (block_of step) two.next.holds.1) in
    absurd (omega (arith, same, two.next.holds.0))
safe-none-at shape tables opening steps safe front step later e (WriterBesideReader block writer reader) shows =
    let beside = shows.1 in
    beside.beside.holds.0
    (sym (safe-shows shape tables opening steps safe front step later e writer.0 reader.0 (block_of step) beside.writes.holds beside.beside.holds.1))
safe-none-at shape tables opening steps safe front step later e (StaleLoad block got due') shows =
    let stale = shows.1 in
    let s = state_after tables (opened shape opening) front in
    let done = load-completes step (next tables s step).outcome got stale.loaded in
    let split = completions-split tables (opened shape opening) front step later in
    let whole : completions_of shape tables opening steps ≡ completions_of shape tables opening front ++ done.0 ∷ split.0 =
    ap (completions_of shape tables opening) e ∙ (split.1 ∙ ap (λ cs. completions_of shape tables opening front ++ (cs ++ split.0)) done.1) in
    let was : due opening (completions_of shape tables opening front) done.0.block ≡ Some done.0.value =
    safe.explained (completions_of shape tables opening front) split.0 done.0 whole done.2 in
    let here : Some done.0.value ≡ Some due' = sym was ∙ (ap (due opening (completions_of shape tables opening front)) done.4 ∙ stale.was_due) in
    stale.differs (sym done.3 ∙ same-some done.0.value due' here)

pub safe-none : (shape : Extent) (tables : Tables) (opening : List ℕ) (steps : List Step) → Safe shape tables opening steps →
    HasNoViolation shape tables opening steps
safe-none shape tables opening steps safe number step there =
    safe-none-at shape tables opening steps safe (take number steps) step (drop (suc number) steps) (split-at steps number step there)

-- ---- the first violation

get-front : {X : Type 0} (xs : List X) (n i : ℕ) (x : X) → slice_get (take n xs) i ≡ Some x →
    (i < n) × (slice_get xs i ≡ Some x) × (take i (take n xs) ≡ take i xs)
get-front [] zero i x e = absurd (cc e)
get-front [] (suc n) i x e = absurd (cc e)
get-front (y ∷ ys) zero i x e = absurd (cc e)
get-front (y ∷ ys) (suc n) zero x e = (omega arith, e, refl)
get-front (y ∷ ys) (suc n) (suc i) x e = let more = get-front ys n i x e in (omega (arith, more.0), more.1, ap (λ zs. y ∷ zs) more.2)

get-within : {X : Type 0} (xs : List X) (i : ℕ) (x : X) → slice_get xs i ≡ Some x →
    (slice_get (take (suc i) xs) i ≡ Some x) × (take i (take (suc i) xs) ≡ take i xs)
get-within [] i x e = absurd (cc e)
get-within (y ∷ ys) zero x e = (e, refl)
get-within (y ∷ ys) (suc i) x e = let more = get-within ys i x e in (more.0, ap (λ zs. y ∷ zs) more.1)

pub first-before : (shape : Extent) (tables : Tables) (opening : List ℕ) (steps : List Step) (number : ℕ) (violation : Violation) →
    IsFirstViolation shape tables opening steps number violation → HasNoViolation shape tables opening (take number steps)
first-before shape tables opening steps number violation first k step there =
    let at = get-front steps number k step there in
    subst (λ fs. HasNone (scene_after shape tables opening fs step)) (sym at.2) (first.first k step at.0 at.1)

pub first-behind : (shape : Extent) (tables : Tables) (opening : List ℕ) (steps : List Step) (number : ℕ) (violation : Violation) →
    IsFirstViolation shape tables opening steps number violation → ¬ HasNoViolation shape tables opening (take (number + 1) steps)
first-behind shape tables opening steps number violation first none =
    let shown = first.shown in
    let at = get-within steps number shown.step shown.there in
    let none' : HasNoViolation shape tables opening (take (suc number) steps) =
    subst (λ n. HasNoViolation shape tables opening (take n steps)) (add-one number) none in
    subst (λ fs. HasNone (scene_after shape tables opening fs shown.step)) at.1 (none' number shown.step at.0) violation shown.shown.shown

-- ---- the answer of whoever looked for the first violation

pub answered-none : (shape : Extent) (tables : Tables) (opening : List ℕ) (steps : List Step) (found : Option (ℕ × Violation)) →
    found ≡ None → AnswersFirst shape tables opening steps found → HasNoViolation shape tables opening steps
answered-none shape tables opening steps found none answers = subst (AnswersFirst shape tables opening steps) none answers

pub none-answered : (shape : Extent) (tables : Tables) (opening : List ℕ) (steps : List Step) (found : Option (ℕ × Violation)) →
    HasNoViolation shape tables opening steps → AnswersFirst shape tables opening steps found → found ≡ None
none-answered shape tables opening steps None none answers = refl
none-answered shape tables opening steps (Some (number, violation)) none first =
    absurd (none number first.shown.step first.shown.there violation first.shown.shown.shown)
