use Rattle.std.proofs.Common.{◌≡◌, ◌<◌, ℕ, List, [], ◌∷◌, ◌++◌, Bool, true, false, cond, refl, ap, sym, ◌∙◌, Some, None, Option, get_or, map, length}
use Rattle.std.proofs.Common.{slice_get, append_assoc, subst}
use Rattle.std.specs.Prelude.{filter}
use Rattle.std.proofs.lemmas.List.{append-nil}
use Rattle.std.proofs.lemmas.List.Elements.{All-head, All-tail}
use Rattle.std.proofs.lemmas.Option.{slice_get-get_or}
use Rattle.std.specs.Option.{option_map}
use Rattle.std.proofs.lemmas.Iterator.Adapters.{option_map_id}
use Rattle.base.specs.Steps.{block_of}
use Rattle.base.specs.declared.step.Step.{Step}
use Rattle.base.specs.declared.step.Outcome.{Outcome}
use Rattle.machine.specs.Completions.{Completion, HasNoStoreTo, IsStoreTo, completions, completions_of}
use Rattle.machine.specs.Completions.{completed_by, is_store_to, stored_to, last_of, due, noted}
use Rattle.tables.specs.Tables.{Tables}
use Rattle.machine.specs.Machine.{State, Next, next, opened, state_after, outcomes_of}
use Rattle.machine.proofs.Due.{due-nothing, due-noted}
use Rattle.world.specs.View.{View}
use Rattle.monitor.specs.declared.violation.Violation.{Violation}
use Rattle.monitor.specs.Scenes.{Answers, scene_in}
use Rattle.monitor.specs.Watching.{AnswersHistory, AreDue, HasSeen, LeadTo, noted_all, scene_of}

-- with nothing completed the opening values are due
pub due-opening : (opening : List ℕ) → AreDue opening [] opening
due-opening opening block = sym (due-nothing opening block)

-- whoever notes each store has the values that are due
pub noted_all-due : (opening : List ℕ) (steps : List Step) (outcomes : List Outcome) →
    AreDue opening (completions steps outcomes) (noted_all opening steps outcomes)
noted_all-due opening [] outcomes block = due-opening opening block
noted_all-due opening (step ∷ steps) [] block = due-opening opening block
noted_all-due opening (step ∷ steps) (what ∷ outcomes) block =
    noted_all-due (noted opening (block_of step) what) steps outcomes block ∙ due-noted opening step what (completions steps outcomes) block

-- the completions of steps stand one behind the other
pub completions-append : (tables : Tables) (s : State) (before : List Step) (step : Step) →
    completions (before ++ step ∷ []) (outcomes_of tables s (before ++ step ∷ [])) ≡ completions before
    (outcomes_of tables s before) ++ completed_by step (next tables (state_after tables s before) step).outcome
completions-append tables s [] step = append-nil _
completions-append tables s (x ∷ xs) step =
    ap (λ cs. completed_by x (next tables s x).outcome ++ cs) (completions-append tables (next tables s x).state xs step)
    ∙ sym (append_assoc (completed_by x (next tables s x).outcome) _ _)

-- what stands later counts
last-append : (x : ℕ) (done more : List Completion) (block : ℕ) →
    last_of (last_of x (stored_to block done)) (stored_to block more) ≡ last_of x (stored_to block (done ++ more))
last-append x [] more block = refl
last-append x (c ∷ done) more block =
    elim (is_store_to block c) as
    (λ t. last_of (last_of x (map (λ c. c.value) (cond t (c ∷ filter (is_store_to block) done) (filter (is_store_to block) done))))
    (stored_to block more) ≡ last_of x
    (map (λ c. c.value) (cond t (c ∷ filter (is_store_to block) (done ++ more)) (filter (is_store_to block) (done ++ more))))) [
      | true ↦ last-append c.value done more block
      | false ↦ last-append x done more block
    ]

due-two : (opened : Option ℕ) (done more : List Completion) (block : ℕ) →
    option_map (λ o. last_of o (stored_to block more)) (option_map (λ o. last_of o (stored_to block done)) opened) ≡ option_map
    (λ o. last_of o (stored_to block (done ++ more))) opened
due-two None done more block = refl
due-two (Some x) done more block = ap Some (last-append x done more block)

-- the values that are due are due as well where what completed later is added
due-append : (opening values : List ℕ) (done more : List Completion) (block : ℕ) → slice_get values block ≡ due opening done block →
    due values more block ≡ due opening (done ++ more) block
due-append opening values done more block here =
    ap (option_map (λ o. last_of o (stored_to block more))) here ∙ due-two (slice_get opening block) done more block

-- one more step is noted
pub due-more : (opening values : List ℕ) (done : List Completion) (step : Step) (what : Outcome) → AreDue opening done values →
    AreDue opening (done ++ completed_by step what) (noted values (block_of step) what)
due-more opening values done step what before block =
    due-opening (noted values (block_of step) what) block
    ∙ due-noted values step what [] block
    ∙ ap (λ cs. due values cs block) (append-nil (completed_by step what))
    ∙ due-append opening values done (completed_by step what) block (before block)

-- a watch that notes the next step has seen it
pub seen-more : (world : View) (opening old new : List ℕ) (before : List Step) (step : Step) (what : Outcome) → new ≡ noted old (block_of step) what →
    HasSeen world opening before old → LeadTo opening before step what world → HasSeen world opening (before ++ step ∷ []) new
seen-more world opening old new before step what kept seen leads block =
    rw kept (
    due-more opening old (completions before (outcomes_of world.tables (opened world.shape opening) before)) step what seen block
    ∙ ap (λ o. due opening (completions before (outcomes_of world.tables (opened world.shape opening) before) ++ completed_by step o) block)
    (sym (ap (λ n. n.outcome) leads))
    ∙ ap (λ cs. due opening cs block) (sym (completions-append world.tables (opened world.shape opening) before step))
    )

not-true : (b : Bool) → ¬ (b ≡ true) → b ≡ false
not-true true h = absurd (h refl)
not-true false h = refl

-- nothing is stored to the block
stored-none : (block : ℕ) (done : List Completion) → HasNoStoreTo block done → stored_to block done ≡ []
stored-none block [] none = refl
stored-none block (c ∷ done) none =
    ap (λ t. map (λ c. c.value) (cond t (c ∷ filter (is_store_to block) done) (filter (is_store_to block) done)))
    (not-true (is_store_to block c) (All-head (λ c. ¬ IsStoreTo block c) c done none))
    ∙ stored-none block done (All-tail (λ c. ¬ IsStoreTo block c) c done none)

pub due-no_store : (opening : List ℕ) (done : List Completion) (block : ℕ) → HasNoStoreTo block done → due opening done block ≡ slice_get opening block
due-no_store opening done block none =
    ap (λ values. option_map (λ o. last_of o values) (slice_get opening block)) (stored-none block done none) ∙ option_map_id (slice_get opening block)

-- the last store stands last
last-store : (x : ℕ) (earlier later : List Completion) (c : Completion) (block : ℕ) → IsStoreTo block c → HasNoStoreTo block later →
    last_of x (stored_to block (earlier ++ c ∷ later)) ≡ c.value
last-store x earlier later c block is none =
    sym (last-append x earlier (c ∷ later) block)
    ∙ ap
    (λ t. last_of (last_of x (stored_to block earlier))
    (map (λ c. c.value) (cond t (c ∷ filter (is_store_to block) later) (filter (is_store_to block) later)))) is
    ∙ ap (last_of c.value) (stored-none block later none)

pub due-last_store : (opening : List ℕ) (earlier later : List Completion) (c : Completion) (block : ℕ) → block < length opening → IsStoreTo block c →
    HasNoStoreTo block later → due opening (earlier ++ c ∷ later) block ≡ Some c.value
due-last_store opening earlier later c block lt is none =
    ap (option_map (λ o. last_of o (stored_to block (earlier ++ c ∷ later)))) (slice_get-get_or opening block 0 lt)
    ∙ ap Some (last-store (get_or opening block 0) earlier later c block is none)

-- what is wrong by the value that a watch has is so in each history that it has seen
pub answers-next : (world : View) (values : List ℕ) (step : Step) (what : Outcome) (answer : Option Violation) →
    Answers (scene_in world.state step what (slice_get values (block_of step))) answer → AnswersHistory world values step what answer
answers-next world values step what answer here opening before seen leads =
    subst (λ (n : Next). Answers (scene_of step n (due opening (completions_of world.shape world.tables opening before) (block_of step))) answer) (sym leads)
    (subst (λ o. Answers (scene_in world.state step what o) answer) (seen (block_of step)) here)
