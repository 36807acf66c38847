-- A world itself has the value that was due to the load that led to it.
use Rattle.std.proofs.Common.{◌≡◌, ℕ, List, [], ◌∷◌, ◌++◌, Option, Some, None, length, refl, ap, sym, subst, ◌∙◌}
use Rattle.base.specs.Steps.{block_of}
use Rattle.base.specs.declared.step.Step.{Step}
use Rattle.base.specs.declared.step.Outcome.{Outcome}
use Rattle.base.specs.declared.step.Outcome.TheVariants as outcome
use Rattle.tables.specs.Tables.{Tables}
use Rattle.machine.specs.Completions.{completed_by, completions, completions_of, due}
use Rattle.machine.specs.Machine.{State, Next, next, opened, outcomes_of, state_after}
use Rattle.machine.proofs.Latest.{latest-due}
use Rattle.world.specs.Looks.{latest_at}
use Rattle.world.specs.View.{View}
use Rattle.monitor.specs.declared.violation.Violation.{Violation}
use Rattle.monitor.specs.declared.violation.Violation.TheVariants.{Blank, SecondWriter, WriterBesideReader, StaleLoad}
use Rattle.monitor.specs.Scenes.{Answers, IsLoadOf, Shows, scene_in}
use Rattle.monitor.specs.Watching.{AnswersLast, LeadTo, noted_all, scene_of}
use Rattle.monitor.proofs.Histories.{completions-append, due-more, noted_all-due}

-- steps lead on to what the last of them leads to
state-push : (tables : Tables) (s : State) (before : List Step) (step : Step) →
    state_after tables s (before ++ step ∷ []) ≡ (next tables (state_after tables s before) step).state
state-push tables s [] step = refl
state-push tables s (x ∷ before) step = state-push tables (next tables s x).state before step

-- the latest value of a block is the one that is due after all steps that led to the world
latest-then : (world : View) (opening : List ℕ) (before : List Step) (step : Step) (what : Outcome) (block : ℕ) →
    LeadTo opening before step what world →
    latest_at world.state block ≡ due opening (completions_of world.shape world.tables opening before ++ completed_by step what) block
latest-then world opening before step what block leads =
    let start : State = opened world.shape opening in
    latest-due (record { caches = world.shape.caches; blocks = length opening }) world.tables opening (before ++ step ∷ []) world.state block
    (record { opens = refl; leads = state-push world.tables start before step ∙ ap (λ (n : Next). n.state) leads })
    ∙ ap (λ cs. due opening cs block) (completions-append world.tables start before step)
    ∙ ap (λ (n : Next). due opening (completions_of world.shape world.tables opening before ++ completed_by step n.outcome) block) leads

-- a load leaves the values that are due
due-loaded : (opening : List ℕ) (before : List Step) (outcomes : List Outcome) (step : Step) (what : Outcome) (block value : ℕ) → IsLoadOf value what →
    due opening (completions before outcomes ++ completed_by step what) block ≡ due opening (completions before outcomes) block
due-loaded opening before outcomes step (outcome.Load cache loaded) block value h =
    let noted = noted_all-due opening before outcomes in
    sym (due-more opening (noted_all opening before outcomes) (completions before outcomes) step (outcome.Load cache loaded) noted block) ∙ noted block
due-loaded opening before outcomes step (outcome.Store cache stored) block value h = absurd h
due-loaded opening before outcomes step outcome.Sent block value h = absurd h
due-loaded opening before outcomes step outcome.Moved block value h = absurd h
due-loaded opening before outcomes step outcome.Held block value h = absurd h
due-loaded opening before outcomes step outcome.Absent block value h = absurd h
due-loaded opening before outcomes step outcome.Idle block value h = absurd h
due-loaded opening before outcomes step outcome.Blank block value h = absurd h
due-loaded opening before outcomes step outcome.Broken block value h = absurd h

-- what was due matters to a load alone
abbrev AgreeIfLoaded : Outcome → Option ℕ → Option ℕ → Type 0
AgreeIfLoaded what one other = (value : ℕ) → IsLoadOf value what → one ≡ other

shows-due : (state : State) (step : Step) (what : Outcome) (one other : Option ℕ) → AgreeIfLoaded what one other → (violation : Violation) →
    Shows (scene_in state step what one) violation → Shows (scene_in state step what other) violation
shows-due state step what one other same (Blank at block) s = (s.0, record { was_blank = s.1.was_blank; went_to = s.1.went_to })
shows-due state step what one other same (SecondWriter block first second) s =
    (s.0, record { looked_at = s.1.looked_at; least = s.1.least; next = s.1.next })
shows-due state step what one other same (WriterBesideReader block writer reader) s =
    (s.0, record { looked_at = s.1.looked_at; writes = s.1.writes; beside = s.1.beside })
shows-due state step what one other same (StaleLoad block got due) s =
    (s.0, record { loaded = s.1.loaded; was_due = sym (same got s.1.loaded) ∙ s.1.was_due; differs = s.1.differs })

answers-due : (state : State) (step : Step) (what : Outcome) (one other : Option ℕ) → AgreeIfLoaded what one other → (answer : Option Violation) →
    Answers (scene_in state step what one) answer → Answers (scene_in state step what other) answer
answers-due state step what one other same None none = λ violation shown.
    none violation (shows-due state step what other one (λ value loaded. sym (same value loaded)) violation shown)
answers-due state step what one other same (Some violation) is = record {
  shown = shows-due state step what one other same violation is.shown;
  first = λ earlier low shown.
      is.first earlier low (shows-due state step what other one (λ value loaded. sym (same value loaded)) earlier shown);
}

-- what is wrong by the latest value is so in whatever history led to the world
pub answers-last : (world : View) (step : Step) (what : Outcome) (answer : Option Violation) →
    Answers (scene_in world.state step what (latest_at world.state (block_of step))) answer → AnswersLast world step what answer
answers-last world step what answer here opening before leads =
    let was : Option ℕ = due opening (completions_of world.shape world.tables opening before) (block_of step) in
    subst (λ (n : Next). Answers (scene_of step n was) answer) (sym leads)
    (answers-due world.state step what (latest_at world.state (block_of step)) was
    (λ value loaded. latest-then world opening before step what (block_of step) leads
    ∙ due-loaded opening before (outcomes_of world.tables (opened world.shape opening) before) step what (block_of step) value loaded)
    answer here)
