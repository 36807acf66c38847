-- What a watch has noted, and the histories that it has seen.
use Rattle.std.specs.Prelude.{◌≡◌, ℕ, List, [], ◌∷◌, ◌++◌, Option, slice_get}
use Rattle.base.specs.Extent.{Extent}
use Rattle.base.specs.Steps.{block_of}
use Rattle.base.specs.declared.step.Step.{Step}
use Rattle.base.specs.declared.step.Outcome.{Outcome}
use Rattle.tables.specs.Tables.{Tables}
use Rattle.machine.specs.Machine.{Next, next, opened, after}
use Rattle.world.specs.View.{View, stepped}
use Rattle.monitor.specs.declared.violation.Violation.{Violation}
use Rattle.machine.specs.Completions.{Completion, completions_of, due, noted}
use Rattle.monitor.specs.Scenes.{Scene, scene_in, Answers}

-- the values of blocks after steps with these outcomes
abbrev pub noted_all : List ℕ → List Step → List Outcome → List ℕ
noted_all values [] outcomes = values
noted_all values (step ∷ steps) [] = values
noted_all values (step ∷ steps) (outcome ∷ outcomes) = noted_all (noted values (block_of step) outcome) steps outcomes

-- these are the values that are due to loads of the blocks
abbrev pub AreDue : List ℕ → List Completion → List ℕ → Type 0
AreDue opening done values = (block : ℕ) → slice_get values block ≡ due opening done block

-- what comes of a step, made after these ones from an opened world
abbrev pub made_after : Extent → Tables → List ℕ → List Step → Step → Next
made_after shape tables opening before step = next tables (after tables (opened shape opening) before).state step

-- what there is to see after a step of which this came, where this value was due before it
abbrev pub scene_of : Step → Next → Option ℕ → Scene
scene_of step made due = scene_in made.state step made.outcome due

-- what there is to see after that step in the world's history
abbrev pub scene_after : Extent → Tables → List ℕ → List Step → Step → Scene
scene_after shape tables opening before step =
    scene_of step (made_after shape tables opening before step) (due opening (completions_of shape tables opening before) (block_of step))

-- a watch has seen these steps of a world's history: it has the values that are due after them
abbrev pub HasSeen : View → List ℕ → List Step → List ℕ → Type 0
HasSeen world opening steps values = AreDue opening (completions_of world.shape world.tables opening steps) values

-- these steps and then this one, with this outcome, lead to a world
abbrev pub LeadTo : List ℕ → List Step → Step → Outcome → View → Type 0
LeadTo opening before step outcome world = made_after world.shape world.tables opening before step ≡ stepped world.state outcome

-- whatever history the watch has seen, if this step is the next then the answer is exactly its violation in that history
abbrev pub AnswersHistory : View → List ℕ → Step → Outcome → Option Violation → Type 0
AnswersHistory world values step outcome answer =
    (opening : List ℕ) (before : List Step) → HasSeen world opening before values → LeadTo opening before step outcome world →
    Answers (scene_after world.shape world.tables opening before step) answer

-- whatever history the watch has seen, if this step is the next then it has seen it too
abbrev pub SeesNext : View → List ℕ → Step → Outcome → List ℕ → Type 0
SeesNext world old step outcome new =
    (opening : List ℕ) (before : List Step) → HasSeen world opening before old → LeadTo opening before step outcome world →
    HasSeen world opening (before ++ step ∷ []) new

-- a watch has noted a step, and this is what is wrong after it: by what there is to see, and in whatever history the watch has seen
pub record SeesStep (world : View) (old : List ℕ) (step : Step) (outcome : Outcome) (answer : Option Violation) (new : List ℕ) : Type 0 where
  pub noted : new ≡ noted old (block_of step) outcome
  pub violation : Answers (scene_in world.state step outcome (slice_get old (block_of step))) answer
  pub history : AnswersHistory world old step outcome answer
  pub seen : SeesNext world old step outcome new

-- whatever steps led to a world, if this was the last of them, with this outcome, then the answer is exactly its violation in that history
abbrev pub AnswersLast : View → Step → Outcome → Option Violation → Type 0
AnswersLast world step outcome answer =
    (opening : List ℕ) (before : List Step) → LeadTo opening before step outcome world →
    Answers (scene_after world.shape world.tables opening before step) answer
