-- How the loads and stores that cores put are answered.
use Rattle.std.specs.Prelude.{◌≡◌, ◌==◌, ◌≤◌, ℕ, List, ◌++◌, length, filter, map}
use Rattle.std.specs.List.{flat_map}
use Rattle.base.specs.declared.step.CoreAsk.{CoreAsk}
use Rattle.machine.specs.Coherence.{Explained}
use Rattle.machine.specs.Completions.{Completion, completions}
use Rattle.record_lines.specs.declared.entry.Entry.{Entry}
use Rattle.moment.specs.Moments.{answered, put_by}

-- the completions of entries, in order
abbrev pub completed_in : List Entry → List Completion
completed_in entries = completions (map (λ e. e.step) entries) (map (λ e. e.outcome) entries)

-- the loads and stores that entries put, in order
abbrev pub put_in : List Entry → List CoreAsk
put_in entries = flat_map (λ e. put_by e.step e.outcome) entries

-- those of one core
abbrev pub of_core : ℕ → List CoreAsk → List CoreAsk
of_core core asks = filter (λ a. a.core.0 == core) asks

-- each core's completions answer the loads and stores that it put, in its order: the same block, a load or a store of the same value. One at most
-- still waits, the last.
abbrev pub AnswersInTurn : List Entry → Type 0
AnswersInTurn entries = (core : ℕ) → (waiting : List CoreAsk) ×
    (of_core core (put_in entries) ≡ of_core core (map answered (completed_in entries)) ++ waiting) × (length waiting ≤ 1)

-- the completions are sequentially consistent: their one order keeps that of each core, and in it each load returns the value of the last store to
-- its block, or the opening value
pub record AreSequential (opening : List ℕ) (entries : List Entry) : Type 0 where
  pub in_turn : AnswersInTurn entries
  pub latest : Explained opening (completed_in entries)
