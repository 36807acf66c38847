use Rattle.std.specs.Prelude.{◌≢◌, ℕ, ◌≤◌, List, ◌∷◌, ◌++◌, codes, length, map}
use Rattle.base.specs.Spelling.{ask_words, step_words, FitsAsk, FitsStep}
use Rattle.base.specs.declared.step.Ask.{Ask}
use Rattle.base.specs.declared.step.Step.{Step}
use Rattle.base.specs.declared.text.steps.MessageKind.{MessageKind}
use Rattle.base.specs.declared.text.steps.MessageKind.TheVariants.{Request, Forward, Response}

-- these words name no actions, at most eight
abbrev pub IsNoActions : {A : Type 0} → (A → List ℕ) → List (List ℕ) → Type 0
IsNoActions {A} action line = (actions : List A) → length actions ≤ 8 → line ≢ map action actions

-- these words don't begin with those of a step
abbrev pub IsNoStepFirst : List (List ℕ) → Type 0
IsNoStepFirst line = (s : Step) (others : List (List ℕ)) → FitsStep s → line ≢ step_words s ++ others

-- these words don't begin with what a core asks
abbrev pub IsNoAskFirst : List (List ℕ) → Type 0
IsNoAskFirst line = (ask : Ask) (others : List (List ℕ)) → FitsAsk ask → line ≢ ask_words ask ++ others

-- the word for a kind of messages
abbrev pub kind_word : MessageKind → List ℕ
kind_word Request = codes "request"
kind_word Forward = codes "forward"
kind_word Response = codes "response"

-- the first of these words, with another behind it, is for no kind of messages
abbrev pub IsNoKindFirst : List (List ℕ) → Type 0
IsNoKindFirst line = (kind : MessageKind) (first : List ℕ) (others : List (List ℕ)) → line ≢ kind_word kind ∷ first ∷ others
