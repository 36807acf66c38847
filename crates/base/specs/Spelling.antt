use Rattle.base.specs.Words.{words, IsSpelled}
use Rattle.std.specs.Prelude.{◌≡◌, ◌≢◌, ℕ, ◌<◌, ◌^◌, ⊤, Bool, ◌&&◌, leb, ltb, List, [], ◌∷◌, ◌++◌, Option, Some, None, codes, length}
use Rattle.std.specs.Prelude.{if◌then◌else◌, option_and_then}
use Rattle.std.specs.List.{find, list_all}
use Rattle.std.specs.Str.{bytes_eq}
use Rattle.std.specs.Fmt.{decimal}
use Rattle.base.specs.declared.step.Ask.{Ask}
use Rattle.base.specs.declared.step.Ask.TheVariants.{Load, Store, Replace}
use Rattle.base.specs.declared.step.Step.{Step}
use Rattle.base.specs.declared.step.Step.TheVariants.{Request, Forward, Response}
use Rattle.base.specs.declared.step.Step.TheVariants as step
use Rattle.base.specs.declared.step.Outcome.{Outcome}
use Rattle.base.specs.declared.step.Outcome.TheVariants.{Sent, Moved, Held, Absent, Idle, Blank, Broken}
use Rattle.base.specs.declared.step.Outcome.TheVariants as outcome

-- the first of these things that is spelled so, if there is one
abbrev pub named_in : {X : Type 0} → (X → List ℕ) → List X → List ℕ → Option X
named_in spelling all text = find (λ x. bytes_eq (spelling x) text) all

-- this thing, if it is one of those that are meant
abbrev pub only_if : {X : Type 0} → (X → Bool) → X → Option X
only_if meant x = if meant x then Some x else None

-- the first of these things that is spelled so, if it is one of those that are meant
abbrev pub named_of : {X : Type 0} → (X → Bool) → (X → List ℕ) → List X → List ℕ → Option X
named_of meant spelling all text = option_and_then (only_if meant) (named_in spelling all text)

-- whether a text may be a name: at most 13 bytes, each of which stands behind the blank
abbrev pub is_name : List ℕ → Bool
is_name text = leb (length text) 13 && list_all (λ b. ltb 32 b) text

-- no such thing is spelled so
abbrev pub IsUnnamed : {X : Type 0} → (X → List ℕ) → List ℕ → Type 0
IsUnnamed {X} spelling text = (x : X) → text ≢ spelling x

-- the words that spell what a core asks
abbrev pub ask_words : Ask → List (List ℕ)
ask_words Load = codes "load" ∷ []
ask_words (Store value) = codes "store" ∷ decimal value ∷ []
ask_words Replace = codes "replace" ∷ []

-- the words that spell a step
abbrev pub step_words : Step → List (List ℕ)
step_words (step.Ask cache block ask) = codes "ask" ∷ decimal cache.0 ∷ decimal block.0 ∷ ask_words ask
step_words (Request block index) = codes "request" ∷ decimal block.0 ∷ decimal index ∷ []
step_words (Forward block cache) = codes "forward" ∷ decimal block.0 ∷ decimal cache.0 ∷ []
step_words (Response block index) = codes "response" ∷ decimal block.0 ∷ decimal index ∷ []

-- the words that spell an outcome
abbrev pub outcome_words : Outcome → List (List ℕ)
outcome_words Sent = codes "sent" ∷ []
outcome_words Moved = codes "moved" ∷ []
outcome_words (outcome.Load cache value) = codes "load" ∷ decimal cache.0 ∷ decimal value ∷ []
outcome_words (outcome.Store cache value) = codes "store" ∷ decimal cache.0 ∷ decimal value ∷ []
outcome_words Held = codes "held" ∷ []
outcome_words Absent = codes "absent" ∷ []
outcome_words Idle = codes "idle" ∷ []
outcome_words Blank = codes "blank" ∷ []
outcome_words Broken = codes "broken" ∷ []

-- the numbers of an ask are in range of their types
abbrev pub FitsAsk : Ask → Type 0
FitsAsk Load = ⊤
FitsAsk (Store value) = value < 2 ^ 64
FitsAsk Replace = ⊤

-- the numbers of a step are in range of their types
abbrev pub FitsStep : Step → Type 0
FitsStep (step.Ask cache block ask) = (cache.0 < 2 ^ 32) × (block.0 < 2 ^ 32) × FitsAsk ask
FitsStep (Request block index) = (block.0 < 2 ^ 32) × (index < 2 ^ 64)
FitsStep (Forward block cache) = (block.0 < 2 ^ 32) × (cache.0 < 2 ^ 32)
FitsStep (Response block index) = (block.0 < 2 ^ 32) × (index < 2 ^ 64)

-- the numbers of an outcome are in range of their types
abbrev pub FitsOutcome : Outcome → Type 0
FitsOutcome Sent = ⊤
FitsOutcome Moved = ⊤
FitsOutcome (outcome.Load cache value) = (cache.0 < 2 ^ 32) × (value < 2 ^ 64)
FitsOutcome (outcome.Store cache value) = (cache.0 < 2 ^ 32) × (value < 2 ^ 64)
FitsOutcome Held = ⊤
FitsOutcome Absent = ⊤
FitsOutcome Idle = ⊤
FitsOutcome Blank = ⊤
FitsOutcome Broken = ⊤

-- the line is the text of the step
abbrev pub IsStepLine : List ℕ → Step → Type 0
IsStepLine line s = IsSpelled line (step_words s)

-- the line is the text of no step
abbrev pub IsNoStep : List ℕ → Type 0
IsNoStep line = (s : Step) → FitsStep s → words line ≢ step_words s

-- the line is the text of the outcome
abbrev pub IsOutcomeLine : List ℕ → Outcome → Type 0
IsOutcomeLine line o = IsSpelled line (outcome_words o)

-- the line is the text of no outcome
abbrev pub IsNoOutcome : List ℕ → Type 0
IsNoOutcome line = (o : Outcome) → FitsOutcome o → words line ≢ outcome_words o

-- the line isn't what a core asks
abbrev pub IsNoAsk : List ℕ → Type 0
IsNoAsk line = (ask : Ask) → FitsAsk ask → words line ≢ ask_words ask

-- behind the word, the line spells the step
abbrev pub IsStepBehind : List ℕ → List ℕ → Step → Type 0
IsStepBehind word line s = word ∷ words line ≡ step_words s

-- behind the word, the line spells no step
abbrev pub IsNoStepBehind : List ℕ → List ℕ → Type 0
IsNoStepBehind word line = (s : Step) → FitsStep s → word ∷ words line ≢ step_words s

-- the one word spells the outcome
abbrev pub IsOutcomeWord : List ℕ → Outcome → Type 0
IsOutcomeWord word o = word ∷ [] ≡ outcome_words o

-- the one word spells no outcome
abbrev pub IsNoOutcomeWord : List ℕ → Type 0
IsNoOutcomeWord word = (o : Outcome) → FitsOutcome o → word ∷ [] ≢ outcome_words o

-- a line is the text of one step at most
abbrev pub SpellsOneStep : Type 0
SpellsOneStep = (line : List ℕ) (s t : Step) → FitsStep s → FitsStep t → IsStepLine line s → IsStepLine line t → s ≡ t

-- the first words of the line are no step's with something behind them
abbrev pub HasNoStepInFront : List ℕ → Type 0
HasNoStepInFront line = (s : Step) (first : List ℕ) (others : List (List ℕ)) → FitsStep s → words line ≢ step_words s ++ first ∷ others
