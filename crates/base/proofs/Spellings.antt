-- What spells a step or an outcome.
use Rattle.std.proofs.Common.{◌≡◌, ◌≢◌, ◌<◌, ◌^◌, List, ℕ, [], ◌∷◌, ◌++◌, Option, Some, None, length, eqb, codes, arith, ap, sym, ◌∙◌, get_or}
use Rattle.std.specs.Prelude.{MatchOption}
use Rattle.std.specs.Borrow.{Bor}
use Rattle.std.proofs.lemmas.List.{append-nil}
use Rattle.std.proofs.lemmas.List.Splits.{length-slice_split}
use Rattle.std.proofs.lemmas.Fmt.{decimal_injective}
use Rattle.std.specs.Fmt.{decimal}
use Rattle.base.specs.declared.ids.CacheId.{CacheId}
use Rattle.base.specs.declared.ids.BlockId.{BlockId}
use Rattle.base.specs.declared.step.Ask.{Ask}
use Rattle.base.specs.declared.step.Ask.TheVariants.{Load, Store, Replace}
use Rattle.base.specs.declared.step.Step.{Step}
use Rattle.base.specs.declared.step.Step.TheVariants.{Request, Forward, Response}
use Rattle.base.specs.declared.step.Step.TheVariants as step
use Rattle.base.specs.declared.step.Outcome.{Outcome}
use Rattle.base.specs.declared.step.Outcome.TheVariants.{Sent, Moved, Held, Absent, Idle, Blank, Broken}
use Rattle.base.specs.declared.step.Outcome.TheVariants as outcome
use Rattle.base.specs.inner.Behind.{kind_word, IsNoKindFirst, IsNoStepFirst}
use Rattle.base.specs.Words.{words_behind, IsNoNumberFirst, words}
use Rattle.base.specs.declared.text.steps.MessageKind.{MessageKind}
use Rattle.base.specs.declared.text.steps.MessageKind.TheVariants as kind
use Rattle.base.proofs.Fronts.{spelled}
use Rattle.base.specs.Spelling.{outcome_words, IsNoOutcome, IsNoOutcomeWord, IsOutcomeWord, IsOutcomeLine, ask_words, step_words, FitsAsk, FitsStep}

same_cache : (c d : CacheId) → c.0 < 2 ^ 32 → d.0 < 2 ^ 32 → decimal c.0 ≡ decimal d.0 → c ≡ d
same_cache c d low below e = ap (λ n. record { 0 = n }) (decimal_injective c.0 d.0 (omega arith) (omega arith) e)

same_block : (b c : BlockId) → b.0 < 2 ^ 32 → c.0 < 2 ^ 32 → decimal b.0 ≡ decimal c.0 → b ≡ c
same_block b c low below e = ap (λ n. record { 0 = n }) (decimal_injective b.0 c.0 (omega arith) (omega arith) e)

same_ask : (a b : Ask) → FitsAsk a → FitsAsk b → ask_words a ≡ ask_words b → a ≡ b
same_ask Load Load f g e = cc
same_ask Load (Store w) f g e = cc
same_ask Load Replace f g e = cc
same_ask (Store v) Load f g e = cc
same_ask (Store v) (Store w) f g e = ap Store (decimal_injective v w f g cc)
same_ask (Store v) Replace f g e = cc
same_ask Replace Load f g e = cc
same_ask Replace (Store w) f g e = cc
same_ask Replace Replace f g e = cc

-- the first byte of the first word
abbrev first_byte : List (List ℕ) → ℕ
first_byte parts = get_or (get_or parts 0 []) 0 0

-- no two steps are spelled alike
pub same_step : (s t : Step) → FitsStep s → FitsStep t → step_words s ≡ step_words t → s ≡ t
same_step (step.Ask c b a) (step.Ask d k q) f g e = cc (same_cache c d f.0 g.0 cc, same_block b k f.1 g.1 cc, same_ask a q f.2 g.2 cc)
same_step (step.Ask c b a) (Request k j) f g e = cc
same_step (step.Ask c b a) (Forward k d) f g e = cc
same_step (step.Ask c b a) (Response k j) f g e = cc
same_step (Request b i) (step.Ask d k q) f g e = cc
same_step (Request b i) (Request k j) f g e = cc (same_block b k f.0 g.0 cc, decimal_injective i j f.1 g.1 cc)
same_step (Request b i) (Forward k d) f g e = let first : 114 ≡ 102 = ap first_byte e in absurd (omega (arith, first))
same_step (Request b i) (Response k j) f g e = cc
same_step (Forward b c) (step.Ask d k q) f g e = cc
same_step (Forward b c) (Request k j) f g e = let first : 102 ≡ 114 = ap first_byte e in absurd (omega (arith, first))
same_step (Forward b c) (Forward k d) f g e = cc (same_block b k f.0 g.0 cc, same_cache c d f.1 g.1 cc)
same_step (Forward b c) (Response k j) f g e = cc
same_step (Response b i) (step.Ask d k q) f g e = cc
same_step (Response b i) (Request k j) f g e = cc
same_step (Response b i) (Forward k d) f g e = cc
same_step (Response b i) (Response k j) f g e = cc (same_block b k f.0 g.0 cc, decimal_injective i j f.1 g.1 cc)

behind_ask : (a b : Ask) (rest more : List (List ℕ)) → ask_words a ++ rest ≡ ask_words b ++ more → rest ≡ more
behind_ask Load Load rest more e = cc
behind_ask Load (Store w) rest more e = cc
behind_ask Load Replace rest more e = cc
behind_ask (Store v) Load rest more e = cc
behind_ask (Store v) (Store w) rest more e = cc
behind_ask (Store v) Replace rest more e = cc
behind_ask Replace Load rest more e = cc
behind_ask Replace (Store w) rest more e = cc
behind_ask Replace Replace rest more e = cc

-- where two steps stand in front of the same words, so does the same behind them
pub behind_step : (s t : Step) (rest more : List (List ℕ)) → step_words s ++ rest ≡ step_words t ++ more → rest ≡ more
behind_step (step.Ask c b a) (step.Ask d k q) rest more e = behind_ask a q rest more cc
behind_step (step.Ask c b a) (Request k j) rest more e = cc
behind_step (step.Ask c b a) (Forward k d) rest more e = cc
behind_step (step.Ask c b a) (Response k j) rest more e = cc
behind_step (Request b i) (step.Ask d k q) rest more e = cc
behind_step (Request b i) (Request k j) rest more e = cc
behind_step (Request b i) (Forward k d) rest more e = let first : 114 ≡ 102 = ap first_byte e in absurd (omega (arith, first))
behind_step (Request b i) (Response k j) rest more e = cc
behind_step (Forward b c) (step.Ask d k q) rest more e = cc
behind_step (Forward b c) (Request k j) rest more e = let first : 102 ≡ 114 = ap first_byte e in absurd (omega (arith, first))
behind_step (Forward b c) (Forward k d) rest more e = cc
behind_step (Forward b c) (Response k j) rest more e = cc
behind_step (Response b i) (step.Ask d k q) rest more e = cc
behind_step (Response b i) (Request k j) rest more e = cc
behind_step (Response b i) (Forward k d) rest more e = cc
behind_step (Response b i) (Response k j) rest more e = cc

-- behind `ask` and a first word, no number below 2 ^ 32
pub no_ask : (line behind : List (List ℕ)) (first : List ℕ) → line ≡ first ∷ behind → IsNoNumberFirst 32 behind → IsNoStepFirst (codes "ask" ∷ line)
no_ask line behind first is none (step.Ask c b a) others fits = λ e. none b.0 (ask_words a ++ others) fits.1 cc
no_ask line behind first is none (Request b i) others fits = λ e. absurd cc
no_ask line behind first is none (Forward b c) others fits = λ e. absurd cc
no_ask line behind first is none (Response b i) others fits = λ e. absurd cc

-- what is below the last number of a step that serves such a message
abbrev below_last : MessageKind → ℕ → Type 0
below_last kind.Request n = n < 2 ^ 64
below_last kind.Forward n = n < 2 ^ 32
below_last kind.Response n = n < 2 ^ 64

-- the words of a step behind the word for a kind of messages
record AreTwoNumbers (kind : MessageKind) (line others : List (List ℕ)) : Type 0 where
  block : ℕ
  number : ℕ
  spelled : line ≡ decimal block ∷ decimal number ∷ others
  small : block < 2 ^ 32
  below : below_last kind number

two_numbers : (kind : MessageKind) (line : List (List ℕ)) (s : Step) (others : List (List ℕ)) → FitsStep s → kind_word kind ∷ line ≡ step_words s ++ others →
    AreTwoNumbers kind line others
two_numbers kind.Request line (step.Ask c b a) others fits e = absurd cc
two_numbers kind.Request line (Request b i) others fits e = record { block = b.0; number = i; spelled = cc; small = fits.0; below = fits.1 }
two_numbers kind.Request line (Forward b c) others fits e = let first : 114 ≡ 102 = ap first_byte e in absurd (omega (arith, first))
two_numbers kind.Request line (Response b i) others fits e = absurd cc
two_numbers kind.Forward line (step.Ask c b a) others fits e = absurd cc
two_numbers kind.Forward line (Request b i) others fits e = let first : 102 ≡ 114 = ap first_byte e in absurd (omega (arith, first))
two_numbers kind.Forward line (Forward b c) others fits e = record { block = b.0; number = c.0; spelled = cc; small = fits.0; below = fits.1 }
two_numbers kind.Forward line (Response b i) others fits e = absurd cc
two_numbers kind.Response line (step.Ask c b a) others fits e = absurd cc
two_numbers kind.Response line (Request b i) others fits e = absurd cc
two_numbers kind.Response line (Forward b c) others fits e = absurd cc
two_numbers kind.Response line (Response b i) others fits e = record { block = b.0; number = i; spelled = cc; small = fits.0; below = fits.1 }

below-64 : (kind : MessageKind) (n : ℕ) → below_last kind n → n < 2 ^ 64
below-64 kind.Request n low = low
below-64 kind.Forward n low = omega (arith, low)
below-64 kind.Response n low = low

-- behind such a word and a first one, no number
pub no_number : (kind : MessageKind) (line behind : List (List ℕ)) (first : List ℕ) → line ≡ first ∷ behind → IsNoNumberFirst 64 behind →
    IsNoStepFirst (kind_word kind ∷ line)
no_number kind line behind first is none s others fits e =
    let two = two_numbers kind line s others fits e in
    let spelled = two.spelled in
    none two.number others (below-64 kind two.number two.below) cc

-- a number that is too high for a cache
pub no_cache : (line : List (List ℕ)) (first : List ℕ) (n : ℕ) (behind : List (List ℕ)) → line ≡ first ∷ decimal n ∷ behind → n < 2 ^ 64 →
    (n < 2 ^ 32 → ⊥) → IsNoStepFirst (kind_word kind.Forward ∷ line)
no_cache line first n behind is small high s others fits e =
    let two = two_numbers kind.Forward line s others fits e in
    let spelled = two.spelled in
    let below : two.number < 2 ^ 32 = two.below in
    let same : decimal two.number ≡ decimal n = cc in
    let equal = decimal_injective two.number n (omega (arith, below)) small same in
    high (omega (arith, equal, below))

-- with neither `ask` nor such a word in front, no step
pub no_step : (line : List (List ℕ)) → ((first : List ℕ) (others : List (List ℕ)) → line ≢ codes "ask" ∷ first ∷ others) → IsNoKindFirst line →
    IsNoStepFirst line
no_step line ask none (step.Ask c b a) others fits = ask (decimal c.0) (decimal b.0 ∷ ask_words a ++ others)
no_step line ask none (Request b i) others fits = none kind.Request (decimal b.0) (decimal i ∷ others)
no_step line ask none (Forward b c) others fits = none kind.Forward (decimal b.0) (decimal c.0 ∷ others)
no_step line ask none (Response b i) others fits = none kind.Response (decimal b.0) (decimal i ∷ others)

-- a line that is one of these words is an outcome
pub bare : (line : List ℕ) (o : Outcome) → line ∷ [] ≡ outcome_words o → words line ≡ outcome_words o
bare line Sent e = let is : line ≡ codes "sent" = cc in ap words is
bare line Moved e = let is : line ≡ codes "moved" = cc in ap words is
bare line (outcome.Load cache value) e = absurd cc
bare line (outcome.Store cache value) e = absurd cc
bare line Held e = let is : line ≡ codes "held" = cc in ap words is
bare line Absent e = let is : line ≡ codes "absent" = cc in ap words is
bare line Idle e = let is : line ≡ codes "idle" = cc in ap words is
bare line Blank e = let is : line ≡ codes "blank" = cc in ap words is
bare line Broken e = let is : line ≡ codes "broken" = cc in ap words is

one-outcome : (line word : List ℕ) → words line ≡ word ∷ [] → line ∷ [] ≡ word ∷ []
one-outcome line word e = ap (λ (w : List ℕ). w ∷ []) (spelled line (word ∷ []) e ∙ append-nil word)

-- a line that is none of them, and no load nor store, is none
pub no_outcome : (line : List ℕ) → ((first : List ℕ) (others : List (List ℕ)) → words line ≢ codes "load" ∷ first ∷ others) →
    ((first : List ℕ) (others : List (List ℕ)) → words line ≢ codes "store" ∷ first ∷ others) → IsNoOutcomeWord line → IsNoOutcome line
no_outcome line load store none Sent fits = λ e. none Sent fits (one-outcome line _ e)
no_outcome line load store none Moved fits = λ e. none Moved fits (one-outcome line _ e)
no_outcome line load store none (outcome.Load cache value) fits = load _ _
no_outcome line load store none (outcome.Store cache value) fits = store _ _
no_outcome line load store none Held fits = λ e. none Held fits (one-outcome line _ e)
no_outcome line load store none Absent fits = λ e. none Absent fits (one-outcome line _ e)
no_outcome line load store none Idle fits = λ e. none Idle fits (one-outcome line _ e)
no_outcome line load store none Blank fits = λ e. none Blank fits (one-outcome line _ e)
no_outcome line load store none Broken fits = λ e. none Broken fits (one-outcome line _ e)

-- a bare outcome, or none
pub read_bare : (line : List ℕ) (r : Option Outcome) → ((first : List ℕ) (others : List (List ℕ)) → words line ≢ codes "load" ∷ first ∷ others) →
    ((first : List ℕ) (others : List (List ℕ)) → words line ≢ codes "store" ∷ first ∷ others) →
    MatchOption r (IsNoOutcomeWord line) (λ o. IsOutcomeWord line o) → MatchOption r (IsNoOutcome line) (λ o. IsOutcomeLine line o)
read_bare line None load store told = no_outcome line load store told
read_bare line (Some o) load store told = bare line o told

-- a step in front of more words is no step alone
pub more_than_step : (line : List (List ℕ)) (s t : Step) (rest : Option (Bor (List ℕ))) (more : Bor (List ℕ)) → rest ≡ Some more →
    line ≡ step_words s ++ words_behind rest → line ≢ step_words t
more_than_step line s t rest more some is e =
    let none : words_behind rest ≡ [] = behind_step s t (words_behind rest) [] (sym is ∙ e ∙ sym (append-nil (step_words t))) in
    let here : words_behind rest ≡ words more.now = ap words_behind some in
    absurd (omega (arith, length-slice_split (λ b. eqb b 32) more.now, ap length (sym here ∙ none)))
