-- Lines of a step, an equals sign and what follows.
use Rattle.std.proofs.Common.{◌≡◌, ◌≢◌, ◌<◌, ℕ, List, [], ◌∷◌, ◌++◌, eqb, None, length, refl, ap, sym, ◌∙◌, arith, codes}
use Rattle.std.proofs.lemmas.List.Splits.{length-slice_split}
use Rattle.base.specs.Words.{words, spaced}
use Rattle.base.specs.Spelling.{step_words, outcome_words, FitsStep, IsNoOutcome}
use Rattle.base.specs.declared.step.Step.{Step}
use Rattle.base.specs.declared.step.Outcome.{Outcome}
use Rattle.base.specs.declared.step.Outcome.TheVariants as outcome
use Rattle.record_lines.specs.declared.due.Due.TheVariants.{EntryLine}
use Rattle.record_lines.specs.declared.due.TextHead.{TextHead}
use Rattle.record_lines.specs.declared.told.Told.{Told}
use Rattle.base.proofs.Spellings.{behind_step}
use Rattle.record_lines.specs.Refused.{HasNoOutcome, IsFaultOfLine}
use Rattle.record_lines.specs.Reading.{IsFaultOfTold, HasNoOwned, HasNoStep}
use Rattle.record_lines.specs.declared.fault.ReadKind.{ReadKind}
use Rattle.record_lines.specs.declared.fault.ReadKind.TheVariants.{BadHeader, BadLine, Truncated, CountDiffers, BadOutcome, OverLimit, NoMemory, Device}
use Rattle.record_lines.specs.declared.fault.ReadKind.TheVariants.{UnknownProtocol}
use Rattle.record_lines.specs.Grammar.{FitsTold}
use Rattle.record_lines.specs.Text.{by_words, told_words}
use Rattle.record_lines.proofs.Words.{spelled-text}

-- behind a step no equals sign stands in front
pub no-sign : (line : List (List ℕ)) (s : Step) (rest : List ℕ) → line ≡ step_words s ++ words rest → ((behind : List ℕ) → rest ≢ 61 ∷ 32 ∷ behind) →
    HasNoStep line
no-sign line s rest is none t first others fits e =
    let same = behind_step s t (words rest) (codes "=" ∷ first ∷ others) (sym is ∙ e) in
    none (first ++ spaced others) (spelled-text rest (codes "=" ∷ first ∷ others) same)

some-part : (xs : List ℕ) → 0 < length (words xs)
some-part xs = omega (arith, length-slice_split (λ b. eqb b 32) xs)

parts-of : (xs : List ℕ) (parts : List (List ℕ)) → words xs ≡ parts → (first : List ℕ) × (others : List (List ℕ)) × (words xs ≡ first ∷ others)
parts-of xs [] is = absurd (omega (arith, some-part xs, ap length is))
parts-of xs (first ∷ others) is = (first, others, is)

-- a step, an equals sign, and what is no outcome
pub bad-outcome : (line : List (List ℕ)) (s : Step) (rest : List ℕ) → FitsStep s → line ≡ step_words s ++ codes "=" ∷ words rest → IsNoOutcome rest →
    HasNoOutcome 0 line
bad-outcome line s rest fits is none =
    let parts = parts-of rest (words rest) refl in
    record {
      owner = None;
      owned = refl;
      step = s;
      first = parts.0;
      others = parts.1;
      fits = fits;
      spelled = is ∙ ap (λ l. step_words s ++ codes "=" ∷ l) parts.2;
      none = λ o small e. none o small (parts.2 ∙ e);
    }

-- ---- where an entry is due

some-outcome : (o : Outcome) → (v : List ℕ) × (us : List (List ℕ)) × (outcome_words o ≡ v ∷ us)
some-outcome outcome.Sent = (_, _, refl)
some-outcome outcome.Moved = (_, _, refl)
some-outcome (outcome.Load cache value) = (_, _, refl)
some-outcome (outcome.Store cache value) = (_, _, refl)
some-outcome outcome.Held = (_, _, refl)
some-outcome outcome.Absent = (_, _, refl)
some-outcome outcome.Idle = (_, _, refl)
some-outcome outcome.Blank = (_, _, refl)
some-outcome outcome.Broken = (_, _, refl)

-- a line with no owner, step and equals sign in front tells no entry
not-told : (seats : ℕ) (line : List (List ℕ)) (t : Told) → HasNoOwned seats line → FitsTold seats t → line ≢ told_words t
not-told seats line t none fits e =
    let parts = some-outcome t.entry.outcome in
    none t.owner t.entry.step parts.0 parts.1 fits.0 fits.1.0
    (e ∙ ap (λ us. by_words t.owner ++ (step_words t.entry.step ++ codes "=" ∷ us)) parts.2)

pub told-fault : (f : TextHead) (left : ℕ) (line : List (List ℕ)) (kind : ReadKind) → IsFaultOfTold f.seats line kind → IsFaultOfLine (EntryLine f left) line kind
told-fault f left line CountDiffers h = h
told-fault f left line BadOutcome h = h
told-fault f left line BadLine h = record {
  behind_header = λ e. cc;
  other = λ next leads. not-told f.seats line leads.0 h.0 leads.1 leads.2;
  not_over = λ no. no;
  known = λ no. no;
  not_miscounted = h.1;
  no_bad_outcome = λ bad. h.0 bad.owner bad.step bad.first bad.others bad.owned bad.fits bad.spelled;
}
told-fault f left line OverLimit h = absurd h
told-fault f left line BadHeader h = absurd h
told-fault f left line Truncated h = absurd h
told-fault f left line NoMemory h = absurd h
told-fault f left line Device h = absurd h
told-fault f left line UnknownProtocol h = absurd h
