-- The steps of a run of a trial, and its ends.
use Rattle.std.proofs.Common.{◌≡◌, ◌<◌, ◌≤◌, ◌+◌, ℕ, Option, Some, None, length, ap, sym, subst, ◌∙◌, arith}
use Rattle.monitor.specs.declared.violation.Violation.{Violation}
use Rattle.scenario.specs.Tree.{Tree}
use Rattle.record.specs.View.{RecordingView}
use Rattle.trials.specs.declared.course.Course as course
use Rattle.trials.specs.declared.verdict.Verdict.{Verdict}
use Rattle.trials.specs.declared.verdict.Verdict.TheVariants.{Cut}
use Rattle.trials.specs.Terms.{Terms}
use Rattle.trials.specs.Trial.{IsTrial}
use Rattle.trials.specs.inner.Going.{Begins, Chooses, Course, Ends, GoesOn, IsGoing, IsStart, IsVerdictAtRest, MakesAndNotes, MakesNoted, parts_of}
use Rattle.trials.proofs.Pushing.{length-push}

-- whatever trial began so is going, with so many entries
abbrev pub HasCome : {A N : Type 0} → (N → RecordingView → Type 0) → course.Course A N → ℕ → ℕ → course.Course A N → Type 0
HasCome tells old limit made c = (terms : Terms) (tree : Tree) (number : ℕ) → terms.limit ≡ limit → Begins tells terms tree number old →
    (r : RecordingView) × tells c.notes r × (length r.entries ≡ made) × IsGoing terms tree number (parts_of r c)

-- a choice was drawn, whatever recording the notes tell of
abbrev pub HasChosen : {A N : Type 0} → course.Course A N → Option ℕ → course.Course A N → Type 0
HasChosen c found chosen = (r : RecordingView) → Chooses (parts_of r c) found (parts_of r chosen)

abbrev pub RestEnds : Type 0
RestEnds = (terms : Terms) (tree : Tree) (number : ℕ) (c chosen : Course) (verdict : Verdict) →
    IsGoing terms tree number c → length c.recording.entries ≤ terms.limit → Chooses c None chosen → IsVerdictAtRest chosen.moment verdict →
    IsTrial terms tree number chosen.recording verdict

abbrev pub StepGoes : Type 0
StepGoes = (terms : Terms) (tree : Tree) (number : ℕ) (c chosen made : Course) (k : ℕ) (violation : Option Violation) →
    IsGoing terms tree number c → length c.recording.entries < terms.limit → Chooses c
    (Some k) chosen → MakesAndNotes chosen k made violation → GoesOn terms tree number made violation

abbrev pub LimitCuts : Type 0
LimitCuts = (terms : Terms) (tree : Tree) (number : ℕ) (c chosen : Course) (k : ℕ) →
    IsGoing terms tree number c → length c.recording.entries ≡ terms.limit → Chooses c (Some k) chosen → IsTrial terms tree number chosen.recording Cut

-- there is no choice
pub ends-without : RestEnds → {A N : Type 0} → (tells : N → RecordingView → Type 0) (old c chosen : course.Course A N) (limit made : ℕ)
    (found : Option ℕ) (verdict : Verdict) → HasCome tells old limit made c → made ≤ limit → HasChosen c found chosen → found ≡ None →
    chosen.notes ≡ c.notes → IsVerdictAtRest chosen.moment verdict → Ends tells old limit chosen verdict
ends-without rest {A} {N} tells old c chosen limit made found verdict come few chooses none notes is terms tree number same begins =
    let at = come terms tree number same begins in
    let count = at.2 in (
      at.0,
      subst (λ (n : N). tells n at.0) (sym notes) at.1,
      rest terms tree number (parts_of at.0 c) (parts_of at.0 chosen) verdict at.3 (omega (arith, few, same, count))
          (subst (λ (x : Option ℕ). Chooses (parts_of at.0 c) x (parts_of at.0 chosen)) none (chooses at.0)) is,
    )

-- there is room for one more entry
pub room-left : {A N : Type 0} → (tells : N → RecordingView → Type 0) (old c chosen : course.Course A N) (limit made : ℕ) → IsStart tells limit old →
    HasCome tells old limit made c → made < limit → chosen.notes ≡ c.notes → (r : RecordingView) × tells chosen.notes r × (length r.entries < 1000000)
room-left {A} {N} tells old c chosen limit made start come low notes =
    let at = come start.0 start.1 start.2 start.3 start.5 in
    let same = start.3 in
    let few = start.4.few in
    let count = at.2 in (at.0, subst (λ (n : N). tells n at.0) (sym notes) at.1, omega (arith, low, same, few, count))

-- it has one entry more
pub one-more-entry : (c chosen made : Course) (k : ℕ) (shown : Option Violation) → Chooses c (Some k) chosen →
    MakesAndNotes chosen k made shown → length made.recording.entries ≡ length c.recording.entries + 1
one-more-entry c chosen made k shown taken m =
    ap (λ (r : RecordingView). length r.entries) m.recorded ∙ length-push chosen.recording.entries (record { step = m.step; outcome = m.made.outcome })
    ∙ ap (λ (x : Course). length x.recording.entries + 1) taken.2

-- the step of a choice ends the trial, or doesn't
pub step-goes : StepGoes → {A N : Type 0} → (tells : N → RecordingView → Type 0) (old c chosen new : course.Course A N) (limit made : ℕ)
    (found : Option ℕ) (k : ℕ) (shown violation : Option Violation) → HasCome tells old limit made c → made < limit →
    HasChosen c found chosen → found ≡ Some k → chosen.notes ≡ c.notes → MakesNoted tells chosen k new shown → shown ≡ violation →
    (terms : Terms) (tree : Tree) (number : ℕ) → terms.limit ≡ limit → Begins tells terms tree number old →
    (r : RecordingView) × tells new.notes r × (length r.entries ≡ made + 1) × GoesOn terms tree number (parts_of r new) violation
step-goes goes {A} {N} tells old c chosen new limit made found k shown violation come low chooses is notes makes shows terms tree number same
    begins =
    let at = come terms tree number same begins in
    let count = at.2 in
    let taken = subst (λ (x : Option ℕ). Chooses (parts_of at.0 c) x (parts_of at.0 chosen)) is (chooses at.0) in
    let next = makes at.0 (subst (λ (n : N). tells n at.0) (sym notes) at.1) in (
      next.0,
      next.1,
      one-more-entry (parts_of at.0 c) (parts_of at.0 chosen) (parts_of next.0 new) k shown taken next.2 ∙ ap (λ (n : ℕ). n + 1) count,
      goes terms tree number (parts_of at.0 c) (parts_of at.0 chosen) (parts_of next.0 new) k violation at.3 (omega (arith, low, same, count)) taken
          (subst (λ (x : Option Violation). MakesAndNotes (parts_of at.0 chosen) k (parts_of next.0 new) x) shows next.2),
    )

-- at the limit there is a choice
pub cuts : LimitCuts → {A N : Type 0} → (tells : N → RecordingView → Type 0) (old c chosen : course.Course A N) (limit made : ℕ) (found : Option ℕ)
    (k : ℕ) → HasCome tells old limit made c → made ≡ limit → HasChosen c found chosen → found ≡ Some k → chosen.notes ≡ c.notes →
    Ends tells old limit chosen Cut
cuts cut {A} {N} tells old c chosen limit made found k come many chooses is notes terms tree number same begins =
    let at = come terms tree number same begins in (
      at.0,
      subst (λ (n : N). tells n at.0) (sym notes) at.1,
      cut terms tree number (parts_of at.0 c) (parts_of at.0 chosen) k at.3 (at.2 ∙ many ∙ sym same)
          (subst (λ (x : Option ℕ). Chooses (parts_of at.0 c) x (parts_of at.0 chosen)) is (chooses at.0)),
    )
