-- Two trials of one number are the same.
use Rattle.std.proofs.Common.{◌≡◌, ◌≢◌, ◌<◌, ◌≤◌, ◌+◌, ◌%◌, ◌⊎◌, inl, inr, ℕ, zero, suc, List, [], ◌∷◌, ◌++◌, length, map, take, Some, None}
use Rattle.std.proofs.Common.{slice_get, refl, sym, ap, ◌∙◌, subst, arith, length-append}
use Rattle.std.proofs.lemmas.List.{map-append, length-map, take-append-le}
use Rattle.base.specs.Extent.{Extent}
use Rattle.base.specs.declared.step.Step.{Step}
use Rattle.tables.specs.Tables.{Tables}
use Rattle.machine.specs.Machine.{next}
use Rattle.monitor.specs.declared.violation.Violation.{Violation}
use Rattle.monitor.specs.Scenes.{Scene, IsViolation}
use Rattle.monitor.specs.Watching.{scene_after}
use Rattle.record.specs.View.{RecordingView}
use Rattle.record_lines.specs.declared.entry.Entry.{Entry}
use Rattle.monitor.specs.Violations.{IsFirstViolation}
use Rattle.schedule.specs.Choices.{chosen_step, rest_after}
use Rattle.schedule.specs.declared.choosing.Choice.{Choice}
use Rattle.trials.specs.Terms.{Terms}
use Rattle.moment.specs.Moments.{Moment, choices_at, moment_behind}
use Rattle.trials.specs.Moments.{IsNext, entry_of}
use Rattle.trials.specs.Trial.{IsVerdict, AreClean, IsUnowned}
use Rattle.trials.specs.declared.verdict.Verdict.{Verdict}
use Rattle.trials.specs.declared.verdict.Verdict.TheVariants.{Quiet, Cut, Stuck, Broke}
use Rattle.moment.proofs.Places.{same-some, get-low}
use Rattle.trials.proofs.Walks.{Walks}

-- ---- a word leads to one moment

same-choice : (tables : Tables) (drawn : ℕ) (m n p : Moment) (e f : Entry) (one : IsNext tables drawn m e n) (other : IsNext tables drawn m f p) →
    one.choice ≡ other.choice
same-choice tables drawn m n p e f one other = same-some one.choice other.choice (sym one.taken ∙ other.taken)

next-entry : (tables : Tables) (drawn : ℕ) (m n p : Moment) (e f : Entry) → IsNext tables drawn m e n → IsNext tables drawn m f p → e ≡ f
next-entry tables drawn m n p e f one other =
    one.made ∙ ap (λ (c : Choice). entry_of (chosen_step c) (next tables m.state (chosen_step c))) (same-choice tables drawn m n p e f one other)
    ∙ sym other.made

next-moment : (tables : Tables) (drawn : ℕ) (m n p : Moment) (e f : Entry) → IsNext tables drawn m e n → IsNext tables drawn m f p → n ≡ p
next-moment tables drawn m n p e f one other =
    one.leads
    ∙ ap (λ (c : Choice). moment_behind m (chosen_step c) (next tables m.state (chosen_step c)) (rest_after c m.rest))
    (same-choice tables drawn m n p e f one other)
    ∙ sym other.leads

some-choice : (tables : Tables) (drawn : ℕ) (m n : Moment) (e : Entry) → IsNext tables drawn m e n → choices_at tables m ≢ []
some-choice tables drawn m n e is none =
    let no : None ≡ Some is.choice = sym (ap (λ (l : List Choice). slice_get l (drawn % length (choices_at tables m))) none) ∙ is.taken in
    absurd (cc no)

-- ---- two walks agree as far as both go

-- another walk goes on where this one ended
pub record GoesOn (tables : Tables) (es fs : List Entry) (last : Moment) : Type 0 where
  pub more : Entry
  pub rest : List Entry
  pub split : fs ≡ es ++ more ∷ rest
  pub goes : choices_at tables last ≢ []

abbrev pub Agree : Tables → List Entry → List Entry → Moment → Moment → Type 0
Agree tables es fs last final = ((es ≡ fs) × (last ≡ final)) ⊎ GoesOn tables es fs last ⊎ GoesOn tables fs es final

one-further : (tables : Tables) (e f : Entry) (es fs : List Entry) (last final : Moment) → e ≡ f → Agree tables es fs last final →
    Agree tables (e ∷ es) (f ∷ fs) last final
one-further tables e f es fs last final same (inl h) = inl (ap (λ x. x ∷ es) same ∙ ap (λ l. f ∷ l) h.0, h.1)
one-further tables e f es fs last final same (inr (inl h)) =
    inr (inl (record { more = h.more; rest = h.rest; split = ap (λ x. x ∷ fs) (sym same) ∙ ap (λ l. e ∷ l) h.split; goes = h.goes }))
one-further tables e f es fs last final same (inr (inr h)) =
    inr (inr (record { more = h.more; rest = h.rest; split = ap (λ x. x ∷ es) same ∙ ap (λ l. f ∷ l) h.split; goes = h.goes }))

pub walks-agree : (tables : Tables) (draw : ℕ → ℕ) (m last final : Moment) (es fs : List Entry) → Walks tables draw m es last →
    Walks tables draw m fs final → Agree tables es fs last final
walks-agree tables draw m last final [] [] one other = inl (refl, sym one ∙ other)
walks-agree tables draw m last final [] (f ∷ fs) one other =
    inr (inl
    (record {
      more = f;
      rest = fs;
      split = refl;
      goes = subst (λ (x : Moment). choices_at tables x ≢ []) one
          (some-choice tables (draw 0) m other.0 f other.1);
    }))
walks-agree tables draw m last final (e ∷ es) [] one other =
    inr (inr
    (record { more = e; rest = es; split = refl; goes = subst (λ (x : Moment). choices_at tables x ≢ []) other (some-choice tables (draw 0) m one.0 e one.1) }))
walks-agree tables draw m last final (e ∷ es) (f ∷ fs) one other =
    let n : Moment = one.0 in
    let p : Moment = other.0 in
    one-further tables e f es fs last final (next-entry tables (draw 0) m n p e f one.1 other.1)
    (walks-agree tables (λ j. draw (suc j)) n last final es fs one.2
    (subst (λ (x : Moment). Walks tables (λ j. draw (suc j)) x fs final) (sym (next-moment tables (draw 0) m n p e f one.1 other.1)) other.2))

-- ---- no trial goes on where another one ended

get-front : {X : Type 0} (xs ys : List X) (k : ℕ) (x : X) → slice_get xs k ≡ Some x → slice_get (xs ++ ys) k ≡ Some x
get-front [] ys k x e = absurd (cc e)
get-front (z ∷ xs) ys zero x e = e
get-front (z ∷ xs) ys (suc k) x e = get-front xs ys k x e

-- what shows a violation is seen also where more steps follow
seen-further : (terms : Terms) (steps later : List Step) (number : ℕ) (step : Step) (violation : Violation) → slice_get steps number ≡ Some step
    → IsViolation (scene_after terms.shape terms.tables terms.opening (take number steps) step) violation → IsViolation
    (scene_after terms.shape terms.tables terms.opening (take number (steps ++ later)) step) violation
seen-further terms steps later number step violation at shown =
    let low : number < length steps = get-low steps step number at in
    subst (λ (l : List Step). IsViolation (scene_after terms.shape terms.tables terms.opening l step) violation)
    (sym (take-append-le number steps later (omega (arith, low)))) shown

clean-none : (terms : Terms) (steps later : List Step) (number : ℕ) (violation : Violation) →
    IsFirstViolation terms.shape terms.tables terms.opening steps number violation → ¬ AreClean terms (steps ++ later)
clean-none terms steps later number violation first clean =
    let shown = first.shown in
    let there = get-front steps later number shown.step shown.there in
    clean number shown.step there violation (seen-further terms steps later number shown.step violation shown.there shown.shown).shown

ends-first : (terms : Terms) (steps later : List Step) (final : Moment) (verdict : Verdict) (number : ℕ) (violation : Violation) →
    number + 1 < length (steps ++ later)
    → IsFirstViolation terms.shape terms.tables terms.opening steps number violation → ¬ IsVerdict terms (steps ++ later) final verdict
ends-first terms steps later final Quiet number violation low first ends = clean-none terms steps later number violation first ends.0
ends-first terms steps later final Stuck number violation low first ends = clean-none terms steps later number violation first ends.0
ends-first terms steps later final Cut number violation low first ends = clean-none terms steps later number violation first ends.0
ends-first terms steps later final (Broke other) number violation low first ends =
    let shown = first.shown in
    let there = get-front steps later number shown.step shown.there in
    let e : length (steps ++ later) ≡ ends.0 + 1 = ends.1 in
    let before : number < ends.0 = omega (arith, e, low) in
    ends.2.first number shown.step before there violation (seen-further terms steps later number shown.step violation shown.there shown.shown).shown

more-steps : (steps : List Step) (step : Step) (later : List Step) → length steps < length (steps ++ step ∷ later)
more-steps steps step later = let e = length-append steps (step ∷ later) in omega (arith, e)

goes-on-not : (terms : Terms) (steps : List Step) (step : Step) (later : List Step) (last final : Moment) (verdict another : Verdict) →
    choices_at terms.tables last ≢ [] → length (steps ++ step ∷ later) ≤ terms.limit
    → IsVerdict terms steps last verdict → ¬ IsVerdict terms (steps ++ step ∷ later) final another
goes-on-not terms steps step later last final Quiet another goes few ends other = goes ends.1
goes-on-not terms steps step later last final Stuck another goes few ends other = goes ends.1
goes-on-not terms steps step later last final Cut another goes few ends other =
    let e = ends.2 in
    let more = more-steps steps step later in
    absurd (omega (arith, e, few, more))
goes-on-not terms steps step later last final (Broke violation) another goes few ends other =
    let e = ends.1 in
    let more = more-steps steps step later in
    ends-first terms steps (step ∷ later) final another ends.0 violation (omega (arith, e, more)) ends.2 other

pub no-longer : (terms : Terms) (es fs : List Entry) (last final : Moment) (verdict another : Verdict) → length fs ≤ terms.limit →
    GoesOn terms.tables es fs last
    → IsVerdict terms (map (λ (e : Entry). e.step) es) last verdict → ¬ IsVerdict terms (map (λ (e : Entry). e.step) fs) final another
no-longer terms es fs last final verdict another few h ends other =
    let step : Entry → Step = λ e. e.step in
    let split : map step fs ≡ map step es ++ h.more.step ∷ map step h.rest = ap (map step) h.split ∙ map-append step es (h.more ∷ h.rest) in
    goes-on-not terms (map step es) h.more.step (map step h.rest) last final verdict another h.goes
    (subst (λ (l : List Step). length l ≤ terms.limit) split (subst (λ n. n ≤ terms.limit) (sym (length-map fs step)) few))
    ends (subst (λ (l : List Step). IsVerdict terms l final another) split other)

-- ---- the verdicts of the same steps

abbrev OneViolation : Type 0
OneViolation = (scene : Scene) (one other : Violation) → IsViolation scene one → IsViolation scene other → one ≡ other

broke-clean : (terms : Terms) (steps : List Step) (last : Moment) (violation : Violation) → IsVerdict terms steps last (Broke violation) →
    ¬ AreClean terms steps
broke-clean terms steps last violation h clean = clean h.0 h.2.shown.step h.2.shown.there violation h.2.shown.shown.shown

same-number : (m n l : ℕ) → l ≡ m + 1 → l ≡ n + 1 → m ≡ n
same-number m n l e f = omega (arith, e, f)

same-broke : (terms : Terms) (steps : List Step) (last : Moment) (one other : Violation) → OneViolation → IsVerdict terms steps last (Broke one) →
    IsVerdict terms steps last (Broke other) → one ≡ other
same-broke terms steps last one other only h k =
    let n : h.0 ≡ k.0 = same-number h.0 k.0 (length steps) h.1 k.1 in
    let first : IsFirstViolation terms.shape terms.tables terms.opening steps k.0 one =
    subst (λ x. IsFirstViolation terms.shape terms.tables terms.opening steps x one) n h.2 in
    let step : first.shown.step ≡ k.2.shown.step = same-some first.shown.step k.2.shown.step (sym first.shown.there ∙ k.2.shown.there) in
    only (scene_after terms.shape terms.tables terms.opening (take k.0 steps) k.2.shown.step) one other
    (subst (λ (s : Step). IsViolation (scene_after terms.shape terms.tables terms.opening (take k.0 steps) s) one) step first.shown.shown) k.2.shown.shown

pub same-verdict : (terms : Terms) (steps : List Step) (last : Moment) (verdict another : Verdict) → OneViolation →
    IsVerdict terms steps last verdict → IsVerdict terms steps last another → verdict ≡ another
same-verdict terms steps last (Broke one) (Broke other) only h k = ap Broke (same-broke terms steps last one other only h k)
same-verdict terms steps last (Broke one) Quiet only h k = absurd (broke-clean terms steps last one h k.0)
same-verdict terms steps last (Broke one) Stuck only h k = absurd (broke-clean terms steps last one h k.0)
same-verdict terms steps last (Broke one) Cut only h k = absurd (broke-clean terms steps last one h k.0)
same-verdict terms steps last Quiet (Broke other) only h k = absurd (broke-clean terms steps last other k h.0)
same-verdict terms steps last Stuck (Broke other) only h k = absurd (broke-clean terms steps last other k h.0)
same-verdict terms steps last Cut (Broke other) only h k = absurd (broke-clean terms steps last other k h.0)
same-verdict terms steps last Quiet Quiet only h k = refl
same-verdict terms steps last Stuck Stuck only h k = refl
same-verdict terms steps last Cut Cut only h k = refl
same-verdict terms steps last Quiet Stuck only h k = absurd (k.2 h.2)
same-verdict terms steps last Stuck Quiet only h k = absurd (h.2 k.2)
same-verdict terms steps last Quiet Cut only h k = absurd (k.1 h.1)
same-verdict terms steps last Stuck Cut only h k = absurd (k.1 h.1)
same-verdict terms steps last Cut Quiet only h k = absurd (h.1 k.1)
same-verdict terms steps last Cut Stuck only h k = absurd (h.1 k.1)

-- a recording without seats
abbrev of : Extent → Tables → List ℕ → List Entry → RecordingView
of shape tables opening entries =
    record { seats = 0; shape = shape; tables = tables; opening = opening; entries = entries; owners = [] }

unowned-is : (r : RecordingView) → IsUnowned r → r ≡ of r.shape r.tables r.opening r.entries
unowned-is r u =
    ap (λ n. let x : RecordingView =
    record { seats = n; shape = r.shape; tables = r.tables; opening = r.opening; entries = r.entries; owners = r.owners } in x) u.seats
    ∙ ap (λ os. let x : RecordingView =
    record { seats = 0; shape = r.shape; tables = r.tables; opening = r.opening; entries = r.entries; owners = os } in x) u.owners

pub same-kept : (one other : RecordingView) → IsUnowned one → IsUnowned other → one.shape ≡ other.shape → one.tables ≡ other.tables →
    one.opening ≡ other.opening → one.entries ≡ other.entries → one ≡ other
same-kept one other u v e f g h =
    unowned-is one u ∙ ap (λ x. of x one.tables one.opening one.entries) e ∙ ap (λ x. of other.shape x one.opening one.entries) f
    ∙ ap (λ x. of other.shape other.tables x one.entries) g ∙ ap (of other.shape other.tables other.opening) h ∙ sym (unowned-is other v)
