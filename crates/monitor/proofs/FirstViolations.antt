-- One step more: where none of the steps before it shows a violation, it shows the first one, if any.
use Rattle.std.proofs.Common.{◌≡◌, ◌⊎◌, ◌<◌, ◌≤◌, ℕ, zero, suc, List, [], ◌∷◌, ◌++◌, Option, Some, None, length, take, slice_get, refl, ap, sym}
use Rattle.std.proofs.Common.{subst, ◌∙◌, inl, inr, arith}
use Rattle.std.specs.Option.{option_or, option_zip}
use Rattle.std.proofs.lemmas.List.{take_all, take-append-le}
use Rattle.base.specs.Extent.{Extent}
use Rattle.base.specs.declared.step.Step.{Step}
use Rattle.tables.specs.Tables.{Tables}
use Rattle.monitor.specs.declared.violation.Violation.{Violation}
use Rattle.monitor.specs.Scenes.{Scene, HasNone, IsViolation, Answers}
use Rattle.monitor.specs.Watching.{scene_after}
use Rattle.monitor.specs.Violations.{HasNoViolation, AnswersFirst}

-- an element of a list with one more is one of the list, or that one
get-push : {X : Type 0} (xs : List X) (x y : X) (k : ℕ) → slice_get (xs ++ x ∷ []) k ≡ Some y →
    ((slice_get xs k ≡ Some y) × (k < length xs)) ⊎ ((k ≡ length xs) × (x ≡ y))
get-push [] x y zero e = inr (refl, cc)
get-push [] x y (suc k) e = absurd (cc)
get-push (z ∷ xs) x y zero e = inl (e, omega arith)
get-push (z ∷ xs) x y (suc k) e = elim (get-push xs x y k e) [
  | inl h ↦ inl (h.0, let lt = h.1 in omega (arith, lt))
  | inr h ↦ inr (ap suc h.0, h.1)
]

get-pushed : {X : Type 0} (xs : List X) (x : X) → slice_get (xs ++ x ∷ []) (length xs) ≡ Some x
get-pushed [] x = refl
get-pushed (z ∷ xs) x = get-pushed xs x

get-kept : {X : Type 0} (xs : List X) (x y : X) (k : ℕ) → slice_get xs k ≡ Some y → slice_get (xs ++ x ∷ []) k ≡ Some y
get-kept [] x y k e = absurd (cc)
get-kept (z ∷ xs) x y zero e = e
get-kept (z ∷ xs) x y (suc k) e = get-kept xs x y k e

get-low : {X : Type 0} (xs : List X) (y : X) (k : ℕ) → slice_get xs k ≡ Some y → k < length xs
get-low [] y k e = absurd (cc)
get-low (z ∷ xs) y zero e = omega arith
get-low (z ∷ xs) y (suc k) e = let lt = get-low xs y k e in omega (arith, lt)

take-whole : {X : Type 0} (xs ys : List X) → take (length xs) (xs ++ ys) ≡ xs
take-whole xs ys = take-append-le (length xs) xs ys (omega arith) ∙ take_all (length xs) xs (omega arith)

-- a step that isn't the last shows what it showed
scene-kept : (shape : Extent) (tables : Tables) (opening : List ℕ) (steps : List Step) (step : Step) (k : ℕ) (s : Step) → k < length steps →
    scene_after shape tables opening (take k steps) s ≡ scene_after shape tables opening (take k (steps ++ step ∷ [])) s
scene-kept shape tables opening steps step k s low =
    ap (λ (front : List Step). scene_after shape tables opening front s) (sym (take-append-le k steps (step ∷ []) (omega arith)))

-- the last step is made after the others
scene-last : (shape : Extent) (tables : Tables) (opening : List ℕ) (steps : List Step) (step : Step) (k : ℕ) → k ≡ length steps →
    scene_after shape tables opening steps step ≡ scene_after shape tables opening (take k (steps ++ step ∷ [])) step
scene-last shape tables opening steps step k is =
    ap (λ (front : List Step). scene_after shape tables opening front step) (sym (ap (λ n. take n (steps ++ step ∷ [])) is ∙ take-whole steps (step ∷ [])))

-- the steps of a list with one more show no violation below a number
none-below : (shape : Extent) (tables : Tables) (opening : List ℕ) (steps : List Step) (step : Step) (n k : ℕ) (s : Step) → n ≤ length steps →
    ((j : ℕ) (t : Step) → j < n → slice_get steps j ≡ Some t → HasNone (scene_after shape tables opening (take j steps) t)) → k < n →
    slice_get (steps ++ step ∷ []) k ≡ Some s → HasNone (scene_after shape tables opening (take k (steps ++ step ∷ [])) s)
none-below shape tables opening steps step n k s fits none low e =
    elim (get-push steps step s k e) [
      | inl h ↦ subst HasNone (scene-kept shape tables opening steps step k s h.1) (none k s low h.0)
      | inr h ↦ absurd (let at = h.0 in omega (arith, at, low, fits))
    ]

none-last : (shape : Extent) (tables : Tables) (opening : List ℕ) (steps : List Step) (step : Step) →
    HasNoViolation shape tables opening steps → HasNone (scene_after shape tables opening steps step) →
    HasNoViolation shape tables opening (steps ++ step ∷ [])
none-last shape tables opening steps step none last k s e =
    elim (get-push steps step s k e) [
      | inl h ↦ subst HasNone (scene-kept shape tables opening steps step k s h.1) (none k s h.0)
      | inr h ↦ subst (λ (t : Step). HasNone (scene_after shape tables opening (take k (steps ++ step ∷ [])) t)) h.1
          (subst HasNone (scene-last shape tables opening steps step k h.0) last)
    ]

-- the violation found so far, or else the one that is seen after the step of this number
abbrev pub first_seen : Option (ℕ × Violation) → ℕ → Option Violation → Option (ℕ × Violation)
first_seen found number seen = option_or found (option_zip (Some number) seen)

-- one more step
pub first-push : (shape : Extent) (tables : Tables) (opening : List ℕ) (steps : List Step) (step : Step) (n : ℕ) (found : Option (ℕ × Violation))
    (seen : Option Violation) →
    n ≡ length steps → AnswersFirst shape tables opening steps found → Answers (scene_after shape tables opening steps step) seen →
    AnswersFirst shape tables opening (steps ++ step ∷ []) (first_seen found n seen)
first-push shape tables opening steps step n None None is none last = none-last shape tables opening steps step none last
first-push shape tables opening steps step n None (Some violation) is none last = record {
  shown = record {
    step = step;
    there = ap (slice_get (steps ++ step ∷ [])) is ∙ get-pushed steps step;
    shown = subst (λ (scene : Scene). IsViolation scene violation) (scene-last shape tables opening steps step n is) last;
  };
  first = λ k s low e. none-below shape tables opening steps step n k s (omega (arith, is)) (λ j t below at. none j t at) low e;
}
first-push shape tables opening steps step n (Some (k, violation)) seen is before last =
    let low = get-low steps before.shown.step k before.shown.there in
    record {
      shown = record {
        step = before.shown.step;
        there = get-kept steps step before.shown.step k before.shown.there;
        shown = subst (λ (scene : Scene). IsViolation scene violation) (scene-kept shape tables opening steps step k before.shown.step low) before.shown.shown;
      };
      first = λ j s below e. none-below shape tables opening steps step k j s (omega (arith, low)) before.first below e;
    }
