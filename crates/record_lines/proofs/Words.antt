-- Words of lines.
use Rattle.std.proofs.Common.{◌≡◌, ◌≢◌, Bool, arith, ℕ, List, [], ◌∷◌, ◌++◌, Option, Some, None, length, refl, ap, sym}
use Rattle.std.proofs.Common.{◌∙◌, append_assoc}
use Rattle.std.proofs.lemmas.List.{append-nil}
use Rattle.std.proofs.lemmas.Grind.{flat_map-append}
use Rattle.std.specs.List.{join_with_byte, slice_split}
use Rattle.std.specs.Prelude.{codes}
use Rattle.std.specs.Fmt.{decimal}
use Rattle.std.proofs.lemmas.List.Splits.{join_with_byte-slice_split, length-slice_split}
use Rattle.base.specs.Words.{words, spaced, joined}
use Rattle.base.specs.Spelling.{ask_words, step_words, outcome_words}
use Rattle.base.specs.declared.step.Step.{Step}
use Rattle.base.specs.declared.step.Step.TheVariants as step
use Rattle.base.specs.declared.step.Outcome.{Outcome}
use Rattle.base.specs.declared.step.Outcome.TheVariants as outcome
use Rattle.record_lines.specs.declared.entry.Entry.{Entry}
use Rattle.record_lines.specs.declared.told.Told.{Told}
use Rattle.record_lines.specs.Text.{by_words, entry_words, told_words}
use Rattle.record_lines.specs.inner.Pieces.{by_text}

-- words with a blank between two
pub joined-is : (ws : List (List ℕ)) → join_with_byte 32 ws ≡ joined ws
joined-is [] = refl
joined-is (w ∷ []) = sym (append-nil w)
joined-is (w ∷ v ∷ ws) = ap (λ l. w ++ 32 ∷ l) (joined-is (v ∷ ws))

-- the bytes of a line of these words
pub spelled-text : (line : List ℕ) (ws : List (List ℕ)) → words line ≡ ws → line ≡ joined ws
spelled-text line ws is = sym (join_with_byte-slice_split 32 line) ∙ ap (join_with_byte 32) is ∙ joined-is ws

-- a word in front of others isn't alone
pub not_one : (p : ℕ → Bool) (rest : List ℕ) (all : List (List ℕ)) (a x : List ℕ) → all ≡ a ∷ slice_split p rest → all ≢ x ∷ []
not_one p rest all a x e f = let n = length-slice_split p rest in absurd (omega (arith, n, ap length (sym e ∙ f)))

-- two words in front of others aren't alone
pub not_two : (p : ℕ → Bool) (rest : List ℕ) (all : List (List ℕ)) (a b x y : List ℕ) → all ≡ a ∷ b ∷ slice_split p rest → all ≢ x ∷ y ∷ []
not_two p rest all a b x y e f = let n = length-slice_split p rest in absurd (omega (arith, n, ap length (sym e ∙ f)))

-- three words in front of others aren't alone
pub not_three : (p : ℕ → Bool) (rest : List ℕ) (all : List (List ℕ)) (a b c x y z : List ℕ) → all ≡ a ∷ b ∷ c ∷ slice_split p rest → all ≢ x ∷ y ∷ z ∷ []
not_three p rest all a b c x y z e f = let n = length-slice_split p rest in absurd (omega (arith, n, ap length (sym e ∙ f)))

-- words and then others
pub joined-then : (w v : List ℕ) (ws vs : List (List ℕ)) → joined (w ∷ ws ++ v ∷ vs) ≡ joined (w ∷ ws) ++ 32 ∷ joined (v ∷ vs)
joined-then w v ws vs = ap (λ l. w ++ l) (flat_map-append (λ word. 32 ∷ word) ws (v ∷ vs)) ∙ sym (append_assoc w (spaced ws) (32 ∷ joined (v ∷ vs)))

outcome-behind : (w : List ℕ) (ws : List (List ℕ)) (o : Outcome) →
    joined (w ∷ ws ++ codes "=" ∷ outcome_words o) ≡ joined (w ∷ ws) ++ (32 ∷ 61 ∷ 32 ∷ joined (outcome_words o))
outcome-behind w ws o = joined-then w (codes "=") ws (outcome_words o) ∙ ap (λ l. joined (w ∷ ws) ++ (32 ∷ 61 ∷ l)) (behind (outcome_words o) (some o))
  where
    behind : (vs : List (List ℕ)) → ((v : List ℕ) × (us : List (List ℕ)) × (vs ≡ v ∷ us)) → spaced vs ≡ 32 ∷ joined vs
    behind vs (v, us, e) = rw e refl

    some : (o : Outcome) → (v : List ℕ) × (us : List (List ℕ)) × (outcome_words o ≡ v ∷ us)
    some outcome.Sent = (_, _, refl)
    some outcome.Moved = (_, _, refl)
    some (outcome.Load cache value) = (_, _, refl)
    some (outcome.Store cache value) = (_, _, refl)
    some outcome.Held = (_, _, refl)
    some outcome.Absent = (_, _, refl)
    some outcome.Idle = (_, _, refl)
    some outcome.Blank = (_, _, refl)
    some outcome.Broken = (_, _, refl)

-- an entry's text is its step's and its outcome's
pub step_then : (e : Entry) → joined (entry_words e) ≡ joined (step_words e.step) ++ (32 ∷ 61 ∷ 32 ∷ joined (outcome_words e.outcome))
step_then e = by e.step e.outcome
  where
    by : (s : Step) (o : Outcome) → joined (step_words s ++ codes "=" ∷ outcome_words o) ≡ joined (step_words s) ++ (32 ∷ 61 ∷ 32 ∷ joined (outcome_words o))
    by (step.Ask cache block ask) o = outcome-behind (codes "ask") (decimal cache.0 ∷ decimal block.0 ∷ ask_words ask) o
    by (step.Request block index) o = outcome-behind (codes "request") (decimal block.0 ∷ decimal index ∷ []) o
    by (step.Forward block cache) o = outcome-behind (codes "forward") (decimal block.0 ∷ decimal cache.0 ∷ []) o
    by (step.Response block index) o = outcome-behind (codes "response") (decimal block.0 ∷ decimal index ∷ []) o

-- an entry's text with its owner's in front
pub told_then : (t : Told) →
    joined (told_words t) ≡ by_text t.owner ++ (joined (step_words t.entry.step) ++ (32 ∷ 61 ∷ 32 ∷ joined (outcome_words t.entry.outcome)))
told_then t = by t.owner t.entry.step t.entry.outcome
  where
    some : (s : Step) (o : Outcome) → (v : List ℕ) × (vs : List (List ℕ)) × (step_words s ++ codes "=" ∷ outcome_words o ≡ v ∷ vs)
    some (step.Ask cache block ask) o = (_, _, refl)
    some (step.Request block index) o = (_, _, refl)
    some (step.Forward block cache) o = (_, _, refl)
    some (step.Response block index) o = (_, _, refl)

    by : (p : Option ℕ) (s : Step) (o : Outcome) →
        joined (by_words p ++ (step_words s ++ codes "=" ∷ outcome_words o))
        ≡ by_text p ++ (joined (step_words s) ++ (32 ∷ 61 ∷ 32 ∷ joined (outcome_words o)))
    by None s o = step_then (record { step = s; outcome = o })
    by (Some k) s o =
        let parts = some s o in
        let front : joined (codes "by" ∷ decimal k ∷ []) ≡ codes "by" ++ (32 ∷ decimal k) = ap (λ l. codes "by" ++ l) (append-nil (32 ∷ decimal k)) in
        ap (λ l. joined (codes "by" ∷ decimal k ∷ l)) parts.2 ∙ joined-then (codes "by") parts.0 (decimal k ∷ []) parts.1
        ∙ ap (λ l. joined (codes "by" ∷ decimal k ∷ []) ++ 32 ∷ joined l) (sym parts.2)
        ∙ ap (λ l. joined (codes "by" ∷ decimal k ∷ []) ++ 32 ∷ l) (step_then (record { step = s; outcome = o }))
        ∙ ap (λ l. l ++ 32 ∷ (joined (step_words s) ++ (32 ∷ 61 ∷ 32 ∷ joined (outcome_words o)))) front
        ∙ sym (append_assoc (codes "by" ++ (32 ∷ decimal k)) (32 ∷ []) (joined (step_words s) ++ (32 ∷ 61 ∷ 32 ∷ joined (outcome_words o))))
        ∙ ap (λ l. l ++ (joined (step_words s) ++ (32 ∷ 61 ∷ 32 ∷ joined (outcome_words o)))) (append_assoc (codes "by") (32 ∷ decimal k) (32 ∷ []))
