-- A path without the list of its moments.
use Rattle.std.proofs.Common.{◌≡◌, ◌+◌, ℕ, suc, List, [], ◌∷◌, length, map, Some, slice_get, refl, sym, ap, ◌∙◌, subst, arith}
use Rattle.tables.specs.Tables.{Tables}
use Rattle.machine.specs.Machine.{next, state_after, outcomes_of}
use Rattle.record_lines.specs.declared.entry.Entry.{Entry}
use Rattle.scenario.specs.Tree.{Tree}
use Rattle.schedule.specs.Words.{word}
use Rattle.trials.specs.Terms.{Terms}
use Rattle.moment.specs.Moments.{Moment}
use Rattle.trials.specs.Moments.{IsNext, IsPath, first_moment}
use Rattle.moment.proofs.Places.{same-some, there-is}

-- these entries lead from a moment to the last one, by these words
abbrev pub Walks : Tables → (ℕ → ℕ) → Moment → List Entry → Moment → Type 0
Walks tables draw m [] last = m ≡ last
Walks tables draw m (e ∷ es) last = (n : Moment) × IsNext tables (draw 0) m e n × Walks tables (λ j. draw (suc j)) n es last

walk-of : (tables : Tables) (draw : ℕ → ℕ) (m last : Moment) (moments : List Moment) (entries : List Entry) → length moments ≡ length entries + 1 →
    slice_get moments 0 ≡ Some m → slice_get moments (length entries) ≡ Some last
    → ((k : ℕ) (before behind : Moment) (entry : Entry) → slice_get moments k ≡ Some before → slice_get moments
    (k + 1) ≡ Some behind → slice_get entries k ≡ Some entry → IsNext tables (draw k) before entry behind) → Walks tables draw m entries last
walk-of tables draw m last moments [] count first at each = same-some m last (sym first ∙ at)
walk-of tables draw m last [] (e ∷ es) count first at each = absurd (omega (arith, count))
walk-of tables draw m last (x ∷ []) (e ∷ es) count first at each = absurd (omega (arith, count))
walk-of tables draw m last (x ∷ n ∷ rest) (e ∷ es) count first at each = (
  n,
  each 0 m n e first refl refl,
  walk-of tables (λ j. draw (suc j)) n last (n ∷ rest) es (omega (arith, count)) refl at
      (λ k before behind entry f g h. each (suc k) before behind entry f (ap (slice_get (x ∷ n ∷ rest)) (one-further k) ∙ g) h),
)
  where
    one-further : (k : ℕ) → suc k + 1 ≡ suc (k + 1)
    one-further k = omega arith

pub path-walks : (terms : Terms) (tree : Tree) (number : ℕ) (moments : List Moment) (entries : List Entry) (last : Moment) →
    IsPath terms tree number moments entries → slice_get moments (length entries) ≡ Some last
    → Walks terms.tables (λ k. word terms.seed number k) (first_moment terms tree) entries last
path-walks terms tree number moments entries last path at =
    walk-of terms.tables (λ k. word terms.seed number k) (first_moment terms tree) last moments entries path.count path.first at path.each

-- a path has a last moment
pub path-last : (terms : Terms) (tree : Tree) (number : ℕ) (moments : List Moment) (entries : List Entry) → IsPath terms tree number moments entries →
    (last : Moment) × (slice_get moments (length entries) ≡ Some last)
path-last terms tree number moments entries path = there-is moments (length entries) (omega (arith, path.count))

-- ---- what the steps of a walk lead to, and their outcomes

pub next-outcome : (tables : Tables) (drawn : ℕ) (before behind : Moment) (e : Entry) → IsNext tables drawn before e behind →
    e.outcome ≡ (next tables before.state e.step).outcome
next-outcome tables drawn before behind e is =
    subst (λ (x : Entry). x.outcome ≡ (next tables before.state x.step).outcome) (sym is.made) refl

pub next-state : (tables : Tables) (drawn : ℕ) (before behind : Moment) (e : Entry) → IsNext tables drawn before e behind →
    behind.state ≡ (next tables before.state e.step).state
next-state tables drawn before behind e is =
    ap (λ (m : Moment). m.state) is.leads ∙ ap (λ (x : Entry). (next tables before.state x.step).state) (sym is.made)

pub walk-outcomes : (tables : Tables) (draw : ℕ → ℕ) (m last : Moment) (entries : List Entry) → Walks tables draw m entries last →
    map (λ (e : Entry). e.outcome) entries ≡ outcomes_of tables m.state (map (λ (e : Entry). e.step) entries)
walk-outcomes tables draw m last [] walks = refl
walk-outcomes tables draw m last (e ∷ es) walks =
    let n : Moment = walks.0 in
    ap (λ o. o ∷ map (λ (e : Entry). e.outcome) es) (next-outcome tables (draw 0) m n e walks.1)
    ∙ ap (λ os. (next tables m.state e.step).outcome ∷ os)
    (walk-outcomes tables (λ j. draw (suc j)) n last es walks.2 ∙ ap (λ s. outcomes_of tables s (map (λ (e : Entry). e.step) es))
    (next-state tables (draw 0) m n e walks.1))

pub walk-state : (tables : Tables) (draw : ℕ → ℕ) (m last : Moment) (entries : List Entry) → Walks tables draw m entries last →
    last.state ≡ state_after tables m.state (map (λ (e : Entry). e.step) entries)
walk-state tables draw m last [] walks = ap (λ (x : Moment). x.state) (sym walks)
walk-state tables draw m last (e ∷ es) walks =
    let n : Moment = walks.0 in
    walk-state tables (λ j. draw (suc j)) n last es walks.2
    ∙ ap (λ s. state_after tables s (map (λ (e : Entry). e.step) es)) (next-state tables (draw 0) m n e walks.1)
