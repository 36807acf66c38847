-- Under tables that have a closed set of pairs every run is safe.
use Rattle.std.proofs.Common.{◌≡◌, ℕ, ◌≤◌, ◌⊎◌, List, [], ap, sym, subst, ◌∙◌, inl, inr, true, false, Contains}
use Rattle.std.proofs.lemmas.Bool.{cases_eq}
use Rattle.base.specs.Extent.{Extent, IsWithinLimits}
use Rattle.base.specs.declared.step.Step.{Step}
use Rattle.control.specs.declared.line.Line.{Line}
use Rattle.control.specs.LineEffect.{is_reader, is_writer}
use Rattle.tables.specs.Tables.{Tables}
use Rattle.machine.specs.Block.{BlockState, IsBlockAmong}
use Rattle.machine.specs.Transition.{transition, decision_of}
use Rattle.machine.specs.Machine.{opened, outcomes_of}
use Rattle.machine.specs.Completions.{completions}
use Rattle.machine.specs.Coherence.{Safe}
use Rattle.machine.proofs.Fitting.{decision-fits}
use Rattle.machine.proofs.Whole.{whole-carried_out}
use Rattle.machine.proofs.Completing.{Follows, followed-explained}
use Rattle.machine.proofs.Following.{followed-from, latests-opened}
use Rattle.machine.proofs.LineValues.{FitsLatest}
use Rattle.machine.proofs.Runs.{Guards, guarded, guarded-single, guarded-unmet}
use Rattle.machine.proofs.Safety.{few-enough}
use Rattle.machine.proofs.SingleWriter.{HasOneWriter}
use Rattle.machine.proofs.Sound.{line_of-there}
use Rattle.pairs.specs.declared.pair.Pair.{Pair}
use Rattle.pairs.specs.Sights.{sight, home_data_seen}
use Rattle.closing.specs.Closed.{Closed}
use Rattle.closing.proofs.Alpha.{Tags, alpha, Faithful}
use Rattle.closing.proofs.Simulation.{Moves, HomeMoves, Goes, Breaks, Simulated}
use Rattle.closing.proofs.Simulating.{simulated}
use Rattle.closing.proofs.Opening.{opened_tags, opened-faithful, opened-alpha, opened-whole}
use Rattle.closing.proofs.Gluing.{AllIn, no-breach, moved-in, home_moved-in}

-- the invariant of a block: there are tags with which all its pairs are among these
pub record Followed (pairs : List Pair) (caches : ℕ) (b : BlockState) : Type 0 where
  pub whole : IsBlockAmong caches b
  pub tags : Tags
  pub faithful : Faithful tags b
  pub inside : AllIn pairs tags b

-- KEPT
-- no pair of a followed block breaks
unbroken : (tables : Tables) (pairs : List Pair) (caches : ℕ) (b : BlockState) → Closed tables pairs → (f : Followed pairs caches b) → Breaks tables f.tags
    b → ⊥
unbroken tables pairs caches b closed f (c, d, ne, t, inl (rule, breach)) =
    no-breach pairs (sight tables rule t (alpha f.tags b c d)) (closed.steps (alpha f.tags b c d) rule t (f.inside c d ne)) breach
unbroken tables pairs caches b closed f (c, d, ne, t, inr breach) =
    no-breach pairs (home_data_seen tables t (alpha f.tags b c d)) (closed.home_data (alpha f.tags b c d) t (f.inside c d ne)) breach

-- so each transition goes
pub goes : (tables : Tables) (pairs : List Pair) (caches : ℕ) → Closed tables pairs → caches ≤ 4294967296 → (s : Step) (b : BlockState) →
    (f : Followed pairs caches b) → Goes tables f.tags b (transition tables s b)
goes tables pairs caches closed few s b f = at (simulated tables caches f.tags b s few f.whole f.faithful)
  where
    at : Simulated tables f.tags b s → Goes tables f.tags b (transition tables s b)
    at (inl breaks) = absurd (unbroken tables pairs caches b closed f breaks)
    at (inr g) = g

followed-moved : (tables : Tables) (pairs : List Pair) (caches : ℕ) (b new : BlockState) → Closed tables pairs → (f : Followed pairs caches b) →
    IsBlockAmong caches new → (new ≡ b) ⊎ Moves tables f.tags b new ⊎ HomeMoves tables f.tags b new → Followed pairs caches new
followed-moved tables pairs caches b new closed f whole (inl same) = subst (λ (x : BlockState). Followed pairs caches x) (sym same) f
followed-moved tables pairs caches b new closed f whole (inr (inl m)) =
    record { whole = whole; tags = m.after; faithful = m.faithful; inside = moved-in tables pairs caches f.tags b new closed whole f.inside m }
followed-moved tables pairs caches b new closed f whole (inr (inr m)) =
    record { whole = whole; tags = m.after; faithful = m.faithful; inside = home_moved-in tables pairs f.tags b new closed f.inside m }

-- SAFE
single-followed : (tables : Tables) (pairs : List Pair) (caches : ℕ) (b : BlockState) → Closed tables pairs → Followed pairs caches b → HasOneWriter b
single-followed tables pairs caches b closed f i j x y at_i at_j writes reads =
    elim (cases_eq i j) [
      | inl same ↦ same
      | inr ne ↦
          let w : is_writer (alpha f.tags b i j).first.state ≡ true = ap (λ (l : Line). is_writer l.state) (line_of-there b.lines i x at_i) ∙ writes in
          let r : is_reader (alpha f.tags b i j).second.state ≡ true = ap (λ (l : Line). is_reader l.state) (line_of-there b.lines j y at_j) ∙ reads in
          let no : true ≡ false = sym r ∙ closed.single (alpha f.tags b i j) (f.inside i j ne) w in
          absurd (cc)
    ]

-- the invariant guards a block
pub closed-guards : (tables : Tables) (pairs : List Pair) (caches : ℕ) → Closed tables pairs → caches ≤ 4294967296 →
    Guards (Followed pairs caches) tables caches
closed-guards tables pairs caches closed few = record {
  at_first =
      λ value. record {
        whole = opened-whole caches value;
        tags = opened_tags;
        faithful = opened-faithful caches value;
        inside = λ c d ne. subst (λ (p : Pair). Contains pairs p) (sym (opened-alpha caches value c d)) closed.opened;
      };
  kept =
      λ s b f. followed-moved tables pairs caches b (transition tables s b).block closed f
      (whole-carried_out caches (decision_of tables s b) b f.whole (decision-fits caches tables s b f.whole))
      (goes tables pairs caches closed few s b f).moves;
  single = λ b f. single-followed tables pairs caches b closed f;
  unmet = λ s b f. (goes tables pairs caches closed few s b f).unmet;
}

-- where a guarded invariant makes each transition fit, all runs are safe
guarded-safe : (P : BlockState → Type 0) (tables : Tables) (shape : Extent) (opening : List ℕ) (steps : List Step) → Guards P tables shape.caches →
    ((s : Step) (b : BlockState) → P b → FitsLatest (transition tables s b).outcome b.latest
    (transition tables s b).block.latest) → Safe shape tables opening steps
guarded-safe P tables shape opening steps g fits = record {
  single = λ front rest e. guarded-single P tables shape g opening front;
  unmet = λ front rest s e. guarded-unmet P tables shape g opening front s;
  explained = followed-explained opening (completions steps (outcomes_of tables (opened shape opening) steps))
      (subst (λ (l : List ℕ). Follows l (completions steps (outcomes_of tables (opened shape opening) steps))) (latests-opened shape opening)
      (followed-from P tables g.kept fits steps (opened shape opening) (guarded P tables shape g opening [])));
}

-- under tables that have a closed set of pairs every run is safe
pub closed-safe : (tables : Tables) (pairs : List Pair) (shape : Extent) (opening : List ℕ) (steps : List Step) → Closed tables pairs →
    IsWithinLimits shape → Safe shape tables opening steps
closed-safe tables pairs shape opening steps closed within =
    guarded-safe (Followed pairs shape.caches) tables shape opening steps (closed-guards tables pairs shape.caches closed (few-enough shape within))
    (λ s b f. (goes tables pairs shape.caches closed (few-enough shape within) s b f).fits)
