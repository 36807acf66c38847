use Rattle.std.proofs.Common.{◌≡◌, ◌<◌, ◌≤◌, ℕ, Option, Some, None, ap, subst, sym, ◌∙◌, inl, inr, arith}
use Rattle.std.proofs.lemmas.Bool.Decides.{leb_tells}
use Rattle.base.specs.declared.ids.CacheId.{CacheId}
use Rattle.base.specs.declared.ids.BlockId.{BlockId}
use Rattle.base.specs.declared.step.Outcome.{Outcome}
use Rattle.monitor.specs.declared.violation.Violation.{Violation}
use Rattle.monitor.specs.declared.violation.Violation.TheVariants.{Blank, SecondWriter, WriterBesideReader, StaleLoad}
use Rattle.monitor.specs.Scenes.{Scene, Answers, HasNone, IsLeast, IsLoadOf, IsLookedAt, IsViolation, Shows, rank}
use Rattle.monitor.specs.Finding.{AnswersWithin, IsFirst, ShowsNone}

-- there are four kinds
rank-small : (violation : Violation) → rank violation < 4
rank-small (Blank at block) = omega arith
rank-small (SecondWriter block first second) = omega arith
rank-small (WriterBesideReader block writer reader) = omega arith
rank-small (StaleLoad block got due) = omega arith

-- nothing of these kinds, and nothing of the kinds after them
pub none-then : (scene : Scene) (low mid high : ℕ) → ShowsNone scene low mid → ShowsNone scene mid high → ShowsNone scene low high
none-then scene low mid high before after violation above below shown =
    elim (leb_tells mid (rank violation)) [
      | inl t ↦ after violation t.1 below shown
      | inr t ↦ before violation above t.1 shown
    ]

-- nothing of these kinds, and the first of the kinds after them
pub first-then : (scene : Scene) (low mid high : ℕ) (violation : Violation) → low ≤ mid → ShowsNone scene low mid → IsFirst scene mid high violation →
    IsFirst scene low high violation
first-then scene low mid high violation le before found = record {
  shown = found.shown;
  from = omega arith;
  below = found.below;
  first = none-then scene low mid (rank violation) before found.first;
}

-- the first of all kinds is the violation
pub first-violation : (scene : Scene) (high : ℕ) (violation : Violation) → IsFirst scene 0 high violation → IsViolation scene violation
first-violation scene high violation found = record {
  shown = found.shown;
  first = λ other below. found.first other (omega arith) below;
}

-- nothing of the four kinds is nothing at all
pub none-answer : (scene : Scene) → ShowsNone scene 0 4 → Answers scene None
none-answer scene none violation = none violation (omega arith) (rank-small violation)

-- nothing of the first three kinds, and then what is of the last
pub last-answer : (scene : Scene) (answer : Option Violation) → ShowsNone scene 0 3 → AnswersWithin scene 3 4 answer → Answers scene answer
last-answer scene None before after = none-answer scene (none-then scene 0 3 4 before after)
last-answer scene (Some violation) before after = first-violation scene 4 violation (first-then scene 0 3 4 violation (omega arith) before after)

-- there is one least number at most
least-one : (P : ℕ → Type 0) (m n : ℕ) → IsLeast P m → IsLeast P n → m ≡ n
least-one P m n one other =
    let above : ¬ (m < n) = λ below. other.least m below one.holds in
    let below : ¬ (n < m) = λ above. one.least n above other.holds in
    omega arith

-- an outcome is a load of one value at most
load-one : (what : Outcome) (v w : ℕ) → IsLoadOf v what → IsLoadOf w what → v ≡ w
load-one what v w one other = grind (arith)

-- two numbers of a cache or a block
cache-one : (c d : CacheId) → c.0 ≡ d.0 → c ≡ d
cache-one c d e = let id : ℕ → CacheId = λ n. record { 0 = n } in ap id e

block-one : (b d : BlockId) → b.0 ≡ d.0 → b ≡ d
block-one b d e = let id : ℕ → BlockId = λ n. record { 0 = n } in ap id e

-- two violations of one kind are one
same-kind : (scene : Scene) (one other : Violation) → rank one ≡ rank other → Shows scene one → Shows scene other → one ≡ other
same-kind scene (Blank at block) (Blank at' block') same a b =
    let e : block ≡ block' = block-one block block' (a.0 ∙ sym b.0) in
    cc (a.1.went_to, b.1.went_to)
same-kind scene (Blank at block) (SecondWriter block' first' second') same a b = absurd (omega arith)
same-kind scene (Blank at block) (WriterBesideReader block' writer' reader') same a b = absurd (omega arith)
same-kind scene (Blank at block) (StaleLoad block' got' due') same a b = absurd (omega arith)
same-kind scene (SecondWriter block first second) (Blank at' block') same a b = absurd (omega arith)
same-kind scene (SecondWriter block first second) (SecondWriter block' first' second') same a b =
    let e : block ≡ block' = block-one block block' (a.0 ∙ sym b.0) in
    let f : first.0 ≡ first'.0 = least-one _ first.0 first'.0 a.1.least b.1.least in
    let g : first ≡ first' = cache-one first first' f in
    let h : second ≡ second' = cache-one second second' (least-one _ second.0 second'.0 a.1.next (rw f b.1.next)) in
    cc
same-kind scene (SecondWriter block first second) (WriterBesideReader block' writer' reader') same a b = absurd (omega arith)
same-kind scene (SecondWriter block first second) (StaleLoad block' got' due') same a b = absurd (omega arith)
same-kind scene (WriterBesideReader block writer reader) (Blank at' block') same a b = absurd (omega arith)
same-kind scene (WriterBesideReader block writer reader) (SecondWriter block' first' second') same a b = absurd (omega arith)
same-kind scene (WriterBesideReader block writer reader) (WriterBesideReader block' writer' reader') same a b =
    let e : block ≡ block' = block-one block block' (a.0 ∙ sym b.0) in
    let f : writer.0 ≡ writer'.0 = least-one _ writer.0 writer'.0 a.1.writes b.1.writes in
    let g : writer ≡ writer' = cache-one writer writer' f in
    let h : reader ≡ reader' = cache-one reader reader' (least-one _ reader.0 reader'.0 a.1.beside (rw f b.1.beside)) in
    cc
same-kind scene (WriterBesideReader block writer reader) (StaleLoad block' got' due') same a b = absurd (omega arith)
same-kind scene (StaleLoad block got due) (Blank at' block') same a b = absurd (omega arith)
same-kind scene (StaleLoad block got due) (SecondWriter block' first' second') same a b = absurd (omega arith)
same-kind scene (StaleLoad block got due) (WriterBesideReader block' writer' reader') same a b = absurd (omega arith)
same-kind scene (StaleLoad block got due) (StaleLoad block' got' due') same a b =
    let e : block ≡ block' = block-one block block' (a.0 ∙ sym b.0) in
    let f : got ≡ got' = load-one scene.outcome got got' a.1.loaded b.1.loaded in
    cc (a.1.was_due, b.1.was_due)

-- a scene has one violation at most
pub violation-one : (scene : Scene) (one other : Violation) → IsViolation scene one → IsViolation scene other → one ≡ other
violation-one scene one other a b =
    let above : ¬ (rank one < rank other) = λ below. b.first one below a.shown in
    let below : ¬ (rank other < rank one) = λ above. a.first other above b.shown in
    same-kind scene one other (omega arith) a.shown b.shown

-- an outcome that is a load is looked at
looked_at-load : (what : Outcome) (value : ℕ) → IsLoadOf value what → IsLookedAt what
looked_at-load what value h = grind (arith)

-- what has a violation is looked at
pub none-otherwise : (scene : Scene) → ¬ IsLookedAt scene.outcome → HasNone scene
none-otherwise scene h (Blank at block) s = let P : Outcome → Type 0 = IsLookedAt in h (subst P (sym s.1.was_blank) tt)
none-otherwise scene h (SecondWriter block first second) s = h s.1.looked_at
none-otherwise scene h (WriterBesideReader block writer reader) s = h s.1.looked_at
none-otherwise scene h (StaleLoad block got due) s = h (looked_at-load scene.outcome got s.1.loaded)
