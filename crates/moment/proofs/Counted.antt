-- What a step leaves of the cores.
use Rattle.std.proofs.Common.{◌≡◌, ◌<◌, ℕ, List, [], ◌∷◌, true, inl, inr, length, map, sym, ap, ◌∙◌, arith}
use Rattle.std.proofs.lemmas.Bool.{cases_eq, cases_lt}
use Rattle.std.specs.Prelude.{is_none}
use Rattle.base.specs.declared.ids.CacheId.{CacheId}
use Rattle.base.specs.declared.step.CoreAsk.{CoreAsk}
use Rattle.base.specs.declared.step.Step.{Step}
use Rattle.tables.specs.Tables.{Tables}
use Rattle.machine.specs.declared.made.Made.{Made}
use Rattle.machine.specs.Completions.{Completion}
use Rattle.machine.specs.Machine.{State}
use Rattle.machine.specs.Made.{IsTold}
use Rattle.cores.specs.Cores.{Core, finishing, is_free, issuing, with_core}
use Rattle.lanes.specs.Lanes.{AreAsFree, FollowsStep}
use Rattle.moment.specs.Moments.{cores_after, with_finished, with_issued}
use Rattle.moment.specs.inner.Noting.{AreFree}
use Rattle.moment.proofs.Apart.{free-stays}
use Rattle.moment.proofs.CoreSteps.{free-tells, past-free, with-here, with-length, with-other}

-- a step that was told, and whose outcome the cores have noted, leads from one moment to the next
pub follows-noted : (tables : Tables) (step : Step) (made : Made) (before behind : State) (cores new : List Core) → IsTold tables before step made behind →
    new ≡ cores_after step made.outcome cores → FollowsStep tables step made before behind cores new
follows-noted tables step made before behind cores new told noted = record {
  told = told;
  free = λ core ne. ap (λ cs. is_free cs core.0) noted ∙ free-stays tables before step made behind cores core told ne;
}

-- ---- a hit, which is issued and finished at once

-- a core that was free is so behind it
free-again : (cores : List Core) (n : ℕ) (f : Core → Core) → is_free (with_core (with_core cores n f) n finishing) n ≡ true
free-again cores n f =
    let once = with_core cores n f in
    let long = with-length cores n f in
    let all = with-length once n finishing in
    elim (cases_lt n (length cores)) [
      | inl low ↦ ap (λ (c : Core). is_none c.outstanding) (with-here once n finishing (let l : n < length once = omega (arith, low, long) in l))
      | inr past ↦ free-tells (with_core once n finishing) n (past-free (with_core once n finishing) n (omega (arith, past, long, all)))
    ]

hit-free : (cores : List Core) (m : ℕ) (f : Core → Core) → is_free cores m ≡ true → AreAsFree cores (with_core (with_core cores m f) m finishing)
hit-free cores m f free n = elim (cases_eq n m) [
  | inl e ↦ ap (is_free (with_core (with_core cores m f) m finishing)) e ∙ free-again cores m f ∙ sym (ap (is_free cores) e ∙ free)
  | inr ne ↦ ap (λ (c : Core). is_none c.outstanding) (with-other (with_core cores m f) m n finishing ne ∙ with-other cores m n f ne)
]

-- where the same core issued something and finished it
pub hit-turned : (cores : List Core) (put : List CoreAsk) (done : List Completion) (one other : CacheId) → AreFree put cores →
    map (λ (a : CoreAsk). a.core) put ≡ one ∷ [] → map (λ (c : Completion). c.cache) done ≡ other ∷ [] → one.0 ≡ other.0 →
    AreAsFree cores (with_finished done (with_issued put cores))
hit-turned cores [] done one other free p d same = absurd (cc p)
hit-turned cores (a ∷ []) [] one other free p d same = absurd (cc d)
hit-turned cores (a ∷ b ∷ put) done one other free p d same = absurd (cc p)
hit-turned cores (a ∷ []) (c ∷ e ∷ done) one other free p d same = absurd (cc d)
hit-turned cores (a ∷ []) (c ∷ []) one other free p d same = λ n.
    let at : c.cache.0 ≡ a.core.0 = ap (λ (x : CacheId). x.0) (only c.cache other d) ∙ sym same ∙ sym (ap (λ (x : CacheId). x.0) (only a.core one p)) in
    ap (λ m. is_free (with_core (with_core cores a.core.0 (issuing a.ask)) m finishing) n) at
    ∙ hit-free cores a.core.0 (issuing a.ask) (free 0 a (omega arith)) n
  where
    only : (x y : CacheId) → x ∷ [] ≡ y ∷ [] → x ≡ y
    only x y e = cc e
