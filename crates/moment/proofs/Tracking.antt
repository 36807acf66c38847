-- What each core waits for is what its lines wait for.
use Rattle.std.proofs.Common.{◌≡◌, ◌≢◌, ◌<◌, inl, inr, ℕ, zero, suc, List, [], ◌∷◌, length, map, replicate, Option, Some, None, true, false}
use Rattle.std.proofs.Common.{slice_get, refl, sym, ap, ◌∙◌, subst, arith}
use Rattle.std.proofs.lemmas.Bool.{cases_eq}
use Rattle.std.specs.Option.{option_map, option_and_then}
use Rattle.base.specs.declared.step.Ask.{Ask}
use Rattle.base.specs.declared.step.CoreAsk.{CoreAsk}
use Rattle.base.specs.declared.step.Step.{Step}
use Rattle.control.specs.LineEffect.{opened_line}
use Rattle.machine.specs.Block.{opened_block}
use Rattle.tables.specs.Tables.{Tables}
use Rattle.machine.specs.Machine.{State, Next, next, opened}
use Rattle.machine.specs.Completions.{Completion, completed_by}
use Rattle.machine.specs.Unstuck.{IsDelivery}
use Rattle.cores.specs.Cores.{Core, idle, issuing, finishing, with_core, is_free, Completes}
use Rattle.schedule.specs.Choices.{step_of}
use Rattle.moment.specs.inner.Tracked.{IsTracked, Waits, outstanding, pending_at}
use Rattle.moment.specs.Moments.{answered}
use Rattle.moment.specs.Moments.{put_by, cores_after}
use Rattle.moment.proofs.Places.{same-some, same-head}
use Rattle.moment.proofs.Pending.{Same, Sets}
use Rattle.moment.proofs.Effects.{Effect, Puts, PutsDone, Settles, effect, delivery-puts-none}
use Rattle.moment.proofs.CoreSteps.{with-length, with-here, with-other, idle-free, free-told, waits-tells, after-none, after-put}
use Rattle.moment.proofs.CoreSteps.{after-done, after-both}

-- ---- a world at first

replicate-none : (caches cache : ℕ) (p : Option Ask) → option_map (λ line. line.pending) (slice_get (replicate caches opened_line) cache) ≡ Some p →
    (p ≡ None) × (cache < caches)
replicate-none zero cache p e = absurd (cc e)
replicate-none (suc caches) zero p e = (same-some p None (sym e), omega arith)
replicate-none (suc caches) (suc cache) p e = let h = replicate-none caches cache p e in (h.0, omega (arith, h.1))

none-first : (caches : ℕ) (opening : List ℕ) (cache block : ℕ) (p : Option Ask) →
    option_map (λ line. line.pending) (option_and_then (λ b. slice_get b.lines cache) (slice_get (map (opened_block caches) opening) block)) ≡ Some p →
    (p ≡ None) × (cache < caches)
none-first caches [] cache block p e = absurd (cc e)
none-first caches (v ∷ vs) cache zero p e = replicate-none caches cache p e
none-first caches (v ∷ vs) cache (suc block) p e = none-first caches vs cache block p e

length-replicate : {X : Type 0} (n : ℕ) (x : X) → length (replicate n x) ≡ n
length-replicate zero x = refl
length-replicate (suc n) x = ap suc (length-replicate n x)

pub tracked-first : (caches blocks : ℕ) (opening : List ℕ) → IsTracked (opened (record { caches = caches; blocks = blocks }) opening) (replicate caches idle)
tracked-first caches blocks opening =
    let state = opened (record { caches = caches; blocks = blocks }) opening in
    record {
      waits = λ cache. subst (Waits state cache) (sym (idle-free caches cache)) (λ block p e. (none-first caches opening cache block p e).0);
      few = λ cache block p e. subst (λ n. cache < n) (sym (length-replicate caches idle)) (none-first caches opening cache block p e).1;
    }

-- ---- a step

-- a cache whose lines wait for the same
waits-same : (before behind : State) (cache : ℕ) (o : Option Ask) → ((block : ℕ) → pending_at behind cache block ≡ pending_at before cache block) →
    Waits before cache o → Waits behind cache o
waits-same before behind cache None same h = λ block p e. h block p (sym (same block) ∙ e)
waits-same before behind cache (Some a) same h = (h.0, same h.0 ∙ h.1, h.2, λ block p ne e. h.3 block p ne (sym (same block) ∙ e))

waits-set : (before behind : State) (cache block : ℕ) (was : Option Ask) (a : Ask) → Sets before behind cache block was (Some a) → Completes a →
    Waits before cache None → Waits behind cache (Some a)
waits-set before behind cache block was a sets completes h = (block, sets.set, completes, λ b p ne e. h b p (sym (sets.blocks cache b ne) ∙ e))

-- what is pending is what the core waits for
pub pending-here : (state : State) (cache block : ℕ) (o : Option Ask) (a : Ask) → Waits state cache o → pending_at state cache block ≡ Some (Some a)
    → (o ≡ Some a) × ((b : ℕ) (p : Option Ask) → b ≢ block → pending_at state cache b ≡ Some p → p ≡ None)
pending-here state cache block None a h e = let none = h block (Some a) e in absurd (cc none)
pending-here state cache block (Some x) a h e = elim (cases_eq block h.0) [
  | inr ne ↦ let none = h.3 block (Some a) ne e in absurd (cc none)
  | inl is ↦ (same-some (Some x) (Some a) (sym h.1 ∙ sym (ap (pending_at state cache) is) ∙ e), λ b p ne f. h.3 b p (λ g. ne (g ∙ sym is)) f)
]

waits-cleared : (before behind : State) (cache block : ℕ) (o : Option Ask) (a : Ask) → Sets before behind cache block (Some a) None →
    Waits before cache o → Waits behind cache None
waits-cleared before behind cache block o a sets h =
    let old = pending-here before cache block o a h sets.there in
    λ b p e. elim (cases_eq b block) [
      | inl is ↦ same-some p None (sym e ∙ ap (pending_at behind cache) is ∙ sets.set)
      | inr ne ↦ old.1 b p ne (sym (sets.blocks cache b ne) ∙ e)
    ]

-- what a step puts, a free core puts
abbrev pub PutsWhereFree : Step → Next → List Core → Type 0
PutsWhereFree s made cores = (ask : CoreAsk) → put_by s made.outcome ≡ ask ∷ [] → is_free cores ask.core.0 ≡ true

-- a line that is there behind was there before
was-there : (before behind : State) (cache block : ℕ) (was now : Option Ask) → Sets before behind cache block was now → (c b : ℕ) (p : Option Ask) →
    pending_at behind c b ≡ Some p → (q : Option Ask) × (pending_at before c b ≡ Some q)
was-there before behind cache block was now sets c b p e = elim (cases_eq c cache) [
  | inr ne ↦ (p, sym (sets.caches c b ne) ∙ e)
  | inl is ↦ elim (cases_eq b block) [
    | inr ne ↦ (p, sym (sets.blocks c b ne) ∙ e)
    | inl at ↦ (was, ap (λ x. pending_at before x b) is ∙ ap (pending_at before cache) at ∙ sets.there)
  ]
]

tracked-of : (state : State) (cores new : List Core) → new ≡ cores → IsTracked state cores → IsTracked state new
tracked-of state cores new e h = subst (IsTracked state) (sym e) h

tracked-same : (before behind : State) (cores : List Core) → Same before behind → IsTracked before cores → IsTracked behind cores
tracked-same before behind cores same h = record {
  waits = λ cache. waits-same before behind cache (outstanding cores cache) (same.each cache) (h.waits cache);
  few = λ cache block p e. h.few cache block p (sym (same.each cache block) ∙ e);
}

-- a core that changes alone
one-core : (behind : State) (cores : List Core) (n : ℕ) (f : Core → Core) (now : Option Ask) → (n < length cores) →
    (outstanding (with_core cores n f) n ≡ now) → Waits behind n now
    → ((c : ℕ) → c ≢ n → Waits behind c (outstanding cores c)) →
    ((cache block : ℕ) (p : Option Ask) → pending_at behind cache block ≡ Some p → cache < length cores) → IsTracked behind (with_core cores n f)
one-core behind cores n f now low is here others few = record {
  waits = λ c. elim (cases_eq c n) [
    | inl e ↦ subst (λ x. Waits behind x (outstanding (with_core cores n f) x)) (sym e) (subst (Waits behind n) (sym is) here)
    | inr ne ↦ subst (Waits behind c) (sym (ap (λ (core : Core). core.outstanding) (with-other cores n c f ne))) (others c ne)
  ];
  few = λ cache block p e. subst (λ l. cache < l) (sym (with-length cores n f)) (few cache block p e);
}

tracked-put : (before : State) (s : Step) (made : Next) (cores : List Core) → Puts before s made → PutsWhereFree s made cores →
    IsTracked before cores → IsTracked made.state (cores_after s made.outcome cores)
tracked-put before s made cores h free tracked =
    let n : ℕ = h.ask.core.0 in
    let low : n < length cores = tracked.few n h.ask.block.0 h.was h.sets.there in
    tracked-of made.state (with_core cores n (issuing h.ask.ask)) (cores_after s made.outcome cores)
    (after-put cores (put_by s made.outcome) (completed_by s made.outcome) h.ask h.put h.done)
    (one-core made.state cores n (issuing h.ask.ask) (Some h.ask.ask) low
    (ap (λ (core : Core). core.outstanding) (with-here cores n (issuing h.ask.ask) low))
    (waits-set before made.state n h.ask.block.0 h.was h.ask.ask h.sets h.completes
    (subst (Waits before n) (free-told cores n (free h.ask h.put)) (tracked.waits n)))
    (λ c ne. waits-same before made.state c (outstanding cores c) (λ b. h.sets.caches c b ne) (tracked.waits c))
    (λ c b p e. let old = was-there before made.state n h.ask.block.0 h.was (Some h.ask.ask) h.sets c b p e in tracked.few c b old.0 old.1))

tracked-put-done : (before : State) (s : Step) (made : Next) (cores : List Core) → PutsDone before s made → PutsWhereFree s made cores →
    IsTracked before cores → IsTracked made.state (cores_after s made.outcome cores)
tracked-put-done before s made cores h free tracked =
    let n : ℕ = h.ask.core.0 in
    let m : ℕ = h.completion.cache.0 in
    let same : m ≡ n = ap (λ (a : CoreAsk). a.core.0) h.answers in
    let low : n < length cores = tracked.few n h.ask.block.0 h.was h.there in
    let issued : List Core = with_core cores n (issuing h.ask.ask) in
    let low' : n < length issued = subst (λ l. n < l) (sym (with-length cores n (issuing h.ask.ask))) low in
    let behind : IsTracked made.state cores = tracked-same before made.state cores h.same tracked in
    tracked-of made.state (with_core issued n finishing) (cores_after s made.outcome cores)
    (after-both cores (put_by s made.outcome) (completed_by s made.outcome) h.ask h.completion h.put h.done ∙ ap (λ x. with_core issued x finishing) same)
    (one-core made.state issued n finishing None low' (ap (λ (core : Core). core.outstanding) (with-here issued n finishing low'))
    (subst (Waits made.state n) (free-told cores n (free h.ask h.put)) (behind.waits n))
    (λ c ne. subst (Waits made.state c) (sym (ap (λ (core : Core). core.outstanding) (with-other cores n c (issuing h.ask.ask) ne))) (behind.waits c))
    (λ c b p e. subst (λ l. c < l) (sym (with-length cores n (issuing h.ask.ask))) (behind.few c b p e)))

tracked-settled : (before : State) (s : Step) (made : Next) (cores : List Core) → Settles before s made → IsTracked before cores →
    IsTracked made.state (cores_after s made.outcome cores)
tracked-settled before s made cores h tracked =
    let n : ℕ = h.completion.cache.0 in
    let block : ℕ = h.completion.block in
    let a : Ask = (answered h.completion).ask in
    let low : n < length cores = tracked.few n block (Some a) h.sets.there in
    tracked-of made.state (with_core cores n finishing) (cores_after s made.outcome cores)
    (after-done cores (put_by s made.outcome) (completed_by s made.outcome) h.completion h.put h.done)
    (one-core made.state cores n finishing None low (ap (λ (core : Core). core.outstanding) (with-here cores n finishing low))
    (waits-cleared before made.state n block (outstanding cores n) a h.sets (tracked.waits n))
    (λ c ne. waits-same before made.state c (outstanding cores c) (λ b. h.sets.caches c b ne) (tracked.waits c))
    (λ c b p e. let old = was-there before made.state n block (Some a) None h.sets c b p e in tracked.few c b old.0 old.1))

tracked-by : (before : State) (s : Step) (made : Next) (cores : List Core) → Effect before s made → PutsWhereFree s made cores →
    IsTracked before cores → IsTracked made.state (cores_after s made.outcome cores)
tracked-by before s made cores (inl h) free tracked =
    tracked-of made.state cores (cores_after s made.outcome cores)
    (after-none cores (put_by s made.outcome) (completed_by s made.outcome) h.put h.done) (tracked-same before made.state cores h.same tracked)
tracked-by before s made cores (inr (inl h)) free tracked = tracked-put before s made cores h free tracked
tracked-by before s made cores (inr (inr (inl h))) free tracked = tracked-put-done before s made cores h free tracked
tracked-by before s made cores (inr (inr (inr h))) free tracked = tracked-settled before s made cores h tracked

-- a step keeps it, where what it puts is put by a free core
pub tracked-next : (tables : Tables) (before : State) (s : Step) (cores : List Core) → PutsWhereFree s (next tables before s) cores → IsTracked before cores
    → IsTracked (next tables before s).state (cores_after s (next tables before s).outcome cores)
tracked-next tables before s cores free tracked = tracked-by before s (next tables before s) cores (effect tables before s) free tracked

-- ---- who waits, and who is there

-- the core of a delivery's completion waits
pub delivered-to-waiting : (tables : Tables) (state : State) (s : Step) (cores : List Core) (c : Completion) → IsTracked state cores → IsDelivery s →
    completed_by s (next tables state s).outcome ≡ c ∷ []
    → (is_free cores c.cache.0 ≡ false) × (c.cache.0 < length cores)
delivered-to-waiting tables state s cores c tracked delivery is = of (effect tables state s)
  where
    of : Effect state s (next tables state s) → (is_free cores c.cache.0 ≡ false) × (c.cache.0 < length cores)
    of (inl h) = let e = sym is ∙ h.done in absurd (cc e)
    of (inr (inl h)) = let e = sym is ∙ h.done in absurd (cc e)
    of (inr (inr (inl h))) = let e = sym h.put ∙ delivery-puts-none s (next tables state s).outcome delivery in absurd (cc e)
    of (inr (inr (inr h))) =
        let e : h.completion ≡ c = same-head h.completion c [] [] (sym h.done ∙ is) in
        let n : ℕ = h.completion.cache.0 in
        let a : Ask = (answered h.completion).ask in
        let here = pending-here state n h.completion.block (outstanding cores n) a (tracked.waits n) h.sets.there in
        subst (λ (x : Completion). (is_free cores x.cache.0 ≡ false) × (x.cache.0 < length cores)) e
        (waits-tells cores n a here.0, tracked.few n h.completion.block (Some a) h.sets.there)

same-core : (a b : CoreAsk) → step_of a ≡ step_of b → a.core ≡ b.core
same-core a b e = cc e

-- the core of an ask is the one that puts it
pub put-by-core : (tables : Tables) (state : State) (ask a : CoreAsk) → put_by (step_of ask) (next tables state (step_of ask)).outcome ≡ a ∷ [] →
    a.core ≡ ask.core
put-by-core tables state ask a is = of (effect tables state (step_of ask))
  where
    of : Effect state (step_of ask) (next tables state (step_of ask)) → a.core ≡ ask.core
    of (inl h) = let e = sym is ∙ h.put in absurd (cc e)
    of (inr (inl h)) = ap (λ (x : CoreAsk). x.core) (same-head a h.ask [] [] (sym is ∙ h.put)) ∙ sym (same-core ask h.ask h.is)
    of (inr (inr (inl h))) = ap (λ (x : CoreAsk). x.core) (same-head a h.ask [] [] (sym is ∙ h.put)) ∙ sym (same-core ask h.ask h.is)
    of (inr (inr (inr h))) = let e = sym is ∙ h.put in absurd (cc e)
