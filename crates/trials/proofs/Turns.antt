-- What each core puts is answered in its order: step by step, and along a walk.
use Rattle.std.proofs.Common.{◌≡◌, ◌≢◌, ◌<◌, ◌≤◌, ◌==◌, inl, inr, ℕ, suc, List, [], ◌∷◌, ◌++◌, length, map, Option, Some, None, refl, sym, ap, ◌∙◌}
use Rattle.std.proofs.Common.{subst, arith, append_assoc, eq-eqb}
use Rattle.std.proofs.lemmas.Bool.{cases_eq}
use Rattle.std.proofs.lemmas.Bool.Decides.{eqb_tells}
use Rattle.std.proofs.lemmas.List.{append-nil}
use Rattle.std.proofs.lemmas.List.Elements.{filter-append}
use Rattle.base.specs.declared.step.Ask.{Ask}
use Rattle.base.specs.declared.step.CoreAsk.{CoreAsk}
use Rattle.base.specs.declared.step.Step.{Step}
use Rattle.tables.specs.Tables.{Tables}
use Rattle.machine.specs.Machine.{State, Next, next}
use Rattle.machine.specs.Completions.{Completion, completed_by}
use Rattle.cores.specs.Cores.{Core, issuing, finishing, with_core}
use Rattle.record_lines.specs.declared.entry.Entry.{Entry}
use Rattle.schedule.specs.Choices.{chosen_step}
use Rattle.moment.specs.Moments.{Moment, put_by, cores_after}
use Rattle.trials.specs.Moments.{IsNext, entry_of}
use Rattle.moment.specs.Moments.{answered}
use Rattle.trials.specs.Answering.{completed_in, put_in, of_core}
use Rattle.moment.proofs.Places.{same-some}
use Rattle.moment.specs.inner.Tracked.{pending_at}
use Rattle.moment.proofs.Pending.{Sets}
use Rattle.moment.proofs.Effects.{Effect, Puts, PutsDone, Settles, effect}
use Rattle.moment.specs.inner.Tracked.{outstanding}
use Rattle.moment.proofs.CoreSteps.{with-length, with-here, with-other, free-told, after-none, after-put, after-done, after-both}
use Rattle.moment.specs.inner.Tracked.{IsTracked}
use Rattle.moment.proofs.Tracking.{PutsWhereFree, pending-here}
use Rattle.trials.proofs.Tracked.{next-fair, tracked-moment}
use Rattle.moment.proofs.Chosen.{fair-puts}
use Rattle.trials.proofs.Walks.{Walks}

-- what is left to answer of a core: what it waits for, at the line where that is pending
abbrev pub Left : State → ℕ → Option Ask → List CoreAsk → Type 0
Left state core None waiting = waiting ≡ []
Left state core (Some a) waiting =
    (at : ℕ) × (pending_at state core at ≡ Some (Some a)) × (waiting ≡ record { core = record { 0 = core }; block = record { 0 = at }; ask = a } ∷ [])

pub left-few : (state : State) (core : ℕ) (o : Option Ask) (waiting : List CoreAsk) → Left state core o waiting → length waiting ≤ 1
left-few state core None waiting h = subst (λ (l : List CoreAsk). length l ≤ 1) (sym h) (omega arith)
left-few state core (Some a) waiting h = subst (λ (l : List CoreAsk). length l ≤ 1) (sym h.2) (omega arith)

left-same : (before behind : State) (core : ℕ) (o : Option Ask) (waiting : List CoreAsk) →
    ((block : ℕ) → pending_at behind core block ≡ pending_at before core block) → Left before core o waiting → Left behind core o waiting
left-same before behind core None waiting same h = h
left-same before behind core (Some a) waiting same h = (h.0, same h.0 ∙ h.1, h.2)

-- what stands before a step's put asks and behind its completions
abbrev pub Turns : State → Step → Next → List Core → ℕ → Type 0
Turns before s made cores core = (waiting : List CoreAsk) → Left before core (outstanding cores core) waiting
    → (now : List CoreAsk) × Left made.state core (outstanding (cores_after s made.outcome cores) core) now
    × (waiting ++ of_core core (put_by s made.outcome) ≡ of_core core (map answered (completed_by s made.outcome)) ++ now)

-- a core that does nothing
turn-idle : (before : State) (s : Step) (made : Next) (cores : List Core) (core : ℕ) →
    outstanding (cores_after s made.outcome cores) core ≡ outstanding cores core
    → ((block : ℕ) → pending_at made.state core block ≡ pending_at before core block) → of_core core (put_by s made.outcome) ≡ [] → of_core core
    (map answered (completed_by s made.outcome)) ≡ [] → Turns before s made cores core
turn-idle before s made cores core kept same put done waiting left = (
  waiting,
  subst (λ (o : Option Ask). Left made.state core o waiting) (sym kept) (left-same before made.state core (outstanding cores core) waiting same left),
  ap (λ l. waiting ++ l) put ∙ append-nil waiting ∙ ap (λ l. l ++ waiting) (sym done),
)

of-same : (core : ℕ) (a : CoreAsk) → a.core.0 ≡ core → of_core core (a ∷ []) ≡ a ∷ []
of-same core a e = rw (eq-eqb a.core.0 core e) refl

of-other : (core : ℕ) (a : CoreAsk) → core ≢ a.core.0 → of_core core (a ∷ []) ≡ []
of-other core a ne = elim (eqb_tells a.core.0 core) [
  | inl h ↦ absurd (ne (sym h.1))
  | inr h ↦ rw h.0 refl
]

of-list : (core : ℕ) (xs ys zs : List CoreAsk) → xs ≡ ys → of_core core ys ≡ zs → of_core core xs ≡ zs
of-list core xs ys zs e f = ap (of_core core) e ∙ f

turn-put : (before : State) (s : Step) (made : Next) (cores : List Core) (h : Puts before s made) → PutsWhereFree s made cores →
    IsTracked before cores → Turns before s made cores h.ask.core.0
turn-put before s made cores h free tracked waiting left =
    let n : ℕ = h.ask.core.0 in
    let low : n < length cores = tracked.few n h.ask.block.0 h.was h.sets.there in
    let none : waiting ≡ [] = subst (λ (o : Option Ask). Left before n o waiting) (free-told cores n (free h.ask h.put)) left in
    let now : outstanding (cores_after s made.outcome cores) n ≡ Some h.ask.ask =
    ap (λ l. outstanding l n) (after-put cores (put_by s made.outcome) (completed_by s made.outcome) h.ask h.put h.done)
    ∙ ap (λ (core : Core). core.outstanding) (with-here cores n (issuing h.ask.ask) low) in (
      h.ask ∷ [],
      subst (λ (o : Option Ask). Left made.state n o (h.ask ∷ [])) (sym now) (h.ask.block.0, h.sets.set, refl),
      ap (λ l. l ++ of_core n (put_by s made.outcome)) none ∙ of-list n (put_by s made.outcome) (h.ask ∷ []) (h.ask ∷ []) h.put (of-same n h.ask refl)
          ∙ ap (λ l. of_core n (map answered l) ++ h.ask ∷ []) (sym h.done),
    )

turn-put-done : (before : State) (s : Step) (made : Next) (cores : List Core) (h : PutsDone before s made) → PutsWhereFree s made cores →
    IsTracked before cores → Turns before s made cores h.ask.core.0
turn-put-done before s made cores h free tracked waiting left =
    let n : ℕ = h.ask.core.0 in
    let low : n < length cores = tracked.few n h.ask.block.0 h.was h.there in
    let issued : List Core = with_core cores n (issuing h.ask.ask) in
    let low' : n < length issued = subst (λ l. n < l) (sym (with-length cores n (issuing h.ask.ask))) low in
    let none : waiting ≡ [] = subst (λ (o : Option Ask). Left before n o waiting) (free-told cores n (free h.ask h.put)) left in
    let now : outstanding (cores_after s made.outcome cores) n ≡ None =
    ap (λ l. outstanding l n)
    (after-both cores (put_by s made.outcome) (completed_by s made.outcome) h.ask h.completion h.put h.done ∙ ap
    (λ (a : CoreAsk). with_core issued a.core.0 finishing) h.answers)
    ∙ ap (λ (core : Core). core.outstanding) (with-here issued n finishing low') in (
      [],
      subst (λ (o : Option Ask). Left made.state n o []) (sym now) refl,
      ap (λ l. l ++ of_core n (put_by s made.outcome)) none ∙ ap (of_core n) (h.put ∙ ap (λ a. a ∷ []) (sym h.answers) ∙ ap (map answered) (sym h.done))
          ∙ sym (append-nil (of_core n (map answered (completed_by s made.outcome)))),
    )

-- what is left is what completes
settled-left : (before : State) (behind : State) (c : Completion) (o : Option Ask) (waiting : List CoreAsk) →
    Sets before behind c.cache.0 c.block (Some (answered c).ask) None
    → (o ≡ Some (answered c).ask) →
    ((b : ℕ) (p : Option Ask) → b ≢ c.block → pending_at before c.cache.0 b ≡ Some p → p ≡ None) → Left before c.cache.0 o waiting →
    waiting ≡ answered c ∷ []
settled-left before behind c None waiting sets is only left = absurd (cc is)
settled-left before behind c (Some a) waiting sets is only left = elim (cases_eq left.0 c.block) [
  | inr ne ↦ let none = only left.0 (Some a) ne left.1 in absurd (cc none)
  | inl at ↦
      left.2
      ∙ ap (λ b. let x : CoreAsk = record { core = c.cache; block = record { 0 = b }; ask = a } in x ∷ []) at
      ∙ ap (λ y. let x : CoreAsk = record { core = c.cache; block = record { 0 = c.block }; ask = y } in x ∷ []) (same-some a (answered c).ask is)
]

turn-settled : (before : State) (s : Step) (made : Next) (cores : List Core) (h : Settles before s made) → IsTracked before cores →
    Turns before s made cores h.completion.cache.0
turn-settled before s made cores h tracked waiting left =
    let n : ℕ = h.completion.cache.0 in
    let a : Ask = (answered h.completion).ask in
    let low : n < length cores = tracked.few n h.completion.block (Some a) h.sets.there in
    let here = pending-here before n h.completion.block (outstanding cores n) a (tracked.waits n) h.sets.there in
    let now : outstanding (cores_after s made.outcome cores) n ≡ None =
    ap (λ l. outstanding l n) (after-done cores (put_by s made.outcome) (completed_by s made.outcome) h.completion h.put h.done)
    ∙ ap (λ (core : Core). core.outstanding) (with-here cores n finishing low) in (
      [],
      subst (λ (o : Option Ask). Left made.state n o []) (sym now) refl,
      ap (λ l. waiting ++ of_core n l) h.put ∙ append-nil waiting
          ∙ settled-left before made.state h.completion (outstanding cores n) waiting h.sets here.0 here.1 left
          ∙ sym
          (of-list n (map answered (completed_by s made.outcome)) (answered h.completion ∷ []) (answered h.completion ∷ [])
          (ap (map answered) h.done) (of-same n (answered h.completion) refl))
          ∙ sym (append-nil (of_core n (map answered (completed_by s made.outcome)))),
    )

-- one core's case, and that of the others
by-core : (P : ℕ → Type 0) (core n : ℕ) → P n → (core ≢ n → P core) → P core
by-core P core n here others = elim (cases_eq core n) [
  | inl e ↦ subst P (sym e) here
  | inr ne ↦ others ne
]

turn-by : (before : State) (s : Step) (made : Next) (cores : List Core) → Effect before s made → PutsWhereFree s made cores → IsTracked before cores →
    (core : ℕ) → Turns before s made cores core
turn-by before s made cores (inl h) free tracked core =
    turn-idle before s made cores core
    (ap (λ l. outstanding l core) (after-none cores (put_by s made.outcome) (completed_by s made.outcome) h.put h.done)) (h.same.each core)
    (ap (of_core core) h.put) (ap (λ l. of_core core (map answered l)) h.done)
turn-by before s made cores (inr (inl h)) free tracked core =
    let n : ℕ = h.ask.core.0 in
    by-core (Turns before s made cores) core n (turn-put before s made cores h free tracked) (λ ne. turn-idle before s made cores core
    (ap (λ l. outstanding l core) (after-put cores (put_by s made.outcome) (completed_by s made.outcome) h.ask h.put h.done) ∙ ap
    (λ (x : Core). x.outstanding) (with-other cores n core (issuing h.ask.ask) ne))
    (λ b. h.sets.caches core b ne) (of-list core (put_by s made.outcome) (h.ask ∷ []) [] h.put (of-other core h.ask ne))
    (ap (λ l. of_core core (map answered l)) h.done))
turn-by before s made cores (inr (inr (inl h))) free tracked core =
    let n : ℕ = h.ask.core.0 in
    let issued : List Core = with_core cores n (issuing h.ask.ask) in
    by-core (Turns before s made cores) core n (turn-put-done before s made cores h free tracked) (λ ne. turn-idle before s made cores core
    (ap (λ l. outstanding l core)
    (after-both cores (put_by s made.outcome) (completed_by s made.outcome) h.ask h.completion h.put h.done ∙ ap
    (λ (a : CoreAsk). with_core issued a.core.0 finishing) h.answers)
    ∙ ap (λ (x : Core). x.outstanding) (with-other issued n core finishing ne ∙ with-other cores n core (issuing h.ask.ask) ne))
    (h.same.each core) (of-list core (put_by s made.outcome) (h.ask ∷ []) [] h.put (of-other core h.ask ne))
    (of-list core (map answered (completed_by s made.outcome)) (h.ask ∷ []) [] (ap (map answered) h.done ∙ ap (λ a. a ∷ []) h.answers)
    (of-other core h.ask ne)))
turn-by before s made cores (inr (inr (inr h))) free tracked core =
    let n : ℕ = h.completion.cache.0 in
    by-core (Turns before s made cores) core n (turn-settled before s made cores h tracked) (λ ne. turn-idle before s made cores core
    (ap (λ l. outstanding l core) (after-done cores (put_by s made.outcome) (completed_by s made.outcome) h.completion h.put h.done) ∙ ap
    (λ (x : Core). x.outstanding) (with-other cores n core finishing ne))
    (λ b. h.sets.caches core b ne) (ap (of_core core) h.put)
    (of-list core (map answered (completed_by s made.outcome)) (answered h.completion ∷ []) [] (ap (map answered) h.done)
    (of-other core (answered h.completion) ne)))

-- ---- along a walk

abbrev NextTurns : Moment → Entry → Moment → ℕ → Type 0
NextTurns before e behind core = (waiting : List CoreAsk) → Left before.state core (outstanding before.cores core) waiting
    → (now : List CoreAsk) × Left behind.state core (outstanding behind.cores core) now
    × (waiting ++ of_core core (put_by e.step e.outcome) ≡ of_core core (map answered (completed_by e.step e.outcome)) ++ now)

next-turns : (tables : Tables) (drawn : ℕ) (before behind : Moment) (e : Entry) (core : ℕ) → IsNext tables drawn before e behind →
    IsTracked before.state before.cores → NextTurns before e behind core
next-turns tables drawn before behind e core is tracked =
    let s : Step = chosen_step is.choice in
    let made : Next = next tables before.state s in
    subst (λ (x : Entry). NextTurns before x behind core) (sym is.made) (subst (λ (m : Moment). NextTurns before (entry_of s made) m core) (sym is.leads)
    (turn-by before.state s made before.cores (effect tables before.state s)
    (fair-puts tables before.state before.cores is.choice (next-fair tables drawn before behind e is)) tracked core))

map-both : (xs ys : List Completion) → map answered (xs ++ ys) ≡ map answered xs ++ map answered ys
map-both [] ys = refl
map-both (x ∷ xs) ys = ap (λ l. answered x ∷ l) (map-both xs ys)

in-turn : (core : ℕ) (waiting between now p q : List CoreAsk) (d e : List Completion) →
    waiting ++ of_core core p ≡ of_core core (map answered d) ++ between → between ++ of_core core q ≡ of_core core (map answered e) ++ now
    → waiting ++ of_core core (p ++ q) ≡ of_core core (map answered (d ++ e)) ++ now
in-turn core waiting between now p q d e first later =
    ap (λ l. waiting ++ l) (filter-append (λ (a : CoreAsk). a.core.0 == core) p q) ∙ sym (append_assoc waiting (of_core core p) (of_core core q))
    ∙ ap (λ l. l ++ of_core core q) first
    ∙ append_assoc (of_core core (map answered d)) between (of_core core q) ∙ ap (λ l. of_core core (map answered d) ++ l) later
    ∙ sym (append_assoc (of_core core (map answered d)) (of_core core (map answered e)) now)
    ∙ ap (λ l. l ++ now) (sym (filter-append (λ (a : CoreAsk). a.core.0 == core) (map answered d) (map answered e)) ∙ ap (of_core core) (sym (map-both d e)))

pub walk-turns : (tables : Tables) (draw : ℕ → ℕ) (m last : Moment) (entries : List Entry) (core : ℕ) (waiting : List CoreAsk) →
    Walks tables draw m entries last → IsTracked m.state m.cores → Left m.state core (outstanding m.cores core) waiting
    → (now : List CoreAsk) × Left last.state core (outstanding last.cores core) now
    × (waiting ++ of_core core (put_in entries) ≡ of_core core (map answered (completed_in entries)) ++ now)
walk-turns tables draw m last [] core waiting walks tracked left =
    (waiting, subst (λ (x : Moment). Left x.state core (outstanding x.cores core) waiting) walks left, append-nil waiting)
walk-turns tables draw m last (e ∷ es) core waiting walks tracked left =
    let n : Moment = walks.0 in
    let first = next-turns tables (draw 0) m n e core walks.1 tracked waiting left in
    let later = walk-turns tables (λ j. draw (suc j)) n last es core first.0 walks.2 (tracked-moment tables (draw 0) m n e walks.1 tracked) first.1 in (
      later.0,
      later.1,
      in-turn core waiting first.0 later.0 (put_by e.step e.outcome) (put_in es) (completed_by e.step e.outcome)
          (completed_in es) first.2 later.2,
    )
