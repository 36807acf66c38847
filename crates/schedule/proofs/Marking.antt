-- Marks beside asks, and what can be put by them.
use Rattle.std.proofs.Common.{◌≡◌, ◌≢◌, ◌==◌, ℕ, zero, suc, ◌+◌, ◌-◌, ◌<◌, ◌≤◌, not, Bool, true, false, ◌&&◌, if◌then◌else◌, cond, List, [], ◌∷◌}
use Rattle.std.proofs.Common.{◌++◌, length, map}
use Rattle.std.proofs.Common.{take, drop, set, get_or, slice_get, Option, Some, None, IfSome, inl, inr, refl, sym, ap, ◌∙◌, subst, arith, add-one, append_assoc}
use Rattle.std.proofs.lemmas.List.{take_more, take_more_set, drop-set-lt}
use Rattle.std.proofs.lemmas.Bool.{cases_lt}
use Rattle.std.proofs.lemmas.Bool.Decides.{nat_tests}
use Rattle.std.proofs.lemmas.List.Sums.{sum_by-cons}
use Rattle.std.proofs.Math.Seq.{drop-cons}
use Rattle.base.specs.declared.ids.BlockId.{BlockId}
use Rattle.base.specs.declared.ids.CacheId.{CacheId}
use Rattle.base.specs.declared.step.CoreAsk.{CoreAsk}
use Rattle.base.specs.declared.step.Step.TheVariants as step
use Rattle.blocks.specs.Asking.{holds}
use Rattle.blocks.specs.declared.block.asking.HeldAsks.{HeldAsks}
use Rattle.rows.specs.Flags.{set_count, IsKth}
use Rattle.tables.specs.Tables.{Tables}
use Rattle.machine.specs.Machine.{State}
use Rattle.world.specs.Looks.{held_at}
use Rattle.cores.specs.Cores.{Core, is_free}
use Rattle.schedule.specs.Choices.{can_be_put, offers_from}
use Rattle.schedule.specs.Listed.{is_unheld}
use Rattle.schedule.specs.Marks.{AreHeldAt, is_at, mark_by, marks_by, offers_by}
use Rattle.schedule.specs.Owned.{AreKept, AreOf}
use Rattle.schedule.specs.declared.choosing.Choice.{Choice}
use Rattle.schedule.specs.declared.choosing.Choice.TheVariants.{Offer}

-- ---- marks that are right say what can be put

pub right-marks : (tables : Tables) (s : State) (cores : List Core) (i : ℕ) (asks : List CoreAsk) →
    offers_by cores i asks (map (is_unheld tables s) asks) ≡ offers_from tables s cores i asks
right-marks tables s cores i [] = refl
right-marks tables s cores i (ask ∷ asks) =
    ap (λ later. (if can_be_put tables s cores ask then Offer i ask ∷ [] else []) ++ later) (right-marks tables s cores (i + 1) asks)

pub by-marks : (tables : Tables) (s : State) (cores : List Core) (i : ℕ) (asks : List CoreAsk) (marks : List Bool) →
    marks ≡ map (is_unheld tables s) asks → offers_by cores i asks marks ≡ offers_from tables s cores i asks
by-marks tables s cores i asks marks e = ap (offers_by cores i asks) e ∙ right-marks tables s cores i asks

-- ---- marking one after another

marks-step : (held : HeldAsks) (core : CacheId) (block : BlockId) (n : ℕ) (asks : List CoreAsk) (marks : List Bool) (d : CoreAsk) →
    n < length asks →
    length marks ≡ length asks → marks_by held core block (drop n asks) (drop n marks)
    ≡ (if is_at core block (get_or asks n d) then mark_by held (get_or asks n d) else get_or marks n false)
    ∷ marks_by held core block (drop (n + 1) asks) (drop (n + 1) marks)
marks-step held core block n asks marks d low long =
    ap (λ xs. marks_by held core block xs (drop n marks)) (drop-cons asks n d low ∙ ap (λ m. get_or asks n d ∷ drop m asks) (sym (add-one n)))
    ∙ ap (λ ms. marks_by held core block (get_or asks n d ∷ drop (n + 1) asks) ms)
    (drop-cons marks n false (omega (arith, low, long)) ∙ ap (λ m. get_or marks n false ∷ drop m marks) (sym (add-one n)))

pub marks-here : (held : HeldAsks) (core : CacheId) (block : BlockId) (n : ℕ) (asks : List CoreAsk) (marks all : List Bool) (d : CoreAsk) →
    n < length asks →
    length marks ≡ length asks → is_at core block (get_or asks n d) ≡ true →
    take n marks ++ marks_by held core block (drop n asks) (drop n marks) ≡ all →
    take (n + 1) (set marks n (mark_by held (get_or asks n d)))
    ++ marks_by held core block (drop (n + 1) asks) (drop (n + 1) (set marks n (mark_by held (get_or asks n d)))) ≡ all
marks-here held core block n asks marks all d low long here before =
    let mark = mark_by held (get_or asks n d) in
    let later = marks_by held core block (drop (n + 1) asks) (drop (n + 1) marks) in
    let back : marks_by held core block (drop (n + 1) asks) (drop (n + 1) (set marks n mark)) ≡ later =
    ap (marks_by held core block (drop (n + 1) asks)) (drop-set-lt (n + 1) marks n mark (omega arith)) in
    let step = marks-step held core block n asks marks d low long in
    ap (λ b. take (n + 1) (set marks n mark) ++ b) back
    ∙ ap (λ front. front ++ later) (take_more_set marks n mark (omega (arith, low, long)))
    ∙ append_assoc (take n marks) (mark ∷ []) later
    ∙ ap (λ t. take n marks ++ ((if t then mark else get_or marks n false) ∷ later)) (sym here)
    ∙ ap (λ b. take n marks ++ b) (sym step) ∙ before

pub marks-apart : (held : HeldAsks) (core : CacheId) (block : BlockId) (n : ℕ) (asks : List CoreAsk) (marks all : List Bool) (d : CoreAsk) →
    n < length asks →
    length marks ≡ length asks → is_at core block (get_or asks n d) ≡ false →
    take n marks ++ marks_by held core block (drop n asks) (drop n marks) ≡ all →
    take (n + 1) marks ++ marks_by held core block (drop (n + 1) asks) (drop (n + 1) marks) ≡ all
marks-apart held core block n asks marks all d low long apart before =
    let later = marks_by held core block (drop (n + 1) asks) (drop (n + 1) marks) in
    let step = marks-step held core block n asks marks d low long in
    ap (λ front. front ++ later) (take_more marks n false (omega (arith, low, long)))
    ∙ append_assoc (take n marks) (get_or marks n false ∷ []) later
    ∙ ap (λ t. take n marks ++ ((if t then mark_by held (get_or asks n d) else get_or marks n false) ∷ later)) (sym apart)
    ∙ ap (λ b. take n marks ++ b) (sym step) ∙ before

-- so marks are made anew by what is held
pub marks-held : (held : HeldAsks) (core : CacheId) (block : BlockId) (n : ℕ) (asks : List CoreAsk) (marks all : List Bool) (d : CoreAsk) (is : Bool) →
    n < length asks → length marks ≡ length asks → is ≡ holds held (get_or asks n d).ask → is_at core block (get_or asks n d) ≡ true →
    take n marks ++ marks_by held core block (drop n asks) (drop n marks) ≡ all →
    take (n + 1) (set marks n (not is)) ++ marks_by held core block (drop (n + 1) asks) (drop (n + 1) (set marks n (not is))) ≡ all
marks-held held core block n asks marks all d is low long e here before = rw e (marks-here held core block n asks marks all d low long here before)

pub marks-at-length : (held : HeldAsks) (core : CacheId) (block : BlockId) (asks : List CoreAsk) (marks : List Bool) → length marks ≡ length asks →
    length (marks_by held core block asks marks) ≡ length asks
marks-at-length held core block [] marks long = long
marks-at-length held core block (ask ∷ asks) [] long = long
marks-at-length held core block (ask ∷ asks) (m ∷ marks) long = ap suc (marks-at-length held core block asks marks (omega (arith, long)))

-- the marks, with those of a core's asks about a block made anew as they are in a state
abbrev pub marks_at : Tables → State → CacheId → BlockId → List CoreAsk → List Bool → List Bool
marks_at tables s core block [] marks = marks
marks_at tables s core block (ask ∷ asks) [] = []
marks_at tables s core block (ask ∷ asks) (mark ∷ marks) =
    (if is_at core block ask then is_unheld tables s ask else mark) ∷ marks_at tables s core block asks marks

-- an ask that is there is held where it is one of those that are
pub held-here : (tables : Tables) (s : State) (core : CacheId) (block : BlockId) (held : HeldAsks) (ask : CoreAsk) → AreHeldAt tables s core block held →
    is_at core block ask ≡ true → not (holds held ask.ask) ≡ is_unheld tables s ask
held-here tables s core block held ask all here =
    ap not (all ask.ask)
    ∙ ap (λ (c : CacheId). not (held_at tables s (step.Ask c block ask.ask)))
    (sym (same-core ask.core core (is-here ask.core.0 core.0 ask.block.0 block.0 here).0))
    ∙ ap (λ (b : BlockId). not (held_at tables s (step.Ask ask.core b ask.ask)))
    (sym (same-block ask.block block (is-here ask.core.0 core.0 ask.block.0 block.0 here).1))
  where
    is-here : (a b c d : ℕ) → ((a == b) && (c == d)) ≡ true → (a ≡ b) × (c ≡ d)
    is-here a b c d e = grind (arith, nat_tests)

    same-core : (a b : CacheId) → a.0 ≡ b.0 → a ≡ b
    same-core a b e = λ i. record { 0 = e i }

    same-block : (a b : BlockId) → a.0 ≡ b.0 → a ≡ b
    same-block a b e = λ i. record { 0 = e i }

-- by what is held the marks are right
pub by-held : (tables : Tables) (s : State) (core : CacheId) (block : BlockId) (held : HeldAsks) → AreHeldAt tables s core block held → (asks : List CoreAsk)
    (marks : List Bool) → marks_by held core block asks marks ≡ marks_at tables s core block asks marks
by-held tables s core block held all [] marks = refl
by-held tables s core block held all (ask ∷ asks) [] = refl
by-held tables s core block held all (ask ∷ asks) (m ∷ marks) =
    ap (λ ms. (if is_at core block ask then mark_by held ask else m) ∷ ms) (by-held tables s core block held all asks marks)
    ∙ ap (λ x. x ∷ marks_at tables s core block asks marks) (by (is_at core block ask) refl)
  where
    by : (b : Bool) → is_at core block ask ≡ b → (if b then mark_by held ask else m) ≡ (if b then is_unheld tables s ask else m)
    by true e = held-here tables s core block held ask all e
    by false e = refl

-- ---- how many can be put by their marks, and which is the k-th

by-step : (cores : List Core) (i n : ℕ) (asks : List CoreAsk) (marks : List Bool) (d : CoreAsk) → n < length asks → length marks ≡ length asks →
    offers_by cores i (drop n asks) (drop n marks)
    ≡ (if is_free cores (get_or asks n d).core.0 && get_or marks n false then Offer i (get_or asks n d) ∷ [] else [])
    ++ offers_by cores (i + 1) (drop (n + 1) asks) (drop (n + 1) marks)
by-step cores i n asks marks d low long =
    ap (λ xs. offers_by cores i xs (drop n marks)) (drop-cons asks n d low ∙ ap (λ m. get_or asks n d ∷ drop m asks) (sym (add-one n)))
    ∙ ap (λ ms. offers_by cores i (get_or asks n d ∷ drop (n + 1) asks) ms)
    (drop-cons marks n false (omega (arith, low, long)) ∙ ap (λ m. get_or marks n false ∷ drop m marks) (sym (add-one n)))

pub by-few : (cores : List Core) (i : ℕ) (asks : List CoreAsk) (marks : List Bool) → length (offers_by cores i asks marks) ≤ length asks
by-few cores i [] marks = omega arith
by-few cores i (ask ∷ asks) [] = omega arith
by-few cores i (ask ∷ asks) (m ∷ marks) =
    let r = by-few cores (i + 1) asks marks in
    elim (is_free cores ask.core.0 && m) as
    (λ b. length ((if b then Offer i ask ∷ [] else []) ++ offers_by cores (i + 1) asks marks) ≤ length (ask ∷ asks)) [
      | true ↦ omega (arith, r)
      | false ↦ omega (arith, r)
    ]

one-first : (c : Choice) (cs : List Choice) (b : Bool) → b ≡ true → length ((if b then c ∷ [] else []) ++ cs) ≡ suc (length cs)
one-first c cs true e = refl
one-first c cs false e = absurd (cc e)

pub counted-put : (cores : List Core) (n count all : ℕ) (asks : List CoreAsk) (marks : List Bool) (d : CoreAsk) → n < length asks → length marks ≡ length asks →
    (is_free cores (get_or asks n d).core.0 && get_or marks n false) ≡ true →
    count + length (offers_by cores n (drop n asks) (drop n marks)) ≡ all →
    (count + 1) + length (offers_by cores (n + 1) (drop (n + 1) asks) (drop (n + 1) marks)) ≡ all
counted-put cores n count all asks marks d low long put before =
    let step = ap length (by-step cores n n asks marks d low long) in
    let one = one-first (Offer n (get_or asks n d)) (offers_by cores (n + 1) (drop (n + 1) asks) (drop (n + 1) marks))
    (is_free cores (get_or asks n d).core.0 && get_or marks n false) put in
    omega (arith, before, step, one)

pub counted-not : (cores : List Core) (n count all : ℕ) (asks : List CoreAsk) (marks : List Bool) (d : CoreAsk) → n < length asks → length marks ≡ length asks →
    (is_free cores (get_or asks n d).core.0 && get_or marks n false) ≡ false →
    count + length (offers_by cores n (drop n asks) (drop n marks)) ≡ all →
    count + length (offers_by cores (n + 1) (drop (n + 1) asks) (drop (n + 1) marks)) ≡ all
counted-not cores n count all asks marks d low long not before =
    ap (λ t. count + length ((if t then Offer n (get_or asks n d) ∷ [] else []) ++ offers_by cores (n + 1) (drop (n + 1) asks) (drop (n + 1) marks))) (sym not)
    ∙ ap (λ cs. count + length cs) (sym (by-step cores n n asks marks d low long)) ∙ before

get-later : (c : Choice) (cs : List Choice) (k : ℕ) → 0 < k → slice_get (c ∷ cs) k ≡ slice_get cs (k - 1)
get-later c cs zero h = absurd (omega (arith, h))
get-later c cs (suc k) h = ap (slice_get cs) (let z : k ≡ suc k - 1 = omega arith in z)

pub passed-put : (cores : List Core) (first n k : ℕ) (asks : List CoreAsk) (marks : List Bool) (d : CoreAsk) → n < length asks → length marks ≡ length asks →
    (is_free cores (get_or asks n d).core.0 && get_or marks n false) ≡ true → 0 < k →
    slice_get (offers_by cores (first + (n + 1)) (drop (n + 1) asks) (drop (n + 1) marks)) (k - 1)
    ≡ slice_get (offers_by cores (first + n) (drop n asks) (drop n marks)) k
passed-put cores first n k asks marks d low long put some =
    let later = offers_by cores (first + n + 1) (drop (n + 1) asks) (drop (n + 1) marks) in
    sym (ap (λ cs. slice_get cs k) (by-step cores (first + n) n asks marks d low long)
    ∙ ap (λ b. slice_get ((if b then Offer (first + n) (get_or asks n d) ∷ [] else []) ++ later) k) put
    ∙ get-later (Offer (first + n) (get_or asks n d)) later k some
    ∙ ap (λ m. slice_get (offers_by cores m (drop (n + 1) asks) (drop (n + 1) marks)) (k - 1)) (let z : first + n + 1 ≡ first + (n + 1) = omega arith in z))

pub passed-not : (cores : List Core) (first n k : ℕ) (asks : List CoreAsk) (marks : List Bool) (d : CoreAsk) → n < length asks → length marks ≡ length asks →
    (is_free cores (get_or asks n d).core.0 && get_or marks n false) ≡ false →
    slice_get (offers_by cores (first + (n + 1)) (drop (n + 1) asks) (drop (n + 1) marks)) k
    ≡ slice_get (offers_by cores (first + n) (drop n asks) (drop n marks)) k
passed-not cores first n k asks marks d low long not =
    let later = offers_by cores (first + n + 1) (drop (n + 1) asks) (drop (n + 1) marks) in
    sym (ap (λ cs. slice_get cs k) (by-step cores (first + n) n asks marks d low long)
    ∙ ap (λ b. slice_get ((if b then Offer (first + n) (get_or asks n d) ∷ [] else []) ++ later) k) not
    ∙ ap (λ m. slice_get (offers_by cores m (drop (n + 1) asks) (drop (n + 1) marks)) k) (let z : first + n + 1 ≡ first + (n + 1) = omega arith in z))

-- ---- where all asks are one core's

abbrev pub AllFree : List Core → Bool → List CoreAsk → Type 0
AllFree cores free asks = (at : ℕ) (ask : CoreAsk) → slice_get asks at ≡ Some ask → is_free cores ask.core.0 ≡ free

pub none-busy : (cores : List Core) (i : ℕ) (asks : List CoreAsk) (marks : List Bool) → AllFree cores false asks → offers_by cores i asks marks ≡ []
none-busy cores i [] marks busy = refl
none-busy cores i (ask ∷ asks) [] busy = refl
none-busy cores i (ask ∷ asks) (m ∷ marks) busy =
    ap (λ f. (if f && m then Offer i ask ∷ [] else []) ++ offers_by cores (i + 1) asks marks) (busy zero ask refl)
    ∙ none-busy cores (i + 1) asks marks (λ at a e. busy (suc at) a e)

free-step : (cores : List Core) (i : ℕ) (ask : CoreAsk) (asks : List CoreAsk) (m : Bool) (marks : List Bool) → is_free cores ask.core.0 ≡ true →
    offers_by cores i (ask ∷ asks) (m ∷ marks) ≡ (if m then Offer i ask ∷ [] else []) ++ offers_by cores (i + 1) asks marks
free-step cores i ask asks m marks free = ap (λ f. (if f && m then Offer i ask ∷ [] else []) ++ offers_by cores (i + 1) asks marks) free

set-step : (m : Bool) (marks : List Bool) → set_count (m ∷ marks) ≡ cond m 1 0 + set_count marks
set-step m marks = sum_by-cons (λ b. cond b 1 0) m marks

pub all-free : (cores : List Core) (i : ℕ) (asks : List CoreAsk) (marks : List Bool) → AllFree cores true asks → length marks ≡ length asks →
    length (offers_by cores i asks marks) ≡ set_count marks
all-free cores i [] [] free long = refl
all-free cores i [] (m ∷ marks) free long = absurd (omega (arith, long))
all-free cores i (ask ∷ asks) [] free long = absurd (omega (arith, long))
all-free cores i (ask ∷ asks) (m ∷ marks) free long =
    let r = all-free cores (i + 1) asks marks (λ at a e. free (suc at) a e) (omega (arith, long)) in
    ap length (free-step cores i ask asks m marks (free zero ask refl))
    ∙ (elim m as (λ b. length ((if b then Offer i ask ∷ [] else []) ++ offers_by cores (i + 1) asks marks) ≡ cond b 1 0 + set_count marks) [
      | true ↦ omega (arith, r)
      | false ↦ omega (arith, r)
    ])
    ∙ sym (set-step m marks)

pub kth-free : (cores : List Core) (i k at : ℕ) (asks : List CoreAsk) (marks : List Bool) (d : CoreAsk) → AllFree cores true asks → length marks ≡ length asks →
    IsKth marks k at → slice_get (offers_by cores i asks marks) k ≡ Some (Offer (i + at) (get_or asks at d))
kth-free cores i k at [] marks d free long kth = absurd (none-set marks at (omega (arith, long)) kth.set)
  where
    none-set : (marks : List Bool) (at : ℕ) → length marks ≡ 0 → get_or marks at false ≢ true
    none-set [] at z e = cc e
    none-set (m ∷ marks) at z e = omega (arith, z)
kth-free cores i k at (ask ∷ asks) [] d free long kth = absurd (omega (arith, long))
kth-free cores i k zero (ask ∷ asks) (m ∷ marks) d free long kth =
    let z : k ≡ 0 = sym kth.before in
    ap (λ cs. slice_get cs k) (free-step cores i ask asks m marks (free zero ask refl))
    ∙ ap (λ b. slice_get ((if b then Offer i ask ∷ [] else []) ++ offers_by cores (i + 1) asks marks) k) kth.set
    ∙ ap (λ n. slice_get (Offer i ask ∷ offers_by cores (i + 1) asks marks) n) z
    ∙ ap (λ n. Some (Offer n ask)) (let w : i ≡ i + 0 = omega arith in w)
kth-free cores i k (suc at) (ask ∷ asks) (m ∷ marks) d free long kth =
    ap (λ cs. slice_get cs k) (free-step cores i ask asks m marks (free zero ask refl))
    ∙ by (λ j e. kth-free cores (i + 1) j at asks marks d (λ n a q. free (suc n) a q) (omega (arith, long)) (record { set = kth.set; before = e })
    ∙ ap (λ n. Some (Offer n (get_or asks at d))) (let w : i + 1 + at ≡ i + suc at = omega arith in w)) m k (sym (set-step m (take at marks)) ∙ kth.before)
  where
    by : ((j : ℕ) → set_count (take at marks) ≡ j → slice_get (offers_by cores (i + 1) asks marks) j ≡ Some (Offer (i + suc at) (get_or asks at d))) →
        (b : Bool) (j : ℕ) → cond b 1 0 + set_count (take at marks) ≡ j →
        slice_get ((if b then Offer i ask ∷ [] else []) ++ offers_by cores (i + 1) asks marks) j ≡ Some (Offer (i + suc at) (get_or asks at d))
    by later true j e =
        get-later (Offer i ask) (offers_by cores (i + 1) asks marks) j (omega (arith, e)) ∙ later (j - 1) (omega (arith, e))
    by later false j e = later j (omega (arith, e))

-- asks of one core are free or busy as it is
pub as-its-core : (cores : List Core) (core : CacheId) (free : Bool) (asks : List CoreAsk) → AreOf core asks → is_free cores core.0 ≡ free →
    AllFree cores free asks
as-its-core cores core free asks of is at ask e = ap (λ (c : CacheId). is_free cores c.0) (of.each at ask e) ∙ is

pub count-free : (cores : List Core) (core : CacheId) (kept : Option CacheId) (asks : List CoreAsk) (marks : List Bool) (n : ℕ) → AreKept asks marks kept →
    kept ≡ Some core → is_free cores core.0 ≡ true → n ≡ set_count marks → n ≡ length (offers_by cores 0 asks marks)
count-free cores core kept asks marks n k is free e =
    e ∙ sym (all-free cores 0 asks marks (as-its-core cores core true asks (subst (λ (c : Option CacheId). IfSome c (λ of. AreOf of asks)) is k.owned) free)
    k.long)

pub none-of-busy : (cores : List Core) (core : CacheId) (kept : Option CacheId) (i : ℕ) (asks : List CoreAsk) (marks : List Bool) → AreKept asks marks kept →
    kept ≡ Some core → is_free cores core.0 ≡ false → offers_by cores i asks marks ≡ []
none-of-busy cores core kept i asks marks k is busy =
    none-busy cores i asks marks (as-its-core cores core false asks (subst (λ (c : Option CacheId). IfSome c (λ of. AreOf of asks)) is k.owned) busy)

pub kth-of-free : (cores : List Core) (core : CacheId) (kept : Option CacheId) (i k at : ℕ) (asks : List CoreAsk) (marks : List Bool) (d : CoreAsk) →
    AreKept asks marks kept → kept ≡ Some core → is_free cores core.0 ≡ true → IsKth marks k at →
    Some (Offer (i + at) (get_or asks at d)) ≡ slice_get (offers_by cores i asks marks) k
kth-of-free cores core kept i k at asks marks d h is free kth =
    sym (kth-free cores i k at asks marks d (as-its-core cores core true asks (subst (λ (c : Option CacheId). IfSome c (λ of. AreOf of asks)) is h.owned)
    free) h.long kth)

past-end : {X : Type 0} (xs : List X) (k : ℕ) → length xs ≤ k → slice_get xs k ≡ None
past-end [] k h = refl
past-end (x ∷ xs) zero h = absurd (omega (arith, h))
past-end (x ∷ xs) (suc k) h = past-end xs k (omega (arith, h))

pub past-free : (cores : List Core) (core : CacheId) (kept : Option CacheId) (i k : ℕ) (asks : List CoreAsk) (marks : List Bool) → AreKept asks marks kept →
    kept ≡ Some core → is_free cores core.0 ≡ true → set_count marks ≤ k → None ≡ slice_get (offers_by cores i asks marks) k
past-free cores core kept i k asks marks h is free past =
    let all = all-free cores i asks marks (as-its-core cores core true asks (subst (λ (c : Option CacheId). IfSome c (λ of. AreOf of asks)) is h.owned)
    free) h.long in
    sym (past-end (offers_by cores i asks marks) k (omega (arith, all, past)))

-- ---- a core's asks about a block marked anew

pub still-kept : (held : HeldAsks) (core : CacheId) (block : BlockId) (asks : List CoreAsk) (marks new : List Bool) (kept : Option CacheId) →
    new ≡ marks_by held core block asks marks → AreKept asks marks kept → AreKept asks new kept
still-kept held core block asks marks new kept e h = record {
  long = ap length e ∙ marks-at-length held core block asks marks h.long;
  short = h.short;
  owned = h.owned;
}

pub not-below : (k n : ℕ) → (k < n → false ≡ true) → n ≤ k
not-below k n h = elim (cases_lt k n) [
  | inl low ↦ absurd (cc (h low))
  | inr past ↦ past
]
