-- The choices of a row of trees: those of each tree, one behind the other, and then the deliveries.
use Rattle.std.proofs.Common.{◌≡◌, ℕ, zero, suc, ◌+◌, ◌<◌, true, false, if◌then◌else◌, List, [], ◌∷◌, ◌++◌, length, take}
use Rattle.std.proofs.Common.{get_or, slice_get, refl, sym, ap, ◌∙◌, arith, append_assoc, add-zero}
use Rattle.std.specs.List.{sum}
use Rattle.std.proofs.lemmas.List.{length-append}
use Rattle.std.proofs.lemmas.List.Sums.{sum_by-cons}
use Rattle.base.specs.declared.step.CoreAsk.{CoreAsk}
use Rattle.rows.proofs.Bridge.{get_front, get_behind}
use Rattle.tables.specs.Tables.{Tables}
use Rattle.machine.specs.Machine.{State}
use Rattle.cores.specs.Cores.{Core}
use Rattle.scenario.specs.Tree.{Tree, Seq, Nil, trees_of}
use Rattle.scenario.specs.Taking.{offers, offers_of_all}
use Rattle.schedule.specs.Choices.{can_be_put, offers_from}
use Rattle.lanes.specs.Lanes.{puttable}
use Rattle.schedule.specs.declared.choosing.Choice.{Choice}
use Rattle.schedule.specs.declared.choosing.Choice.TheVariants.{Offer}
use Rattle.lanes.proofs.Rows.{lengths_of}

-- offers are numbered, and how many there are is the same from any number on
pub same-length : (tables : Tables) (s : State) (cores : List Core) (i j : ℕ) (asks : List CoreAsk) →
    length (offers_from tables s cores i asks) ≡ length (offers_from tables s cores j asks)
same-length tables s cores i j [] = refl
same-length tables s cores i j (ask ∷ asks) =
    let r = same-length tables s cores (i + 1) (j + 1) asks in
    elim (can_be_put tables s cores ask) as
    (λ b. length ((if b then Offer i ask ∷ [] else []) ++ offers_from tables s cores (i + 1) asks)
    ≡ length ((if b then Offer j ask ∷ [] else []) ++ offers_from tables s cores (j + 1) asks)) [
      | true ↦ ap suc r
      | false ↦ r
    ]

pub offers-append : (tables : Tables) (s : State) (cores : List Core) (i : ℕ) (xs ys : List CoreAsk) →
    offers_from tables s cores i (xs ++ ys) ≡ offers_from tables s cores i xs ++ offers_from tables s cores (i + length xs) ys
offers-append tables s cores i [] ys = rw add-zero refl
offers-append tables s cores i (x ∷ xs) ys =
    let r = offers-append tables s cores (i + 1) xs ys in
    let e : i + 1 + length xs ≡ i + suc (length xs) = omega arith in
    let head : List Choice = if can_be_put tables s cores x then (Offer i x ∷ []) else [] in
    ap (λ l. head ++ l) r ∙ ap (λ n. head ++ (offers_from tables s cores (i + 1) xs ++ offers_from tables s cores n ys)) e
    ∙ sym (append_assoc head (offers_from tables s cores (i + 1) xs) (offers_from tables s cores (i + suc (length xs)) ys))

-- each count of a row is that of what its tree offers
abbrev pub CountsOf : Tables → State → List Core → List Tree → List ℕ → Type 0
CountsOf tables s cores ts ready = (j : ℕ) → j < length ts → get_or ready j 0 ≡ puttable tables s cores (offers (get_or ts j (Seq Nil)))

counts-first : (tables : Tables) (s : State) (cores : List Core) (i : ℕ) (t : Tree) (ts : List Tree) (n : ℕ) (ns : List ℕ) →
    CountsOf tables s cores (t ∷ ts) (n ∷ ns) → n ≡ length (offers_from tables s cores i (offers t))
counts-first tables s cores i t ts n ns h = h 0 (omega arith) ∙ same-length tables s cores 0 i (offers t)

pub all-counted : (tables : Tables) (s : State) (cores : List Core) (i : ℕ) (ts : List Tree) (ready : List ℕ) → length ready ≡ length ts →
    CountsOf tables s cores ts ready → length (offers_from tables s cores i (offers_of_all (trees_of ts))) ≡ sum ready
all-counted tables s cores i [] [] many h = refl
all-counted tables s cores i [] (n ∷ ns) many h = absurd (omega (arith, many))
all-counted tables s cores i (t ∷ ts) [] many h = absurd (omega (arith, many))
all-counted tables s cores i (t ∷ ts) (n ∷ ns) many h =
    let later = offers_from tables s cores (i + length (offers t)) (offers_of_all (trees_of ts)) in
    let first = counts-first tables s cores i t ts n ns h in
    let rest : length later ≡ sum ns = all-counted tables s cores (i + length (offers t)) ts ns (omega (arith, many)) (λ j l. h (suc j) (omega (arith, l))) in
    let both = ap length (offers-append tables s cores i (offers t) (offers_of_all (trees_of ts))) in
    let parts = length-append (offers_from tables s cores i (offers t)) later in
    let total : sum (n ∷ ns) ≡ n + sum ns = sum_by-cons (λ x. x) n ns in
    omega (arith, first, rest, both, parts, total)

pub all-found : (tables : Tables) (s : State) (cores : List Core) (i : ℕ) (ts : List Tree) (ready : List ℕ) (k p r : ℕ) → length ready ≡ length ts →
    CountsOf tables s cores ts ready → sum (take p ready) + r ≡ k → r < get_or ready p 0 →
    slice_get (offers_from tables s cores i (offers_of_all (trees_of ts))) k
    ≡ slice_get (offers_from tables s cores (i + sum (take p (lengths_of ts))) (offers (get_or ts p (Seq Nil)))) r
all-found tables s cores i [] [] k p r many h e w = absurd (omega (arith, w))
all-found tables s cores i [] (n ∷ ns) k p r many h e w = absurd (omega (arith, many))
all-found tables s cores i (t ∷ ts) [] k p r many h e w = absurd (omega (arith, many))
all-found tables s cores i (t ∷ ts) (n ∷ ns) k zero r many h e w =
    let here = offers_from tables s cores i (offers t) in
    let later = offers_from tables s cores (i + length (offers t)) (offers_of_all (trees_of ts)) in
    let first = counts-first tables s cores i t ts n ns h in
    let q : r ≡ k = omega (arith, e) in
    ap (λ l. slice_get l k) (offers-append tables s cores i (offers t) (offers_of_all (trees_of ts)))
    ∙ ap (λ m. slice_get (here ++ later) m) (sym q) ∙ get_front here later r (omega (arith, w, first))
    ∙ ap (λ m. slice_get (offers_from tables s cores m (offers t)) r) (sym (add-zero i))
all-found tables s cores i (t ∷ ts) (n ∷ ns) k (suc p) r many h e w =
    let here = offers_from tables s cores i (offers t) in
    let later = offers_from tables s cores (i + length (offers t)) (offers_of_all (trees_of ts)) in
    let first = counts-first tables s cores i t ts n ns h in
    let total : sum (n ∷ take p ns) ≡ n + sum (take p ns) = sum_by-cons (λ x. x) n (take p ns) in
    let front : sum (length (offers t) ∷ take p (lengths_of ts)) ≡ length (offers t) + sum (take p (lengths_of ts)) =
    sum_by-cons (λ x. x) (length (offers t)) (take p (lengths_of ts)) in
    let q : k ≡ length here + (sum (take p ns) + r) = omega (arith, e, first, total) in
    let z : i + length (offers t) + sum (take p (lengths_of ts)) ≡ i + sum (length (offers t) ∷ take p (lengths_of ts)) = omega (arith, front) in
    ap (λ l. slice_get l k) (offers-append tables s cores i (offers t) (offers_of_all (trees_of ts)))
    ∙ ap (λ m. slice_get (here ++ later) m) q ∙ get_behind here later (sum (take p ns) + r)
    ∙ all-found tables s cores (i + length (offers t)) ts ns (sum (take p ns) + r) p r (omega (arith, many)) (λ j l. h (suc j) (omega (arith, l))) refl w
    ∙ ap (λ m. slice_get (offers_from tables s cores m (offers (get_or ts p (Seq Nil)))) r) z
