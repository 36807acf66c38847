-- Trees that go on at once: each of them may be another that is alike, and an offer of all is an offer of one.
use Rattle.std.proofs.Common.{◌≡◌, ℕ, zero, suc, ◌+◌, ◌-◌, ◌<◌, Bool, true, false, ◌&&◌, if◌then◌else◌, nat_lt, List, [], ◌∷◌, length, map, take}
use Rattle.std.proofs.Common.{option_map, get_or, set, refl, sym, ap, ◌∙◌, subst, arith, append-nil}
use Rattle.std.specs.List.{sum}
use Rattle.std.proofs.lemmas.List.{length-append}
use Rattle.std.proofs.lemmas.List.Sums.{sum_by-cons}
use Rattle.rows.specs.Counts.{Finds}
use Rattle.scenario.specs.Tree.{Tree, Trees, Seq, Both, Nil, Cons, trees_of}
use Rattle.scenario.specs.Taking.{ends, all_end, offers, offers_of_all, left, left_of_all}
use Rattle.scenario.specs.Alike.{Alike, followed, seen}
use Rattle.scenario.proofs.Alikes.{alike-offers, alike-ends, alike-left, follow_if}
use Rattle.scenario.proofs.Places.{is_below, isnt_below, by_test}

-- ---- rows of trees that are alike one by one

abbrev AllAlike : Trees → Trees → Type 0
AllAlike Nil Nil = Unit {0}
AllAlike Nil (Cons u us) = ⊥
AllAlike (Cons t ts) Nil = ⊥
AllAlike (Cons t ts) (Cons u us) = Alike t u × AllAlike ts us

pub alike-same : (t : Tree) → Alike t t
alike-same t path = refl

row-offers : (ts us : Trees) → AllAlike ts us → offers_of_all ts ≡ offers_of_all us
row-offers Nil Nil h = refl
row-offers Nil (Cons u us) h = absurd h
row-offers (Cons t ts) Nil h = absurd h
row-offers (Cons t ts) (Cons u us) h = rw (alike-offers t u h.0, row-offers ts us h.1) refl

row-ends : (ts us : Trees) → AllAlike ts us → all_end ts ≡ all_end us
row-ends Nil Nil h = refl
row-ends Nil (Cons u us) h = absurd h
row-ends (Cons t ts) Nil h = absurd h
row-ends (Cons t ts) (Cons u us) h = rw (alike-ends t u h.0, row-ends ts us h.1) refl

row-left : (ts us : Trees) (i : ℕ) → AllAlike ts us → i < length (offers_of_all ts) → AllAlike (left_of_all ts i) (left_of_all us i)
row-left Nil Nil i h low = absurd (omega arith)
row-left Nil (Cons u us) i h low = absurd h
row-left (Cons t ts) Nil i h low = absurd h
row-left (Cons t ts) (Cons u us) i h low =
    subst (λ os. AllAlike (left_of_all (Cons t ts) i) (if nat_lt i (length os) then Cons (left u i) us else Cons u (left_of_all us (i - length os))))
    (alike-offers t u h.0)
    (by_test (λ b. AllAlike (if b then Cons (left t i) ts else Cons t (left_of_all ts (i - length (offers t))))
    (if b then Cons (left u i) us else Cons u (left_of_all us (i - length (offers t))))) i (length (offers t))
    (λ here. (alike-left t u i h.0 here, h.1))
    (λ behind. let many = length-append (offers t) (offers_of_all ts) in
    (h.0, row-left ts us (i - length (offers t)) h.1 (omega (arith, behind, many, low)))))

-- rows of trees that are alike one by one are alike
row-alike : (path : List ℕ) (ts us : Trees) → AllAlike ts us → option_map seen (followed (Both ts) path) ≡ option_map seen (followed (Both us) path)
row-alike [] ts us h = rw (row-offers ts us h, row-ends ts us h) refl
row-alike (i ∷ path) ts us h =
    subst (λ os. option_map seen (followed (Both ts) (i ∷ path)) ≡ option_map seen (follow_if (nat_lt i (length os)) (Both (left_of_all us i)) path))
    (row-offers ts us h)
    (by_test (λ b. option_map seen (follow_if b (Both (left_of_all ts i)) path) ≡ option_map seen (follow_if b (Both (left_of_all us i)) path))
    i (length (offers_of_all ts))
    (λ here. row-alike path (left_of_all ts i) (left_of_all us i) (row-left ts us i h here))
    (λ behind. refl))

and-true : (b : Bool) → (b && true) ≡ b
and-true true = refl
and-true false = refl

-- a row of one tree is alike to the tree
one-alike : (path : List ℕ) (t : Tree) → option_map seen (followed (Both (Cons t Nil)) path) ≡ option_map seen (followed t path)
one-alike [] t = rw (append-nil (offers t), and-true (ends t)) refl
one-alike (i ∷ path) t =
    subst (λ os. option_map seen (follow_if (nat_lt i (length os)) (Both (left_of_all (Cons t Nil) i)) path) ≡ option_map seen (followed t (i ∷ path)))
    (sym (append-nil (offers t)))
    (by_test (λ b. option_map seen (follow_if b (Both (if b then Cons (left t i) Nil else Cons t (left_of_all Nil (i - length (offers t))))) path)
    ≡ option_map seen (follow_if b (left t i) path)) i (length (offers t))
    (λ here. one-alike path (left t i))
    (λ behind. refl))

pub alone : (t : Tree) → Alike (Both (trees_of (t ∷ []))) t
alone t path = one-alike path t

-- ---- taking an offer from one of them

abbrev pub lengths_of : List Tree → List ℕ
lengths_of ts = map (λ t. length (offers t)) ts

pub sum-lengths : (ts : List Tree) → sum (lengths_of ts) ≡ length (offers_of_all (trees_of ts))
sum-lengths [] = refl
sum-lengths (t ∷ ts) =
    let s : sum (length (offers t) ∷ lengths_of ts) ≡ length (offers t) + sum (lengths_of ts) = sum_by-cons (λ x. x) (length (offers t)) (lengths_of ts) in
    let m = length-append (offers t) (offers_of_all (trees_of ts)) in
    let r = sum-lengths ts in
    omega (arith, s, m, r)

left-found : (ts : List Tree) (i p r : ℕ) → sum (take p (lengths_of ts)) + r ≡ i → r < get_or (lengths_of ts) p 0 →
    left_of_all (trees_of ts) i ≡ trees_of (set ts p (left (get_or ts p (Seq Nil)) r))
left-found [] i p r e w = absurd (omega (arith, w))
left-found (t ∷ ts) i zero r e w =
    let q : r ≡ i = omega (arith, e) in
    ap (λ b. if b then Cons (left t i) (trees_of ts) else Cons t (left_of_all (trees_of ts) (i - length (offers t))))
    (is_below i (length (offers t)) (omega (arith, w, q)))
    ∙ ap (λ n. Cons (left t n) (trees_of ts)) (sym q)
left-found (t ∷ ts) i (suc p) r e w =
    let s : sum (length (offers t) ∷ take p (lengths_of ts)) ≡ length (offers t) + sum (take p (lengths_of ts)) = sum_by-cons (λ x. x) (length (offers t))
    (take p (lengths_of ts)) in
    ap (λ b. if b then Cons (left t i) (trees_of ts) else Cons t (left_of_all (trees_of ts) (i - length (offers t))))
    (isnt_below i (length (offers t)) (omega (arith, e, s)))
    ∙ ap (Cons t) (left-found ts (i - length (offers t)) p r (omega (arith, e, s)) w)

same-row : (ts : Trees) → AllAlike ts ts
same-row Nil = tt
same-row (Cons t ts) = (alike-same t, same-row ts)

set-alike : (ts : List Tree) (p : ℕ) (t u : Tree) → Alike t u → AllAlike (trees_of (set ts p t)) (trees_of (set ts p u))
set-alike [] p t u h = tt
set-alike (s ∷ ts) zero t u h = (h, same-row (trees_of ts))
set-alike (s ∷ ts) (suc p) t u h = (alike-same s, set-alike ts p t u h)

-- where an offer of all falls in one of them, taking it there leaves what taking it leaves of all
pub taken-there : (ts : List Tree) (i p r : ℕ) (new : Tree) → Finds (lengths_of ts) i p r → Alike new (left (get_or ts p (Seq Nil)) r) →
    Alike (Both (trees_of (set ts p new))) (left (Both (trees_of ts)) i)
taken-there ts i p r new found alike path =
    row-alike path (trees_of (set ts p new)) (trees_of (set ts p (left (get_or ts p (Seq Nil)) r))) (set-alike ts p new (left (get_or ts p (Seq Nil)) r) alike)
    ∙ ap (λ us. option_map seen (followed (Both us) path)) (sym (left-found ts i p r found.front found.within))

pub same-alike : (s t : Tree) → s ≡ t → Alike s t
same-alike s t e path = ap (λ (x : Tree). option_map seen (followed x path)) e
