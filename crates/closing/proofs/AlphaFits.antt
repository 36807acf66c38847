-- What every pair of a block meets.
use Rattle.std.proofs.Common.{◌≡◌, ◌≢◌, ℕ, ◌+◌, ◌≤◌, List, [], ◌∷◌, refl, ap, sym, ◌∙◌, inl, inr, Option, Some, None, Bool, true, false, not, ◌&&◌, ◌||◌}
use Rattle.std.proofs.Common.{◌==◌, if◌then◌else◌, get_or, sum_by, map, zero, suc, arith, nat_le, ◌<◌, eq-eqb}
use Rattle.std.proofs.lemmas.Bool.{cases_eq, ne_eqb, le-leb}
use Rattle.std.proofs.lemmas.List.Sums.{sum_by-cons}
use Rattle.base.specs.declared.ids.CacheId.{CacheId}
use Rattle.network.specs.declared.message.Forward.{Forward}
use Rattle.network.specs.declared.message.ForwardKind.{ForwardKind}
use Rattle.network.specs.declared.message.ForwardKind.TheVariants.{FwdGetS, FwdGetM, Inv, PutAck}
use Rattle.network.specs.Traffic.{Traffic, link}
use Rattle.network.specs.Room.{one_if}
use Rattle.control.specs.Sharing.{shares, others_from}
use Rattle.machine.specs.Block.{BlockState, IsBlockAmong}
use Rattle.machine.proofs.Counts.{only, total, link-total}
use Rattle.machine.proofs.Seen.{names, is_fwd_gets, is_fwd_getm, is_inv}
use Rattle.pairs.specs.declared.pair.Pair.{Pair}
use Rattle.pairs.specs.declared.link.LinkPlace.{LinkPlace}
use Rattle.pairs.specs.declared.side.Owned.TheVariants.{ByItself, ByAnother}
use Rattle.pairs.specs.Pairs.{fits, owners_fit, thirds_fit, alike, names_fit, marked, own_marked, same_kind}
use Rattle.closing.proofs.Alpha.{Tags, alpha, owned_in, owed_to}

pub not-both : (n x y : ℕ) → x ≢ y → (n == x) && (n == y) ≡ false
not-both n x y ne =
    elim (cases_eq n x) [
      | inl same ↦ ap (λ m. (m == x) && (m == y)) same ∙ ap (λ t. (x == x) && t) (ne_eqb x y ne) ∙ and-false (x == x)
      | inr differ ↦ ap (λ t. t && (n == y)) (ne_eqb n x differ)
    ]
  where
    and-false : (t : Bool) → t && false ≡ false
    and-false true = refl
    and-false false = refl

owners : (s t : Bool) → s && t ≡ false → owners_fit (if s then ByItself else ByAnother) (if t then ByItself else ByAnother) ≡ true
owners true true e = absurd (cc)
owners true false e = refl
owners false true e = refl
owners false false e = refl

pub owners-fit : (o : Option CacheId) (c d : ℕ) → c ≢ d → owners_fit (owned_in o c) (owned_in o d) ≡ true
owners-fit None c d ne = refl
owners-fit (Some o) c d ne = owners (o.0 == c) (o.0 == d) (not-both o.0 c d ne)

pub all-four : (a b c d : Bool) → a ≡ true → b ≡ true → c ≡ true → d ≡ true → a && b && c && d ≡ true
all-four a b c d e f g h = ap (λ t. t && b && c && d) e ∙ ap (λ t. t && c && d) f ∙ ap (λ t. t && d) g ∙ h

-- how many sharers there are besides two caches, and whether one is among them, where the flags are those of the caches from a number on
abbrev pub thirds_from : ℕ → ℕ → ℕ → List Bool → ℕ
thirds_from i c d [] = 0
thirds_from i c d (flag ∷ flags) = one_if (flag && not (i == c) && not (i == d)) + thirds_from (i + 1) c d flags

abbrev pub among_from : ℕ → ℕ → List Bool → ℕ
among_from i c [] = 0
among_from i c (flag ∷ flags) = one_if (flag && (i == c)) + among_from (i + 1) c flags

one-split : (f s t : Bool) → s && t ≡ false → one_if (f && not s) ≡ one_if (f && not s && not t) + one_if (f && t)
one-split true true true e = absurd (cc)
one-split true true false e = refl
one-split true false true e = refl
one-split true false false e = refl
one-split false s t e = refl

one-split_too : (f s t : Bool) → s && t ≡ false → one_if (f && not t) ≡ one_if (f && not s && not t) + one_if (f && s)
one-split_too true true true e = absurd (cc)
one-split_too true true false e = refl
one-split_too true false true e = refl
one-split_too true false false e = refl
one-split_too false s t e = refl

pub split : (i c d : ℕ) (flags : List Bool) → c ≢ d → others_from i c flags ≡ thirds_from i c d flags + among_from i d flags
split i c d [] ne = refl
split i c d (flag ∷ flags) ne = omega (arith, one-split flag (i == c) (i == d) (not-both i c d ne), split (i + 1) c d flags ne)

pub split_too : (i c d : ℕ) (flags : List Bool) → c ≢ d → others_from i d flags ≡ thirds_from i c d flags + among_from i c flags
split_too i c d [] ne = refl
split_too i c d (flag ∷ flags) ne = omega (arith, one-split_too flag (i == c) (i == d) (not-both i c d ne), split_too (i + 1) c d flags ne)

no-one : (f : Bool) (i c : ℕ) → i ≢ c → one_if (f && (i == c)) ≡ 0
no-one true i c ne = ap (λ t. one_if t) (ne_eqb i c ne)
no-one false i c ne = refl

the-one : (f : Bool) (i : ℕ) → one_if (f && (i == i)) ≡ one_if f
the-one true i = ap (λ t. one_if t) (eq-eqb i i refl)
the-one false i = refl

not-among : (i c : ℕ) (flags : List Bool) → c < i → among_from i c flags ≡ 0
not-among i c [] lt = refl
not-among i c (flag ∷ flags) lt = omega (arith, no-one flag i c (λ e. absurd (omega (arith, e, lt))), not-among (i + 1) c flags (omega (arith, lt)))

pub among : (i k c : ℕ) (flags : List Bool) → i + k ≡ c → among_from i c flags ≡ one_if (shares flags k)
among i k c [] e = refl
among i zero c (flag ∷ flags) e =
    let same : i ≡ c = omega (arith, e) in
    omega (arith, ap (λ n. one_if (flag && (i == n))) (sym same), the-one flag i, not-among (i + 1) c flags (omega (arith, same)))
among i (suc k) c (flag ∷ flags) e = omega (arith, no-one flag i c (λ same. absurd (omega (arith, e, same))), among (i + 1) k c flags (omega (arith, e)))

pub some-others : (n t : ℕ) (s : Bool) → n ≡ t + one_if s → not (n == 0) ≡ s || not (t == 0)
some-others n t true e = ap (λ b. not b) (ne_eqb n 0 (λ z. absurd (omega (arith, e, z))))
some-others n t false e = let same : n ≡ t = omega (arith, e) in ap (λ k. not (k == 0)) same

pub alike-same : (a b : Bool) → a ≡ b → alike a b ≡ true
alike-same true true e = refl
alike-same true false e = absurd (cc)
alike-same false true e = absurd (cc)
alike-same false false e = refl

pub both : (a b : Bool) → a ≡ true → b ≡ true → a && b ≡ true
both a b e f = ap (λ t. t && b) e ∙ f

all-three : (a b c : Bool) → a ≡ true → b ≡ true → c ≡ true → a && b && c ≡ true
all-three a b c e f g = ap (λ t. t && b && c) e ∙ ap (λ t. t && c) f ∙ g

or-true : (a b : Bool) → b ≡ true → a || b ≡ true
or-true true b e = refl
or-true false b e = e

either-third : (u : Bool) (p : Pair) → thirds_fit u p ≡ true → thirds_fit true p || thirds_fit false p ≡ true
either-third true p e = ap (λ t. t || thirds_fit false p) e
either-third false p e = or-true (thirds_fit true p) (thirds_fit false p) e

pub thirds-fit : (tags : Tags) (b : BlockState) (c d : ℕ) → c ≢ d →
    thirds_fit true (alpha tags b c d) || thirds_fit false (alpha tags b c d) ≡ true
thirds-fit tags b c d ne =
    let flags : List Bool = b.home.sharers in
    let t : ℕ = thirds_from 0 c d flags in
    let first_others : others_from 0 c flags ≡ t + one_if (shares flags d) = omega (arith, split 0 c d flags ne, among 0 d d flags (omega arith)) in
    let second_others : others_from 0 d flags ≡ t + one_if (shares flags c) = omega (arith, split_too 0 c d flags ne, among 0 c c flags (omega arith)) in
    either-third (not (t == 0)) (alpha tags b c d)
    (both _ _ (alike-same _ _ (some-others (others_from 0 c flags) t (shares flags d) first_others))
    (alike-same _ _ (some-others (others_from 0 d flags) t (shares flags c) second_others)))

-- what a weight counts is what a kind marks
abbrev pub Weighs : ForwardKind → (ForwardKind → ℕ) → Type 0
Weighs kind weight = (x : ForwardKind) (t : Bool) → (if t && same_kind x kind then 1 else 0) ≡ only t (weight x)

pub weighs-gets : Weighs FwdGetS is_fwd_gets
weighs-gets FwdGetS true = refl
weighs-gets FwdGetM true = refl
weighs-gets Inv true = refl
weighs-gets PutAck true = refl
weighs-gets x false = refl

pub weighs-getm : Weighs FwdGetM is_fwd_getm
weighs-getm FwdGetS true = refl
weighs-getm FwdGetM true = refl
weighs-getm Inv true = refl
weighs-getm PutAck true = refl
weighs-getm x false = refl

pub weighs-inv : Weighs Inv is_inv
weighs-inv FwdGetS true = refl
weighs-inv FwdGetM true = refl
weighs-inv Inv true = refl
weighs-inv PutAck true = refl
weighs-inv x false = refl

abbrev pub places : ℕ → List Forward → List LinkPlace
places c fs = map (λ (f : Forward). record { kind = f.kind; own = f.requestor.0 == c }) fs

pub own-sum : (kind : ForwardKind) (weight : ForwardKind → ℕ) → Weighs kind weight → (c : ℕ) (fs : List Forward) →
    own_marked kind (places c fs) ≡ sum_by (names c weight) fs
own-sum kind weight h c [] = refl
own-sum kind weight h c (f ∷ fs) =
    omega (arith, h f.kind (f.requestor.0 == c), own-sum kind weight h c fs, sum_by-cons (names c weight) f fs)

pub marks-sum : (kind : ForwardKind) (weight : ForwardKind → ℕ) → Weighs kind weight → (c d : ℕ) (fs : List Forward) →
    marked kind (places d fs) (map (λ (f : Forward). f.requestor.0 == c) fs) ≡ sum_by (names c weight) fs
marks-sum kind weight h c d [] = refl
marks-sum kind weight h c d (f ∷ fs) =
    omega (arith, h f.kind (f.requestor.0 == c), marks-sum kind weight h c d fs, sum_by-cons (names c weight) f fs)

one-link : (f : Forward → ℕ) (ls : List (List Forward)) (c : ℕ) → sum_by f (get_or ls c []) ≤ total f ls
one-link f [] c = omega arith
one-link f (l ∷ ls) zero = omega arith
one-link f (l ∷ ls) (suc c) = omega (arith, one-link f ls c)

two-links : (f : Forward → ℕ) (ls : List (List Forward)) (c d : ℕ) → c ≢ d → sum_by f (get_or ls c []) + sum_by f (get_or ls d []) ≤ total f ls
two-links f [] c d ne = omega arith
two-links f (l ∷ ls) zero zero ne = absurd (ne refl)
two-links f (l ∷ ls) zero (suc d) ne = omega (arith, one-link f ls d)
two-links f (l ∷ ls) (suc c) zero ne = omega (arith, one-link f ls c)
two-links f (l ∷ ls) (suc c) (suc d) ne = omega (arith, two-links f ls c d (λ e. ne (ap (λ n. suc n) e)))

counted : (kind : ForwardKind) (weight : ForwardKind → ℕ) → Weighs kind weight → (w : Traffic) (c d : ℕ) → c ≢ d →
    own_marked kind (places c (link w c)) + marked kind (places d (link w d)) (map (λ (f : Forward). f.requestor.0 == c) (link w d)) ≤
    total (names c weight) w.links
counted kind weight h w c d ne =
    omega (arith, own-sum kind weight h c (link w c), marks-sum kind weight h c d (link w d), two-links (names c weight) w.links c d ne)

owed-some : (m n : ℕ) → m ≤ n → (m == 0) || not (n == 0) ≡ true
owed-some m n le =
    elim (cases_eq m 0) [
      | inl none ↦ ap (λ t. t || not (n == 0)) (eq-eqb m 0 none)
      | inr some ↦ or-true (m == 0) (not (n == 0)) (ap (λ t. not t) (ne_eqb n 0 (λ z. some (omega (arith, le, z)))))
    ]

le-true : (m n : ℕ) → m ≤ n → nat_le m n ≡ true
le-true m n le = le-leb m n le

pub names-fit : (tags : Tags) (b : BlockState) (c d : ℕ) → c ≢ d →
    names_fit (alpha tags b c d).first (alpha tags b c d).second (alpha tags b c d).second_names ≡ true
names-fit tags b c d ne =
    let w : Traffic = b.traffic in
    all-three _ _ _ (le-true _ _ (counted FwdGetS is_fwd_gets weighs-gets w c d ne)) (le-true _ _ (counted FwdGetM is_fwd_getm weighs-getm w c d ne))
    (owed-some (marked Inv (places d (link w d)) (map (λ (f : Forward). f.requestor.0 == c) (link w d))) (owed_to b c)
    (omega (arith, marks-sum Inv is_inv weighs-inv c d (link w d), link-total (names c is_inv) w d)))

-- what every pair of a block meets
pub alpha-fits : (caches : ℕ) (tags : Tags) (b : BlockState) (c d : ℕ) → IsBlockAmong caches b → c ≢ d → fits (alpha tags b c d) ≡ true
alpha-fits caches tags b c d whole ne =
    all-four _ _ _ _ (owners-fit b.home.owner c d ne) (thirds-fit tags b c d ne) (names-fit tags b c d ne) (names-fit tags b d c (λ e. ne (sym e)))
