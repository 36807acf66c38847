-- What is found where an offer is sought.
use Rattle.std.proofs.Common.{◌≡◌, ℕ, zero, suc, ◌+◌, ◌-◌, ◌<◌, ◌≤◌, List, [], ◌∷◌, ◌++◌}
use Rattle.std.proofs.Common.{Some, None, Ok, Err, true, false, cond}
use Rattle.std.proofs.Common.{length, length-append, slice_get, take, drop, map, refl, ap, ◌∙◌, arith, add-one}
use Rattle.std.specs.Result.{result_ok}
use Rattle.base.specs.declared.step.CoreAsk.{CoreAsk}
use Rattle.scenario.specs.declared.tree.Scenario.{Scenario}
use Rattle.scenario.specs.Tree.{Tree, plain, plain_all, trees_of}
use Rattle.scenario.specs.Taking.{ends, offers, offers_in_turn, offers_of_all}
use Rattle.scenario.specs.Rests.{past}
use Rattle.scenario.specs.Seeking.{IsOfferOf, sought}
use Rattle.scenario.proofs.Items.{get-map}
use Rattle.scenario.proofs.Places.{drop_here, is_below, isnt_below}

pub sought-ok : (xs : List CoreAsk) (i : ℕ) (ask : CoreAsk) → sought xs i ≡ Ok ask → (i < length xs) × (slice_get xs i ≡ Some ask)
sought-ok [] i ask e = absurd (cc e)
sought-ok (x ∷ xs) zero ask e = let e' : x ≡ ask = cc e in (omega arith, ap Some e')
sought-ok (x ∷ xs) (suc i) ask e = let h = sought-ok xs i ask e in (omega (arith, h.0), h.1)

pub sought-err : (xs : List CoreAsk) (i r : ℕ) → sought xs i ≡ Err r → (i ≡ length xs + r) × (slice_get xs i ≡ None)
sought-err [] i r e = let e' : i ≡ r = cc e in (omega (arith, e'), refl)
sought-err (x ∷ xs) zero r e = absurd (cc e)
sought-err (x ∷ xs) (suc i) r e = let h = sought-err xs i r e in (omega (arith, h.0), h.1)

-- the same, where lists stand one behind the other
pub sought-front : (xs ys : List CoreAsk) (i : ℕ) (ask : CoreAsk) → sought xs i ≡ Ok ask → sought (xs ++ ys) i ≡ Ok ask
sought-front [] ys i ask e = absurd (cc e)
sought-front (x ∷ xs) ys zero ask e = e
sought-front (x ∷ xs) ys (suc i) ask e = sought-front xs ys i ask e

pub sought-behind : (xs ys : List CoreAsk) (i r : ℕ) → sought xs i ≡ Err r → sought (xs ++ ys) i ≡ sought ys r
sought-behind [] ys i r e = let e' : i ≡ r = cc e in ap (sought ys) e'
sought-behind (x ∷ xs) ys zero r e = absurd (cc e)
sought-behind (x ∷ xs) ys (suc i) r e = sought-behind xs ys i r e

pub past-ok : (xs : List CoreAsk) (i : ℕ) (ask : CoreAsk) → sought xs i ≡ Ok ask → past (length xs) i ≡ None
past-ok xs i ask e = let h = sought-ok xs i ask e in ap (λ b. cond b None (Some (i - length xs))) (is_below i (length xs) h.0)

pub past-err : (xs : List CoreAsk) (i r : ℕ) → sought xs i ≡ Err r → past (length xs) i ≡ Some r
past-err xs i r e =
    let h = sought-err xs i r e in
    ap (λ b. cond b None (Some (i - length xs))) (isnt_below i (length xs) (omega (arith, h.0))) ∙ ap Some (omega (arith, h.0))

-- ---- in a list of what has offers, at i

here-all : {X : Type 0} (f : X → Tree) (xs : List X) (i : ℕ) (x : X) → slice_get xs i ≡ Some x
    → offers_of_all (trees_of (map f (drop i xs))) ≡ offers (f x) ++ offers_of_all (trees_of (map f (drop (i + 1) xs)))
here-all f xs i x e = ap (λ ys. offers_of_all (trees_of (map f ys))) (drop_here xs i x e)

pub found-all : {X : Type 0} (f : X → Tree) (xs : List X) (i k : ℕ) (x : X) (ask : CoreAsk) → slice_get xs i ≡ Some x
    → sought (offers (f x)) k ≡ Ok ask → sought (offers_of_all (trees_of (map f (drop i xs)))) k ≡ Ok ask
found-all f xs i k x ask e h = rw (here-all f xs i x e) (sought-front (offers (f x)) _ k ask h)

pub passed-all : {X : Type 0} (f : X → Tree) (xs : List X) (i k r : ℕ) (x : X) → slice_get xs i ≡ Some x → sought (offers (f x)) k ≡ Err r
    → sought (offers_of_all (trees_of (map f (drop i xs)))) k ≡ sought (offers_of_all (trees_of (map f (drop (i + 1) xs)))) r
passed-all f xs i k r x e h = rw (here-all f xs i x e) (sought-behind (offers (f x)) _ k r h)

here-in_turn : {A : Type 0} (ss : List (Scenario A)) (i : ℕ) (s : Scenario A) → slice_get ss i ≡ Some s
    → offers_in_turn (plain_all (drop i ss)) ≡ offers (plain s) ++ cond (ends (plain s)) (offers_in_turn (plain_all (drop (i + 1) ss))) []
here-in_turn ss i s e = ap (λ ys. offers_in_turn (plain_all ys)) (drop_here ss i s e)

pub found-in_turn : {A : Type 0} (ss : List (Scenario A)) (i k : ℕ) (s : Scenario A) (ask : CoreAsk) → slice_get ss i ≡ Some s
    → sought (offers (plain s)) k ≡ Ok ask → sought (offers_in_turn (plain_all (drop i ss))) k ≡ Ok ask
found-in_turn ss i k s ask e h = rw (here-in_turn ss i s e) (sought-front (offers (plain s)) _ k ask h)

-- behind a child that may end, and behind one that may not
pub passed-in_turn : {A : Type 0} (ss : List (Scenario A)) (i k r : ℕ) (s : Scenario A) →
    slice_get ss i ≡ Some s → sought (offers (plain s)) k ≡ Err r
    → ends (plain s) ≡ true → sought (offers_in_turn (plain_all (drop i ss))) k ≡ sought (offers_in_turn (plain_all (drop (i + 1) ss))) r
passed-in_turn ss i k r s e h end =
    ap (λ xs. sought xs k) (here-in_turn ss i s e ∙ ap (λ b. offers (plain s) ++ cond b (offers_in_turn (plain_all (drop (i + 1) ss))) []) end)
    ∙ sought-behind (offers (plain s)) _ k r h

pub stopped-in_turn : {A : Type 0} (ss : List (Scenario A)) (i k r : ℕ) (s : Scenario A) →
    slice_get ss i ≡ Some s → sought (offers (plain s)) k ≡ Err r
    → ends (plain s) ≡ false → sought (offers_in_turn (plain_all (drop i ss))) k ≡ Err r
stopped-in_turn ss i k r s e h more =
    ap (λ xs. sought xs k) (here-in_turn ss i s e ∙ ap (λ b. offers (plain s) ++ cond b (offers_in_turn (plain_all (drop (i + 1) ss))) []) more)
    ∙ sought-behind (offers (plain s)) [] k r h

-- ---- how many offers are before tree i

abbrev pub before : List Tree → ℕ → ℕ
before ts i = length (offers_of_all (trees_of (take i ts)))

one-more : (ts : List Tree) (i : ℕ) (t : Tree) → slice_get ts i ≡ Some t → before ts (suc i) ≡ before ts i + length (offers t)
one-more [] i t e = absurd (cc e)
one-more (u ∷ ts) zero t e = let e' : u ≡ t = cc e in rw e' (omega (arith, length-append (offers t) []))
one-more (u ∷ ts) (suc i) t e =
    let h = one-more ts i t e in
    let one = length-append (offers u) (offers_of_all (trees_of (take (suc i) ts))) in
    let two = length-append (offers u) (offers_of_all (trees_of (take i ts))) in
    omega (arith, h, one, two)

pub found-here : {X : Type 0} (f : X → Tree) (xs : List X) (at i k : ℕ) (x : X) (ask : CoreAsk) → slice_get xs i ≡ Some x
    → sought (offers (f x)) k ≡ Ok ask → at ≡ before (map f xs) i + k → IsOfferOf (map f xs) at i k
found-here f xs at i k x ask e h is = (f x, get-map f xs i x e, (sought-ok (offers (f x)) k ask h).0, is)

pub passed-here : {X : Type 0} (f : X → Tree) (xs : List X) (at i k r : ℕ) (x : X) → slice_get xs i ≡ Some x
    → sought (offers (f x)) k ≡ Err r → at ≡ before (map f xs) i + k → at ≡ before (map f xs) (i + 1) + r
passed-here f xs at i k r x e h is =
    let more = one-more (map f xs) i (f x) (get-map f xs i x e) in
    let high = sought-err (offers (f x)) k r h in
    rw add-one (omega (arith, more, high.0, is))

pub sought-get : (xs : List CoreAsk) (i : ℕ) → result_ok (sought xs i) ≡ slice_get xs i
sought-get [] i = refl
sought-get (x ∷ xs) zero = refl
sought-get (x ∷ xs) (suc i) = sought-get xs i

pub none-there : {X : Type 0} (xs : List X) (i : ℕ) → slice_get xs i ≡ None → length xs ≤ i
none-there [] i e = omega arith
none-there (x ∷ xs) zero e = absurd (cc e)
none-there (x ∷ xs) (suc i) e = let h = none-there xs i e in omega (arith, h)
