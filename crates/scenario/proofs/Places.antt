-- Where an offer of several children is.
use Rattle.std.proofs.Common.{◌≡◌, ℕ, zero, suc, ◌+◌, ◌-◌, ◌<◌, ◌≤◌, List, [], ◌∷◌, ◌++◌}
use Rattle.std.proofs.Common.{Option, Some, None, Bool, true, false, ◌⊎◌, inl, inr}
use Rattle.std.proofs.Common.{cond, nat_lt, length, drop, take, map, slice_get, slice_set, slice_index_or, IfSome, refl, sym}
use Rattle.std.proofs.Common.{ap, ◌∙◌, subst, arith, add-one, length-append}
use Rattle.std.proofs.lemmas.Bool.{cases_lt}
use Rattle.std.proofs.lemmas.Bool.Decides.{nat_tests}
use Rattle.std.proofs.lemmas.Option.{slice_get-get_or}
use Rattle.base.specs.declared.step.CoreAsk.{CoreAsk}
use Rattle.scenario.specs.declared.tree.Scenario.{Scenario}
use Rattle.scenario.specs.Tree.{Tree, Trees, Cons, Seq, Any, Both, plain, plain_all, trees_of}
use Rattle.scenario.specs.Taking.{offers, offers_in_turn, offers_of_all, ends}
use Rattle.scenario.specs.Seeking.{IsOfferOf}
use Rattle.scenario.specs.Rests.{rest, rest_in_turn, rest_of_one, rest_of_all, row_of, past, IsPlaceInTurn, IsPlaceAmong, Leaves, LeavesInTurn}

pub past_none : (n i : ℕ) → past n i ≡ None → i < n
past_none n i e = by_case (nat_lt i n) refl
  where
    by_case : (t : Bool) → nat_lt i n ≡ t → i < n
    by_case true q = grind (arith, nat_tests)
    by_case false q = let e' : cond false None (Some (i - n)) ≡ None = subst (λ t. cond t None (Some (i - n)) ≡ None) q e in absurd (cc e')

pub past_some : (n i r : ℕ) → past n i ≡ Some r → (n ≤ i) × (r ≡ i - n)
past_some n i r e = by_case (nat_lt i n) refl
  where
    by_case : (t : Bool) → nat_lt i n ≡ t → (n ≤ i) × (r ≡ i - n)
    by_case true q = let e' : cond true None (Some (i - n)) ≡ Some r = subst (λ t. cond t None (Some (i - n)) ≡ Some r) q e in absurd (cc e')
    by_case false q =
        let e' : cond false None (Some (i - n)) ≡ Some r = subst (λ t. cond t None (Some (i - n)) ≡ Some r) q e in
        (grind (arith, nat_tests), cc e')

pub get_front : {X : Type 0} (xs ys : List X) (i : ℕ) → i < length xs → slice_get (xs ++ ys) i ≡ slice_get xs i
get_front [] ys i h = absurd (omega arith)
get_front (x ∷ xs) ys zero h = refl
get_front (x ∷ xs) ys (suc i) h = get_front xs ys i (omega arith)

pub get_behind : {X : Type 0} (xs ys : List X) (i : ℕ) → length xs ≤ i → slice_get (xs ++ ys) i ≡ slice_get ys (i - length xs)
get_behind [] ys i h = ap (slice_get ys) (omega arith)
get_behind (x ∷ xs) ys zero h = absurd (omega arith)
get_behind (x ∷ xs) ys (suc i) h = get_behind xs ys i (omega arith) ∙ ap (slice_get ys) (omega arith)

pub is_below : (i n : ℕ) → i < n → nat_lt i n ≡ true
is_below i n h = grind (arith, nat_tests)

pub isnt_below : (i n : ℕ) → n ≤ i → nat_lt i n ≡ false
isnt_below i n h = grind (arith, nat_tests)

-- a test of whether an offer is among the first n, and what follows in each case
pub by_test : (P : Bool → Type 0) (i n : ℕ) → (i < n → P true) → (n ≤ i → P false) → P (nat_lt i n)
by_test P i n here behind = by_case (nat_lt i n) refl
  where
    by_case : (b : Bool) → nat_lt i n ≡ b → P b
    by_case true e = here (grind (arith, nat_tests))
    by_case false e = behind (grind (arith, nat_tests))

drop_next : {X : Type 0} (xs : List X) (i : ℕ) (x : X) → slice_get xs i ≡ Some x → drop i xs ≡ x ∷ drop (suc i) xs
drop_next [] i x e = absurd (cc e)
drop_next (y ∷ xs) zero x e = let e' : y ≡ x = cc e in ap (λ z. z ∷ xs) e'
drop_next (y ∷ xs) (suc i) x e = drop_next xs i x e

pub drop_here : {X : Type 0} (xs : List X) (i : ℕ) (x : X) → slice_get xs i ≡ Some x → drop i xs ≡ x ∷ drop (i + 1) xs
drop_here xs i x e = rw add-one (drop_next xs i x e)

set_here : {X : Type 0} (xs : List X) (i : ℕ) (x y : X) → slice_get xs i ≡ Some x → drop i (slice_set xs i y) ≡ y ∷ drop (suc i) xs
set_here [] i x y e = absurd (cc e)
set_here (z ∷ xs) zero x y e = refl
set_here (z ∷ xs) (suc i) x y e = set_here xs i x y e

-- ---- children in turn

-- the child from which an offer is
in_child : (t : Tree) (ts : Trees) (i : ℕ) → i < length (offers t)
    → (slice_get (offers_in_turn (Cons t ts)) i ≡ slice_get (offers t) i) × (rest_in_turn (Cons t ts) i ≡ row_of (Cons (rest t i) ts))
in_child t ts i h =
    (get_front (offers t) _ i h, ap (λ b. cond b (row_of (Cons (rest t i) ts)) (rest_in_turn ts (i - length (offers t)))) (is_below i (length (offers t)) h))

-- and where it is in none of the first child's
behind_child : (t : Tree) (ts : Trees) (i : ℕ) → length (offers t) ≤ i → ends t ≡ true
    → (slice_get (offers_in_turn (Cons t ts)) i ≡ slice_get (offers_in_turn ts) (i - length (offers t)))
    × (rest_in_turn (Cons t ts) i ≡ rest_in_turn ts (i - length (offers t)))
behind_child t ts i h end = (
  get_behind (offers t) _ i h ∙ ap (λ b. slice_get (cond b (offers_in_turn ts) []) (i - length (offers t))) end,
  ap (λ b. cond b (row_of (Cons (rest t i) ts)) (rest_in_turn ts (i - length (offers t)))) (isnt_below i (length (offers t)) h),
)

pub found_in_turn : {A : Type 0} (ss : List (Scenario A)) (at i further : ℕ) (s : Scenario A) → slice_get ss i ≡ Some s
    → past (length (offers (plain s))) further ≡ None
    → slice_get (offers_in_turn (plain_all ss)) at ≡ slice_get (offers_in_turn (plain_all (drop i ss))) further
    → rest_in_turn (plain_all ss) at ≡ rest_in_turn (plain_all (drop i ss)) further
    → IsPlaceInTurn ss at i further
found_in_turn ss at i further s e none p q =
    let here = ap plain_all (drop_here ss i s e) in
    let low = past_none (length (offers (plain s))) further none in
    let c = in_child (plain s) (plain_all (drop (i + 1) ss)) further low in
    rw e (
      low,
      p ∙ (ap (λ ts. slice_get (offers_in_turn ts) further) here ∙ c.0),
      q ∙ (ap (λ ts. rest_in_turn ts further) here ∙ c.1),
    )

pub passed_in_turn : {A : Type 0} (ss : List (Scenario A)) (at i further r : ℕ) (s : Scenario A) → slice_get ss i ≡ Some s
    → past (length (offers (plain s))) further ≡ Some r → ends (plain s) ≡ true
    → slice_get (offers_in_turn (plain_all ss)) at ≡ slice_get (offers_in_turn (plain_all (drop i ss))) further
    → rest_in_turn (plain_all ss) at ≡ rest_in_turn (plain_all (drop i ss)) further
    → (slice_get (offers_in_turn (plain_all ss)) at ≡ slice_get (offers_in_turn (plain_all (drop (i + 1) ss))) r)
    × (rest_in_turn (plain_all ss) at ≡ rest_in_turn (plain_all (drop (i + 1) ss)) r)
passed_in_turn ss at i further r s e some end p q =
    let here = ap plain_all (drop_here ss i s e) in
    let high = past_some (length (offers (plain s))) further r some in
    let c = behind_child (plain s) (plain_all (drop (i + 1) ss)) further high.0 end in (
      rw high.1 (p ∙ (ap (λ ts. slice_get (offers_in_turn ts) further) here ∙ c.0)),
      rw high.1 (q ∙ (ap (λ ts. rest_in_turn ts further) here ∙ c.1)),
    )

-- the same, behind so many
past_more : (a b i r : ℕ) → a ≤ i → r ≡ i - a → past b r ≡ past (a + b) i
past_more a b i r h e = by_side (cases_lt r b)
  where
    by_side : (r < b) ⊎ (b ≤ r) → past b r ≡ past (a + b) i
    by_side (inl low) =
        ap (λ t. cond t None (Some (r - b))) (is_below r b low)
        ∙ sym (ap (λ t. cond t None (Some (i - (a + b)))) (is_below i (a + b) (omega (arith, h, e, low))))
    by_side (inr high) =
        ap (λ t. cond t None (Some (r - b))) (isnt_below r b high)
        ∙ (ap Some (omega (arith, h, e, high)) ∙ sym (ap (λ t. cond t None (Some (i - (a + b)))) (isnt_below i (a + b) (omega (arith, h, e, high)))))

pub counted_in_turn : {A : Type 0} (ss : List (Scenario A)) (i further r : ℕ) (s : Scenario A) → slice_get ss i ≡ Some s
    → past (length (offers (plain s))) further ≡ Some r → ends (plain s) ≡ true
    → past (length (offers_in_turn (plain_all (drop (i + 1) ss)))) r ≡ past (length (offers_in_turn (plain_all (drop i ss)))) further
counted_in_turn ss i further r s e some end =
    let high = past_some (length (offers (plain s))) further r some in
    let others = offers_in_turn (plain_all (drop (i + 1) ss)) in
    let all = ap (λ us. offers_in_turn (plain_all us)) (drop_here ss i s e) ∙ ap (λ b. offers (plain s) ++ cond b others []) end in
    past_more (length (offers (plain s))) (length others) further r high.0 high.1
    ∙ ap (λ n. past n further) (sym (ap length all ∙ length-append (offers (plain s)) others))

-- ---- children at once

in_some_child : (t : Tree) (ts : Trees) (i : ℕ) → i < length (offers t)
    → (slice_get (offers_of_all (Cons t ts)) i ≡ slice_get (offers t) i) × (rest_of_one (Cons t ts) i ≡ rest t i)
    × (rest_of_all (Cons t ts) i ≡ Cons (rest t i) ts)
in_some_child t ts i h =
    let e = is_below i (length (offers t)) h in (
      get_front (offers t) _ i h,
      ap (λ b. cond b (rest t i) (rest_of_one ts (i - length (offers t)))) e,
      ap (λ b. cond b (Cons (rest t i) ts) (Cons t (rest_of_all ts (i - length (offers t))))) e,
    )

behind_some_child : (t : Tree) (ts : Trees) (i : ℕ) → length (offers t) ≤ i
    → (slice_get (offers_of_all (Cons t ts)) i ≡ slice_get (offers_of_all ts) (i - length (offers t)))
    × (rest_of_one (Cons t ts) i ≡ rest_of_one ts (i - length (offers t))) × (rest_of_all (Cons t ts) i ≡ Cons t (rest_of_all ts (i - length (offers t))))
behind_some_child t ts i h =
    let e = isnt_below i (length (offers t)) h in (
      get_behind (offers t) _ i h,
      ap (λ b. cond b (rest t i) (rest_of_one ts (i - length (offers t)))) e,
      ap (λ b. cond b (Cons (rest t i) ts) (Cons t (rest_of_all ts (i - length (offers t))))) e,
    )

if_some-map : {X : Type 0} (o : Option X) (P Q : X → Type 0) → ((x : X) → P x → Q x) → IfSome o P → IfSome o Q
if_some-map None P Q f h = h
if_some-map (Some x) P Q f h = f x h

-- where an offer of all the children is, it is that child's, and what is left is what this child leaves, with the others or alone
pub among : {A : Type 0} (ss : List (Scenario A)) (i j k : ℕ) → IsOfferOf (map plain ss) i j k → IsPlaceAmong ss i j k
among [] i j k h = absurd (cc h.1)
among (s ∷ ss) i zero k h =
    let here : plain s ≡ h.0 = cc h.1 in
    let low : k < length (offers (plain s)) = rw here h.2 in
    let is : i ≡ k = omega (arith, h.3) in
    let c = in_some_child (plain s) (plain_all ss) k low in
    rw is (low, c.0, c.1, c.2)
among (s ∷ ss) i (suc j) k h =
    let more = length-append (offers (plain s)) (offers_of_all (trees_of (take j (map plain ss)))) in
    let c = behind_some_child (plain s) (plain_all ss) i (omega (arith, h.3, more)) in
    if_some-map (slice_get ss j) _ _ (λ u p. (p.0, c.0 ∙ p.1, c.1 ∙ p.2, c.2 ∙ ap (Cons (plain s)) p.3))
    (among ss (i - length (offers (plain s))) j k (h.0, h.1, h.2, omega (arith, h.3, more)))

-- ---- what stands after a child's offer is taken

-- the child that indexing a list of children reads, where a slice of the list says that it is there
pub child_at : {A : Type 0} (ss us : List (Scenario A)) (j : ℕ) (s : Scenario A) → us ≡ ss → j < length us → s ≡ slice_index_or ss j s
    → slice_get ss j ≡ Some s
child_at ss us j s same within is = slice_get-get_or ss j s (subst (λ vs. j < length vs) same within) ∙ ap Some (sym is)

-- a child that stands for the same tree
pub same_child : {A : Type 0} (ss : List (Scenario A)) (j : ℕ) (s t : Scenario A) → slice_get ss j ≡ Some s → plain t ≡ plain s
    → plain_all (slice_set ss j t) ≡ plain_all ss
same_child [] j s t e p = absurd (cc e)
same_child (u ∷ ss) zero s t e p = let e' : u ≡ s = cc e in ap (λ x. Cons x (plain_all ss)) (p ∙ ap plain (sym e'))
same_child (u ∷ ss) (suc j) s t e p = ap (Cons (plain u)) (same_child ss j s t e p)

map_set : {A : Type 0} (ss : List (Scenario A)) (j : ℕ) (t : Scenario A) → slice_set (map plain ss) j (plain t) ≡ map plain (slice_set ss j t)
map_set [] j t = refl
map_set (s ∷ ss) zero t = refl
map_set (s ∷ ss) (suc j) t = ap (λ ts. plain s ∷ ts) (map_set ss j t)

pub row_of_others : {A : Type 0} (ss : List (Scenario A)) → (length ss ≡ 1 → ⊥) → row_of (plain_all ss) ≡ Seq (plain_all ss)
row_of_others [] others = refl
row_of_others (s ∷ []) others = absurd (others refl)
row_of_others (s ∷ t ∷ ss) others = refl

abbrev pub HereInTurn : {A : Type 0} → List (Scenario A) → ℕ → ℕ → ℕ → Scenario A → Type 0
HereInTurn ss i j k s = (k < length (offers (plain s)))
    × (slice_get (offers_in_turn (plain_all ss)) i ≡ slice_get (offers (plain s)) k)
    × (rest_in_turn (plain_all ss) i ≡ row_of (Cons (rest (plain s) k) (plain_all (drop (j + 1) ss))))

abbrev pub HereAmong : {A : Type 0} → List (Scenario A) → ℕ → ℕ → ℕ → Scenario A → Type 0
HereAmong ss i j k s = (k < length (offers (plain s)))
    × (slice_get (offers_of_all (plain_all ss)) i ≡ slice_get (offers (plain s)) k)
    × (rest_of_one (plain_all ss) i ≡ rest (plain s) k)
    × (rest_of_all (plain_all ss) i ≡ trees_of (slice_set (map plain ss) j (rest (plain s) k)))

pub within_turn : {A : Type 0} (ss : List (Scenario A)) (at j k : ℕ) (s : Scenario A) → slice_get ss j ≡ Some s → IsPlaceInTurn ss at j k
    → k < length (offers (plain s))
within_turn ss at j k s e place = let here = subst (λ (o : Option _). IfSome o (λ u. HereInTurn ss at j k u)) e place in here.0

pub within_child : {A : Type 0} (ss : List (Scenario A)) (at j k : ℕ) (s : Scenario A) → slice_get ss j ≡ Some s → IsPlaceAmong ss at j k
    → k < length (offers (plain s))
within_child ss at j k s e place = let here = subst (λ (o : Option _). IfSome o (λ u. HereAmong ss at j k u)) e place in here.0

pub leaves_in_turn : {A : Type 0} (ss new : List (Scenario A)) (at j k : ℕ) (s t : Scenario A) (ask : CoreAsk) → slice_get ss j ≡ Some s
    → IsPlaceInTurn ss at j k
    → Leaves (plain s) k (Some ask) (plain t) → new ≡ drop j (slice_set ss j t) → LeavesInTurn (plain_all ss) at ask (plain_all new)
leaves_in_turn ss new at j k s t ask e place takes n =
    let here = subst (λ (o : Option _). IfSome o (λ u. HereInTurn ss at j k u)) e place in
    let left_is : plain_all new ≡ Cons (plain t) (plain_all (drop (j + 1) ss)) = rw (n, set_here ss j s t e, add-one) refl in (
      here.1 ∙ takes.0,
      ap row_of (left_is ∙ ap (λ x. Cons x (plain_all (drop (j + 1) ss))) takes.1) ∙ sym here.2,
    )

pub leaves_among : {A : Type 0} (ss : List (Scenario A)) (at j k : ℕ) (s t : Scenario A) (ask : CoreAsk) →
    slice_get ss j ≡ Some s → IsPlaceAmong ss at j k
    → Leaves (plain s) k (Some ask) (plain t) → Leaves (Both (plain_all ss)) at (Some ask) (Both (plain_all (slice_set ss j t)))
leaves_among ss at j k s t ask e place takes =
    let here = subst (λ (o : Option _). IfSome o (λ u. HereAmong ss at j k u)) e place in (
      here.1 ∙ takes.0,
      ap Both (ap trees_of (sym (map_set ss j t) ∙ ap (slice_set (map plain ss) j) takes.1) ∙ sym here.3),
    )

pub leaves_of_any : {A : Type 0} (ss : List (Scenario A)) (at j k : ℕ) (s t : Scenario A) (ask : CoreAsk) →
    slice_get ss j ≡ Some s → IsPlaceAmong ss at j k
    → Leaves (plain s) k (Some ask) (plain t)
    → Leaves (Any (plain_all ss)) at (Some ask) (plain t)
leaves_of_any ss at j k s t ask e place takes =
    let here = subst (λ (o : Option _). IfSome o (λ u. HereAmong ss at j k u)) e place in (here.1 ∙ takes.0, takes.1 ∙ sym here.2)

-- ---- an offer that is there

below_past : (n i : ℕ) → i < n → past n i ≡ None
below_past n i h = ap (λ b. cond b None (Some (i - n))) (is_below i n h)

-- an offer that is one of all is one of those behind the children that were passed
pub still : (n m i k : ℕ) → past n i ≡ past m k → k < m → i < n
still n m i k e h = past_none n i (e ∙ below_past m k h)

-- where an offer is behind a child of a row, that child may end
pub ends_before : {A : Type 0} (ss : List (Scenario A)) (i further r : ℕ) (s : Scenario A) → slice_get ss i ≡ Some s
    → past (length (offers (plain s))) further ≡ Some r
    → further < length (offers_in_turn (plain_all (drop i ss))) → ends (plain s) ≡ true
ends_before ss i further r s e some h =
    let high = past_some (length (offers (plain s))) further r some in
    let here = ap (λ ts. length (offers_in_turn ts)) (ap plain_all (drop_here ss i s e)) in
    by_end (plain s) (plain_all (drop (i + 1) ss)) further high.0 (omega (arith, h, here))
  where
    by_case : (b : Bool) (os more : List CoreAsk) (k : ℕ) → length os ≤ k → k < length (os ++ cond b more []) → b ≡ true
    by_case true os more k low high = refl
    by_case false os more k low high = absurd (omega (arith, length-append os [], low, high))

    by_end : (t : Tree) (ts : Trees) (k : ℕ) → length (offers t) ≤ k → k < length (offers_in_turn (Cons t ts)) → ends t ≡ true
    by_end t ts k low high = by_case (ends t) (offers t) (offers_in_turn ts) k low high
