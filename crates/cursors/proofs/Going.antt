-- What is left, and which parts are wanted, once an offer is taken of a part, or of what is behind the parts in use.
use Rattle.std.proofs.Common.{◌≡◌, ℕ, zero, suc, ◌+◌, ◌-◌, ◌<◌, ◌≤◌, ◌==◌, ◌⊎◌, inl, inr, List, [], ◌∷◌, ◌++◌}
use Rattle.std.proofs.Common.{Some, Bool, true, false, cond, length, take, map, slice_get, slice_set, refl, sym, ap, ◌∙◌, subst, arith, length-append}
use Rattle.std.proofs.lemmas.Bool.Decides.{nat_tests}
use Rattle.base.specs.declared.step.CoreAsk.{CoreAsk}
use Rattle.cursors.specs.declared.part.Part.{Part, Fresh}
use Rattle.cursors.specs.declared.part.PartPlace.{PartPlace}
use Rattle.cursors.specs.declared.part.PartPlace.TheVariants as place
use Rattle.scenario.specs.Tree as tree
use Rattle.scenario.specs.Tree.{Tree, Trees, plain, plain_all, trees_of}
use Rattle.scenario.specs.Taking.{offers, offers_of_all, all_end}
use Rattle.scenario.specs.Rests.{flat, flats, rest, rest_in_turn, rest_of_all, row_of}
use Rattle.cursors.specs.Cursors.{Progress, first_parts, progress, progress_at}
use Rattle.cursors.specs.Cursors.{tree_left, trees_left}
use Rattle.cursors.specs.Stock.{Stock, Empty, With, Within, room_in_turn, room, wants, wants_of_all}
use Rattle.cursors.specs.inner.Parts.{MovesTo, MovesPart, all_left, behind, count_at, highest, height, part_left, parts_of, place_of}
use Rattle.scenario.specs.Seeking.{IsOfferOf}
use Rattle.cursors.specs.inner.Parts.{wants_at, wants_behind}
use Rattle.cursors.proofs.Cursors.{cursor-offers, map-left, progress-is}
use Rattle.scenario.proofs.Flat.{flat-row}
use Rattle.scenario.proofs.Places.{is_below, isnt_below}
use Rattle.cursors.proofs.Stock.{behind-wanted, union-more, wants-part, within-same, within-through}

-- a row's first child offers it
here : (t : Tree) (ts : Trees) (i : ℕ) → i < length (offers t) → rest_in_turn (tree.Cons t ts) i ≡ row_of (tree.Cons (rest t i) ts)
here t ts i h = ap (λ b. cond b (row_of (tree.Cons (rest t i) ts)) (rest_in_turn ts (i - length (offers t)))) (is_below i (length (offers t)) h)

-- it is behind the first child
later : (t : Tree) (ts : Trees) (i k : ℕ) → i ≡ length (offers t) + k → rest_in_turn (tree.Cons t ts) i ≡ rest_in_turn ts k
later t ts i k e =
    ap (λ b. cond b (row_of (tree.Cons (rest t i) ts)) (rest_in_turn ts (i - length (offers t)))) (isnt_below i (length (offers t)) (omega (arith, e)))
    ∙ ap (rest_in_turn ts) (omega (arith, e))

-- what is left, where it is behind the parts in use
pub moves-behind : {A : Type 0} (at : PartPlace A) (ps : List Progress) (i k : ℕ) (new : Progress) → k < length (offers (behind at))
    → i ≡ length (offers_of_all (all_left (take (count_at at) ps))) + k → MovesTo (behind at) k (wants_behind at) new
    → MovesTo (tree_left (progress_at at ps)) i (wants (progress_at at ps)) new
moves-behind place.Nothing ps i k new h e l = absurd (omega (arith, h))
moves-behind (place.Whole t) [] i k new h e l = let is : i ≡ k = omega (arith, e) in rw is l
moves-behind (place.Whole t) (p ∷ ps) i k new h e l = let is : i ≡ k = omega (arith, e) in rw is l
moves-behind (place.InSeq ts) [] i k new h e l = (
  l.0 ∙ sym (ap flat (later (tree.Seq tree.Nil) (plain_all ts.now) i k (omega (arith, e)))),
  within-through (wants new) _ _ l.1 (behind-wanted (place.InSeq ts) []),
)
moves-behind (place.InSeq ts) (p ∷ ps) i k new h e l =
    let long = length-append (offers (tree_left p)) [] in (
      l.0 ∙ sym (ap flat (later (tree_left p) (plain_all ts.now) i k (omega (arith, e, long)))),
      within-through (wants new) _ _ l.1 (behind-wanted (place.InSeq ts) (p ∷ ps)),
    )
moves-behind (place.InTimes n t) [] i k new h e l =
    let all = later (tree.Seq tree.Nil) (tree.Cons (tree.Times n (plain t.now)) tree.Nil) i k (omega (arith, e)) in
    (l.0 ∙ sym (ap flat (all ∙ here (tree.Times n (plain t.now)) tree.Nil k h)), within-through (wants new) _ _ l.1 (behind-wanted (place.InTimes n t) []))
moves-behind (place.InTimes n t) (p ∷ ps) i k new h e l =
    let long = length-append (offers (tree_left p)) [] in
    let all = later (tree_left p) (tree.Cons (tree.Times n (plain t.now)) tree.Nil) i k (omega (arith, e, long)) in (
      l.0 ∙ sym (ap flat (all ∙ here (tree.Times n (plain t.now)) tree.Nil k h)),
      within-through (wants new) _ _ l.1 (behind-wanted (place.InTimes n t) (p ∷ ps)),
    )
moves-behind (place.InBoth n) ps i k new h e l = absurd (omega (arith, h))

-- the same, where it is one of the parts of a `both`
both-flat : (n : ℕ) (ps : List Progress) (i j k : ℕ) (p q : Progress) → slice_get ps j ≡ Some p → j < n → k < length (offers (tree_left p))
    → i ≡ length (offers_of_all (all_left (take j ps))) + k → flat (tree_left q) ≡ flat (rest (tree_left p) k)
    → flats (trees_left (first_parts n (slice_set ps j q))) ≡ flats (rest_of_all (trees_left (first_parts n ps)) i)
both-flat zero ps i j k p q e within h is l = absurd (omega (arith, within))
both-flat (suc n) [] i j k p q e within h is l = absurd (cc e)
both-flat (suc n) (r ∷ ps) i zero k p q e within h is l =
    let e' : r ≡ p = cc e in
    let i' : i ≡ k = omega (arith, is) in
    let low : k < length (offers (tree_left r)) = rw e' h in
    let rs = trees_left (first_parts n ps) in
    let one = ap (λ b. cond b (tree.Cons (rest (tree_left r) k) rs) (tree.Cons (tree_left r) (rest_of_all rs (k - length (offers (tree_left r))))))
    (is_below k (length (offers (tree_left r))) low) in
    rw i' (ap (λ u. tree.Cons u (flats rs)) (l ∙ ap (λ (x : Progress). flat (rest (tree_left x) k)) (sym e')) ∙ sym (ap flats one))
both-flat (suc n) (r ∷ ps) i (suc j) k p q e within h is l =
    let long = length-append (offers (tree_left r)) (offers_of_all (all_left (take j ps))) in
    let rs = trees_left (first_parts n ps) in
    let one = ap (λ b. cond b (tree.Cons (rest (tree_left r) i) rs) (tree.Cons (tree_left r) (rest_of_all rs (i - length (offers (tree_left r))))))
    (isnt_below i (length (offers (tree_left r))) (omega (arith, is, long))) in
    let more = both-flat n ps (i - length (offers (tree_left r))) j k p q e (omega (arith, within)) h (omega (arith, is, long)) l in
    ap (tree.Cons (flat (tree_left r))) more ∙ sym (ap flats one)

both-most : (n : ℕ) (ps : List Progress) (j : ℕ) (p q : Progress) → slice_get ps j ≡ Some p → Within (wants q) (wants p)
    → Within (wants_of_all (first_parts n (slice_set ps j q))) (wants_of_all (first_parts n ps))
both-most zero [] j p q e h = absurd (cc e)
both-most zero (r ∷ ps) zero p q e h = tt
both-most zero (r ∷ ps) (suc j) p q e h = tt
both-most (suc n) [] j p q e h = absurd (cc e)
both-most (suc n) (r ∷ ps) zero p q e h =
    let e' : r ≡ p = cc e in
    (subst (λ x. Within (wants q) (wants x)) (sym e') h, within-same (wants_of_all (first_parts n ps)))
both-most (suc n) (r ∷ ps) (suc j) p q e h = (within-same (wants r), both-most n ps j p q e h)

pub moves-part : {A : Type 0} (at : PartPlace A) (ps : List Progress) (i j k : ℕ) (p q : Progress) → slice_get ps j ≡ Some p → j < count_at at
    → k < length (offers (tree_left p)) → i ≡ length (offers_of_all (all_left (take j ps))) + k → MovesTo (tree_left p) k (wants p) q
    → MovesTo (tree_left (progress_at at ps)) i (wants (progress_at at ps)) (progress_at at (slice_set ps j q))
moves-part place.Nothing ps i j k p q e within h is l = absurd (omega (arith, within))
moves-part (place.Whole t) ps i j k p q e within h is l = absurd (omega (arith, within))
moves-part at [] i j k p q e within h is l = absurd (cc e)
moves-part (place.InSeq ts) (r ∷ ps) i zero k p q e within h is l =
    let e' : p ≡ r = cc e in
    let i' : i ≡ k = omega (arith, is) in
    let low : k < length (offers (tree_left r)) = subst (λ (x : Progress). k < length (offers (tree_left x))) e' h in
    let l' : MovesTo (tree_left r) k (wants r) q = subst (λ (x : Progress). MovesTo (tree_left x) k (wants x) q) e' l in
    rw i' (
      ap (λ u. row_of (tree.Cons u (flats (plain_all ts.now)))) l'.0
          ∙ sym (ap flat (here (tree_left r) (plain_all ts.now) k low) ∙ flat-row (tree.Cons (rest (tree_left r) k) (plain_all ts.now))),
      union-more (With (wants q) Empty) (With (wants r) Empty) (room_in_turn (plain_all ts.now)) (l'.1, tt),
    )
moves-part (place.InSeq ts) (r ∷ ps) i (suc j) k p q e within h is l = absurd (omega (arith, within))
moves-part (place.InTimes n t) (r ∷ ps) i zero k p q e within h is l =
    let e' : p ≡ r = cc e in
    let i' : i ≡ k = omega (arith, is) in
    let more = tree.Cons (tree.Times n (plain t.now)) tree.Nil in
    let low : k < length (offers (tree_left r)) = subst (λ (x : Progress). k < length (offers (tree_left x))) e' h in
    let l' : MovesTo (tree_left r) k (wants r) q = subst (λ (x : Progress). MovesTo (tree_left x) k (wants x) q) e' l in
    rw i' (
      ap (λ u. row_of (tree.Cons u (flats more))) l'.0
          ∙ sym (ap flat (here (tree_left r) more k low) ∙ flat-row (tree.Cons (rest (tree_left r) k) more)),
      (union-more (wants q) (wants r) (room (plain t.now)) l'.1, tt),
    )
moves-part (place.InTimes n t) (r ∷ ps) i (suc j) k p q e within h is l = absurd (omega (arith, within))
moves-part (place.InBoth n) (r ∷ ps) i j k p q e within h is l =
    let most = both-most n (r ∷ ps) j p q e l.1 in
    (ap tree.Both (both-flat n (r ∷ ps) i j k p q e within h is l.0), most)

-- what isn't offered by the parts in use is offered behind them
neither-long : (b : Bool) (xs ys : List CoreAsk) (i k : ℕ) → i < length (xs ++ cond b ys []) → i ≡ length xs + k → k < length ys
neither-long true xs ys i k h e = let long = length-append xs ys in omega (arith, h, e, long)
neither-long false xs ys i k h e = let long = length-append xs [] in absurd (omega (arith, h, e, long))

pub offered-behind : {A B : Type 0} (p : Part A B) (ps : List Progress) → ps ≡ take (count_at (place_of p)) (parts_of p)
    → (i k : ℕ) → i < length (offers (part_left p)) → i ≡ length (offers_of_all (all_left ps)) + k → k < length (offers (behind (place_of p)))
offered-behind p ps e i k h is =
    neither-long (all_end (all_left ps)) (offers_of_all (all_left ps)) (offers (behind (place_of p))) i k
    (subst (λ os. i < length os) (cursor-offers p ps e) h) is

-- at these places nothing is behind them
pub none-behind : {A : Type 0} (at is : PartPlace A) (k : ℕ) → is ≡ at → (is ≡ place.Nothing) ⊎ ((n : ℕ) × (is ≡ place.InBoth n))
    → k < length (offers (behind at)) → ⊥
none-behind at is k e (inl f) h = let low : k < 0 = subst (λ q. k < length (offers (behind q))) (sym e ∙ f) h in omega (arith, low)
none-behind at is k e (inr f) h = let low : k < 0 = subst (λ q. k < length (offers (behind q))) (sym e ∙ f.1) h in omega (arith, low)

-- what turns offer is an offer of the first
pub turn-offered : (n : ℕ) (t : Tree) (k : ℕ) → k < length (offers (tree.Times n t)) → (0 < n) × (k < length (offers t))
turn-offered zero t k h = absurd (omega (arith, h))
turn-offered (suc n) t k h =
    let some : (suc n == 0) ≡ false = grind (arith, nat_tests) in
    (omega arith, subst (λ b. k < length (cond b [] (offers t))) some h)

pub goes-behind : {A B : Type 0} (p : Part A B) (ps : List Progress) → ps ≡ take (count_at (place_of p)) (parts_of p)
    → (i k : ℕ) (new : Progress) → k < length (offers (behind (place_of p))) → i ≡ length (offers_of_all (all_left ps)) + k
    → MovesTo (behind (place_of p)) k (wants_behind (place_of p)) new → MovesTo (part_left p) i (wants (progress p)) new
goes-behind p ps e i k new h is l =
    subst (λ (q : Progress). MovesTo (tree_left q) i (wants q) new) (sym (progress-is p))
    (moves-behind (place_of p) (parts_of p) i k new h (subst (λ qs. i ≡ length (offers_of_all (all_left qs)) + k) e is) l)

-- what a part in use wants is wanted, and what is behind them is
pub part-wanted : {A B : Type 0} (p : Part A B) (j : ℕ) (most : Stock) → j < count_at (place_of p) → Within (wants (progress p)) most
    → Within (wants_at (parts_of p) j) most
part-wanted p j most h wanted =
    within-through (wants_at (parts_of p) j) (wants (progress_at (place_of p) (parts_of p))) most (wants-part (place_of p) (parts_of p) j h)
    (subst (λ q. Within (wants q) most) (progress-is p) wanted)

pub rest-wanted : {A B : Type 0} (p : Part A B) (most : Stock) → Within (wants (progress p)) most → Within (wants_behind (place_of p)) most
rest-wanted p most wanted =
    within-through (wants_behind (place_of p)) (wants (progress_at (place_of p) (parts_of p))) most (behind-wanted (place_of p) (parts_of p))
    (subst (λ q. Within (wants q) most) (progress-is p) wanted)

-- ---- where an offer is among the parts in use

get-taken : (n : ℕ) (ps : List Progress) (j : ℕ) (t : Tree) → slice_get (map tree_left (take n ps)) j ≡ Some t
    → (q : Progress) × (slice_get ps j ≡ Some q) × (j < n) × (tree_left q ≡ t) × (height q ≤ highest (take n ps))
get-taken zero [] j t e = absurd (cc e)
get-taken zero (p ∷ ps) j t e = absurd (cc e)
get-taken (suc n) [] j t e = absurd (cc e)
get-taken (suc n) (p ∷ ps) zero t e = let e' : tree_left p ≡ t = cc e in (p, refl, omega arith, e', omega arith)
get-taken (suc n) (p ∷ ps) (suc j) t e = let h = get-taken n ps j t e in (h.0, h.1, omega (arith, h.2), h.3, omega (arith, h.4))

take-taken : (n : ℕ) (ps : List Progress) (j : ℕ) → j < n → take j (map tree_left (take n ps)) ≡ map tree_left (take j ps)
take-taken zero ps j h = absurd (omega (arith, h))
take-taken (suc n) [] zero h = refl
take-taken (suc n) [] (suc j) h = refl
take-taken (suc n) (p ∷ ps) zero h = refl
take-taken (suc n) (p ∷ ps) (suc j) h = ap (λ ts. tree_left p ∷ ts) (take-taken n ps j (omega (arith, h)))

-- a part in use has the offer, at such a place
abbrev pub HasOffer : List Progress → ℕ → ℕ → ℕ → ℕ → ℕ → Type 0
HasOffer ps n i j k most = (q : Progress) × (slice_get ps j ≡ Some q) × (j < n) × (k < length (offers (tree_left q)))
    × (i ≡ length (offers_of_all (all_left (take j ps))) + k) × (height q ≤ most)

pub found-in-use : {A B : Type 0} (xs : List (Part A B)) (ps : List Progress) (n i j k : ℕ) → map progress xs ≡ take n ps
    → IsOfferOf (map part_left xs) i j k → HasOffer ps n i j k (highest (map progress xs))
found-in-use xs ps n i j k e h =
    let same : map part_left xs ≡ map tree_left (take n ps) = map-left xs ∙ ap (map tree_left) e in
    let got = get-taken n ps j h.0 (sym (ap (λ ts. slice_get ts j) same) ∙ h.1) in
    let before = ap (λ ts. take j ts) same ∙ take-taken n ps j got.2 in (
      got.0,
      got.1,
      got.2,
      subst (λ (t : Tree). k < length (offers t)) (sym got.3) h.2,
      h.3 ∙ ap (λ ts. length (offers_of_all (trees_of ts)) + k) before,
      subst (λ qs. height got.0 ≤ highest qs) (sym e) got.4,
    )

-- a part without parts has none in use
pub none-in-use : {A B : Type 0} (p : Part A B) (at : PartPlace A) (j : ℕ) (q : Progress) → p ≡ Fresh at → slice_get (parts_of p) j ≡ Some q → ⊥
none-in-use p at j q e h = let none : slice_get [] j ≡ Some q = sym (ap (λ r. slice_get (parts_of r) j) e) ∙ h in absurd (cc none)

pub some-same : (p q : Progress) (ps : List Progress) (j : ℕ) → slice_get ps j ≡ Some p → slice_get ps j ≡ Some q → p ≡ q
some-same p q ps j e f = let both : Some p ≡ Some q = sym e ∙ f in cc both

pub goes-part : {A B : Type 0} (p q : Part A B) (i j k most : ℕ) → place_of q ≡ place_of p → HasOffer (parts_of p) (count_at (place_of p)) i j k most
    → MovesPart (parts_of p) j k (parts_of q) → MovesTo (part_left p) i (wants (progress p)) (progress q)
goes-part p q i j k most e h l =
    let same = some-same h.0 l.0 (parts_of p) j h.1 l.2 in
    let low = subst (λ (x : Progress). k < length (offers (tree_left x))) same h.3 in
    let new : progress q ≡ progress_at (place_of p) (slice_set (parts_of p) j l.1) =
    progress-is q ∙ (ap (λ at. progress_at at (parts_of q)) e ∙ ap (progress_at (place_of p)) l.3) in
    let all = moves-part (place_of p) (parts_of p) i j k l.0 l.1 l.2 h.2 low h.4 l.4 in
    rw new (subst (λ (x : Progress). MovesTo (tree_left x) i (wants x) (progress_at (place_of p) (slice_set (parts_of p) j l.1))) (sym (progress-is p)) all)

-- how far down the part of this number goes
abbrev pub height_at : List Progress → ℕ → ℕ
height_at [] j = 0
height_at (p ∷ ps) zero = height p
height_at (p ∷ ps) (suc j) = height_at ps j

pub height-at : (ps : List Progress) (j : ℕ) (p : Progress) → slice_get ps j ≡ Some p → height_at ps j ≡ height p
height-at [] j p e = absurd (cc e)
height-at (q ∷ ps) zero p e = let e' : q ≡ p = cc e in ap height e'
height-at (q ∷ ps) (suc j) p e = height-at ps j p e
