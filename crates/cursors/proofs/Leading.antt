-- What is left, and which parts are wanted, once an offer is taken by way of parts.
use Rattle.std.proofs.Common.{◌≡◌, ℕ, zero, suc, ◌+◌, ◌-◌, ◌<◌, ◌≤◌, List, [], ◌∷◌, Option, Some, IfSome}
use Rattle.std.proofs.Common.{length, drop, take, map, slice_get, slice_set, refl, sym, ap, ◌∙◌, subst, arith}
use Rattle.scenario.specs.declared.tree.Scenario.{Scenario}
use Rattle.scenario.specs.Tree as tree
use Rattle.scenario.specs.Tree.{Tree, plain, plain_all, trees_of}
use Rattle.scenario.specs.Rests.{flat, flats, rest, row_of, IsPlaceInTurn, IsPlaceAmong}
use Rattle.cursors.specs.Cursors.{Progress, Whole, InSeq, InTimes, InBoth, Cons, first_part, first_parts}
use Rattle.cursors.specs.Cursors.{tree_left, trees_left}
use Rattle.cursors.specs.Stock.{Empty, With, Within, room, room_in_turn, room_of_all, room_of_one, wants, wants_of_all}
use Rattle.cursors.specs.inner.Parts.{Begins, IsWholeBut, MovesTo}
use Rattle.scenario.specs.Limits.{depth, deepest}
use Rattle.std.proofs.lemmas.List.{length-map}
use Rattle.std.proofs.lemmas.Option.{slice_get_within}
use Rattle.scenario.proofs.Flat.{flat-row}
use Rattle.scenario.proofs.Items.{get-map}
use Rattle.scenario.proofs.Places.{HereInTurn, HereAmong}
use Rattle.cursors.proofs.Stock.{drop-in_turn, one-room, turn-room, union-least, within-same, within-through}

-- ---- beginning

-- a row's tree becomes the first part of the rest
pub moves-row : {A : Type 0} (ss : List (Scenario A)) (at j k : ℕ) (s : Scenario A) (old new : List Progress) →
    slice_get ss j ≡ Some s → 1 ≤ length old
    → IsPlaceInTurn ss at j k → Begins old 0 (plain s) k new
    → MovesTo (tree.Seq (plain_all ss)) at (room_in_turn (plain_all ss)) (InSeq (first_part new) (plain_all (drop (j + 1) ss)))
moves-row ss at j k s [] new e some place b = absurd (omega (arith, some))
moves-row ss at j k s (o ∷ old) new e some place b =
    let here = subst (λ (o : Option _). IfSome o (λ u. HereInTurn ss at j k u)) e place in
    let first : first_part new ≡ b.0 = ap first_part b.1 in
    let all = room_in_turn (plain_all ss) in
    let child : Within (With (wants b.0) Empty) (With (room (plain s)) Empty) = (b.2.1, tt) in
    let one = within-through (With (wants b.0) Empty) (With (room (plain s)) Empty) all child (turn-room ss j s all e (within-same all)) in
    rw first (
      ap (λ u. row_of (tree.Cons u (flats (plain_all (drop (j + 1) ss))))) b.2.0
          ∙ sym (ap flat here.2 ∙ flat-row (tree.Cons (rest (plain s) k) (plain_all (drop (j + 1) ss)))),
      union-least (With (wants b.0) Empty) (room_in_turn (plain_all (drop (j + 1) ss))) all one (drop-in_turn ss (j + 1)),
    )

pub moves-turn : (n : ℕ) (t : Tree) (at : ℕ) (old new : List Progress) → 1 ≤ length old → Begins old 0 t at new
    → MovesTo (tree.Times n t) at (With (room t) Empty) (InTimes (first_part new) (n - 1) t)
moves-turn n t at [] new some b = absurd (omega (arith, some))
moves-turn n t at (o ∷ old) new some b =
    let first : first_part new ≡ b.0 = ap first_part b.1 in
    rw first (
      ap (λ u. tree.Seq (tree.Cons u (tree.Cons (tree.Times (n - 1) (flat t)) tree.Nil))) b.2.0,
      (union-least (wants b.0) (room t) (room t) b.2.1 (within-same (room t)), tt),
    )

pub moves-any : {A : Type 0} (ss : List (Scenario A)) (at j k : ℕ) (s : Scenario A) (p : Progress) → slice_get ss j ≡ Some s → IsPlaceAmong ss at j k
    → MovesTo (plain s) k (room (plain s)) p → MovesTo (tree.Any (plain_all ss)) at (room (tree.Any (plain_all ss))) p
moves-any ss at j k s p e place h =
    let here = subst (λ (o : Option _). IfSome o (λ u. HereAmong ss at j k u)) e place in
    let all = room_of_one (plain_all ss) in
    (h.0 ∙ sym (ap flat here.2), within-through (wants p) (room (plain s)) all h.1 (one-room ss j s all e (within-same all)))

-- ---- children at once, all whole but one

first-take : (n : ℕ) (ps : List Progress) → first_parts n ps ≡ first_parts n (take n ps)
first-take zero [] = refl
first-take zero (p ∷ ps) = refl
first-take (suc n) [] = refl
first-take (suc n) (p ∷ ps) = ap (Cons p) (first-take n ps)

wholes-left : (ts : List Tree) → trees_left (first_parts (length ts) (map Whole ts)) ≡ trees_of ts
wholes-left [] = refl
wholes-left (t ∷ ts) = ap (tree.Cons t) (wholes-left ts)

wholes-most : (ts : List Tree) → Within (wants_of_all (first_parts (length ts) (map Whole ts))) (room_of_all (trees_of ts))
wholes-most [] = tt
wholes-most (t ∷ ts) = (within-same (room t), wholes-most ts)

set-left : (ts : List Tree) (j : ℕ) (p : Progress) (u : Tree) → flat (tree_left p) ≡ flat u
    → flats (trees_left (first_parts (length ts) (slice_set (map Whole ts) j p))) ≡ flats (trees_of (slice_set ts j u))
set-left [] j p u h = refl
set-left (t ∷ ts) zero p u h = rw (h, wholes-left ts) refl
set-left (t ∷ ts) (suc j) p u h = ap (tree.Cons (flat t)) (set-left ts j p u h)

set-most : (ts : List Tree) (j : ℕ) (p : Progress) (t : Tree) → slice_get ts j ≡ Some t → Within (wants p) (room t)
    → Within (wants_of_all (first_parts (length ts) (slice_set (map Whole ts) j p))) (room_of_all (trees_of ts))
set-most [] j p t e h = absurd (cc e)
set-most (u ∷ ts) zero p t e h =
    let e' : u ≡ t = cc e in
    (subst (λ v. Within (wants p) (room v)) (sym e') h, wholes-most ts)
set-most (u ∷ ts) (suc j) p t e h = (within-same (room u), set-most ts j p t e h)

get-set : {X : Type 0} (xs : List X) (i : ℕ) (y : X) → i < length xs → slice_get (slice_set xs i y) i ≡ Some y
get-set [] i y h = absurd (omega (arith, h))
get-set (x ∷ xs) zero y h = refl
get-set (x ∷ xs) (suc i) y h = get-set xs i y (omega (arith, h))

pub moves-both : {A : Type 0} (ss : List (Scenario A)) (at j k : ℕ) (s : Scenario A) (old mid new : List Progress) → slice_get ss j ≡ Some s
    → length ss ≤ length old → IsPlaceAmong ss at j k → Begins old j (plain s) k mid → IsWholeBut j (map plain ss) mid new
    → MovesTo (tree.Both (plain_all ss)) at (room_of_all (plain_all ss)) (InBoth (first_parts (length ss) new))
moves-both ss at j k s old mid new e long place b whole =
    let here = subst (λ (o : Option _). IfSome o (λ u. HereAmong ss at j k u)) e place in
    let ts = map plain ss in
    let inside = slice_get_within ss j s e in
    let there : slice_get mid j ≡ Some b.0 = ap (λ ps. slice_get ps j) b.1 ∙ get-set old j b.0 (omega (arith, inside, long)) in
    let all : take (length ts) new ≡ slice_set (map Whole ts) j b.0 =
    subst (λ (o : Option Progress). IfSome o (λ p. take (length ts) new ≡ slice_set (map Whole ts) j p)) there whole in
    let used : first_parts (length ss) new ≡ first_parts (length ts) (slice_set (map Whole ts) j b.0) =
    ap (λ n. first_parts n new) (sym (length-map ss plain)) ∙ (first-take (length ts) new ∙ ap (first_parts (length ts)) all) in
    let most = set-most ts j b.0 (plain s) (get-map plain ss j s e) b.2.1 in
    rw used (
      ap tree.Both (set-left ts j b.0 (rest (plain s) k) b.2.0 ∙ ap flats (sym here.3)),
      most,
    )

-- a child goes less deep than what it is in
pub depth-deepest : {A : Type 0} (ss : List (Scenario A)) (j : ℕ) (s : Scenario A) → slice_get ss j ≡ Some s →
    depth (plain s) ≤ deepest (plain_all ss)
depth-deepest [] j s e = absurd (cc e)
depth-deepest (u ∷ ss) zero s e = let e' : u ≡ s = cc e in rw (sym e') (omega arith)
depth-deepest (u ∷ ss) (suc j) s e = let h = depth-deepest ss j s e in omega (arith, h)

-- where an item is set that stands for the same
pub same-set : {X Y : Type 0} (f : X → Y) (xs : List X) (i : ℕ) (x y : X) → slice_get xs i ≡ Some x →
    f y ≡ f x → map f (slice_set xs i y) ≡ map f xs
same-set f [] i x y e h = absurd (cc e)
same-set f (z ∷ xs) zero x y e h = let e' : z ≡ x = cc e in ap (λ w. w ∷ map f xs) (h ∙ ap f (sym e'))
same-set f (z ∷ xs) (suc i) x y e h = ap (λ ws. f z ∷ ws) (same-set f xs i x y e h)
