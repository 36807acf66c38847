-- Rows of parts: when one is within another, and how many parts these are.
use Rattle.std.proofs.Common.{◌≡◌, ◌≤◌, ◌+◌, ◌<◌, ℕ, zero, suc, List, [], ◌∷◌, ◌++◌, Some}
use Rattle.std.proofs.Common.{drop, length, map, slice_get, slice_set, refl, sym, ap, ◌∙◌, subst, arith}
use Rattle.std.specs.declared.vec.Vec.{Vec}
use Rattle.cursors.specs.declared.cursor.Cursor.{Cursor}
use Rattle.cursors.specs.declared.part.Part.{Part, Row_of-Part, end_of-Part, more_of-Part}
use Rattle.cursors.specs.declared.part.Part.{items-the_row-Part, items_hidden-the_row-Part-0}
use Rattle.cursors.specs.declared.part.Part.TheBlock.{hidden-the_row-Part-0}
use Rattle.cursors.specs.declared.part.Part.TheVariants.{Begun}
use Rattle.cursors.specs.declared.part.PartPlace.{PartPlace}
use Rattle.cursors.specs.declared.part.PartPlace.TheVariants as place
use Rattle.scenario.specs.declared.tree.Scenario.{Scenario}
use Rattle.scenario.specs.Tree as tree
use Rattle.scenario.specs.Tree.{Tree, Trees, plain, plain_all}
use Rattle.cursors.specs.Cursors.{Progress, Parts, Nothing, Whole, InSeq, InTimes, InBoth, Nil, Cons, first_part, first_parts, progress_at, standing}
use Rattle.cursors.specs.Stock.{Stock, Empty, With, Within, union, parts_in, parts_held, parts_used, total_parts_used, most_used, nodes, total_nodes}
use Rattle.cursors.specs.Stock.{FitsIn, room, room_in_turn, room_of_one, room_of_all, stock, stock_row, wants, wants_of_all}
use Rattle.cursors.specs.inner.Parts.{Adds, at_place, bare, count_at, holding, wants_at, wants_behind}

pub within-same : (s : Stock) → Within s s
within-same Empty = tt
within-same (With own others) = (within-same own, within-same others)

pub within-through : (a b c : Stock) → Within a b → Within b c → Within a c
within-through Empty b c h k = tt
within-through (With a xs) Empty c h k = absurd h
within-through (With a xs) (With b ys) Empty h k = absurd k
within-through (With a xs) (With b ys) (With c zs) h k = (within-through a b c h.0 k.0, within-through xs ys zs h.1 k.1)

pub union-first : (a b c : Stock) → Within (union a b) c → Within a c
union-first Empty b c h = tt
union-first (With a xs) Empty c h = h
union-first (With a xs) (With b ys) Empty h = absurd h
union-first (With a xs) (With b ys) (With c zs) h = (union-first a b c h.0, union-first xs ys zs h.1)

pub union-second : (a b c : Stock) → Within (union a b) c → Within b c
union-second Empty b c h = h
union-second (With a xs) Empty c h = tt
union-second (With a xs) (With b ys) Empty h = absurd h
union-second (With a xs) (With b ys) (With c zs) h = (union-second a b c h.0, union-second xs ys zs h.1)

pub union-least : (a b c : Stock) → Within a c → Within b c → Within (union a b) c
union-least Empty b c h k = k
union-least (With a xs) Empty c h k = h
union-least (With a xs) (With b ys) Empty h k = absurd h
union-least (With a xs) (With b ys) (With c zs) h k = (union-least a b c h.0 k.0, union-least xs ys zs h.1 k.1)

pub in-first : (a b : Stock) → Within a (union a b)
in-first a b = union-first a b (union a b) (within-same (union a b))

pub in-second : (a b : Stock) → Within b (union a b)
in-second a b = union-second a b (union a b) (within-same (union a b))

-- with one row in the place of a smaller one
pub union-more : (a b c : Stock) → Within a b → Within (union a c) (union b c)
union-more a b c h = union-least a c (union b c) (within-through a b (union b c) h (in-first b c)) (in-second b c)

-- ---- counts of parts

fewer : (a b : Stock) → Within a b → parts_in a ≤ parts_in b
fewer Empty b h = omega arith
fewer (With a xs) Empty h = absurd h
fewer (With a xs) (With b ys) h = let one = fewer a b h.0 in let others = fewer xs ys h.1 in omega (arith, one, others)

union-few : (a b : Stock) → parts_in (union a b) ≤ parts_in a + parts_in b
union-few Empty b = omega arith
union-few (With a xs) Empty = omega arith
union-few (With a xs) (With b ys) = let one = union-few a b in let others = union-few xs ys in omega (arith, one, others)

mutual
  pub room-few : (t : Tree) → 1 + parts_in (room t) ≤ nodes t
  room-few (tree.One ask) = omega arith
  room-few (tree.Seq ts) = let h = turns-few ts in omega (arith, h)
  room-few (tree.Any ts) = let h = any-few ts in omega (arith, h)
  room-few (tree.Times n t) = let h = room-few t in omega (arith, h)
  room-few (tree.Both ts) = let h = all-few ts in omega (arith, h)

  turns-few : (ts : Trees) → parts_in (room_in_turn ts) ≤ total_nodes ts
  turns-few tree.Nil = omega arith
  turns-few (tree.Cons t ts) =
      let one = room-few t in
      let others = turns-few ts in
      let both = union-few (With (room t) Empty) (room_in_turn ts) in
      omega (arith, one, others, both)

  any-few : (ts : Trees) → parts_in (room_of_one ts) ≤ total_nodes ts
  any-few tree.Nil = omega arith
  any-few (tree.Cons t ts) =
      let one = room-few t in
      let others = any-few ts in
      let both = union-few (room t) (room_of_one ts) in
      omega (arith, one, others, both)

  all-few : (ts : Trees) → parts_in (room_of_all ts) ≤ total_nodes ts
  all-few tree.Nil = omega arith
  all-few (tree.Cons t ts) = let one = room-few t in let others = all-few ts in omega (arith, one, others)

mutual
  pub used-few : (p : Progress) → parts_used p ≤ most_used p
  used-few Nothing = omega arith
  used-few (Whole t) = omega arith
  used-few (InSeq p ts) =
      let own = used-few p in
      let more = fewer (With (wants p) Empty) _ (in-first (With (wants p) Empty) (room_in_turn ts)) in
      omega (arith, own, more)
  used-few (InTimes p n t) =
      let own = used-few p in
      let more = fewer (wants p) _ (in-first (wants p) (room t)) in
      omega (arith, own, more)
  used-few (InBoth ps) = let h = all-used-few ps in omega (arith, h)

  all-used-few : (ps : Parts) → total_parts_used ps ≤ parts_in (wants_of_all ps)
  all-used-few Nil = omega arith
  all-used-few (Cons p ps) = let one = used-few p in let others = all-used-few ps in omega (arith, one, others)

pub wants-few : (p q : Progress) → Within (wants p) (wants q) → most_used p ≤ most_used q
wants-few p q h = let few = fewer (wants p) (wants q) h in omega (arith, few)

pub fit-held : {A B : Type 0} (c : Cursor A B) (t : Tree) → FitsIn c t → parts_held c ≤ nodes t
fit-held c t h = let few = fewer (stock c.root) (room t) h.held in let all = room-few t in omega (arith, few, all)

pub fit-used : {A B : Type 0} (c : Cursor A B) (t : Tree) → FitsIn c t → most_used (standing c) ≤ nodes t
fit-used c t h = let few = fewer (wants (standing c)) (room t) h.wanted in let all = room-few t in omega (arith, few, all)

-- ---- what is held, by the list of parts

row_stocks : (A B : Type 0) {n : _} (k : Row_of-Part A B n) → stock_row k ≡ holding (map stock (items-the_row-Part A B n k))
row_stocks A B end_of-Part = refl
row_stocks A B (more_of-Part p row) = ap (With (stock p)) (row_stocks A B row)

pub stock-row : {A B : Type 0} (v : Vec (Part A B) B) → stock_row (hidden-the_row-Part-0 A B v) ≡ holding (map stock v.items)
stock-row {A} {B} v =
    row_stocks A B (hidden-the_row-Part-0 A B v) ∙ ap (λ xs. holding (map stock xs)) (items_hidden-the_row-Part-0 A B v)

pub stock-Begun : {A B : Type 0} (at : PartPlace A) (v : Vec (Part A B) B) → stock (Begun at v) ≡ holding (map stock v.items)
stock-Begun at v = stock-row v

-- where one part is changed
pub adds-one : {X : Type 0} (f : X → Stock) (xs : List X) (j : ℕ) (x y : X) (more : Stock) → slice_get xs j ≡ Some x
    → Adds (f x) more (f y) → Adds (holding (map f xs)) (at_place j more) (holding (map f (slice_set xs j y)))
adds-one f [] j x y more e h most old new = absurd (cc e)
adds-one f (z ∷ xs) j x y more e h Empty old new = absurd old
adds-one f (z ∷ xs) zero x y more e h (With own others) old new =
    let e' : z ≡ x = cc e in
    (h own (subst (λ u. Within (f u) own) e' old.0) new.0, old.1)
adds-one f (z ∷ xs) (suc j) x y more e h (With own others) old new = (old.0, adds-one f xs j x y more e h others old.1 new.1)

-- where one comes that holds none
push-bare : {X : Type 0} (f : X → Stock) (xs : List X) (y : X) (n : ℕ) (most : Stock) → f y ≡ Empty → length xs < n
    → Within (holding (map f xs)) most → Within (bare n) most → Within (holding (map f (xs ++ y ∷ []))) most
push-bare f xs y zero most e h old new = absurd (omega (arith, h))
push-bare f [] y (suc n) Empty e h old new = absurd new
push-bare f [] y (suc n) (With own others) e h old new = (subst (λ s. Within s own) (sym e) tt, tt)
push-bare f (x ∷ xs) y (suc n) Empty e h old new = absurd old
push-bare f (x ∷ xs) y (suc n) (With own others) e h old new = (old.0, push-bare f xs y n others e (omega (arith, h)) old.1 new.1)

pub adds-push : {X : Type 0} (f : X → Stock) (first xs : List X) (y : X) (n : ℕ) → f y ≡ Empty → length xs < n
    → Adds (holding (map f first)) (bare n) (holding (map f xs)) → Adds (holding (map f first)) (bare n) (holding (map f (xs ++ y ∷ [])))
adds-push f first xs y n e h before most old new = push-bare f xs y n most e h (before most old new) new

-- ---- what has room for a tree has room for its children

pub turn-room : {A : Type 0} (ss : List (Scenario A)) (j : ℕ) (s : Scenario A) (most : Stock) → slice_get ss j ≡ Some s
    → Within (room_in_turn (plain_all ss)) most → Within (With (room (plain s)) Empty) most
turn-room [] j s most e h = absurd (cc e)
turn-room (u ∷ ss) zero s most e h =
    let e' : u ≡ s = cc e in
    subst (λ v. Within (With (room (plain v)) Empty) most) e' (union-first (With (room (plain u)) Empty) (room_in_turn (plain_all ss)) most h)
turn-room (u ∷ ss) (suc j) s most e h =
    turn-room ss j s most e (union-second (With (room (plain u)) Empty) (room_in_turn (plain_all ss)) most h)

-- and so, if there is a child, for one part
pub turn-bare : {A : Type 0} (ss : List (Scenario A)) (j : ℕ) (most : Stock) → j < length ss
    → Within (room_in_turn (plain_all ss)) most → Within (bare 1) most
turn-bare [] j most low h = absurd (omega (arith, low))
turn-bare (u ∷ ss) j Empty low h = absurd (union-first (With (room (plain u)) Empty) (room_in_turn (plain_all ss)) Empty h)
turn-bare (u ∷ ss) j (With own others) low h = (tt, tt)

pub one-room : {A : Type 0} (ss : List (Scenario A)) (j : ℕ) (s : Scenario A) (most : Stock) → slice_get ss j ≡ Some s
    → Within (room_of_one (plain_all ss)) most → Within (room (plain s)) most
one-room [] j s most e h = absurd (cc e)
one-room (u ∷ ss) zero s most e h =
    let e' : u ≡ s = cc e in
    subst (λ v. Within (room (plain v)) most) e' (union-first (room (plain u)) (room_of_one (plain_all ss)) most h)
one-room (u ∷ ss) (suc j) s most e h = one-room ss j s most e (union-second (room (plain u)) (room_of_one (plain_all ss)) most h)

pub all-room : {A : Type 0} (ss : List (Scenario A)) (j : ℕ) (s : Scenario A) (most : Stock) → slice_get ss j ≡ Some s
    → Within (room_of_all (plain_all ss)) most → Within (at_place j (room (plain s))) most
all-room [] j s most e h = absurd (cc e)
all-room (u ∷ ss) j s Empty e h = absurd h
all-room (u ∷ ss) zero s (With own others) e h = let e' : u ≡ s = cc e in (subst (λ v. Within (room (plain v)) own) e' h.0, tt)
all-room (u ∷ ss) (suc j) s (With own others) e h = (tt, all-room ss j s others e h.1)

pub all-bare : {A : Type 0} (ss : List (Scenario A)) (most : Stock) → Within (room_of_all (plain_all ss)) most → Within (bare (length ss)) most
all-bare [] most h = tt
all-bare (s ∷ ss) Empty h = absurd h
all-bare (s ∷ ss) (With own others) h = (tt, all-bare ss others h.1)

pub drop-in_turn : {A : Type 0} (ss : List (Scenario A)) (n : ℕ) → Within (room_in_turn (plain_all (drop n ss))) (room_in_turn (plain_all ss))
drop-in_turn [] zero = tt
drop-in_turn [] (suc n) = tt
drop-in_turn (s ∷ ss) zero = within-same (room_in_turn (plain_all (s ∷ ss)))
drop-in_turn (s ∷ ss) (suc n) =
    within-through (room_in_turn (plain_all (drop n ss))) (room_in_turn (plain_all ss)) (room_in_turn (plain_all (s ∷ ss))) (drop-in_turn ss n)
    (in-second (With (room (plain s)) Empty) (room_in_turn (plain_all ss)))

-- ---- what a part wants is in what a cursor wants

pub wants-at : (ps : List Progress) (j : ℕ) (p : Progress) → slice_get ps j ≡ Some p → wants_at ps j ≡ at_place j (wants p)
wants-at [] j p e = absurd (cc e)
wants-at (q ∷ ps) zero p e = let e' : q ≡ p = cc e in ap (λ r. With (wants r) Empty) e'
wants-at (q ∷ ps) (suc j) p e = ap (With Empty) (wants-at ps j p e)

wants-both : (n : ℕ) (ps : List Progress) (j : ℕ) → j < n → Within (wants_at ps j) (wants_of_all (first_parts n ps))
wants-both zero ps j h = absurd (omega (arith, h))
wants-both (suc n) [] j h = tt
wants-both (suc n) (p ∷ ps) zero h = (within-same (wants p), tt)
wants-both (suc n) (p ∷ ps) (suc j) h = (tt, wants-both n ps j (omega (arith, h)))

pub wants-part : {A : Type 0} (at : PartPlace A) (ps : List Progress) (j : ℕ) → j < count_at at → Within (wants_at ps j) (wants (progress_at at ps))
wants-part place.Nothing ps j h = absurd (omega (arith, h))
wants-part (place.Whole t) ps j h = absurd (omega (arith, h))
wants-part at [] j h = tt
wants-part (place.InSeq ts) (p ∷ ps) zero h = in-first (With (wants p) Empty) (room_in_turn (plain_all ts.now))
wants-part (place.InSeq ts) (p ∷ ps) (suc j) h = absurd (omega (arith, h))
wants-part (place.InTimes n t) (p ∷ ps) zero h = (in-first (wants p) (room (plain t.now)), tt)
wants-part (place.InTimes n t) (p ∷ ps) (suc j) h = absurd (omega (arith, h))
wants-part (place.InBoth n) ps j h = wants-both n ps j h

pub behind-wanted : {A : Type 0} (at : PartPlace A) (ps : List Progress) → Within (wants_behind at) (wants (progress_at at ps))
behind-wanted place.Nothing ps = tt
behind-wanted (place.Whole t) ps = within-same (room (plain t.now))
behind-wanted (place.InSeq ts) ps = in-second (With (wants (first_part ps)) Empty) (room_in_turn (plain_all ts.now))
behind-wanted (place.InTimes n t) ps = (in-second (wants (first_part ps)) (room (plain t.now)), tt)
behind-wanted (place.InBoth n) ps = tt
