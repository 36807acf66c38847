-- An offer that a place alone tells of: what is left once it is taken.
use Rattle.std.proofs.Common.{◌≡◌, ℕ, ◌-◌, ◌<◌, List, [], ◌∷◌, ◌++◌, Some, true, false, true≢false}
use Rattle.std.proofs.Common.{length, drop, map, take, slice_get, slice_set, if◌then◌else◌, le-ltb, lt-ltb, inl, inr, refl, sym, ap, ◌∙◌, subst, arith, Bor}
use Rattle.std.proofs.lemmas.Bool.{cases_lt}
use Rattle.cursors.specs.declared.part.Part.{Part, Fresh, Begun'}
use Rattle.cursors.specs.declared.part.PartPlace.TheVariants as place
use Rattle.scenario.specs.declared.tree.Scenario.{Scenario}
use Rattle.scenario.specs.Tree as tree
use Rattle.scenario.specs.Tree.{Tree, Trees, plain, plain_all}
use Rattle.scenario.specs.Taking.{offers, offers_of_all}
use Rattle.scenario.specs.Rests.{flat, rest, rest_of_one}
use Rattle.cursors.specs.Cursors.{Progress, Nothing, InSeq, InTimes, first_part, progress, progress_at, tree_left}
use Rattle.cursors.specs.Stock.{Empty, With, room, room_in_turn, wants}
use Rattle.cursors.specs.inner.Parts.{MovesTo, all_left, behind, count_at, part_left, parts_of, place_of, wants_behind}
use Rattle.cursors.specs.inner.Turns.{all_asks, chooses, chooses_at, is_ask, is_choice}
use Rattle.scenario.proofs.Flat.{flat-row}
use Rattle.cursors.proofs.Going.{goes-behind, offered-behind, turn-offered}
use Rattle.cursors.proofs.Stock.{within-same}

-- ---- a turn of a choice of asks

rest-asks : (ts : Trees) (i : ℕ) → all_asks ts ≡ true → i < length (offers_of_all ts) → rest_of_one ts i ≡ tree.Seq tree.Nil
rest-asks tree.Nil i asks low = refl
rest-asks (tree.Cons (tree.One a) ts) i asks low =
    elim (cases_lt i 1) [
      | inl h ↦ ap (λ b. if b then tree.Seq tree.Nil else rest_of_one ts (i - 1)) (lt-ltb i 1 h)
      | inr h ↦
          ap (λ b. if b then tree.Seq tree.Nil else rest_of_one ts (i - 1)) (le-ltb i 1 h)
          ∙ rest-asks ts (i - 1) asks (omega (arith, low, h))
    ]
rest-asks (tree.Cons (tree.Seq us) ts) i asks low = absurd (true≢false (sym asks))
rest-asks (tree.Cons (tree.Any us) ts) i asks low = absurd (true≢false (sym asks))
rest-asks (tree.Cons (tree.Times n t) ts) i asks low = absurd (true≢false (sym asks))
rest-asks (tree.Cons (tree.Both us) ts) i asks low = absurd (true≢false (sym asks))

-- nothing is left of a choice of asks
rest-choice : (t : Tree) (i : ℕ) → is_choice t ≡ true → i < length (offers t) → rest t i ≡ tree.Seq tree.Nil
rest-choice (tree.One a) i choice low = refl
rest-choice (tree.Seq ts) i choice low = absurd (true≢false (sym choice))
rest-choice (tree.Any ts) i choice low = rest-asks ts i choice low
rest-choice (tree.Times n t) i choice low = absurd (true≢false (sym choice))
rest-choice (tree.Both ts) i choice low = absurd (true≢false (sym choice))

moves-choice : (n : ℕ) (t : Tree) (i : ℕ) → is_choice t ≡ true → i < length (offers (tree.Times n t))
    → MovesTo (tree.Times n t) i (With (room t) Empty) (InTimes Nothing (n - 1) t)
moves-choice n t i choice low = (
  ap (λ u. flat (tree.Seq (tree.Cons u (tree.Cons (tree.Times (n - 1) t) tree.Nil)))) (sym (rest-choice t i choice (turn-offered n t i low).1)),
  within-same (With (room t) Empty),
)

-- ---- an ask that comes first in a row

moves-one : (t : Tree) (ts : Trees) → is_ask t ≡ true
    → MovesTo (tree.Seq (tree.Cons t ts)) 0 (room_in_turn (tree.Cons t ts)) (InSeq Nothing ts)
moves-one (tree.One a) ts ask = (sym (flat-row (tree.Cons (tree.Seq tree.Nil) ts)), within-same (room_in_turn (tree.Cons (tree.One a) ts)))
moves-one (tree.Seq us) ts ask = absurd (true≢false (sym ask))
moves-one (tree.Any us) ts ask = absurd (true≢false (sym ask))
moves-one (tree.Times n t) ts ask = absurd (true≢false (sym ask))
moves-one (tree.Both us) ts ask = absurd (true≢false (sym ask))

pub moves-ask : {A : Type 0} (row : List (Scenario A)) (s : Scenario A) → slice_get row 0 ≡ Some s → is_ask (plain s) ≡ true
    → MovesTo (tree.Seq (plain_all row)) 0 (room_in_turn (plain_all row)) (InSeq Nothing (plain_all (drop 1 row)))
moves-ask [] s e ask = absurd (cc e)
moves-ask (r ∷ []) s e ask =
    let same : r ≡ s = cc e in
    moves-one (plain r) tree.Nil (ap (λ u. is_ask (plain u)) same ∙ ask)
moves-ask (r ∷ q ∷ row) s e ask =
    let same : r ≡ s = cc e in
    moves-one (plain r) (plain_all (q ∷ row)) (ap (λ u. is_ask (plain u)) same ∙ ask)

-- ---- of a part whose parts in use offer nothing

none-over : (ps : List Progress) → first_part ps ≡ Nothing → offers_of_all (all_left (take 1 ps)) ≡ []
none-over [] e = refl
none-over (p ∷ []) e = ap (λ q. offers (tree_left q) ++ []) e
none-over (p ∷ q ∷ ps) e = ap (λ q. offers (tree_left q) ++ []) e

none-first : (ps : List Progress) → offers_of_all (all_left (take 0 ps)) ≡ []
none-first [] = refl
none-first (p ∷ ps) = refl

low-behind : {A B : Type 0} (p : Part A B) (i : ℕ) → offers_of_all (all_left (take (count_at (place_of p)) (parts_of p))) ≡ []
    → i < length (offers (part_left p)) → i < length (offers (behind (place_of p)))
low-behind p i none low = offered-behind p (take (count_at (place_of p)) (parts_of p)) refl i i low (let e = ap length none in omega (arith, e))

passes-behind : {A B : Type 0} (p : Part A B) (i : ℕ) (new : Progress) →
    offers_of_all (all_left (take (count_at (place_of p)) (parts_of p))) ≡ [] → i < length (offers (part_left p))
    → MovesTo (behind (place_of p)) i (wants_behind (place_of p)) new → MovesTo (part_left p) i (wants (progress p)) new
passes-behind p i new none low leads =
    goes-behind p (take (count_at (place_of p)) (parts_of p)) refl i i new (low-behind p i none low) (let e = ap length none in omega (arith, e)) leads

-- a turn of those that a part is in
turn-none : {A B : Type 0} (p : Part A B) (n : ℕ) (t : Bor (Scenario A)) → place_of p ≡ place.InTimes n t → first_part (parts_of p) ≡ Nothing
    → offers_of_all (all_left (take (count_at (place_of p)) (parts_of p))) ≡ []
turn-none p n t at over =
    subst (λ q. offers_of_all (all_left (take (count_at q) (parts_of p))) ≡ []) (sym at) (none-over (parts_of p) over)

turn-low : {A B : Type 0} (p : Part A B) (n : ℕ) (t : Bor (Scenario A)) (i : ℕ) → place_of p ≡ place.InTimes n t → first_part (parts_of p) ≡ Nothing
    → i < length (offers (part_left p)) → i < length (offers (tree.Times n (plain t.now)))
turn-low p n t i at over low = subst (λ q. i < length (offers (behind q))) at (low-behind p i (turn-none p n t at over) low)

-- in turns of a choice the tree is one
pub turn-choice : {A B : Type 0} (p : Part A B) (n : ℕ) (t : Bor (Scenario A)) → place_of p ≡ place.InTimes n t → chooses p ≡ true
    → is_choice (plain t.now) ≡ true
turn-choice p n t at choice = ap chooses_at (sym at) ∙ sym (chooses-place p) ∙ choice
  where
    chooses-place : {A B : Type 0} (p : Part A B) → chooses p ≡ chooses_at (place_of p)
    chooses-place (Fresh at) = refl
    chooses-place (Begun' at shape row) = refl

pub passes-turn : {A B : Type 0} (p : Part A B) (n : ℕ) (t : Bor (Scenario A)) (i : ℕ) (new : Progress) → place_of p ≡ place.InTimes n t
    → first_part (parts_of p) ≡ Nothing → chooses p ≡ true → i < length (offers (part_left p))
    → new ≡ progress_at (place.InTimes (n - 1) t) (parts_of p) → MovesTo (part_left p) i (wants (progress p)) new
passes-turn p n t i new at over choice low is =
    let now : new ≡ InTimes Nothing (n - 1) (plain t.now) = is ∙ ap (λ q. InTimes q (n - 1) (plain t.now)) over in
    let leads = moves-choice n (plain t.now) i (turn-choice p n t at choice) (turn-low p n t i at over low) in
    passes-behind p i new (turn-none p n t at over) low
    (subst (λ q. MovesTo (behind q) i (wants_behind q) new) (sym at) (rw now leads))

-- an ask of the row that a part is in, or of the row that is its whole tree
pub passes-row : {A B : Type 0} (p : Part A B) (ts : Bor (List (Scenario A))) (i : ℕ) (new : Progress) → place_of p ≡ place.InSeq ts
    → first_part (parts_of p) ≡ Nothing → i < length (offers (part_left p))
    → MovesTo (tree.Seq (plain_all ts.now)) i (room_in_turn (plain_all ts.now)) new → MovesTo (part_left p) i (wants (progress p)) new
passes-row p ts i new at over low leads =
    passes-behind p i new (subst (λ q. offers_of_all (all_left (take (count_at q) (parts_of p))) ≡ []) (sym at) (none-over (parts_of p) over)) low
    (subst (λ q. MovesTo (behind q) i (wants_behind q) new) (sym at) leads)

pub passes-whole : {A B : Type 0} (p : Part A B) (t : Bor (Scenario A)) (ts : Trees) (i : ℕ) (new : Progress) → place_of p ≡ place.Whole t
    → plain t.now ≡ tree.Seq ts → i < length (offers (part_left p)) → MovesTo (tree.Seq ts) i (room_in_turn ts) new
    → MovesTo (part_left p) i (wants (progress p)) new
passes-whole p t ts i new at is low leads =
    passes-behind p i new (subst (λ q. offers_of_all (all_left (take (count_at q) (parts_of p))) ≡ []) (sym at) (none-first (parts_of p))) low
    (subst (λ q. MovesTo (behind q) i (wants_behind q) new) (sym at)
    (subst (λ u. MovesTo u i (room u) new) (sym is) leads))

-- the first part once one is written there
pub first-set : {A B : Type 0} (ps : List (Part A B)) (p : Part A B) → 0 < length ps → first_part (map progress (slice_set ps 0 p)) ≡ progress p
first-set [] p some = absurd (omega (arith, some))
first-set (q ∷ ps) p some = refl
