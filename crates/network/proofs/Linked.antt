use Rattle.std.proofs.Common.{◌≡◌, ◌≢◌, ◌≤◌, ◌+◌, ◌*◌, ◌-◌, ◌^◌, ◌∷◌, ◌++◌, ℕ, ◌<◌, List, [], Bool, true, false, ◌==◌, not, remove}
use Rattle.std.proofs.Common.{Option, None, Some, length, get_or, map, replicate, set, refl, ap, ◌∙◌, sym, zero, suc, arith}
use Rattle.std.proofs.Common.{inl, inr, true≢false}
use Rattle.std.specs.Option.{is_some, option_map, unwrap_or}
use Rattle.std.proofs.Math.ListN.{get_or-map}
use Rattle.std.proofs.Math.Seq.{map-set_same}
use Rattle.std.proofs.lemmas.Bool.{cases_eq, cases_lt, ne_eqb}
use Rattle.std.proofs.lemmas.List.Sums.{sum_by-cons}
use Rattle.std.proofs.lemmas.List.{map-set, length-append, length-map, get_or_past, get_or-set_same, get_or-set_other}
use Rattle.std.proofs.lemmas.List.Edits.{length-remove}
use Rattle.std.proofs.lemmas.List.Sums.{sum_by-set}
use Rattle.std.specs.List.{sum_by}
use Rattle.network.specs.Marks.{is_stopped}
use Rattle.network.specs.inner.Links.{AreFew, AreLinked, KeepsRoom, UsesOneLink, Wired, free_of, marks_in, on_link, remarked, room_on, unmarked_one, waiting_of}
use Rattle.network.specs.Traffic.{is_nil}
use Rattle.network.specs.declared.message.Forward.{Forward}
use Rattle.network.specs.declared.wire.Marked.{Marked}
use Rattle.rows.specs.Flags.{is_set}

-- a part of links that were never used
pub parts-none : {X : Type 0} (part : Option (Wired Forward) → X) (n : ℕ) → map part (replicate n None) ≡ replicate n (part None)
parts-none part zero = refl
parts-none part (suc n) = ap (λ ps. part None ∷ ps) (parts-none part n)

-- a part of one link
pub parts-at : {X : Type 0} (part : Option (Wired Forward) → X) (os : List (Option (Wired Forward))) (i : ℕ) →
    get_or (map part os) i (part None) ≡ part (get_or os i None)
parts-at part os i = get_or-map part os i None

-- one link is replaced by what is made of it
pub parts-set : {X : Type 0} (part : Option (Wired Forward) → X) (os : List (Option (Wired Forward))) (i : ℕ) (old : Option (Wired Forward))
    (new : Wired Forward) (f : X → X) →
    old ≡ get_or os i None → part (Some new) ≡ f (part old) → map part (set os i (Some new)) ≡
    set (map part os) i (f (get_or (map part os) i (part None)))
parts-set part os i old new f is_old made =
    map-set part os i (Some new) ∙ ap (λ x. set (map part os) i x) (made ∙ ap f (ap part is_old ∙ sym (parts-at part os i)))

-- one link is replaced by one that has the same part
pub parts-set_same : {X : Type 0} (part : Option (Wired Forward) → X) (os : List (Option (Wired Forward))) (i : ℕ) (old : Option (Wired Forward))
    (new : Wired Forward) →
    old ≡ get_or os i None → part (Some new) ≡ part old → map part (set os i (Some new)) ≡ map part os
parts-set_same part os i old new is_old made = map-set_same part os i (Some new) None (made ∙ ap part is_old)

-- there are as many links as lists of messages
pub below_messages : (os : List (Option (Wired Forward))) (i : ℕ) → i < length (map on_link os) → i < length os
below_messages os i h = omega (arith, length-map os on_link)

-- the link that is replaced has as many messages as what takes its place
pub short-set : (os : List (Option (Wired Forward))) (i : ℕ) (new : Wired Forward) → i < length os → length new.sent < 2 ^ 32 →
    length (get_or (map on_link (set os i (Some new))) i []) < 2 ^ 32
short-set os i new h short =
    let now = ap length (get_or-map on_link (set os i (Some new)) i None ∙ ap on_link (get_or-set_same os i (Some new) None h)) in
    omega (arith, now, short)

-- the room of the link that is replaced
pub room-set : (os : List (Option (Wired Forward))) (i : ℕ) (new : Wired Forward) → i < length os →
    get_or (map room_on (set os i (Some new))) i 0 ≡ new.room
room-set os i new h =
    get_or-map room_on (set os i (Some new)) i None ∙ ap room_on (get_or-set_same os i (Some new) None h)

-- the room of another link
room-other : (os : List (Option (Wired Forward))) (i k : ℕ) (new : Wired Forward) → k ≢ i →
    get_or (map room_on (set os i (Some new))) k 0 ≡ get_or (map room_on os) k 0
room-other os i k new ne =
    get_or-map room_on (set os i (Some new)) k None ∙ ap room_on (get_or-set_other os i k (Some new) None ne) ∙ sym (get_or-map room_on os k None)

-- one place on one link went
pub one_place-used : (os : List (Option (Wired Forward))) (i : ℕ) (old : Option (Wired Forward)) (new : Wired Forward) → i < length os →
    old ≡ get_or os i None → room_on old ≤ new.room + 1 → UsesOneLink i (map room_on os) (map room_on (set os i (Some new)))
one_place-used os i old new h is_old less = record {
  here =
      let before : get_or (map room_on os) i 0 ≡ room_on old = get_or-map room_on os i None ∙ ap room_on (sym is_old) in
      omega (arith, before, room-set os i new h, less);
  others = λ k ne. omega (arith, room-other os i k new ne);
}

-- a link that keeps its room
pub room-kept : (os : List (Option (Wired Forward))) (i : ℕ) (old : Option (Wired Forward)) (new : Wired Forward) → i < length os →
    old ≡ get_or os i None → room_on old ≤ new.room → KeepsRoom (map room_on os) (map room_on (set os i (Some new)))
room-kept os i old new h is_old less = record {
  each = λ k. elim (cases_eq k i) [
    | inl e ↦ rw e at_i
    | inr ne ↦ omega (arith, room-other os i k new ne)
  ];
}
  where
    at_i : get_or (map room_on os) i 0 ≤ get_or (map room_on (set os i (Some new))) i 0
    at_i =
        let before : get_or (map room_on os) i 0 ≡ room_on old = get_or-map room_on os i None ∙ ap room_on (sym is_old) in
        omega (arith, before, room-set os i new h, less)

-- a link that was used is one of the links
pub used-below : (os : List (Option (Wired Forward))) (i : ℕ) (w : Wired Forward) → Some w ≡ get_or os i None → i < length os
used-below os i w is =
    elim (cases_lt i (length os)) [
      | inl h ↦ h
      | inr h ↦ absurd (true≢false (ap is_some (is ∙ get_or_past os i None h)))
    ]

-- the same links have the same room
pub room-same : (os ps : List (Option (Wired Forward))) → ps ≡ os → KeepsRoom (map room_on os) (map room_on ps)
room-same os ps same = record {
  each = λ k. omega (arith, ap (λ xs. get_or (map room_on xs) k 0) same);
}

pub none-used : (os ps : List (Option (Wired Forward))) (i : ℕ) → ps ≡ os → UsesOneLink i (map room_on os) (map room_on ps)
none-used os ps i same = record {
  here = omega (arith, ap (λ xs. get_or (map room_on xs) i 0) same);
  others = λ k ne. omega (arith, ap (λ xs. get_or (map room_on xs) k 0) same);
}

-- ---- the flags and the count

pub is_nil-length : {A : Type 0} (xs : List A) → is_nil xs ≡ (length xs == 0)
is_nil-length [] = refl
is_nil-length (x ∷ xs) = sym (ne_eqb (length (x ∷ xs)) 0 (λ e. absurd (omega arith)))

-- a list that has nothing
pub nil-is : {A : Type 0} (xs : List A) → not (is_nil xs) ≡ false → xs ≡ []
nil-is [] h = refl
nil-is (x ∷ xs) h = absurd (true≢false h)

-- what stands there is written again
pub set-same : {A : Type 0} (xs : List A) (i : ℕ) (y d : A) → get_or xs i d ≡ y → set xs i y ≡ xs
set-same [] i y d h = refl
set-same (x ∷ xs) zero y d h = ap (λ z. z ∷ xs) (sym h)
set-same (x ∷ xs) (suc i) y d h = ap (λ zs. x ∷ zs) (set-same xs i y d h)

-- the flag of a link
pub waiting-at : (ls : List (List (Marked Forward))) (i : ℕ) → is_set (waiting_of ls) i ≡ not (is_nil (get_or ls i []))
waiting-at ls i = get_or-map (λ l. not (is_nil l)) ls i []

pub free-at : (ls : List (List (Marked Forward))) (i : ℕ) → is_set (free_of ls) i ≡ not (is_stopped (marks_in (get_or ls i [])))
free-at ls i = get_or-map (λ l. not (is_stopped (marks_in l))) ls i []

-- links that were never used hold together
abbrev no_message : List (Marked Forward)
no_message = []

none-few : (n k : ℕ) → length (get_or (replicate n no_message) k no_message) < 2 ^ 32
none-few zero k = omega arith
none-few (suc n) zero = omega arith
none-few (suc n) (suc k) = none-few n k

none-wait : (n : ℕ) → replicate n false ≡ waiting_of (replicate n [])
none-wait zero = refl
none-wait (suc n) = ap (λ fs. false ∷ fs) (none-wait n)

none-free : (n : ℕ) → replicate n false ≡ free_of (replicate n [])
none-free zero = refl
none-free (suc n) = ap (λ fs. false ∷ fs) (none-free n)

none-there : (n : ℕ) → 0 ≡ sum_by length (replicate n no_message)
none-there zero = refl
none-there (suc n) = let s = sum_by-cons length no_message (replicate n no_message) in let rest = none-there n in omega arith

pub linked-none : (n : ℕ) → AreLinked (replicate n []) (replicate n false) (replicate n false) 0
linked-none n = record { waiting = none-wait n; free = none-free n; few = none-few n; count = none-there n }

-- what is on the links is told in another way
pub linked-same : (ls new : List (List (Marked Forward))) (waits frees : List Bool) (all : ℕ) → new ≡ ls → AreLinked ls waits frees all →
    AreLinked new waits frees all
linked-same ls new waits frees all same linked = rw same linked

-- one link is another
pub linked-set : (ls : List (List (Marked Forward))) (i : ℕ) (new : List (Marked Forward)) (waits frees : List Bool) (before after : ℕ) → i < length ls →
    AreLinked ls waits frees before → length new < 2 ^ 32 → after + length (get_or ls i []) ≡ before + length new →
    AreLinked (set ls i new) (set waits i (not (is_nil new))) (set frees i (not (is_stopped (marks_in new)))) after
linked-set ls i new waits frees before after there linked short count = record {
  waiting = ap (λ fs. set fs i (not (is_nil new))) linked.waiting ∙ sym (map-set (λ l. not (is_nil l)) ls i new);
  free = ap (λ fs. set fs i (not (is_stopped (marks_in new)))) linked.free ∙ sym (map-set (λ l. not (is_stopped (marks_in l))) ls i new);
  few = λ k. elim (cases_eq k i) [
    | inl e ↦ omega (arith, ap (λ n. length (get_or (set ls i new) n [])) e, ap length (get_or-set_same ls i new [] there))
    | inr e ↦ omega (arith, linked.few k, ap length (get_or-set_other ls i k new [] e))
  ];
  count = omega (arith, linked.count, sum_by-set length ls i new [] there);
}

-- a link's messages are marked anew: as many wait as before
remarked-nil : (mark : Forward → Bool) (l : List (Marked Forward)) → is_nil (remarked mark l) ≡ is_nil l
remarked-nil mark [] = refl
remarked-nil mark (m ∷ l) = refl

pub linked-marked : (ls : List (List (Marked Forward))) (i : ℕ) (mark : Forward → Bool) (waits frees : List Bool) (all : ℕ) → i < length ls →
    AreLinked ls waits frees all →
    AreLinked (set ls i (remarked mark (get_or ls i []))) waits (set frees i (not (is_stopped (marks_in (remarked mark (get_or ls i [])))))) all
linked-marked ls i mark waits frees all there linked =
    let old = get_or ls i [] in
    let new = remarked mark old in
    let long : length new ≡ length old = length-map old _ in
    let kept : set waits i (not (is_nil new)) ≡ waits =
    set-same waits i (not (is_nil new)) false (ap (λ fs. is_set fs i) linked.waiting ∙ waiting-at ls i ∙ ap not (sym (remarked-nil mark old))) in
    rw (← kept) (linked-set ls i new waits frees all all there linked (omega (arith, linked.few i)) (omega arith))

-- a message is put on a link that has some, or on one that has none
behind-some : (l : List (Marked Forward)) (f : Forward) → not (is_nil l) ≡ true →
    not (is_stopped (marks_in (l ++ unmarked_one f ∷ []))) ≡ not (is_stopped (marks_in l))
behind-some [] f some = absurd (true≢false (sym some))
behind-some (m ∷ l) f some = refl

not_nil-sent : (l : List (Marked Forward)) (f : Forward) → not (is_nil (l ++ unmarked_one f ∷ [])) ≡ true
not_nil-sent [] f = refl
not_nil-sent (m ∷ l) f = refl

pub linked-behind : (ls : List (List (Marked Forward))) (i : ℕ) (f : Forward) (waits frees : List Bool) (all : ℕ) → i < length ls →
    AreLinked ls waits frees all → length (get_or (set ls i (get_or ls i [] ++ unmarked_one f ∷ [])) i []) < 2 ^ 32 → is_set waits i ≡ true →
    AreLinked (set ls i (get_or ls i [] ++ unmarked_one f ∷ [])) waits frees (all + 1)
linked-behind ls i f waits frees all there linked short waiting =
    let old = get_or ls i [] in
    let new = old ++ unmarked_one f ∷ [] in
    let long = length-append old (unmarked_one f ∷ []) in
    let now = ap length (get_or-set_same ls i new [] there) in
    let some : not (is_nil old) ≡ true = sym (ap (λ fs. is_set fs i) linked.waiting ∙ waiting-at ls i) ∙ waiting in
    let kept : set waits i (not (is_nil new)) ≡ waits = set-same waits i (not (is_nil new)) false (waiting ∙ sym (not_nil-sent old f)) in
    let free : set frees i (not (is_stopped (marks_in new))) ≡ frees =
    set-same frees i (not (is_stopped (marks_in new))) false (ap (λ fs. is_set fs i) linked.free ∙ free-at ls i ∙ sym (behind-some old f some)) in
    rw (← kept, ← free) (linked-set ls i new waits frees all (all + 1) there linked (omega arith) (omega arith))

pub linked-first : (ls : List (List (Marked Forward))) (i : ℕ) (f : Forward) (waits frees : List Bool) (all : ℕ) → i < length ls →
    AreLinked ls waits frees all → is_set waits i ≡ false →
    AreLinked (set ls i (get_or ls i [] ++ unmarked_one f ∷ [])) (set waits i true) (set frees i true) (all + 1)
linked-first ls i f waits frees all there linked waiting =
    let none : get_or ls i [] ≡ [] = nil-is (get_or ls i []) (sym (ap (λ fs. is_set fs i) linked.waiting ∙ waiting-at ls i) ∙ waiting) in
    let long = ap length none in
    rw (ap (λ l. set ls i (l ++ unmarked_one f ∷ [])) none)
    (linked-set ls i (unmarked_one f ∷ []) waits frees all (all + 1) there linked (omega arith) (omega arith))

-- a first message is taken off a link that has one
pub linked-taken : (ls : List (List (Marked Forward))) (i left : ℕ) (free : Bool) (waits frees : List Bool) (all : ℕ) → i < length ls →
    0 < length (get_or ls i []) → AreLinked ls waits frees all → left ≡ length (remove (get_or ls i []) 0) →
    free ≡ not (is_stopped (marks_in (remove (get_or ls i []) 0))) →
    AreLinked (set ls i (remove (get_or ls i []) 0)) (set waits i (not (left == 0))) (set frees i free) (all - 1)
linked-taken ls i left free waits frees all there some linked count head =
    let old = get_or ls i [] in
    let new = remove old 0 in
    let long = length-remove old 0 some in
    let among = all-there ls i there in
    rw (ap (λ n. not (n == 0)) count ∙ ap not (sym (is_nil-length new)), head)
    (linked-set ls i new waits frees all (all - 1) there linked (omega (arith, linked.few i)) (omega (arith, linked.count)))
  where
    all-there : (ls : List (List (Marked Forward))) (i : ℕ) → i < length ls → length (get_or ls i []) ≤ sum_by length ls
    all-there ls i h = let s = sum_by-set length ls i [] [] h in omega arith

-- the messages of all links are not too many to be counted
pub few-there : (ls : List (List (Marked Forward))) → AreFew ls → sum_by length ls ≤ (2 ^ 32 - 1) * length ls
few-there [] few = omega arith
few-there (l ∷ ls) few =
    let s = sum_by-cons length l ls in
    let rest = few-there ls (λ k. few (suc k)) in
    omega (arith, few 0)

empty : {A : Type 0} (xs : List A) → length xs ≡ 0 → xs ≡ []
empty [] h = refl
empty (x ∷ xs) h = absurd (omega arith)

-- where there is no message all links are empty
pub no_messages : (ls : List (List (Marked Forward))) → sum_by length ls ≡ 0 → ls ≡ replicate (length ls) []
no_messages [] h = refl
no_messages (l ∷ ls) h =
    let s = sum_by-cons length l ls in
    ap (λ x. x ∷ ls) (empty l (omega arith)) ∙ ap (λ xs. [] ∷ xs) (no_messages ls (omega arith))

-- ---- what a copy of links has of them

pub sent-seen : (os : List (Option (Wired Forward))) → map on_link os ≡ map (λ o. unwrap_or o []) (map (option_map (λ w. w.sent)) os)
sent-seen [] = refl
sent-seen (None ∷ os) = ap (λ ms. [] ∷ ms) (sent-seen os)
sent-seen (Some w ∷ os) = ap (λ ms. w.sent ∷ ms) (sent-seen os)
