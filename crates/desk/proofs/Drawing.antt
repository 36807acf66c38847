-- Steps on the word keep its rule.
use Rattle.std.proofs.Common.{◌≡◌, ◌≢◌, ◌⊎◌, inl, inr, ℕ, zero, suc, ◌+◌, ◌-◌, ◌%◌, ◌^◌, ◌<◌, ◌≤◌, min}
use Rattle.std.proofs.Common.{List, [], ◌∷◌, ◌++◌, length, slice_index, slice_set, nat_lt, ◌||◌, Bool, true, false, not, cond}
use Rattle.std.proofs.Common.{refl, sym, ap, ◌∙◌, arith, subst}
use Rattle.std.proofs.lemmas.Bool.Decides.{nat_tests}
use mathlib.Core.Option.{none, some}
use lib.ListN.{get_elem?}
use Rattle.atomic_table.specs.Table.{State, Me, step, keeps, Allows, Splits, Joins, stepped, opening}
use Rattle.desk.specs.declared.word.WordTokenView.{WordTokenView}
use Rattle.desk.specs.declared.word.Size.{Size}
use Rattle.desk.specs.Counting.{times, once_below}
use Rattle.desk.specs.inner.Drawing.{total, ended, fresh, IsDrawn, drew, merged, Draws, Totals}

set_get : (views : List WordTokenView) (id by : ℕ) (w v : WordTokenView) → get_elem? (slice_set views id w) by ≡ some v
    → ((by ≡ id) × (v ≡ w)) ⊎ ((by ≢ id) × (get_elem? views by ≡ some v))
set_get [] id by w v e = absurd (cc e)
set_get (u ∷ us) zero zero w v e = inl (refl, cc e)
set_get (u ∷ us) zero (suc by) w v e = inr ((λ p. absurd (omega (arith, p))), e)
set_get (u ∷ us) (suc id) zero w v e = inr ((λ p. absurd (omega (arith, p))), e)
set_get (u ∷ us) (suc id) (suc by) w v e = elim (set_get us id by w v e) [
  | inl a ↦ inl (ap suc a.0, a.1)
  | inr a ↦ inr ((λ p. a.0 (omega (arith, p))), a.1)
]

set_same : (views : List WordTokenView) (id by : ℕ) (w v : WordTokenView) → get_elem? views id ≡ some w → get_elem? (slice_set views id w) by ≡ some v
    → get_elem? views by ≡ some v
set_same views id by w v at e = elim (set_get views id by w v e) [
  | inl q ↦ rw (q.0, q.1) at
  | inr q ↦ q.1
]

snoc_get : (views : List WordTokenView) (w v : WordTokenView) (by : ℕ) → get_elem? (views ++ w ∷ []) by ≡ some v
    → (get_elem? views by ≡ some v) ⊎ (v ≡ w)
snoc_get [] w v zero e = inr (cc e)
snoc_get [] w v (suc by) e = absurd (cc e)
snoc_get (u ∷ us) w v zero e = inl e
snoc_get (u ∷ us) w v (suc by) e = snoc_get us w v by e

total_set : (f : WordTokenView → ℕ) (views : List WordTokenView) (port : ℕ) (v w : WordTokenView) → get_elem? views port ≡ some v
    → total f (slice_set views port w) + f v ≡ total f views + f w
total_set f [] port v w at = absurd (cc at)
total_set f (u ∷ us) zero v w at = let e : u ≡ v = cc at in omega (arith, ap f e)
total_set f (u ∷ us) (suc port) v w at = omega (arith, total_set f us port v w at)

total_snoc : (f : WordTokenView → ℕ) (views : List WordTokenView) (w : WordTokenView) → total f (views ++ w ∷ []) ≡ total f views + f w
total_snoc f [] w = omega arith
total_snoc f (u ∷ us) w = omega (arith, total_snoc f us w)

-- a part that isn't counted leaves room
room : (f g : WordTokenView → ℕ) → ((u : WordTokenView) → f u ≤ g u) → (views : List WordTokenView) (port : ℕ) (v : WordTokenView)
    → get_elem? views port ≡ some v
    → total f views + g v ≤ total g views + f v
room f g le [] port v at = absurd (cc at)
room f g le (u ∷ us) zero v at = let e : u ≡ v = cc at in omega (arith, ap f e, ap g e, all_le us)
  where
    all_le : (vs : List WordTokenView) → total f vs ≤ total g vs
    all_le [] = omega arith
    all_le (x ∷ xs) = omega (arith, le x, all_le xs)
room f g le (u ∷ us) (suc port) v at = omega (arith, le u, room f g le us port v at)

-- a view has no more than all
one_of : (f : WordTokenView → ℕ) (views : List WordTokenView) (port : ℕ) (v : WordTokenView) → get_elem? views port ≡ some v → f v ≤ total f views
one_of f [] port v at = absurd (cc at)
one_of f (u ∷ us) zero v at = let e : u ≡ v = cc at in omega (arith, ap f e)
one_of f (u ∷ us) (suc port) v at = omega (arith, one_of f us port v at)

-- where one view has every part, and f is 0 of each view with none, it has all of f
all_of : (f : WordTokenView → ℕ) (views : List WordTokenView) (port : ℕ) (v : WordTokenView) → get_elem? views port ≡ some v
    → total (λ u. u.parts) views ≤ v.parts
    → ((id : ℕ) (u : WordTokenView) → get_elem? views id ≡ some u → u.parts ≡ 0 → f u ≡ 0) → total f views ≡ f v
all_of f [] port v at le idle = absurd (cc at)
all_of f (u ∷ us) zero v at le idle =
    let e : u ≡ v = cc at in
    let p = ap (λ x. x.parts) e in
    omega (arith, ap f e, none_of us (omega (arith, le, p)) (λ id x g. idle (suc id) x g))
  where
    none_of : (vs : List WordTokenView) → total (λ x. x.parts) vs ≡ 0
        → ((id : ℕ) (x : WordTokenView) → get_elem? vs id ≡ some x → x.parts ≡ 0 → f x ≡ 0) → total f vs ≡ 0
    none_of [] z i = refl
    none_of (x ∷ xs) z i = omega (arith, i 0 x refl (omega (arith, z)), none_of xs (omega (arith, z)) (λ id y g. i (suc id) y g))
all_of f (u ∷ us) (suc port) v at le idle =
    let own = one_of (λ x. x.parts) us port v at in
    omega (arith, idle 0 u refl (omega (arith, le, own)), all_of f us port v at (omega (arith, le)) (λ id x g. idle (suc id) x g))

pub times-append : (x : ℕ) (xs ys : List ℕ) → times x (xs ++ ys) ≡ times x xs + times x ys
times-append x [] ys = omega arith
times-append x (y ∷ xs) ys = omega (arith, times-append x xs ys)

at_zero : (ws : List ℕ) (m : ℕ) → length ws ≡ 1 → slice_index (slice_set ws 0 m) 0 ≡ m
at_zero [] m e = absurd (omega (arith, e))
at_zero (w ∷ ws) m e = refl

kept_length : (ws : List ℕ) (m : ℕ) → length ws ≡ 1 → length (slice_set ws 0 m) ≡ 1
kept_length [] m e = absurd (omega (arith, e))
kept_length (w ∷ ws) m e = e

ended_le : (u : WordTokenView) → ended u ≤ u.parts
ended_le u = grind arith

-- the next number, where it is one of them
one_more : (x n count : ℕ) (xs : List ℕ) (a b : ℕ) → b + times x xs ≡ a + times x (cond (nat_lt n count) (xs ++ n ∷ []) xs)
    → a ≡ once_below x (min n count) → b ≡ once_below x (min (n + 1) count)
one_more x n count xs a b p q = by_case (nat_lt n count) refl
  where
    by_case : (t : Bool) → nat_lt n count ≡ t → b ≡ once_below x (min (n + 1) count)
    by_case true e = let p' = subst (λ t. b + times x xs ≡ a + times x (cond t (xs ++ n ∷ []) xs)) e p in grind
        (arith, nat_tests, times-append x xs (n ∷ []), p', q)
    by_case false e = let p' = subst (λ t. b + times x xs ≡ a + times x (cond t (xs ++ n ∷ []) xs)) e p in grind (arith, nat_tests, p', q)

-- who was told that there are no more counts as ended
one_less : (n count parts a b : ℕ) → b + 0 ≡ a + cond (not (nat_lt n count)) parts 0 → 0 < parts → n ≤ count + a → n + 1 ≤ count + b
one_less n count parts a b p part q = by_case (nat_lt n count) refl
  where
    by_case : (t : Bool) → nat_lt n count ≡ t → n + 1 ≤ count + b
    by_case true e = let p' = subst (λ t. b + 0 ≡ a + cond (not t) parts 0) e p in grind (arith, nat_tests, p', q)
    by_case false e = let p' = subst (λ t. b + 0 ≡ a + cond (not t) parts 0) e p in grind (arith, nat_tests, p', q)

past : (n count : ℕ) → not (nat_lt n count) ≡ true → count ≤ n
past n count e = grind (arith, nat_tests)

draws_kept : (size : Size) (s : State (Unit {0}) WordTokenView) (id : ℕ) (v : WordTokenView) → v.count ≡ size.count → 0 < v.parts
    → size.count + size.parts < 2 ^ 64 → v.over ≡ false
    → IsDrawn size s → get_elem? s.views id ≡ some v
    → IsDrawn size (stepped s 0 ((slice_index s.words 0 + 1) % 2 ^ 64) id [] (drew v.count v (slice_index s.words 0)) keeps)
draws_kept size s id v count part small on h at =
    let n : ℕ = slice_index s.words 0 in
    let w : WordTokenView = drew v.count v n in
    let off : ended v ≡ 0 = ap (λ t. cond t v.parts 0) on in
    let space = room ended (λ u. u.parts) ended_le s.views id v at in
    let below : n + 1 < 2 ^ 64 = omega (arith, h.bound, h.parts, space, off, small, part) in
    let same : (n + 1) % 2 ^ 64 ≡ n + 1 = omega (arith, below) in
    let here : slice_index (slice_set s.words 0 ((n + 1) % 2 ^ 64)) 0 ≡ n + 1 = at_zero s.words _ h.one ∙ same in
    let drawn_before = λ (x : ℕ). h.each x ∙ ap (λ k. once_below x (min n k)) (sym count) in
    record {
      one = kept_length s.words _ h.one;
      parts = let t = total_set (λ u. u.parts) s.views id v w at in omega (arith, t, h.parts);
      each = λ x. rw here (subst (λ k. total (λ u. times x u.drawn) (slice_set s.views id w) ≡ once_below x (min (n + 1) k)) count
          (one_more x n v.count v.drawn _ _ (total_set (λ u. times x u.drawn) s.views id v w at) (drawn_before x)));
      bound = rw here (subst (λ k. n + 1 ≤ k + total ended (slice_set s.views id w)) count
          (one_less n v.count v.parts _ _ (subst (λ k. total ended (slice_set s.views id w) + k ≡ total ended s.views + ended w) off
          (total_set ended s.views id v w at)) part (subst (λ k. n ≤ k + total ended s.views) (sym count) h.bound)));
      told = λ b x got over. rw here (elim (set_get s.views id b w x got) [
        | inl q ↦ let far = past n v.count (sym (ap (λ u. u.over) q.1) ∙ over) in omega (arith, far, count)
        | inr q ↦ let far = h.told b x q.1 over in omega (arith, far)
      ]);
      idle = λ b x got none_left. elim (set_get s.views id b w x got) [
        | inl q ↦ absurd (let p = ap (λ u. u.parts) q.1 in omega (arith, p, none_left, part))
        | inr q ↦ h.idle b x q.1 none_left
      ];
    }

-- what a token has drawn lies below the word
drawn_below : (size : Size) (s : State (Unit {0}) WordTokenView) (id : ℕ) (v : WordTokenView) → IsDrawn size s → get_elem? s.views id ≡ some v → (x : ℕ)
    → 0 < times x v.drawn → x < slice_index s.words 0
drawn_below size s id v h at x some_there = let le = one_of (λ u. times x u.drawn) s.views id v at in let each = h.each x in below
    (slice_index s.words 0) size.count (omega (arith, le, each, some_there))
  where
    below : (n count : ℕ) → 0 < once_below x (min n count) → x < n
    below n count p = grind (arith, nat_tests)

pub steps : (size : Size) (slots id : ℕ) (me : Me (Unit {0}) WordTokenView) → me.0.count ≡ size.count → 0 < me.0.parts → size.count + size.parts < 2 ^ 64
    → me.0.over ≡ false
    → Allows (IsDrawn size) slots id me 0 (λ n. (n + 1) % 2 ^ 64) (Draws (step slots 0 1 0 none) me)
steps size slots id me count part small on s h len at fits =
    (drew me.0.count me.0 (slice_index s.words 0), keeps, tt, draws_kept size s id me.0 count part small on h at, (refl, refl, drawn_below size s id me.0 h at))

pub opens : (size : Size) → IsDrawn size (opening (0 ∷ []) [] (fresh size.parts size.count))
opens size = record {
  one = refl;
  parts = omega arith;
  each = λ x. none_below x size.count;
  bound = omega arith;
  told = λ id v got over. absurd (cc (sym over ∙ ap (λ u. u.over) (first_view id v got)));
  idle = λ id v got none_left. ap (λ u. u.drawn) (first_view id v got);
}
  where
    none_below : (x count : ℕ) → 0 ≡ once_below x (min 0 count)
    none_below x count = grind (arith, nat_tests)

    first_view : (id : ℕ) (v : WordTokenView) → get_elem? (fresh size.parts size.count ∷ []) id ≡ some v → v ≡ fresh size.parts size.count
    first_view zero v e = cc e
    first_view (suc id) v e = absurd (cc e)

pub deals : (size : Size) (id : ℕ) (v : WordTokenView) → v ≡ fresh v.parts v.count → 0 < v.parts
    → Splits (IsDrawn size) id v (fresh (v.parts - 1) v.count) (fresh 1 v.count)
deals size id v new part s h at =
    let left : WordTokenView = fresh (v.parts - 1) v.count in
    let right : WordTokenView = fresh 1 v.count in
    let drawn : v.drawn ≡ [] = ap (λ u. u.drawn) new in
    let over : v.over ≡ false = ap (λ u. u.over) new in
    record {
      one = h.one;
      parts = let t = total_set (λ u. u.parts) s.views id v left at in let r = total_snoc (λ u. u.parts) (slice_set s.views id left) right in omega
          (arith, t, r, h.parts, part);
      each = λ x. let t = total_set (λ u. times x u.drawn) s.views id v left at in
          let r = total_snoc (λ u. times x u.drawn) (slice_set s.views id left) right in
          let d = ap (λ l. times x l) drawn in let each = h.each x in omega (arith, t, r, d, each);
      bound = let t = total_set ended s.views id v left at in
          let r = total_snoc ended (slice_set s.views id left) right in
          let o : ended v ≡ 0 = ap (λ b. cond b v.parts 0) over in omega (arith, t, r, o, h.bound);
      told = λ b x got yes. elim (snoc_get (slice_set s.views id left) right x b got) [
        | inl q ↦ elim (set_get s.views id b left x q) [
          | inl r ↦ absurd (cc (sym yes ∙ ap (λ u. u.over) r.1))
          | inr r ↦ h.told b x r.1 yes
        ]
        | inr q ↦ absurd (cc (sym yes ∙ ap (λ u. u.over) q))
      ];
      idle = λ b x got none_left. elim (snoc_get (slice_set s.views id left) right x b got) [
        | inl q ↦ elim (set_get s.views id b left x q) [
          | inl r ↦ ap (λ u. u.drawn) r.1
          | inr r ↦ h.idle b x r.1 none_left
        ]
        | inr q ↦ ap (λ u. u.drawn) q
      ];
    }

-- joined tokens count as ended at least as much
ended_both : (a b : Bool) (p q : ℕ) → cond a p 0 + cond b q 0 ≤ cond (a || b) (p + q) 0
ended_both true true p q = omega arith
ended_both true false p q = omega arith
ended_both false true p q = omega arith
ended_both false false p q = omega arith

either_over : (a b : Bool) → (a || b) ≡ true → (a ≡ true) ⊎ (b ≡ true)
either_over true b e = inl refl
either_over false b e = inr e

nil_both : (xs ys : List ℕ) → xs ≡ [] → ys ≡ [] → xs ++ ys ≡ []
nil_both xs ys p q = rw (p, q) refl

pub merges : (size : Size) (id other : ℕ) (v w : WordTokenView) → Joins (IsDrawn size) id v other w (merged v w) (fresh 0 0)
merges size id other v w s h at apart got =
    let both : WordTokenView = merged v w in
    let there : get_elem? s.views other ≡ some w = elim (set_get s.views id other both w got) [
      | inl q ↦ absurd (apart q.0)
      | inr q ↦ q.1
    ] in
    record {
      one = h.one;
      parts = let t = total_set (λ u. u.parts) s.views id v both at in let r = total_set (λ u. u.parts) (slice_set s.views id both) other w
          (fresh 0 0) got in omega (arith, t, r, h.parts);
      each = λ x. let t = total_set (λ u. times x u.drawn) s.views id v both at in
          let r = total_set (λ u. times x u.drawn) (slice_set s.views id both) other w (fresh 0 0) got in
          let a = times-append x v.drawn w.drawn in let each = h.each x in omega (arith, t, r, a, each);
      bound = let t = total_set ended s.views id v both at in
          let r = total_set ended (slice_set s.views id both) other w (fresh 0 0) got in
          let o = ended_both v.over w.over v.parts w.parts in omega (arith, t, r, o, h.bound);
      told = λ b x e yes. elim (set_get (slice_set s.views id both) other b (fresh 0 0) x e) [
        | inl q ↦ absurd (cc (sym yes ∙ ap (λ u. u.over) q.1))
        | inr q ↦ elim (set_get s.views id b both x q.1) [
          | inl r ↦ elim (either_over v.over w.over (sym (ap (λ u. u.over) r.1) ∙ yes)) [
            | inl z ↦ h.told id v at z
            | inr z ↦ h.told other w there z
          ]
          | inr r ↦ h.told b x r.1 yes
        ]
      ];
      idle = λ b x e none_left. elim (set_get (slice_set s.views id both) other b (fresh 0 0) x e) [
        | inl q ↦ ap (λ u. u.drawn) q.1
        | inr q ↦ elim (set_get s.views id b both x q.1) [
          | inl r ↦
              let z : v.parts + w.parts ≡ 0 = sym (ap (λ u. u.parts) r.1) ∙ none_left in
              ap (λ u. u.drawn) r.1 ∙ nil_both v.drawn w.drawn (h.idle id v at (omega (arith, z))) (h.idle other w there (omega (arith, z)))
          | inr r ↦ h.idle b x r.1 none_left
        ]
      ];
    }

pub tells : (size : Size) (slots id : ℕ) (me : Me (Unit {0}) WordTokenView) → me.0.count ≡ size.count → size.parts ≤ me.0.parts
    → Allows (IsDrawn size) slots id me 0 (λ n. n) (Totals (step slots 0 0 0 none) me)
tells size slots id me count all s h len at fits =
    let n : ℕ = slice_index s.words 0 in
    let here : slice_index (slice_set s.words 0 n) 0 ≡ n = at_zero s.words n h.one in (
      me.0,
      keeps,
      tt,
      record {
        one = kept_length s.words _ h.one;
        parts = let t = total_set (λ u. u.parts) s.views id me.0 me.0 at in omega (arith, t, h.parts);
        each = λ x. rw here (let t = total_set (λ u. times x u.drawn) s.views id me.0 me.0 at in let each = h.each x in omega (arith, t, each));
        bound = rw here (let t = total_set ended s.views id me.0 me.0 at in omega (arith, t, h.bound));
        told = λ b x got yes. rw here (h.told b x (set_same s.views id b me.0 x at got) yes);
        idle = λ b x got none_left. h.idle b x (set_same s.views id b me.0 x at got) none_left;
      },
      (
        (λ x.
            let mine = all_of (λ u. times x u.drawn) s.views id me.0 at (omega (arith, h.parts, all)) (λ b u g z. ap (λ l. times x l) (h.idle b u g z)) in
            sym mine ∙ (h.each x ∙ ap (λ k. once_below x (min n k)) (sym count))),
        (λ yes. let far = h.told id me.0 at yes in omega (arith, far, count)),
      ),
    )
