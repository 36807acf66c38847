use Rattle.std.proofs.Common.{◌≡◌, ℕ, ◌<◌, List, [], ◌∷◌, Option, None, Some, Bool, true, false, cond}
use Rattle.std.proofs.Common.{true≢false, length, get_or, set, replicate}
use Rattle.std.proofs.Common.{refl, sym, ap, ◌∙◌, zero, suc, arith, inl, inr, nat_eq, slice_get, slice_index, is_some}
use Rattle.std.proofs.Common.{Result, Ok, Err, OnOk, OnErr, IfSome, position}
use Rattle.std.specs.Borrow.{MutBor}
use Rattle.std.specs.List.{IsDistinct}
use Rattle.std.specs.Map.{keys_of, lookup, values_of}
use Rattle.std.specs.Option.{IsSome, ghost_name_of, option_copied_mut}
use Rattle.std.proofs.lemmas.Bool.{cases_eq, cases_lt, eq-eqb, eqb-true, ne_eqb}
use Rattle.std.proofs.lemmas.List.{ext_get_or, get_or_past, get_or-replicate, get_or-set_other, get_or-set_same, length-replicate, length-set}
use Rattle.std.proofs.lemmas.List.FromFn.{get_or-map-range_with_len, length-map-range_with_len}
use Rattle.std.proofs.lemmas.Cmp.{nat_eq_equiv}
use Rattle.std.proofs.lemmas.List.Quantifiers.{position-Some}
use Rattle.std.proofs.lemmas.Map.Keys.{apart_from_distinct}
use Rattle.std.proofs.lemmas.Option.{slice_get-get_or}
use Rattle.indexmap.proofs.CallerLemmas.{updates-with_value_at}
use Rattle.indexmap.specs.IndexMap.{IndexMap, IsUnique, keys, values, with_value_at}
use Rattle.rows.specs.Row.{AreTouched}
use Rattle.rows.specs.inner.Items.{IsWithinRow, items_of}
use borrow.Follows.Closed.{read_of}

-- there are so many places
pub items-length : {T : Type 0} (held : List (ℕ × T)) (places : ℕ) → length (items_of held places) ≡ places
items-length held places = length-map-range_with_len (λ at. lookup (nat_eq at) held) 0 places

-- what stands at a place is what is held there
pub items-at : {T : Type 0} (held : List (ℕ × T)) (places at : ℕ) → IsWithinRow held places →
    get_or (items_of held places) at None ≡ lookup (nat_eq at) held
items-at held places at within =
    elim (cases_lt at places) [
      | inl h ↦ get_or-map-range_with_len (λ q. lookup (nat_eq q) held) 0 places at at None h (omega arith)
      | inr h ↦ get_or_past (items_of held places) at None (omega (arith, items-length held places)) ∙ sym (within.beyond at h)
    ]

-- where nothing is held, nothing stands
pub items-empty : {T : Type 0} (held : List (ℕ × T)) (places : ℕ) → held ≡ [] → items_of held places ≡ replicate places None
items-empty held places none =
    ext_get_or None (items_of held places) (replicate places None) (items-length held places ∙ sym (length-replicate places None))
    (λ i h.
    let below : i < places = omega (arith, items-length held places) in
    get_or-map-range_with_len (λ q. lookup (nat_eq q) held) 0 places i i None below (omega arith)
    ∙ ap (λ es. lookup (nat_eq i) es) none
    ∙ sym (get_or-replicate places i None None below))

-- where a look-up finds what it found but at one key, one place has another item
pub items-set : {T : Type 0} (old new : List (ℕ × T)) (places at : ℕ) (value : T) →
    ((q : ℕ) → lookup (nat_eq q) new ≡ cond (nat_eq at q) (Some value) (lookup (nat_eq q) old)) →
    items_of new places ≡ set (items_of old places) at (Some value)
items-set old new places at value updates =
    ext_get_or None (items_of new places) (set (items_of old places) at (Some value))
    (items-length new places ∙ sym (length-set (items_of old places) at (Some value) ∙ items-length old places))
    each
  where
    stands : (i : ℕ) → i < length (items_of new places) → get_or (items_of new places) i None ≡
        cond (nat_eq at i) (Some value) (lookup (nat_eq i) old)
    stands i h =
        get_or-map-range_with_len (λ q. lookup (nat_eq q) new) 0 places i i None (omega (arith, items-length new places)) (omega arith) ∙ updates i

    each : (i : ℕ) → i < length (items_of new places) → get_or (items_of new places) i None ≡
        get_or (set (items_of old places) at (Some value)) i None
    each i h =
        let below : i < places = omega (arith, items-length new places) in
        elim (cases_eq i at) [
          | inl e ↦
              stands i h ∙ ap (λ b. cond b (Some value) (lookup (nat_eq i) old)) (eq-eqb at i (sym e))
              ∙ sym (ap (λ j. get_or (set (items_of old places) at (Some value)) j None) e ∙ get_or-set_same (items_of old places) at (Some value) None
              (omega (arith, items-length old places, e)))
          | inr ne ↦
              stands i h ∙ ap (λ b. cond b (Some value) (lookup (nat_eq i) old)) (ne_eqb at i (λ e. ne (sym e)))
              ∙ sym (get_or-set_other (items_of old places) at i (Some value) None ne
              ∙ get_or-map-range_with_len (λ q. lookup (nat_eq q) old) 0 places i i None below (omega arith))
        ]

-- and nothing is held beyond, where that key is below
pub within-set : {T : Type 0} (old new : List (ℕ × T)) (places at : ℕ) (value : T) → at < places → IsWithinRow old places →
    ((q : ℕ) → lookup (nat_eq q) new ≡ cond (nat_eq at q) (Some value) (lookup (nat_eq q) old)) → IsWithinRow new places
within-set old new places at value below within updates = record {
  beyond = λ q h.
      updates q ∙ ap (λ b. cond b (Some value) (lookup (nat_eq q) old)) (ne_eqb at q (λ e. absurd (omega arith))) ∙ within.beyond q h;
}

-- the keys are just what a look-up finds
pub found : {T : Type 0} (held : List (ℕ × T)) (i at : ℕ) → slice_get (keys_of held) i ≡ Some at → IsSome (lookup (nat_eq at) held)
found [] i at h = cc
found (e ∷ es) zero at h =
    let same : e.0 ≡ at = cc in
    ap (λ b. is_some (cond b (Some e.1) (lookup (nat_eq at) es))) (eq-eqb at e.0 (sym same))
found (e ∷ es) (suc i) at h = found-more (nat_eq at e.0) e.1 (lookup (nat_eq at) es) (found es i at h)
  where
    found-more : {T : Type 0} (b : Bool) (v : T) (o : Option T) → IsSome o → IsSome (cond b (Some v) o)
    found-more true v o h = refl
    found-more false v o h = h

pub listed : {T : Type 0} (held : List (ℕ × T)) (at : ℕ) → IsSome (lookup (nat_eq at) held) → (i : ℕ) × (slice_get (keys_of held) i ≡ Some at)
listed [] at h = absurd (true≢false (sym h))
listed (e ∷ es) at h =
    elim (cases_eq at e.0) [
      | inl same ↦ (0, ap Some (sym same))
      | inr ne ↦ next (listed es at (rw (ne_eqb at e.0 ne) at h))
    ]
  where
    next : (i : ℕ) × (slice_get (keys_of es) i ≡ Some at) → (i : ℕ) × (slice_get (keys_of (e ∷ es)) i ≡ Some at)
    next p = (suc p.0, p.1)

-- a look-up finds only what stands in the row
pub touched : {T : Type 0} (held : List (ℕ × T)) (places spare : ℕ) → IsWithinRow held places → IsDistinct nat_eq (keys_of held) →
    AreTouched (record { items = items_of held places; keys = keys_of held; spare = spare })
touched {T} held places spare within distinct = record {
  once = λ i j before below same.
      true≢false (sym (eq-eqb (slice_index (keys_of held) i) (slice_index (keys_of held) j) same)
      ∙ apart_from_distinct nat_eq (keys_of held) i j 0 distinct before below);
  there = λ i at h.
      let some : IsSome (lookup (nat_eq at) held) = found held i at h in
      (below at some, ap is_some (items-at held places at within) ∙ some);
  all = λ at some. listed held at (ap is_some (sym (items-at held places at within)) ∙ some);
}
  where
    below : (at : ℕ) → IsSome (lookup (nat_eq at) held) → at < length (items_of held places)
    below at some =
        elim (cases_lt at places) [
          | inl h ↦ omega (arith, items-length held places)
          | inr h ↦ absurd (true≢false (sym some ∙ ap is_some (within.beyond at h)))
        ]

-- two loans end in the same, where they do with an item and without
pub same_loan : {D T : Type 0} (r : Option (MutBor T)) (o : Option T) (f g : T → D) (v w : D) → option_copied_mut r ≡ o →
    (IsSome o → (x : T) → f x ≡ g x) → v ≡ w → read_of (ghost_name_of r) f v ≡ read_of (ghost_name_of r) g w
same_loan None o f g v w e some none = ap inr none
same_loan (Some x) o f g v w e some none = λ i. inl (x.ghost_name, λ y. some (ap is_some (sym e)) y i)

-- where the keys are the same, no more is found
pub none_found : {T : Type 0} (old new : List (ℕ × T)) (at : ℕ) → keys_of new ≡ keys_of old → lookup (nat_eq at) old ≡ None →
    lookup (nat_eq at) new ≡ None
none_found {T} old new at same none = by (lookup (nat_eq at) new) refl
  where
    by : (o : Option T) → lookup (nat_eq at) new ≡ o → lookup (nat_eq at) new ≡ None
    by None e = e
    by (Some x) e =
        let p = listed new at (ap is_some e) in
        absurd (true≢false (sym (found old p.0 at (ap (λ ks. slice_get ks p.0) (sym same) ∙ p.1)) ∙ ap is_some none))

-- and nothing is held beyond
pub within-same_keys : {T : Type 0} (old new : List (ℕ × T)) (places : ℕ) → IsWithinRow old places → keys_of new ≡ keys_of old →
    IsWithinRow new places
within-same_keys old new places within same = record {
  beyond = λ q h. none_found old new q same (within.beyond q h);
}

pub within-empty : {T : Type 0} (held : List (ℕ × T)) (places : ℕ) → held ≡ [] → IsWithinRow held places
within-empty held places none = record { beyond = λ q h. ap (λ es. lookup (nat_eq q) es) none }

-- an insertion leaves nothing beyond, whether it succeeds or not
pub within-insert : {T X E P : Type 0} (old new : List (ℕ × T)) (places at : ℕ) (value : T) → at < places → IsWithinRow old places →
    (P → (q : ℕ) → lookup (nat_eq q) new ≡ cond (nat_eq at q) (Some value) (lookup (nat_eq q) old)) → (r : Result X E) → OnOk r P →
    OnErr r (new ≡ old) →
    IsWithinRow new places
within-insert old new places at value below within get (Ok x) ok err = within-set old new places at value below within (get ok)
within-insert old new places at value below within get (Err y) ok err = within-same_keys old new places within (ap keys_of err)

-- where a key was sought, it is found
pub key_there : (ks : List ℕ) (at : ℕ) (o : Option ℕ) → o ≡ position (nat_eq at) ks → IfSome o (λ i. slice_get ks i ≡ Some at)
key_there ks at None e = tt
key_there ks at (Some i) e =
    let there = position-Some (nat_eq at) ks i 0 (sym e) in
    slice_get-get_or ks i 0 there.0 ∙ ap Some (sym (eqb-true at (get_or ks i 0) there.1))

-- a key and its value are an entry
entry_there : {T : Type 0} (held : List (ℕ × T)) (i at : ℕ) (value : T) → slice_get (keys_of held) i ≡ Some at →
    slice_get (values_of held) i ≡ Some value → slice_get held i ≡ Some (at, value)
entry_there [] i at value key here = cc
entry_there (e ∷ es) zero at value key here =
    let same_key : e.0 ≡ at = cc in
    let same_value : e.1 ≡ value = cc in
    λ j. Some (same_key j, same_value j)
entry_there (e ∷ es) (suc i) at value key here = entry_there es i at value key here

-- where a value is written at a key's index, a look-up finds what it found but at this key
pub updates-there : {T S : Type 0} (m : IndexMap ℕ T S) (i at : ℕ) (w : T) → IsUnique nat_eq m → slice_get (keys m) i ≡ Some at →
    (o : Option T) → slice_get (values m) i ≡ o → IsSome o →
    (q : ℕ) → lookup (nat_eq q) (with_value_at m i w).entries ≡ cond (nat_eq at q) (Some w) (lookup (nat_eq q) m.entries)
updates-there m i at w unique key None here some = absurd (true≢false (sym some))
updates-there m i at w unique key (Some v) here some =
    (updates-with_value_at m i w nat_eq_equiv unique at v (entry_there m.entries i at v key here)).0
