use Rattle.std.proofs.Common.{◌≡◌, ℕ, List, [], ◌∷◌, ◌++◌, Option, None, Some, Bool, true, false, cond, true≢false, length, map, get_or}
use Rattle.std.proofs.Common.{refl, sym, ap, subst, ◌∙◌, arith, nat_eq, slice_get, is_some, append_assoc, append-nil}
use Rattle.std.specs.List.{IsDistinct, range_with_len}
use Rattle.std.specs.Map.{keys_of, lookup}
use Rattle.std.specs.Option.{option_map}
use Rattle.std.proofs.lemmas.Bool.{eq-eqb}
use Rattle.std.proofs.lemmas.List.{get_or_append_left, length-append, map-append}
use Rattle.std.proofs.lemmas.Map.Keys.{apart_from_distinct}
use Rattle.std.proofs.lemmas.Option.{get_or_from_slice_get, slice_get_within}
use Rattle.std.proofs.Math.Seq.{get_or-append_seam}
use Rattle.rows.specs.inner.Items.{items_of, seen_entries}
use Rattle.rows.proofs.Held.{listed}

module _ {T S : Type 0} (seen : T → S) where
  -- a look at the items leaves the keys
  keys-seen : (es : List (ℕ × T)) → keys_of (seen_entries seen es) ≡ keys_of es
  keys-seen [] = refl
  keys-seen (e ∷ es) = ap (λ ks. e.0 ∷ ks) (keys-seen es)

  lookup-seen : (q : ℕ) (es : List (ℕ × T)) → lookup (nat_eq q) (seen_entries seen es) ≡ option_map seen (lookup (nat_eq q) es)
  lookup-seen q [] = refl
  lookup-seen q (e ∷ es) = ap (cond (nat_eq q e.0) (Some (seen e.1))) (lookup-seen q es) ∙ inside (nat_eq q e.0) (lookup (nat_eq q) es)
    where
      inside : (b : Bool) (o : Option T) → cond b (Some (seen e.1)) (option_map seen o) ≡ option_map seen (cond b (Some e.1) o)
      inside true o = refl
      inside false o = refl

  -- so it may be taken before or after the row is made
  pub items-seen : (es : List (ℕ × T)) (places : ℕ) → map (option_map seen) (items_of es places) ≡ items_of (seen_entries seen es) places
  items-seen es places = each (range_with_len 0 places)
    where
      each : (ks : List ℕ) → map (option_map seen) (map (λ at. lookup (nat_eq at) es) ks) ≡ map (λ at. lookup (nat_eq at) (seen_entries seen es)) ks
      each [] = refl
      each (k ∷ ks) = λ i. sym (lookup-seen k es) i ∷ each ks i

  -- entries that look the same have the same keys, and make rows that look the same
  pub keys-alike : (es fs : List (ℕ × T)) → seen_entries seen es ≡ seen_entries seen fs → keys_of es ≡ keys_of fs
  keys-alike es fs same = sym (keys-seen es) ∙ ap keys_of same ∙ keys-seen fs

  pub items-alike : (es fs : List (ℕ × T)) (places : ℕ) → seen_entries seen es ≡ seen_entries seen fs →
      map (option_map seen) (items_of es places) ≡ map (option_map seen) (items_of fs places)
  items-alike es fs places same = items-seen es places ∙ ap (λ ss. items_of ss places) same ∙ sym (items-seen fs places)

  -- the next key is none of those that were copied
  pub not_copied : (all done rest : List (ℕ × T)) (at : ℕ) (value : T) → IsDistinct nat_eq (keys_of all) →
      seen_entries seen done ++ seen_entries seen ((at, value) ∷ rest) ≡ seen_entries seen all → lookup (nat_eq at) done ≡ None
  not_copied all done rest at value distinct copied = by (lookup (nat_eq at) done) refl
    where
      in_order : keys_of done ++ at ∷ keys_of rest ≡ keys_of all
      in_order =
          (λ i. sym (keys-seen done) i ++ sym (keys-seen ((at, value) ∷ rest)) i)
          ∙ sym (map-append (λ e. e.0) (seen_entries seen done) (seen_entries seen ((at, value) ∷ rest)))
          ∙ ap keys_of copied
          ∙ keys-seen all

      twice : (i : ℕ) → slice_get (keys_of done) i ≡ Some at → IsDistinct nat_eq (keys_of done ++ at ∷ keys_of rest) → true ≡ false
      twice i here apart =
          let within = slice_get_within (keys_of done) i at here in
          let first : get_or (keys_of done ++ at ∷ keys_of rest) i 0 ≡ at =
          get_or_append_left (keys_of done) (at ∷ keys_of rest) 0 i within ∙ get_or_from_slice_get (keys_of done) i at 0 here in
          let second : get_or (keys_of done ++ at ∷ keys_of rest) (length (keys_of done)) 0 ≡ at =
          get_or-append_seam (keys_of done) at (keys_of rest) 0 in
          sym (eq-eqb _ _ (first ∙ sym second))
          ∙ apart_from_distinct nat_eq (keys_of done ++ at ∷ keys_of rest) i (length (keys_of done)) 0 apart within
          (omega (arith, length-append (keys_of done) (at ∷ keys_of rest)))

      by : (o : Option T) → lookup (nat_eq at) done ≡ o → lookup (nat_eq at) done ≡ None
      by None e = e
      by (Some x) e =
          let p = listed done at (ap is_some e) in
          absurd (true≢false (twice p.0 p.1 (subst (IsDistinct nat_eq) (sym in_order) distinct)))

  -- one more entry is copied
  pub copied-more : (all done rest new : List (ℕ × T)) (at : ℕ) (value copy : T) →
      seen_entries seen done ++ seen_entries seen ((at, value) ∷ rest) ≡ seen_entries seen all → seen copy ≡ seen value →
      new ≡ done ++ (at, copy) ∷ [] → seen_entries seen new ++ seen_entries seen rest ≡ seen_entries seen all
  copied-more all done rest new at value copy copied same made =
      ap (λ es. seen_entries seen es ++ seen_entries seen rest) made
      ∙ ap (λ ss. ss ++ seen_entries seen rest) (map-append (λ e. (e.0, seen e.1)) done ((at, copy) ∷ []))
      ∙ append_assoc (seen_entries seen done) ((at, seen copy) ∷ []) (seen_entries seen rest)
      ∙ ap (λ s. seen_entries seen done ++ (at, s) ∷ seen_entries seen rest) same
      ∙ copied

  -- all entries are copied
  pub all_copied : (all done rest : List (ℕ × T)) → rest ≡ [] → seen_entries seen done ++ seen_entries seen rest ≡ seen_entries seen all →
      seen_entries seen done ≡ seen_entries seen all
  all_copied all done rest none copied =
      sym (append-nil (seen_entries seen done)) ∙ ap (λ r. seen_entries seen done ++ seen_entries seen r) (sym none) ∙ copied
