-- Where hints say exactly where places stand, a look at one place tells what is found.
use Rattle.std.proofs.Common.{◌≡◌, ◌≢◌, ℕ, ◌%◌, List, [], ◌∷◌, Option, None, Some, Bool, true}
use Rattle.std.proofs.Common.{refl, sym, ap, ◌∙◌, subst, zero, suc, nat_eq, slice_get, slice_index, is_some, IfSome}
use Rattle.std.specs.Map.{keys_of, lookup}
use Rattle.rows.specs.inner.Items.{AreHinted, AreItemsKept, IsWithinRow}
use Rattle.rows.proofs.Held.{listed, within-same_keys}

-- a key has an entry
entry_of : {T : Type 0} (held : List (ℕ × T)) (i at : ℕ) → slice_get (keys_of held) i ≡ Some at →
    (v : T) × (slice_get held i ≡ Some (at, v))
entry_of [] i at h = absurd cc
entry_of (e ∷ es) zero at h =
    let same : e.0 ≡ at = cc in
    (e.1, λ j. Some (same j, e.1))
entry_of (e ∷ es) (suc i) at h = entry_of es i at h

-- where another or nothing stands as the hint for a place says, it isn't there
pub missing : {T : Type 0} (held : List (ℕ × T)) (hints : List ℕ) (at index : ℕ) → AreHinted (keys_of held) hints →
    index ≡ slice_index hints (at % 64) → (o : Option (ℕ × T)) → o ≡ slice_get held index → IfSome o (λ e. e.0 ≢ at) →
    lookup (nat_eq at) held ≡ None
missing {T} held hints at index hinted hint o there other = by (lookup (nat_eq at) held) refl
  where
    same_key : (o : Option (ℕ × T)) → IfSome o (λ e. e.0 ≢ at) → (v : T) → o ≡ Some (at, v) → ⊥
    same_key None other v e = absurd cc
    same_key (Some x) other v e = other cc

    by : (found : Option T) → lookup (nat_eq at) held ≡ found → lookup (nat_eq at) held ≡ None
    by None e = e
    by (Some x) e =
        let p = listed held at (ap is_some e) in
        let entry = entry_of held p.0 at p.1 in
        let same : index ≡ p.0 = hint ∙ hinted.each p.0 at p.1 in
        absurd (same_key o other entry.0 (there ∙ ap (λ i. slice_get held i) same ∙ entry.1))

-- what is kept is so of the same keys with other items
pub kept-same_keys : {T : Type 0} (old new : List (ℕ × T)) (places : ℕ) (hints : List ℕ) (exact : Bool) → IsWithinRow old places →
    (exact ≡ true → AreHinted (keys_of old) hints) → keys_of new ≡ keys_of old → AreItemsKept new places hints exact
kept-same_keys old new places hints exact within hinted same = record {
  within = within-same_keys old new places within same;
  hinted = λ e. subst (λ ks. AreHinted ks hints) (sym same) (hinted e);
}

-- nothing is hinted of no key
pub hinted-none : (ks hints : List ℕ) → ks ≡ [] → AreHinted ks hints
hinted-none ks hints none = record { each = λ i at h. absurd (no i at (ap (λ l. slice_get l i) (sym none) ∙ h)) }
  where
    no : (i at : ℕ) → slice_get [] i ≡ Some at → ⊥
    no i at h = absurd cc
