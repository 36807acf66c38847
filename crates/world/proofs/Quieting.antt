-- Whether nothing is on the wires of any block.
use Rattle.std.proofs.Common.{◌≡◌, ℕ, ◌<◌, ◌≤◌, List, [], ◌∷◌, Option, Some, None, IsSome, Bool, slice_get, subst}
use Rattle.std.specs.Option.{is_some}
use Rattle.std.proofs.Common.{true, false, ◌&&◌, refl, ap, sym, ◌∙◌, zero, suc, arith}
use Rattle.std.proofs.Common.{length, replicate}
use Rattle.network.specs.Traffic.{all_nil, is_quiet}
use Rattle.blocks.specs.View.{BlockView}
use Rattle.world.specs.Looks.{all_quiet}
use Rattle.world.specs.View.{state_or, states}
use Rattle.world.specs.inner.Found.{is_quiet_kept}
use Rattle.world.specs.inner.Holding.{kept_at}
use Rattle.world.proofs.Keeping.{slice_get-some}
use Rattle.world.proofs.Openings.{get-below}

none-sent : (n : ℕ) → all_nil (replicate n []) ≡ true
none-sent zero = refl
none-sent (suc n) = none-sent n

quiet-as-kept : (caches v : ℕ) (k : Option BlockView) → is_quiet (state_or caches v k).traffic ≡ is_quiet_kept k
quiet-as-kept caches v None = ap (λ b. b && true) (none-sent caches)
quiet-as-kept caches v (Some k) = refl

and-true : (a b : Bool) → a ≡ true → b ≡ true → (a && b) ≡ true
and-true a b e f = ap (λ x. x && b) e ∙ f

and-false : (a b : Bool) → b ≡ false → (a && b) ≡ false
and-false true b e = e
and-false false b e = refl

-- where it is so of each block
pub all-quiet : (caches : ℕ) (values : List ℕ) (ks : List (Option BlockView)) →
    ((i : ℕ) → i < length values → is_quiet_kept (kept_at ks i) ≡ true) → true ≡ all_quiet (states caches values ks)
all-quiet caches [] ks h = refl
all-quiet caches (v ∷ values) [] h =
    sym (and-true _ _ (quiet-as-kept caches v None) (sym (all-quiet caches values [] (λ i lt. refl))))
all-quiet caches (v ∷ values) (k ∷ ks) h =
    sym (and-true _ _ (quiet-as-kept caches v k ∙ h 0 (omega arith)) (sym (all-quiet caches values ks (λ i lt. h (suc i) (omega (arith, lt))))))

-- where it isn't so of one
pub not-quiet : (caches : ℕ) (values : List ℕ) (ks : List (Option BlockView)) (i : ℕ) → i < length values → is_quiet_kept (kept_at ks i) ≡ false →
    false ≡ all_quiet (states caches values ks)
not-quiet caches [] ks i lt e = absurd (omega (arith, lt))
not-quiet caches (v ∷ values) [] zero lt e = absurd (cc e)
not-quiet caches (v ∷ values) [] (suc i) lt e = sym (and-false _ _ (sym (not-quiet caches values [] i (omega (arith, lt)) e)))
not-quiet caches (v ∷ values) (k ∷ ks) zero lt e = sym (ap (λ b. b && all_quiet (states caches values ks)) (quiet-as-kept caches v k ∙ e))
not-quiet caches (v ∷ values) (k ∷ ks) (suc i) lt e = sym (and-false _ _ (sym (not-quiet caches values ks i (omega (arith, lt)) e)))

-- where it is so of each block that is kept, of which these are the numbers
pub all-kept-quiet : (caches : ℕ) (values keys : List ℕ) (ks : List (Option BlockView)) (n : ℕ) → length keys ≤ n →
    ((at : ℕ) → IsSome (kept_at ks at) → (j : ℕ) × (slice_get keys j ≡ Some at)) →
    ((j at : ℕ) → j < n → slice_get keys j ≡ Some at → is_quiet_kept (kept_at ks at) ≡ true) → true ≡ all_quiet (states caches values ks)
all-kept-quiet caches values keys ks n end all quiet = all-quiet caches values ks (λ i lt. by i (kept_at ks i) refl)
  where
    by : (i : ℕ) (o : Option BlockView) → kept_at ks i ≡ o → is_quiet_kept (kept_at ks i) ≡ true
    by i None is = ap is_quiet_kept is
    by i (Some k) is =
        let found = all i (ap is_some is) in
        quiet found.0 i (omega (arith, end, get-below keys found.0 i found.1)) found.1

-- where it isn't so of one of these
pub kept-not-quiet : (caches : ℕ) (values keys : List ℕ) (ks : List (Option BlockView)) (n : ℕ) → length ks ≡ length values → n < length keys →
    ((j at : ℕ) → slice_get keys j ≡ Some at → at < length ks) →
    ((at : ℕ) → slice_get keys n ≡ Some at → false ≡ is_quiet_kept (kept_at ks at)) → false ≡ all_quiet (states caches values ks)
kept-not-quiet caches values keys ks n many low there loud = by (slice_get keys n) refl
  where
    by : (o : Option ℕ) → slice_get keys n ≡ o → false ≡ all_quiet (states caches values ks)
    by None is = let some = subst IsSome is (slice_get-some keys n low) in absurd (cc some)
    by (Some at) is = not-quiet caches values ks at (omega (arith, there n at is, many)) (sym (loud at is))
