-- What the close puts together.
use Rattle.std.proofs.Common.{◌≡◌, inl, inr, ℕ, ◌+◌, ◌≤◌, List, [], ◌∷◌, ◌++◌, length, get_or, slice_get, Bool, true, false, ◌||◌, Option, Some, None}
use Rattle.std.proofs.Common.{refl, sym, ap, ◌∙◌, subst, arith}
use Rattle.std.proofs.lemmas.Option.{slice_get_within}
use Rattle.trials.specs.Terms.{Plan}
use Rattle.trials.specs.declared.verdict.TrialResult.{TrialResult}
use Rattle.desk.specs.Counting.{times}
use Rattle.desk.specs.Seats.{DeskSeatView}
use Rattle.desk.specs.Closing.{IsPlace, claims_of, any_told}
use Rattle.desk.specs.inner.Keeping.{IsPlaceUpTo, Collects}
use Rattle.desk.proofs.Seating.{at_cases}

-- one seat more
pub place_more : (plan : Plan) (ss : List DeskSeatView) (m k : ℕ) (s : DeskSeatView) (o new : Option TrialResult) → slice_get ss m ≡ Some s
    → IsPlaceUpTo plan ss m k o → Collects plan s k o new → IsPlaceUpTo plan ss (m + 1) k new
place_more plan ss m k s o new at h c = by_case (get_or s.posted k false) refl
  where
    stays : (x : Option TrialResult) → (get_or s.posted k false ≡ false) → IsPlaceUpTo plan ss m k x → IsPlaceUpTo plan ss (m + 1) k x
    stays None isnt p = λ i t lt got posted. elim (at_cases i m) [
      | inl e ↦
          let same : s ≡ t = cc (sym at, ap (λ j. slice_get ss j) e, got) in
          let clash : false ≡ true = sym isnt ∙ (ap (λ u. get_or u.posted k false) same ∙ posted) in absurd (cc clash)
      | inr e ↦ p i t (omega (arith, lt, e)) got posted
    ]
    stays (Some r) isnt p = p

    by_case : (b : Bool) → get_or s.posted k false ≡ b → IsPlaceUpTo plan ss (m + 1) k new
    by_case true did = let q = c.1 did in subst (λ y. IsPlaceUpTo plan ss (m + 1) k y) (sym q.1) (q.3, m, s, at, did, q.2)
    by_case false isnt = subst (λ y. IsPlaceUpTo plan ss (m + 1) k y) (sym (c.0 (λ did. absurd (cc (sym isnt ∙ did))))) (stays o isnt h)

pub place_all : (plan : Plan) (ss : List DeskSeatView) (m k : ℕ) (o : Option TrialResult) → length ss ≤ m → IsPlaceUpTo plan ss m k o → IsPlace plan ss k o
place_all plan ss m k None long h = λ q. let lt = slice_get_within ss q.0 q.1 q.2 in h q.0 q.1 (omega (arith, lt, long)) q.2 q.3
place_all plan ss m k (Some r) long h = h

pub claims_of-push : (x : ℕ) (ss : List DeskSeatView) (s : DeskSeatView) → claims_of x (ss ++ s ∷ []) ≡ claims_of x ss + times x s.claimed
claims_of-push x [] s = omega arith
claims_of-push x (t ∷ ss) s = omega (arith, claims_of-push x ss s)

or_swap : (a b c : Bool) → (a || (b || c)) ≡ ((a || c) || b)
or_swap true b c = refl
or_swap false true true = refl
or_swap false true false = refl
or_swap false false c = or_false c
  where
    or_false : (d : Bool) → d ≡ (d || false)
    or_false true = refl
    or_false false = refl

any_told-push : (ss : List DeskSeatView) (s : DeskSeatView) → any_told (ss ++ s ∷ []) ≡ (any_told ss || s.told)
any_told-push [] s = or_nil s.told
  where
    or_nil : (d : Bool) → (d || false) ≡ d
    or_nil true = refl
    or_nil false = refl
any_told-push (t ∷ ss) s = ap (λ b. t.told || b) (any_told-push ss s) ∙ or_assoc t.told (any_told ss) s.told
  where
    or_assoc : (a b c : Bool) → (a || (b || c)) ≡ ((a || b) || c)
    or_assoc true b c = refl
    or_assoc false b c = refl

-- a seat goes from the row to the token
pub told_moves : (over : Bool) (ss : List DeskSeatView) (s : DeskSeatView) → (over || any_told (ss ++ s ∷ [])) ≡ ((over || s.told) || any_told ss)
told_moves over ss s = ap (λ b. over || b) (any_told-push ss s) ∙ or_swap over (any_told ss) s.told
