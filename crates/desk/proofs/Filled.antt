-- Where every number was claimed and each seat posted what it claimed, each place is filled; and then the list is a batch's.
use Rattle.std.proofs.Common.{◌≡◌, ℕ, zero, suc, ◌<◌, List, [], ◌∷◌, length, map, slice_get, get_or, true, Option, Some, None, All, refl, ap, ◌∙◌, subst, arith}
use Rattle.std.proofs.lemmas.Bool.Decides.{nat_tests}
use Rattle.std.proofs.lemmas.List.{length-map}
use Rattle.std.proofs.lemmas.Option.{slice_get-get_or, slice_get_within, get_or_from_slice_get}
use Rattle.trials.specs.Trial.{AreResults}
use Rattle.trials.specs.declared.verdict.TrialResult.{TrialResult}
use Rattle.trials.specs.Terms.{Plan}
use Rattle.desk.specs.Counting.{times, once_below}
use Rattle.desk.specs.Seats.{DeskSeatView}
use Rattle.desk.specs.Closing.{IsPlace, ArePlaces, AreClaimed, AreFilled, HasPostedAll, claims_of, any_told}

claimed_by : (x : ℕ) (ss : List DeskSeatView) → 0 < claims_of x ss → (i : ℕ) × (s : DeskSeatView) × (slice_get ss i ≡ Some s) × (0 < times x s.claimed)
claimed_by x [] p = absurd (omega (arith, p))
claimed_by x (s ∷ ss) p = by_case (times x s.claimed) refl (λ q. claimed_by x ss q)
  where
    by_case : (n : ℕ) → times x s.claimed ≡ n → (0 < claims_of x ss → (i : ℕ) × (t : DeskSeatView) × (slice_get ss i ≡ Some t) × (0 < times x t.claimed))
        → (i : ℕ) × (t : DeskSeatView) × (slice_get (s ∷ ss) i ≡ Some t) × (0 < times x t.claimed)
    by_case zero e rest = let q = rest (omega (arith, e, p)) in (suc q.0, q.1, q.2, q.3)
    by_case (suc n) e rest = (0, s, refl, omega (arith, e))

one_there : (x n : ℕ) → x < n → 0 < once_below x n
one_there x n lt = grind (arith, nat_tests)

all_at : (P : DeskSeatView → Type 0) (ss : List DeskSeatView) (i : ℕ) (s : DeskSeatView) → All P ss → slice_get ss i ≡ Some s → P s
all_at P ss i s h e = subst P (get_or_from_slice_get ss i s s e) (h i s (slice_get_within ss i s e))

-- a place isn't empty
stands : (plan : Plan) (n : ℕ) (ss : List DeskSeatView) (k : ℕ) (o : Option TrialResult) → AreClaimed n ss → any_told ss ≡ true → All HasPostedAll ss
    → k < n → IsPlace plan ss k o
    → (r : TrialResult) × (o ≡ Some r)
stands plan n ss k (Some r) claims told posted lt place = (r, refl)
stands plan n ss k None claims told posted lt place =
    let c = claims.all told in
    let each = claims.each k in
    let q = claimed_by k ss (omega (arith, each, one_there k claims.c (omega (arith, c, lt)))) in absurd
    (place (q.0, q.1, q.2, all_at HasPostedAll ss q.0 q.1 posted q.2 k q.3))

-- a list of which no place is empty
gathered : (places : List (Option TrialResult)) → ((k : ℕ) (o : Option TrialResult) → slice_get places k ≡ Some o → (r : TrialResult) × (o ≡ Some r))
    → AreFilled places
gathered [] h = ([], refl)
gathered (o ∷ places) h =
    let first = h 0 o refl in
    let rest = gathered places (λ k p e. h (suc k) p e) in (first.0 ∷ rest.0, ap (λ x. x ∷ places) first.1 ∙ ap (λ l. Some first.0 ∷ l) rest.1)

pub filled : (plan : Plan) (n : ℕ) (ss : List DeskSeatView) (places : List (Option TrialResult)) → AreClaimed n ss → ArePlaces plan n ss places
    → any_told ss ≡ true → All HasPostedAll ss
    → AreFilled places
filled plan n ss places claims h told posted =
    gathered places (λ k o e. let lt = slice_get_within places k o e in stands plan n ss k o claims told posted (omega (arith, lt, h.count)) (h.each k o e))

some_of : (results : List TrialResult) (k : ℕ) (r : TrialResult) → slice_get results k ≡ Some r
    → slice_get (map (λ found. Some found) results) k ≡ Some (Some r)
some_of [] k r e = absurd (cc e)
some_of (x ∷ xs) zero r e = let same : x ≡ r = cc e in ap (λ y. Some (Some y)) same
some_of (x ∷ xs) (suc k) r e = some_of xs k r e

pub batched : (plan : Plan) (n : ℕ) (ss : List DeskSeatView) (places : List (Option TrialResult)) → ArePlaces plan n ss places
    → (results : List TrialResult) → places ≡ map (λ found. Some found) results
    → AreResults plan.terms plan.tree n results
batched plan n ss places h results e = record {
  count = let a = ap (λ l. length l) e in omega (arith, a, h.count, length-map results (λ (found : TrialResult). Some found));
  each = λ k r at. (h.each k (Some r) (ap (λ l. slice_get l k) e ∙ some_of results k r at)).0;
}

-- the places, as the list is read
pub placed : (plan : Plan) (n : ℕ) (ss : List DeskSeatView) (places : List (Option TrialResult)) → length places ≡ n
    → ((k : ℕ) → k < n → IsPlace plan ss k (get_or places k None)) → ArePlaces plan n ss places
placed plan n ss places long h = record {
  count = long;
  each = λ k o e.
      let lt : k < length places = slice_get_within places k o e in
      let there : slice_get places k ≡ Some (get_or places k None) = slice_get-get_or places k None lt in
      let same : get_or places k None ≡ o = cc (there, e) in subst (λ x. IsPlace plan ss k x) same (h k (omega (arith, lt, long)));
}
