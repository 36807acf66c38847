-- What `work` has done so far.
use Rattle.std.proofs.Common.{◌≡◌, ◌≢◌, inl, inr, ℕ, zero, suc, ◌+◌, ◌<◌, ◌≤◌, List, [], ◌∷◌, ◌++◌, length, get_or, set, true, false, Some, None}
use Rattle.std.proofs.Common.{refl, sym, ap, ◌∙◌, subst, arith, append_assoc, length-append}
use Rattle.std.proofs.lemmas.List.{get_or-set_other}
use Rattle.std.specs.List.Sorted.{IsStrictlyIncreasing}
use Rattle.trials.specs.declared.verdict.TrialResult.{TrialResult}
use Rattle.desk.specs.Counting.{times}
use Rattle.desk.specs.Seats.{ClaimsInOrder, DeskSeatView, HasPosted, Knows, numbers_of, with_claim, with_post, told_no_more}
use Rattle.desk.specs.Calls.{Claims}
use Rattle.desk.specs.Working.{Works}
use Rattle.desk.proofs.Drawing.{times-append}
use Rattle.desk.proofs.Seating.{at_cases, times_here, times_one, times_other}

-- one number more was claimed and posted
pub works_more : (old s new : DeskSeatView) (mine : List ℕ) (k : ℕ) (r : TrialResult) → Works old s mine → new ≡ with_post (with_claim s k) k r → HasPosted new k
    → ((q : TrialResult) → ¬ Knows (with_claim s k) k q) → Works old new (mine ++ k ∷ [])
works_more old s new mine k r h e here fresh =
    let posted : new.posted ≡ set s.posted k true = ap (λ v. v.posted) e in
    let known : new.known ≡ set s.known k (Some r) = ap (λ v. v.known) e in
    let kept : (x : ℕ) → x ≢ k → get_or new.posted x false ≡ get_or s.posted x false = λ x ne. ap (λ l. get_or l x false) posted ∙ get_or-set_other
    s.posted k x true false ne in
    record {
      desk = ap (λ v. v.desk) e ∙ h.desk;
      claimed = ap (λ v. v.claimed) e ∙ (ap (λ l. l ++ k ∷ []) h.claimed ∙ append_assoc old.claimed mine (k ∷ []));
      posted = λ x p. elim (at_cases x k) [
        | inl q ↦ subst (λ j. HasPosted new j) (sym q) here
        | inr ne ↦ kept x ne ∙ h.posted x (omega (arith, p, times-append x mine (k ∷ []), times_other x k ne))
      ];
      stands = λ x p. elim (at_cases x k) [
        | inl q ↦ subst (λ j. HasPosted new j) (sym q) here
        | inr ne ↦ kept x ne ∙ h.stands x p
      ];
      others = λ x p. elim (at_cases x k) [
        | inl q ↦ inr (omega (arith, times-append x mine (k ∷ []), ap (λ j. times j (k ∷ [])) q, times_one k))
        | inr ne ↦ elim (h.others x (sym (kept x ne) ∙ p)) [ inl a ↦ inl a | inr b ↦ inr (omega (arith, b, times-append x mine (k ∷ []))) ]
      ];
      known = λ x q p. elim (at_cases x k) [
        | inl at ↦ absurd (fresh q (subst (λ j. Knows s j q) at (h.known x q p)))
        | inr ne ↦ let was = h.known x q p in (ap (λ l. get_or l x None) known ∙ (get_or-set_other s.known k x (Some r) None ne ∙ was.0), was.1)
      ];
    }

pub works_told : (old s new : DeskSeatView) (mine : List ℕ) → Works old s mine → new ≡ told_no_more s → Works old new mine
works_told old s new mine h e = record {
  desk = ap (λ v. v.desk) e ∙ h.desk;
  claimed = ap (λ v. v.claimed) e ∙ h.claimed;
  posted = λ x p. ap (λ v. get_or v.posted x false) e ∙ h.posted x p;
  stands = λ x p. ap (λ v. get_or v.posted x false) e ∙ h.stands x p;
  others = λ x p. h.others x (sym (ap (λ v. get_or v.posted x false) e) ∙ p);
  known = λ x q p. let was = h.known x q p in (ap (λ v. get_or v.known x None) e ∙ was.0, was.1);
}

at_least : (xs : List ℕ) (k : ℕ) → IsStrictlyIncreasing xs → k < length xs → k ≤ get_or xs k 0
at_least xs zero up lt = omega arith
at_least xs (suc k) up lt =
    let rest = at_least xs k up (omega (arith, lt)) in
    let e : k + 1 ≡ suc k = omega arith in
    let next : get_or xs k 0 < get_or xs (suc k) 0 = subst (λ j. get_or xs k 0 < get_or xs j 0) e (up k (omega (arith, lt))) in omega (arith, rest, next)

-- numbers that rise and stay below n are no more than n
pub few : (xs : List ℕ) (n : ℕ) → IsStrictlyIncreasing xs → ((x : ℕ) → 0 < times x xs → x < n) → length xs ≤ n
few xs n up below = by_case (length xs) refl
  where
    by_case : (m : ℕ) → length xs ≡ m → length xs ≤ n
    by_case zero e = omega (arith, e)
    by_case (suc m) e =
        let lt : m < length xs = omega (arith, e) in
        let a = at_least xs m up lt in
        let b = below (get_or xs m 0) (times_here xs m lt) in omega (arith, a, b, e)

-- a seat that has claimed one number more hadn't claimed all
pub room : (old new : DeskSeatView) (number : ℕ) → ClaimsInOrder new → Claims old number new → length old.claimed + 1 ≤ numbers_of old.desk
room old new number order claim =
    let desk = ap (λ s. numbers_of s.desk) claim.claims in
    let all = few new.claimed (numbers_of new.desk) order.rises order.below in
    let long = ap (λ s. length s.claimed) claim.claims in omega (arith, desk, all, long, length-append old.claimed (number ∷ []))
