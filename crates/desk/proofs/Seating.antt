-- What a seat keeps, after a claim, a post and a look.
use Rattle.std.proofs.Common.{◌≡◌, ◌≢◌, ◌⊎◌, inl, inr, ℕ, zero, suc, ◌+◌, ◌<◌, List, [], ◌∷◌, ◌++◌, length, map, replicate, get_or, slice_set, nat_lt}
use Rattle.std.proofs.Common.{Bool, true, false, Option, Some, None, refl, sym, ap, ◌∙◌, subst, arith, length-append}
use Rattle.std.proofs.lemmas.Bool.Decides.{nat_tests}
use Rattle.std.proofs.lemmas.List.{get_or-set_same, get_or-set_other, length-set, get_or_append_left, get_or_push, set-get_or, map-set, length-replicate}
use Rattle.std.proofs.lemmas.List.Elements.{All-replicate}
use Rattle.std.specs.Prelude.{All, MatchOption}
use Rattle.std.specs.List.Sorted.{IsStrictlyIncreasing}
use Rattle.once_cell.specs.Once.{Agrees}
use Rattle.atomic_table.specs.Table.{Me}
use Rattle.trials.specs.declared.verdict.TrialResult.{TrialResult}
use Rattle.desk.specs.declared.word.WordTokenView.{WordTokenView}
use Rattle.desk.specs.declared.seats.NumberStage.{NumberStage}
use Rattle.desk.specs.declared.seats.NumberStage.TheVariants.{Free, Claimed, Posted}
use Rattle.atomic_table.specs.Seated.{TableId}
use Rattle.desk.specs.Counting.{times}
use Rattle.desk.specs.Opening.{AreWithinLimits, OpensDesk}
use Rattle.desk.specs.Seats.{DeskView, DeskSeatView, new_seat, numbers_of, told_no_more, with_claim, with_post}
use Rattle.desk.specs.inner.Drawing.{fresh}
use Rattle.desk.specs.inner.Keeping.{IsDeskSeat, IsOwn, is_claimed, is_posted}
use Rattle.desk.proofs.Drawing.{times-append}

pub at_cases : (k n : ℕ) → (k ≡ n) ⊎ (k ≢ n)
at_cases zero zero = inl refl
at_cases zero (suc n) = inr (λ e. absurd (omega (arith, e)))
at_cases (suc k) zero = inr (λ e. absurd (omega (arith, e)))
at_cases (suc k) (suc n) = elim (at_cases k n) [ inl e ↦ inl (ap suc e) | inr e ↦ inr (λ p. e (omega (arith, p))) ]

pub times_here : (xs : List ℕ) (j : ℕ) → j < length xs → 0 < times (get_or xs j 0) xs
times_here [] j lt = absurd (omega (arith, lt))
times_here (x ∷ xs) zero lt = grind (arith, nat_tests)
times_here (x ∷ xs) (suc j) lt = let rest = times_here xs j (omega (arith, lt)) in omega (arith, rest)

pub times_one : (k : ℕ) → times k (k ∷ []) ≡ 1
times_one k = grind (arith, nat_tests)

pub times_other : (x k : ℕ) → x ≢ k → times x (k ∷ []) ≡ 0
times_other x k ne = grind (arith, nat_tests)

pub rises_more : (xs : List ℕ) (k : ℕ) → IsStrictlyIncreasing xs → ((x : ℕ) → 0 < times x xs → x < k) → IsStrictlyIncreasing (xs ++ k ∷ [])
rises_more xs k up below j lt = by_case (at_cases (j + 1) (length xs))
  where
    inside : j + 1 < length xs → get_or (xs ++ k ∷ []) j 0 < get_or (xs ++ k ∷ []) (j + 1) 0
    inside in' = rw (get_or_append_left xs (k ∷ []) 0 j (omega (arith, in')), get_or_append_left xs (k ∷ []) 0 (j + 1) in') (up j in')

    by_case : ((j + 1 ≡ length xs) ⊎ (j + 1 ≢ length xs)) → get_or (xs ++ k ∷ []) j 0 < get_or (xs ++ k ∷ []) (j + 1) 0
    by_case (inl e) =
        rw (get_or_append_left xs (k ∷ []) 0 j (omega (arith, e)), get_or_push xs k 0 (j + 1) (sym e))
        (below (get_or xs j 0) (times_here xs j (omega (arith, e))))
    by_case (inr e) = inside (omega (arith, e, lt, length-append xs (k ∷ [])))

pub below_more : (xs : List ℕ) (k count : ℕ) → k < count → ((x : ℕ) → 0 < times x xs → x < count) → (x : ℕ) → 0 < times x (xs ++ k ∷ []) → x < count
below_more xs k count lt below x there = by_case (at_cases x k)
  where
    by_case : ((x ≡ k) ⊎ (x ≢ k)) → x < count
    by_case (inl e) = omega (arith, e, lt)
    by_case (inr e) = below x (omega (arith, there, times-append x xs (k ∷ []), times_other x k e))

pub more_there : (xs : List ℕ) (k x : ℕ) → 0 < times x xs → 0 < times x (xs ++ k ∷ [])
more_there xs k x there = omega (arith, there, times-append x xs (k ∷ []))

pub true_above : (n : ℕ) → 0 < n → true ≡ nat_lt 0 n
true_above n p = grind (arith, nat_tests)

pub above : (n : ℕ) → nat_lt 0 n ≡ true → 0 < n
above n p = grind (arith, nat_tests)

same_view : (p p' n n' : ℕ) (l : List ℕ) (b b' : Bool) → p ≡ p' → n ≡ n' → b ≡ b'
    → ◌≡◌ {A = Me (Unit {0}) WordTokenView} (record { parts = p; count = n; drawn = l; over = b }, []) (record { parts = p'; count = n'; drawn = l; over = b' }, [])
same_view p p' n n' l b b' e f g = rw (e, f, g) refl

-- a place that is set to what stands there
set_same : (xs : List Bool) (k : ℕ) (b : Bool) → get_or xs k false ≡ b → slice_set xs k b ≡ xs
set_same xs k b e = ap (λ x. slice_set xs k x) (sym e) ∙ set-get_or xs k false

-- a number that is claimed now
pub claims_claimed : (stages : List NumberStage) (k : ℕ) → map is_claimed (slice_set stages k Claimed) ≡ slice_set (map is_claimed stages) k true
claims_claimed stages k = map-set is_claimed stages k Claimed

pub posts_claimed : (stages : List NumberStage) (k : ℕ) → get_or (map is_posted stages) k false ≡ false
    → map is_posted (slice_set stages k Claimed) ≡ map is_posted stages
posts_claimed stages k e = map-set is_posted stages k Claimed ∙ set_same (map is_posted stages) k false e

-- a number that is posted now
pub claims_posted : (stages : List NumberStage) (k : ℕ) → get_or (map is_claimed stages) k false ≡ true
    → map is_claimed (slice_set stages k Posted) ≡ map is_claimed stages
claims_posted stages k e = map-set is_claimed stages k Posted ∙ set_same (map is_claimed stages) k true e

pub posts_posted : (stages : List NumberStage) (k : ℕ) → map is_posted (slice_set stages k Posted) ≡ slice_set (map is_posted stages) k true
posts_posted stages k = map-set is_posted stages k Posted

-- a number above all that was claimed isn't posted
pub unposted : (me : Me (Unit {0}) WordTokenView) (count : ℕ) (told : Bool) (claims posts : List Bool) (known : List (Option TrialResult)) (k : ℕ)
    → IsDeskSeat me count told claims posts known → ((x : ℕ) → 0 < times x me.0.drawn → x < k) → get_or posts k false ≡ false
unposted me count told claims posts known k h below = by_case (get_or posts k false) refl
  where
    by_case : (b : Bool) → get_or posts k false ≡ b → b ≡ false
    by_case false e = refl
    by_case true e = let lt = below k (h.posts_are k e).0 in absurd (omega (arith, lt))

pub claim_kept : (me me' : Me (Unit {0}) WordTokenView) (count : ℕ) (told : Bool) (claims posts : List Bool) (known : List (Option TrialResult)) (k : ℕ)
    → IsDeskSeat me count told claims posts known → told ≡ false → k < count → ((x : ℕ) → 0 < times x me.0.drawn → x < k)
    → me' ≡ (record { parts = me.0.parts; count = me.0.count; drawn = me.0.drawn ++ k ∷ []; over = false }, [])
    → IsDeskSeat me' count told (slice_set claims k true) posts known
claim_kept me me' count told claims posts known k h on lt below e' =
    let e : me' ≡ (record { parts = 1; count = count; drawn = me.0.drawn ++ k ∷ []; over = told }, []) =
    e' ∙ same_view me.0.parts 1 me.0.count count (me.0.drawn ++ k ∷ []) false told (ap (λ m. m.0.parts) h.me_is) (ap (λ m. m.0.count) h.me_is) (sym on) in
    let xs = me.0.drawn in
    let d : me'.0.drawn ≡ xs ++ k ∷ [] = ap (λ m. m.0.drawn) e in record {
      me_is = e ∙ ap (λ l. (record { parts = 1; count = count; drawn = l; over = told }, [])) (sym d);
      rises = subst IsStrictlyIncreasing (sym d) (rises_more xs k h.rises below);
      below = rw d (below_more xs k count lt h.below);
      claims_length = length-set claims k true ∙ h.claims_length;
      posts_length = h.posts_length;
      known_length = h.known_length;
      claims_are = λ j lt_j. rw d (by_case j lt_j (at_cases j k));
      posts_are = λ j p. let old = h.posts_are j p in (subst (λ l. 0 < times j l) (sym d) (more_there xs k j old.0), old.1, old.2, old.3);
    }
  where
    by_case : (j : ℕ) → j < count → ((j ≡ k) ⊎ (j ≢ k)) → get_or (slice_set claims k true) j false ≡ nat_lt 0 (times j (me.0.drawn ++ k ∷ []))
    by_case j lt_j (inl e') =
        let within : k < length claims = omega (arith, lt, h.claims_length) in
        let there : 0 < times j (me.0.drawn ++ k ∷ []) = omega (arith, times-append j me.0.drawn (k ∷ []), ap (λ m. times m (k ∷ [])) e', times_one k) in
        ap (λ m. get_or (slice_set claims k true) m false) e' ∙ (get_or-set_same claims k true false within ∙ true_above _ there)
    by_case j lt_j (inr ne) =
        let same : times j me.0.drawn ≡ times j (me.0.drawn ++ k ∷ []) = omega (arith, times-append j me.0.drawn (k ∷ []), times_other j k ne) in
        get_or-set_other claims k j true false ne ∙ (h.claims_are j lt_j ∙ ap (λ m. nat_lt 0 m) same)

-- the same, as the stages say it
pub claimed_kept : (me me' : Me (Unit {0}) WordTokenView) (count : ℕ) (told : Bool) (stages : List NumberStage) (known : List (Option TrialResult)) (k : ℕ)
    → IsDeskSeat me count told (map is_claimed stages) (map is_posted stages) known → told ≡ false → k < count → ((x : ℕ) → 0 < times x me.0.drawn → x < k)
    → me' ≡ (record { parts = me.0.parts; count = me.0.count; drawn = me.0.drawn ++ k ∷ []; over = false }, [])
    → IsDeskSeat me' count told (map is_claimed (slice_set stages k Claimed)) (map is_posted (slice_set stages k Claimed)) known
claimed_kept me me' count told stages known k h on lt below e =
    let none = unposted me count told (map is_claimed stages) (map is_posted stages) known k h below in
    subst (λ l. IsDeskSeat me' count told l (map is_posted (slice_set stages k Claimed)) known) (sym (claims_claimed stages k))
    (subst (λ l. IsDeskSeat me' count told (slice_set (map is_claimed stages) k true) l known) (sym (posts_claimed stages k none))
    (claim_kept me me' count told (map is_claimed stages) (map is_posted stages) known k h on lt below e))

-- the seat once it has claimed the number
pub claim_seen : (table table' : TableId) (cells drawn drawn' : List ℕ) (told : Bool) (posted posted' : List Bool) (known : List (Option TrialResult))
    (k : ℕ) (s : DeskSeatView)
    → record { desk = record { table = table; cells = cells }; claimed = drawn; told = told; posted = posted; known = known } ≡ s → table' ≡ table →
    drawn' ≡ drawn ++ k ∷ [] → posted' ≡ posted
    → record { desk = record { table = table'; cells = cells }; claimed = drawn'; told = told; posted = posted'; known = known } ≡ with_claim s k
claim_seen table table' cells drawn drawn' told posted posted' known k s e t d p = rw (t, d, p) (ap (λ v. with_claim v k) e)

-- a seat that is told once more that there are no more
pub told_again : (s : DeskSeatView) → s.told ≡ true → told_no_more s ≡ s
told_again s e = ap (λ b. record { desk = s.desk; claimed = s.claimed; told = b; posted = s.posted; known = s.known }) (sym e)

-- the seat once it has posted the result
pub post_seen : (table : TableId) (cells cells' drawn : List ℕ) (told : Bool) (posted posted' : List Bool) (known known' : List (Option TrialResult))
    (k : ℕ) (r : TrialResult) (s : DeskSeatView)
    → record { desk = record { table = table; cells = cells }; claimed = drawn; told = told; posted = posted; known = known } ≡ s → cells' ≡ cells →
    posted' ≡ slice_set posted k true → known' ≡ slice_set known k (Some r)
    → record { desk = record { table = table; cells = cells' }; claimed = drawn; told = told; posted = posted'; known = known' } ≡ with_post s k r
post_seen table cells cells' drawn told posted posted' known known' k r s e c p n = rw (c, p, n) (ap (λ v. with_post v k r) e)

none_true : (n k : ℕ) → get_or (replicate n false) k false ≡ false
none_true zero zero = refl
none_true zero (suc k) = refl
none_true (suc n) zero = refl
none_true (suc n) (suc k) = none_true n k

pub free_claims : (n : ℕ) → map is_claimed (replicate n Free) ≡ replicate n false
free_claims zero = refl
free_claims (suc n) = ap (λ l. false ∷ l) (free_claims n)

pub free_posts : (n : ℕ) → map is_posted (replicate n Free) ≡ replicate n false
free_posts zero = refl
free_posts (suc n) = ap (λ l. false ∷ l) (free_posts n)

-- a seat that has done nothing
pub new_kept : (me : Me (Unit {0}) WordTokenView) (count : ℕ) (stages : List NumberStage) (known : List (Option TrialResult)) → me ≡ (fresh 1 count, [])
    → stages ≡ replicate count Free → known ≡ replicate count None
    → IsDeskSeat me count false (map is_claimed stages) (map is_posted stages) known
new_kept me count stages known e s n =
    let claims : map is_claimed stages ≡ replicate count false = ap (λ l. map is_claimed l) s ∙ free_claims count in
    let posts : map is_posted stages ≡ replicate count false = ap (λ l. map is_posted l) s ∙ free_posts count in
    let d : me.0.drawn ≡ [] = ap (λ m. m.0.drawn) e in record {
      me_is = e ∙ ap (λ l. (record { parts = 1; count = count; drawn = l; over = false }, [])) (sym d);
      rises = subst IsStrictlyIncreasing (sym d) (λ k lt. absurd (omega (arith, lt)));
      below = λ x p. let none = ap (λ l. times x l) d in absurd (omega (arith, p, none));
      claims_length = ap (λ l. length l) claims ∙ length-replicate count false;
      posts_length = ap (λ l. length l) posts ∙ length-replicate count false;
      known_length = ap (λ l. length l) n ∙ length-replicate count None;
      claims_are = λ k lt. ap (λ l. get_or l k false) claims ∙ (none_true count k ∙ ap (λ l. nat_lt 0 (times k l)) (sym d));
      posts_are = λ k p. absurd (cc (sym p ∙ (ap (λ l. get_or l k false) posts ∙ none_true count k)));
    }

pub new_seen : (table : TableId) (cells mine : List ℕ) (drawn : List ℕ) (stages : List NumberStage) (known : List (Option TrialResult)) → drawn ≡ []
    → mine ≡ cells → stages ≡ replicate (length cells) Free
    → known ≡ replicate (length cells) None
    → record { desk = record { table = table; cells = mine }; claimed = drawn; told = false; posted = map is_posted stages; known = known } ≡ new_seat
    (record { table = table; cells = cells })
new_seen table cells mine drawn stages known d c s n = rw (d, c, n, ap (λ l. map is_posted l) s ∙ free_posts (length cells)) refl

pub post_kept : (me : Me (Unit {0}) WordTokenView) (count : ℕ) (told : Bool) (claims posts : List Bool) (known known' : List (Option TrialResult)) (k : ℕ)
    (r : TrialResult)
    → IsDeskSeat me count told claims posts known → k < count → get_or claims k false ≡ true → r.number ≡ k → known' ≡ slice_set known k (Some r)
    → IsDeskSeat me count told claims (slice_set posts k true) known'
post_kept me count told claims posts known known' k r h lt mine number e = record {
  me_is = h.me_is;
  rises = h.rises;
  below = h.below;
  claims_length = h.claims_length;
  posts_length = length-set posts k true ∙ h.posts_length;
  known_length = ap (λ l. length l) e ∙ (length-set known k (Some r) ∙ h.known_length);
  claims_are = h.claims_are;
  posts_are = λ j p. by_case j p (at_cases j k);
}
  where
    by_case : (j : ℕ) → get_or (slice_set posts k true) j false ≡ true → ((j ≡ k) ⊎ (j ≢ k)) → IsOwn me.0.drawn known' j
    by_case j p (inl e') = (
      above _ (ap (λ m. nat_lt 0 (times m me.0.drawn)) e' ∙ (sym (h.claims_are k lt) ∙ mine)),
      r,
      ap (λ l. get_or l j None) e ∙ (ap (λ m. get_or (slice_set known k (Some r)) m None) e' ∙ get_or-set_same known k (Some r) None
          (omega (arith, lt, h.known_length))),
      number ∙ sym e',
    )
    by_case j p (inr ne) =
        let old = h.posts_are j (sym (get_or-set_other posts k j true false ne) ∙ p) in
        (old.0, old.1, ap (λ l. get_or l j None) e ∙ (get_or-set_other known k j (Some r) None ne ∙ old.2), old.3)

-- the same, as the stages say it
pub posted_kept : (me : Me (Unit {0}) WordTokenView) (count : ℕ) (told : Bool) (stages : List NumberStage) (known known' : List (Option TrialResult)) (k : ℕ)
    (r : TrialResult)
    → IsDeskSeat me count told (map is_claimed stages) (map is_posted stages) known → k < count → get_or (map is_claimed stages) k false ≡ true → r.number ≡ k
    → known' ≡ slice_set known k (Some r)
    → IsDeskSeat me count told (map is_claimed (slice_set stages k Posted)) (map is_posted (slice_set stages k Posted)) known'
posted_kept me count told stages known known' k r h lt mine number e =
    subst (λ l. IsDeskSeat me count told l (map is_posted (slice_set stages k Posted)) known') (sym (claims_posted stages k mine))
    (subst (λ l. IsDeskSeat me count told (map is_claimed stages) l known') (sym (posts_posted stages k))
    (post_kept me count told (map is_claimed stages) (map is_posted stages) known known' k r h lt mine number e))

agrees_some : {X : Type 0} (o : Option X) (x y : X) → Agrees o y → o ≡ Some x → Some y ≡ Some x
agrees_some (Some z) x y a e = cc (a, e)
agrees_some None x y a e = absurd (cc e)

pub look_kept : (me : Me (Unit {0}) WordTokenView) (count : ℕ) (told : Bool) (claims posts : List Bool) (known known' : List (Option TrialResult)) (k : ℕ)
    (v : TrialResult)
    → IsDeskSeat me count told claims posts known → k < count → Agrees (get_or known k None) v → known' ≡ slice_set known k (Some v)
    → IsDeskSeat me count told claims posts known'
look_kept me count told claims posts known known' k v h lt agrees e = record {
  me_is = h.me_is;
  rises = h.rises;
  below = h.below;
  claims_length = h.claims_length;
  posts_length = h.posts_length;
  known_length = ap (λ l. length l) e ∙ (length-set known k (Some v) ∙ h.known_length);
  claims_are = h.claims_are;
  posts_are = λ j p. by_case j p (at_cases j k);
}
  where
    by_case : (j : ℕ) → get_or posts j false ≡ true → ((j ≡ k) ⊎ (j ≢ k)) → IsOwn me.0.drawn known' j
    by_case j p (inl e') =
        let old = h.posts_are j p in
        let was : get_or known k None ≡ Some old.1 = sym (ap (λ m. get_or known m None) e') ∙ old.2 in (
          old.0,
          old.1,
          ap (λ l. get_or l j None) e ∙ (ap (λ m. get_or (slice_set known k (Some v)) m None) e' ∙
              (get_or-set_same known k (Some v) None (omega (arith, lt, h.known_length)) ∙ agrees_some _ _ v agrees was)),
          old.3,
        )
    by_case j p (inr ne) =
        let old = h.posts_are j p in (old.0, old.1, ap (λ l. get_or l j None) e ∙ (get_or-set_other known k j (Some v) None ne ∙ old.2), old.3)

-- a look that found nothing, or a value
pub looked_kept : {X : Type 0} (val : X → TrialResult) (o : Option X) (me : Me (Unit {0}) WordTokenView) (count : ℕ) (told : Bool)
    (claims posts : List Bool) (known known' : List (Option TrialResult)) (k : ℕ)
    → IsDeskSeat me count told claims posts known → k < count
    → MatchOption o ((get_or known k None ≡ None) × (known' ≡ known)) (λ x. (known' ≡ slice_set known k (Some (val x))) × Agrees (get_or known k None) (val x))
    → IsDeskSeat me count told claims posts known'
looked_kept val None me count told claims posts known known' k h lt f = rw f.1 h
looked_kept val (Some x) me count told claims posts known known' k h lt f = look_kept me count told claims posts known known' k (val x) h lt f.1 f.0

-- a desk that was made, once its seats are dealt
pub opens : (n seats : ℕ) (desk : DeskView) (row : List DeskSeatView) → AreWithinLimits n seats → numbers_of desk.id ≡ n → desk.seats ≡ seats
    → row ≡ replicate desk.seats (new_seat desk.id) → OpensDesk n seats desk row
opens n seats desk row within numbers count dealt =
    let dealt' = dealt ∙ ap (λ k. replicate k (new_seat desk.id)) count in
    record {
      within = within;
      numbers = numbers;
      seats_are = count;
      row_is = dealt';
      its =
          subst (λ r. All (λ seat. seat.desk ≡ desk.id) r) (sym dealt')
          (All-replicate (λ (s : DeskSeatView). s.desk ≡ desk.id) seats (new_seat desk.id) refl);
    }
