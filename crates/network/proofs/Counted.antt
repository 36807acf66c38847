-- How many marks are set, once one is set, added or taken, and once all are taken back; and the messages that have none.
use Rattle.std.proofs.Common.{◌≡◌, ◌≤◌, ◌<◌, ◌+◌, ◌∷◌, ◌^◌, [], ℕ, zero, suc, List, Bool, true, false, Option, None, Some, remove, set, get_or}
use Rattle.std.proofs.Common.{slice_get, length, ap, refl, ◌∙◌, arith}
use Rattle.std.proofs.lemmas.List.Sums.{sum_by-cons, sum_by-set, count_by-le-length}
use Rattle.std.proofs.lemmas.List.{get_or-map, length-map, length-set}
use Rattle.std.specs.Prelude.{IfNone}
use Rattle.network.specs.declared.wire.Marked.{Marked}
use Rattle.network.specs.inner.Links.{IsCounted, held_count, marks_in, messages_in, one, remarked, unmarked_one}
use Rattle.network.specs.Marks.{mark_at, unmarked, unmarked_count}
use Rattle.network.proofs.UnmarkedPlaces.{one-of}

-- the first mark counts, or its message is the first without one
one-or-free : (held : Bool) (all : ℕ) (marks : List Bool) (n : ℕ) → all + unmarked_count marks ≡ n →
    one held + all + unmarked_count (held ∷ marks) ≡ 1 + n
one-or-free true all marks n rest = let e = one-of true marks in omega arith
one-or-free false all marks n rest = let e = one-of false marks in omega arith

first-kth : (held : Bool) (marks : List Bool) (n i k : ℕ) → one held ≡ 0 → k < 1 + n →
    ((j : ℕ) → j < n → slice_get (unmarked (i + 1) marks) j ≡ Some (i + 1 + j)) → slice_get (unmarked i (held ∷ marks)) k ≡ Some (i + k)
first-kth true marks n i k none within rest = absurd (omega arith)
first-kth false marks n i zero none within rest = ap Some (let z : i ≡ i + 0 = omega arith in z)
first-kth false marks n i (suc k) none within rest = rest k (omega arith) ∙ ap Some (let z : i + 1 + k ≡ i + suc k = omega arith in z)

module _ {M : Type 0} where
  abbrev one_in : Marked M → ℕ
  one_in m = one m.held

  -- a mark is written
  pub count-set : (sent : List (Marked M)) (i : ℕ) (new d : Marked M) → i < length sent →
      held_count (set sent i new) + one_in (get_or sent i d) ≡ held_count sent + one_in new
  count-set sent i new d within = sum_by-set one_in sent i new d within

  pub held-few : (sent : List (Marked M)) → held_count sent ≤ length sent
  held-few sent = count_by-le-length (λ m. m.held) sent

  -- each message has a mark or has none
  pub held-or-free : (sent : List (Marked M)) → held_count sent + unmarked_count (marks_in sent) ≡ length sent
  held-or-free [] = refl
  held-or-free (m ∷ sent) =
      let first = sum_by-cons one_in m sent in
      let all = one-or-free m.held (held_count sent) (marks_in sent) (length sent) (held-or-free sent) in
      omega arith

  -- none is set once all were taken back
  pub none-held : (sent : List (Marked M)) → held_count (remarked (λ message. false) sent) ≡ 0
  none-held [] = refl
  none-held (m ∷ sent) =
      let first = sum_by-cons one_in (unmarked_one m.message) (remarked (λ message. false) sent) in
      let rest = none-held sent in
      omega arith

  -- where none is set nothing is to be taken back
  first-free : (m : Marked M) (held : Bool) → m.held ≡ held → one held ≡ 0 → m ≡ unmarked_one m.message
  first-free m true e none = absurd (omega arith)
  first-free m false e none = λ i. record { message = m.message; held = e i }

  pub all-free : (sent : List (Marked M)) → held_count sent ≡ 0 → sent ≡ remarked (λ message. false) sent
  all-free [] none = refl
  all-free (m ∷ sent) none =
      let first = sum_by-cons one_in m sent in
      ap (λ x. x ∷ sent) (first-free m m.held refl (omega arith)) ∙ ap (λ xs. unmarked_one m.message ∷ xs) (all-free sent (omega arith))

  -- and the k-th without a mark is the k-th
  pub kth-of-all : (sent : List (Marked M)) (i k : ℕ) → held_count sent ≡ 0 → k < length sent →
      slice_get (unmarked i (marks_in sent)) k ≡ Some (i + k)
  kth-of-all [] i k none within = absurd (omega arith)
  kth-of-all (m ∷ sent) i k none within =
      let first = sum_by-cons one_in m sent in
      first-kth m.held (marks_in sent) (length sent) i k (omega arith) (omega arith) (λ j h. kth-of-all sent (i + 1) j (omega arith) h)

  -- ---- what is counted stays counted

  pub counted-none : (sent new : List (Marked M)) (before : ℕ) → IsCounted sent before → new ≡ remarked (λ message. false) sent → IsCounted new 0
  counted-none sent new before whole is =
      let n = ap length is in
      let l = length-map sent (λ m. unmarked_one m.message) in
      let c = ap held_count is in
      let s = none-held sent in
      record { few = omega (arith, whole.few); count = omega arith }

  pub one-fits : (sent : List (Marked M)) (i : ℕ) (found d new : Marked M) → i < length sent → found ≡ get_or sent i d → length sent < 2 ^ 32 →
      held_count sent + one_in new < 2 ^ 32 + one_in found
  one-fits sent i found d new within is few =
      let e = ap one_in is in
      let s = count-set sent i new d within in
      let l = length-set sent i new in
      let h = held-few (set sent i new) in
      omega arith

  -- the mark of the message at a place
  pub mark-of : (sent : List (Marked M)) (i : ℕ) (d : Marked M) → i < length sent → mark_at (marks_in sent) i ≡ (get_or sent i d).held
  mark-of sent i d within = get_or-map (λ m. m.held) sent i d false within

  -- where a message is taken there was one, and where none is there was none
  pub taken-some : (sent : List (Marked M)) (message : M) → Some message ≡ slice_get (messages_in sent) 0 → 0 < length sent
  taken-some [] message e = absurd (cc e)
  taken-some (m ∷ sent) message e = omega arith

  pub taken-none : (sent : List (Marked M)) → None ≡ slice_get (messages_in sent) 0 → remove sent 0 ≡ sent
  taken-none [] e = refl
  taken-none (m ∷ sent) e = absurd (cc e)

  pub none-taken : (o : Option M) (sent new : List (Marked M)) (i : ℕ) → o ≡ slice_get (messages_in sent) i → new ≡ remove sent i →
      IfNone o (new ≡ sent)
  none-taken (Some message) sent new i taken left = tt
  none-taken None sent new i taken left = left ∙ past sent i taken
    where
      past : (sent : List (Marked M)) (i : ℕ) → None ≡ slice_get (messages_in sent) i → remove sent i ≡ sent
      past [] zero e = refl
      past [] (suc i) e = refl
      past (m ∷ sent) zero e = absurd (cc e)
      past (m ∷ sent) (suc i) e = ap (λ ms. m ∷ ms) (past sent i e)
