-- Messages, and their marks, as parts of what was sent, taken and marked.
use Rattle.std.proofs.Common.{◌≡◌, ℕ, ◌+◌, ◌<◌, ◌≤◌, ◌++◌, List, [], ◌∷◌, Bool, true, false, not, if◌then◌else◌, ◌==◌, ◌&&◌, Option, None, Some}
use Rattle.std.proofs.Common.{inl, inr, length, drop, get_or, map, replicate, set, slice_get, take, refl, sym, ap, ◌∙◌, zero, suc, arith, true≢false, zero-add}
use Rattle.std.specs.List.{sum_by}
use Rattle.std.specs.Option.{IfSome, IsSome, option_map}
use Rattle.std.proofs.Math.ListN.{get_or-map}
use Rattle.std.proofs.lemmas.Bool.{cases_lt, ne_eqb}
use Rattle.std.proofs.lemmas.List.{drop-map, length-map, map-append, map-set, take-map}
use Rattle.std.proofs.lemmas.List.Sums.{sum_by-cons}
use Rattle.base.specs.declared.ids.CacheId.{CacheId}
use Rattle.network.specs.declared.message.Forward.{Forward}
use Rattle.network.specs.declared.wire.Marked.{Marked}
use Rattle.network.specs.inner.Links.{free_of, marks_in, messages_in, remarked, remarked_from}
use Rattle.network.specs.Marks.{is_stopped, unmarked, unmarked_count, unmarked_heads, unmarked_heads_count}
use Rattle.network.specs.Traffic.{Traffic, all_nil, is_nil, is_quiet, message_count}
use Rattle.network.proofs.UnmarkedPlaces.{one-of, unmarked-length}
use Rattle.rows.specs.Flags.{IsKth, is_set, set_count}

module _ {M : Type 0} where
  -- ---- marks are made

  pub messages-remarked : (mark : M → Bool) (sent : List (Marked M)) → messages_in (remarked mark sent) ≡ messages_in sent
  messages-remarked mark [] = refl
  messages-remarked mark (m ∷ sent) = ap (λ ms. m.message ∷ ms) (messages-remarked mark sent)

  pub marks-remarked : (mark : M → Bool) (sent : List (Marked M)) → marks_in (remarked mark sent) ≡ map mark (messages_in sent)
  marks-remarked mark [] = refl
  marks-remarked mark (m ∷ sent) = ap (λ ms. mark m.message ∷ ms) (marks-remarked mark sent)

  whole : (n : ℕ) (sent : List (Marked M)) → take n sent ++ drop n sent ≡ sent
  whole zero sent = refl
  whole (suc n) [] = refl
  whole (suc n) (m ∷ sent) = ap (λ ms. m ∷ ms) (whole n sent)

  pub messages-remarked_from : (n : ℕ) (mark : M → Bool) (sent : List (Marked M)) → messages_in (remarked_from n mark sent) ≡ messages_in sent
  messages-remarked_from n mark sent =
      map-append (λ m. m.message) (take n sent) (remarked mark (drop n sent))
      ∙ ap (λ ms. messages_in (take n sent) ++ ms) (messages-remarked mark (drop n sent))
      ∙ sym (map-append (λ m. m.message) (take n sent) (drop n sent))
      ∙ ap messages_in (whole n sent)

  pub marks-remarked_from : (n : ℕ) (mark : M → Bool) (sent : List (Marked M)) →
      marks_in (remarked_from n mark sent) ≡ take n (marks_in sent) ++ map mark (drop n (messages_in sent))
  marks-remarked_from n mark sent =
      map-append (λ m. m.held) (take n sent) (remarked mark (drop n sent))
      ∙ (λ i. sym (take-map (λ m. m.held) n sent) i ++ marks-remarked mark (drop n sent) i)
      ∙ ap (λ ms. take n (marks_in sent) ++ map mark ms) (sym (drop-map (λ m. m.message) n sent))

-- ---- links

pub none-on : {X Y : Type 0} (f : X → Y) (x : X) (n : ℕ) → map f (replicate n x) ≡ replicate n (f x)
none-on f x zero = refl
none-on f x (suc n) = ap (λ ys. f x ∷ ys) (none-on f x n)

-- what is on one link is another
pub link-set : {Y : Type 0} (f : List (Marked Forward) → Y) (ls : List (List (Marked Forward))) (i : ℕ) (new : List (Marked Forward)) (y : Y) →
    f new ≡ y → map f (set ls i new) ≡ set (map f ls) i y
link-set f ls i new y e = map-set f ls i new ∙ ap (set (map f ls) i) e

pub messages-at : (ls : List (List (Marked Forward))) (i : ℕ) → messages_in (get_or ls i []) ≡ get_or (map messages_in ls) i []
messages-at ls i = sym (get_or-map messages_in ls i [])

pub marks-at : (ls : List (List (Marked Forward))) (i : ℕ) → marks_in (get_or ls i []) ≡ get_or (map marks_in ls) i []
marks-at ls i = sym (get_or-map marks_in ls i [])

-- each message has its mark
pub as_long : {M : Type 0} (sent : List (Marked M)) → length (marks_in sent) ≡ length (messages_in sent)
as_long sent = length-map sent (λ m. m.held) ∙ sym (length-map sent (λ m. m.message))

-- ---- whether there are messages, and how many

pub lengths : (ls : List (List (Marked Forward))) → sum_by length (map messages_in ls) ≡ sum_by length ls
lengths [] = refl
lengths (l ∷ ls) =
    let a = sum_by-cons length (messages_in l) (map messages_in ls) in
    let b = sum_by-cons length l ls in
    let same = length-map l (λ m. m.message) in
    let rest = lengths ls in
    omega arith

nil-count : {A : Type 0} (xs : List A) → is_nil xs ≡ (length xs == 0)
nil-count [] = refl
nil-count (x ∷ xs) = sym (ne_eqb (length (x ∷ xs)) 0 (λ e. absurd (omega arith)))

both-zero : (a b : ℕ) → ((a == 0) && (b == 0)) ≡ (a + b == 0)
both-zero zero b = ap (λ n. n == 0) (sym (zero-add b))
both-zero (suc a) b =
    ap (λ x. x && (b == 0)) (ne_eqb (suc a) 0 (λ e. absurd (omega arith))) ∙ sym (ne_eqb (suc a + b) 0 (λ e. absurd (omega arith)))

all-count : (ls : List (List Forward)) → all_nil ls ≡ (sum_by length ls == 0)
all-count [] = refl
all-count (l ∷ ls) =
    (λ i. nil-count l i && all-count ls i) ∙ both-zero (length l) (sum_by length ls) ∙ ap (λ n. n == 0) (sym (sum_by-cons length l ls))

pub quiet-count : (w : Traffic) → (message_count w == 0) ≡ is_quiet w
quiet-count w =
    sym ((λ i. nil-count w.requests i && all-count w.links i && nil-count w.responses i)
    ∙ ap (λ b. b && (length w.responses == 0)) (both-zero (length w.requests) (sum_by length w.links))
    ∙ both-zero (length w.requests + sum_by length w.links) (length w.responses))

-- a link waits where it has messages
pub there-waits : (l : List (Marked Forward)) → not (is_nil l) ≡ true → 0 < length (messages_in l)
there-waits [] e = absurd (true≢false (sym e))
there-waits (m ∷ l) e = omega arith

pub waits-there : (l : List (Marked Forward)) → 0 < length (messages_in l) → not (is_nil l) ≡ true
waits-there [] e = absurd (omega arith)
waits-there (m ∷ l) e = refl

-- ---- first messages without a mark

flags-are : (ls : List (List (Marked Forward))) → free_of ls ≡ map not (map is_stopped (map marks_in ls))
flags-are [] = refl
flags-are (l ∷ ls) = ap (λ fs. not (is_stopped (marks_in l)) ∷ fs) (flags-are ls)

flags-count : (marks : List Bool) → set_count (map not marks) ≡ unmarked_count marks
flags-count [] = refl
flags-count (held ∷ marks) =
    let a = sum_by-cons (λ flag. if flag then 1 else 0) (not held) (map not marks) in
    let b = one-of held marks in
    let rest = flags-count marks in
    omega arith

pub free-count : (ls : List (List (Marked Forward))) → set_count (free_of ls) ≡ unmarked_heads_count (map marks_in ls)
free-count ls = ap set_count (flags-are ls) ∙ flags-count (map is_stopped (map marks_in ls))

-- the k-th flag is at the k-th place
kth-flag : (marks : List Bool) (i k at : ℕ) → is_set (map not marks) at ≡ true → set_count (take at (map not marks)) ≡ k →
    slice_get (unmarked i marks) k ≡ Some (i + at)
kth-flag [] i k at set before = absurd (true≢false (sym set))
kth-flag (true ∷ marks) i k zero set before = absurd (true≢false (sym set))
kth-flag (true ∷ marks) i k (suc at) set before =
    let first = sum_by-cons (λ flag. if flag then 1 else 0) false (take at (map not marks)) in
    kth-flag marks (i + 1) k at set (omega arith) ∙ ap Some (let e : i + 1 + at ≡ i + suc at = omega arith in e)
kth-flag (false ∷ marks) i k zero set before =
    ap (slice_get (i ∷ unmarked (i + 1) marks)) (sym before) ∙ ap Some (let e : i ≡ i + 0 = omega arith in e)
kth-flag (false ∷ marks) i k (suc at) set before =
    let first = sum_by-cons (λ flag. if flag then 1 else 0) true (take at (map not marks)) in
    let n = set_count (take at (map not marks)) in
    ap (slice_get (i ∷ unmarked (i + 1) marks)) (let e : k ≡ suc n = omega arith in e)
    ∙ kth-flag marks (i + 1) n at set refl ∙ ap Some (let e : i + 1 + at ≡ i + suc at = omega arith in e)

past : {X : Type 0} (xs : List X) (k : ℕ) → length xs ≤ k → None ≡ slice_get xs k
past [] k h = refl
past (x ∷ xs) zero h = absurd (omega arith)
past (x ∷ xs) (suc k) h = past xs k (omega arith)

pub kth-head : (ls : List (List (Marked Forward))) (k : ℕ) (found : Option CacheId) → IfSome found (λ cache. IsKth (free_of ls) k cache.0) →
    (k < set_count (free_of ls) → IsSome found) → option_map (λ cache. cache.0) found ≡ slice_get (unmarked_heads 0 (map marks_in ls)) k
kth-head ls k (Some cache) is there =
    ap Some (sym (zero-add cache.0))
    ∙ sym (kth-flag (map is_stopped (map marks_in ls)) 0 k cache.0 (sym (ap (λ fs. is_set fs cache.0) (flags-are ls)) ∙ is.set)
    (sym (ap (λ fs. set_count (take cache.0 fs)) (flags-are ls)) ∙ is.before))
kth-head ls k None is there =
    let many = unmarked-length 0 (map is_stopped (map marks_in ls)) in
    let count = free-count ls in
    past (unmarked_heads 0 (map marks_in ls)) k
    (elim (cases_lt k (set_count (free_of ls))) [
      | inl h ↦ absurd (cc (there h))
      | inr h ↦ omega arith
    ])
