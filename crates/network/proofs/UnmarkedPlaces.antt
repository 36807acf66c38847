-- The places without a mark: how many there are, and how a loop comes to the k-th.
use Rattle.std.proofs.Common.{◌≡◌, ℕ, ◌+◌, ◌<◌, ◌≤◌, List, [], ◌∷◌, Bool, true}
use Rattle.std.proofs.Common.{false, not, cond, length, map, drop, slice_get, Some, None}
use Rattle.std.proofs.Common.{refl, ap, ◌∙◌, suc, arith}
use Rattle.std.proofs.lemmas.List.{drop_more, drop_all}
use Rattle.std.proofs.lemmas.List.Sums.{sum_by-cons}
use Rattle.network.specs.Marks.{mark_at, unmarked, unmarked_heads, unmarked_count, unmarked_heads_count, is_stopped}

-- the first mark counts where it isn't set
pub one-of : (held : Bool) (marks : List Bool) → unmarked_count (held ∷ marks) ≡ cond (not held) 1 0 + unmarked_count marks
one-of held marks = sum_by-cons (λ m. cond (not m) 1 0) held marks

-- there are as many places as marks that aren't set
pub unmarked-length : (i : ℕ) (marks : List Bool) → length (unmarked i marks) ≡ unmarked_count marks
unmarked-length i [] = refl
unmarked-length i (true ∷ marks) = let e = one-of true marks in unmarked-length (i + 1) marks ∙ omega arith
unmarked-length i (false ∷ marks) = let e = one-of false marks in let rest = unmarked-length (i + 1) marks in omega arith

pub unmarked_heads-length : (i : ℕ) (links : List (List Bool)) → length (unmarked_heads i links) ≡ unmarked_heads_count links
unmarked_heads-length i links = unmarked-length i (map is_stopped links)

-- a loop over the marks comes to one that is set: that is none of the places
pub unmarked-held : (marks : List Bool) (i j : ℕ) → i < length marks → mark_at marks i ≡ true →
    unmarked j (drop i marks) ≡ unmarked (j + 1) (drop (i + 1) marks)
unmarked-held marks i j within held =
    ap (unmarked j) (drop_more marks i false within) ∙ ap (λ m. unmarked j (m ∷ drop (i + 1) marks)) held

-- or to one that isn't: that is the first of the places
pub unmarked-free : (marks : List Bool) (i j : ℕ) → i < length marks → mark_at marks i ≡ false →
    unmarked j (drop i marks) ≡ j ∷ unmarked (j + 1) (drop (i + 1) marks)
unmarked-free marks i j within free =
    ap (unmarked j) (drop_more marks i false within) ∙ ap (λ m. unmarked j (m ∷ drop (i + 1) marks)) free

-- or to their end
pub unmarked-end : (marks : List Bool) (i j : ℕ) → length marks ≤ i → unmarked j (drop i marks) ≡ []
unmarked-end marks i j past = ap (unmarked j) (drop_all i marks past)

-- the k-th place, one step of the loop on
pub kth-held : (marks : List Bool) (i k : ℕ) → i < length marks → mark_at marks i ≡ true →
    slice_get (unmarked i (drop i marks)) k ≡ slice_get (unmarked (i + 1) (drop (i + 1) marks)) k
kth-held marks i k within held = ap (λ xs. slice_get xs k) (unmarked-held marks i i within held)

pub kth-here : (marks : List Bool) (i : ℕ) → i < length marks → mark_at marks i ≡ false → slice_get (unmarked i (drop i marks)) 0 ≡ Some i
kth-here marks i within free = ap (λ xs. slice_get xs 0) (unmarked-free marks i i within free)

pub kth-behind : (marks : List Bool) (i k left : ℕ) → i < length marks → mark_at marks i ≡ false → left + 1 ≡ k →
    slice_get (unmarked i (drop i marks)) k ≡ slice_get (unmarked (i + 1) (drop (i + 1) marks)) left
kth-behind marks i k left within free less =
    ap (λ xs. slice_get xs k) (unmarked-free marks i i within free)
    ∙ ap (λ n. slice_get (i ∷ unmarked (i + 1) (drop (i + 1) marks)) n) (let e : k ≡ suc left = omega arith in e)

pub kth-none : (marks : List Bool) (i k : ℕ) → length marks ≤ i → slice_get (unmarked i (drop i marks)) k ≡ None
kth-none marks i k past = ap (λ xs. slice_get xs k) (unmarked-end marks i i past)
