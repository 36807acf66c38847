-- The least cache that may write.
use Rattle.std.proofs.Common.{◌≡◌, ℕ, ◌<◌, ◌+◌, List, [], ◌∷◌, Some, None}
use Rattle.std.proofs.Common.{true, false, if◌then◌else◌, ◌⊎◌, refl, ap, ◌∙◌, zero, suc, arith}
use Rattle.std.proofs.Common.{get_or, replicate, ◌≤◌, count_by, inl, inr, Option, IfSome, IsSome, length, slice_get}
use Rattle.std.proofs.lemmas.Bool.{cases_lt}
use Rattle.std.proofs.lemmas.List.Sums.{sum_by-cons}
use Rattle.std.proofs.lemmas.Option.{slice_get_within}
use Rattle.base.specs.declared.ids.CacheId.{CacheId}
use Rattle.control.specs.declared.line.Line.{Line}
use Rattle.control.specs.LineEffect.{is_writer, opened_line}
use Rattle.blocks.specs.Looks.{writer_from, writer_in}
use Rattle.blocks.specs.inner.Access.{lesser, writer_on, writes_at}
use Rattle.blocks.specs.inner.Lined.{lines_of}

-- a cache is there, and isn't behind this one
abbrev pub IsUpTo : Option CacheId → ℕ → Type 0
IsUpTo None at = ⊥
IsUpTo (Some cache) at = cache.0 ≤ at

first-from : (lines : List Line) (i at : ℕ) → writes_at lines at ≡ true → ((k : ℕ) → k < at → writes_at lines k ≡ false) →
    Some (record { 0 = i + at }) ≡ writer_from i lines
first-from [] i at e f = grind (arith, e)
first-from (line ∷ lines) i zero e f = grind (arith, e)
first-from (line ∷ lines) i (suc at) e f =
    grind (arith, f 0 (omega arith), first-from lines (i + 1) at e (λ k h. f (suc k) (omega arith)))

none-from : (lines : List Line) (i : ℕ) → ((k : ℕ) → writes_at lines k ≡ false) → None ≡ writer_from i lines
none-from [] i f = refl
none-from (line ∷ lines) i f = grind (arith, f 0, none-from lines (i + 1) (λ k. f (suc k)))

-- a cache that may write, where none before it may, is the least writer
least-is : (lines : List Line) (least : Option CacheId) → IfSome least (λ cache. writes_at lines cache.0 ≡ true) →
    ((at : ℕ) → writes_at lines at ≡ true → IsUpTo least at) → least ≡ writer_in lines
least-is lines None f g = none-from lines 0 (λ k. grind (arith, g k))
least-is lines (Some cache) f g = grind (arith, first-from lines 0 cache.0 f (λ k low. grind (arith, g k)))

-- the least cache whose line may write, of those at the first so many places of a list
pub record IsLeastOf (lines : List Line) (keys : List ℕ) (n : ℕ) (least : Option CacheId) : Type 0 where
  pub writes : IfSome least (λ cache. writes_at lines cache.0 ≡ true)
  pub first : (k at : ℕ) → k < n → slice_get keys k ≡ Some at → writes_at lines at ≡ true → IsUpTo least at

-- what isn't behind one of two caches isn't behind the lesser
lesser-up_to : (a b : Option CacheId) (at : ℕ) → IsUpTo a at ⊎ IsUpTo b at → IsUpTo (lesser a b) at
lesser-up_to a b at h = grind (arith, h)

lesser-writes : (lines : List Line) (a : Option CacheId) (o : Option ℕ) → IfSome a (λ cache. writes_at lines cache.0 ≡ true) →
    IfSome (lesser a (writer_on lines o)) (λ cache. writes_at lines cache.0 ≡ true)
lesser-writes lines a o h = grind (arith, h)

-- one place more
pub least-more : (lines : List Line) (keys : List ℕ) (n : ℕ) (least : Option CacheId) → IsLeastOf lines keys n least →
    IsLeastOf lines keys (n + 1) (lesser least (writer_on lines (slice_get keys n)))
least-more lines keys n least h = record {
  writes = lesser-writes lines least (slice_get keys n) h.writes;
  first = λ k at low key e. lesser-up_to least (writer_on lines (slice_get keys n)) at (elim (cases_lt k n) [
    | inl before ↦ inl (h.first k at before key e)
    | inr here ↦ inr (let same : slice_get keys n ≡ Some at = ap (slice_get keys) (omega arith) ∙ key in rw (same, e) (omega arith))
  ]);
}

-- the least of all is the least writer, where each writer is listed
pub least-all : (lines : List Line) (keys : List ℕ) (n : ℕ) (least : Option CacheId) → IsLeastOf lines keys n least → length keys ≤ n →
    ((at : ℕ) → writes_at lines at ≡ true → (k : ℕ) × (slice_get keys k ≡ Some at)) → least ≡ writer_in lines
least-all lines keys n least h long all = least-is lines least h.writes (λ at e.
    let found = all at e in
    h.first found.0 at (let within = slice_get_within keys found.0 at found.1 in omega arith) found.1 e)

-- a line that may write is kept
pub writer-kept : (items : List (Option Line)) (at : ℕ) → writes_at (lines_of items) at ≡ true → IsSome (get_or items at None)
writer-kept [] at e = grind (arith, e)
writer-kept (x ∷ items) zero e = grind (arith, e)
writer-kept (x ∷ items) (suc at) e = writer-kept items at e

-- nobody writes a block that opens
pub writer-opened : (n i : ℕ) → None ≡ writer_from i (replicate n opened_line)
writer-opened zero i = refl
writer-opened (suc n) i = writer-opened n (i + 1)

-- and where no line is counted as one that may write there is none
pub writer-uncounted : (lines : List Line) (i : ℕ) → count_by (λ line. is_writer line.state) lines ≤ 0 → None ≡ writer_from i lines
writer-uncounted [] i none = refl
writer-uncounted (line ∷ lines) i none =
    grind (arith, none, sum_by-cons (λ (l : Line). if is_writer l.state then 1 else 0) line lines, writer-uncounted lines (i + 1))
