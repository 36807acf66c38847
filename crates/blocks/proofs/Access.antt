-- The counts of the caches that may read or write, where a line goes to another state.
use Rattle.std.proofs.Common.{◌≡◌, ℕ, ◌+◌, ◌-◌, ◌<◌, ◌^◌, List, Some, Bool, true, false, cond, ap, refl, sym, arith, count_by, length, set, slice_get}
use Rattle.std.specs.List.{sum_by}
use Rattle.std.proofs.lemmas.List.{length-set}
use Rattle.std.proofs.lemmas.List.Sums.{count_by-le-length, get_or-le-sum_by, sum_by-set}
use Rattle.std.proofs.lemmas.Option.{get_or_from_slice_get, slice_get_within}
use Rattle.cache_table.specs.declared.state.CacheState.{CacheState}
use Rattle.control.specs.declared.line.Line.{Line}
use Rattle.network.specs.Room.{one_if}
use Rattle.blocks.specs.inner.Access.{CanRecount}

-- how many lines pass a test of their states
abbrev passing : (CacheState → Bool) → List Line → ℕ
passing test lines = count_by (λ line. test line.state) lines

one-is : (b : Bool) → one_if b ≡ cond {A = ℕ} b 1 0
one-is true = refl
one-is false = refl

-- one for each that passes
pub by-ones : (test : CacheState → Bool) (lines : List Line) → sum_by (λ (l : Line). one_if (test l.state)) lines ≡ passing test lines
by-ones test lines = ap (λ (f : Line → ℕ). sum_by f lines) (λ i l. one-is (test l.state) i)

-- the count that followed a line is that of the lines
pub recounted : (test : CacheState → Bool) (lines : List Line) (at : ℕ) (line after : Line) (old new : ℕ) →
    old ≡ passing test lines → Some line ≡ slice_get lines at → new + one_if (test line.state) ≡ old + one_if (test after.state) →
    new ≡ passing test (set lines at after)
recounted test lines at line after old new is there moves =
    let changed = rw (get_or_from_slice_get lines at line line (sym there)) at
    (sum_by-set (λ (l : Line). one_if (test l.state)) lines at after line (slice_get_within lines at line (sym there))) in
    omega (arith, is, moves, changed, by-ones test lines, by-ones test (set lines at after))

-- a line that goes was counted, and there is room for what it becomes
pub can-recount : (test : CacheState → Bool) (lines : List Line) (at : ℕ) (line : Line) (next : CacheState) (count : ℕ) →
    count ≡ passing test lines → Some line ≡ slice_get lines at → length lines < 2 ^ 32 → CanRecount count (test line.state) (test next)
can-recount test lines at line next count is there few =
    let after : Line = record line { state = next } in
    let one = rw (get_or_from_slice_get lines at line line (sym there)) at
    (get_or-le-sum_by (λ (l : Line). one_if (test l.state)) lines at line (slice_get_within lines at line (sym there))) in
    let new = count - one_if (test line.state) + one_if (test next) in
    let counted = recounted test lines at line after count new is there (let all = by-ones test lines in omega (arith, is, one, all)) in
    let most = count_by-le-length (λ (l : Line). test l.state) (set lines at after) in
    let all = by-ones test lines in
    record { there = omega (arith, is, one, all); room = omega (arith, counted, most, few, length-set lines at after) }
