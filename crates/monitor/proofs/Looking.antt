-- What the looks at the writer and the readers of a block say of its caches.
use Rattle.std.proofs.Common.{◌≡◌, ◌≤◌, ◌<◌, ◌+◌, ℕ, zero, suc, false, List, [], ◌∷◌, Option, Some, None, IsTrue, MatchOption}
use Rattle.std.proofs.Common.{◌⊎◌, IfNone, IfSome, cond, count_by, slice_get, refl, sym, ap, subst, arith, inl, inr}
use Rattle.std.proofs.lemmas.Bool.{cases_Bool}
use Rattle.std.proofs.lemmas.List.Sums.{sum_by-cons}
use Rattle.std.specs.Option.{option_and_then, option_map_or, IsSomeAnd}
use Rattle.base.specs.Steps.{block_of}
use Rattle.base.specs.declared.ids.CacheId.{CacheId}
use Rattle.control.specs.declared.line.Line.{Line}
use Rattle.control.specs.LineEffect.{is_reader, is_writer}
use Rattle.machine.specs.Block.{BlockState}
use Rattle.machine.specs.Coherence.{Reads, Writes}
use Rattle.machine.specs.Machine.{State}
use Rattle.world.specs.Looks.{readers_of, writer_of}
use Rattle.blocks.specs.Looks.{writer_from, writer_in}
use Rattle.monitor.specs.declared.violation.Violation.TheVariants.{Blank, SecondWriter, WriterBesideReader, StaleLoad}
use Rattle.monitor.specs.Scenes.{Scene}
use Rattle.monitor.specs.Finding.{IsLeastFrom, HoldsForNoneFrom, ShowsNone}
use Rattle.monitor.proofs.Singles.{writes-reads}

-- the line at a place may write
abbrev WritesIn : List Line → ℕ → Type 0
WritesIn lines n = IsSomeAnd (slice_get lines n) (λ line. IsTrue (is_writer line.state))

-- the line at a place may read
abbrev ReadsIn : List Line → ℕ → Type 0
ReadsIn lines n = IsSomeAnd (slice_get lines n) (λ line. IsTrue (is_reader line.state))

-- a cache has the least line that may write, where the lines are those of the caches from a number on
record IsFirst (i : ℕ) (lines : List Line) (cache : ℕ) : Type 0 where
  place : ℕ
  is : cache ≡ i + place
  writes : WritesIn lines place
  least : (m : ℕ) → m < place → ¬ WritesIn lines m

abbrev Answered : ℕ → List Line → Option CacheId → Type 0
Answered i lines found = MatchOption found ((n : ℕ) → ¬ WritesIn lines n) (λ cache. IsFirst i lines cache.0)

none-more : (line : Line) (lines : List Line) → is_writer line.state ≡ false → ((m : ℕ) → ¬ WritesIn lines m)
    → (n : ℕ) → ¬ WritesIn (line ∷ lines) n
none-more line lines ne none zero w = absurd (cc (ne, w))
none-more line lines ne none (suc n) w = none n w

least-more : (line : Line) (lines : List Line) (place : ℕ) → is_writer line.state ≡ false → ((m : ℕ) → m < place → ¬ WritesIn lines m) →
    (n : ℕ) → n < suc place → ¬ WritesIn (line ∷ lines) n
least-more line lines place ne least zero lt w = absurd (cc (ne, w))
least-more line lines place ne least (suc n) lt w = least n (omega (arith, lt)) w

-- one more line, which may not write
behind : (i : ℕ) (line : Line) (lines : List Line) → is_writer line.state ≡ false → (found : Option CacheId) → Answered (i + 1) lines found →
    Answered i (line ∷ lines) found
behind i line lines ne None none = none-more line lines ne none
behind i line lines ne (Some cache) first = record {
  place = suc first.place;
  is = omega (arith, first.is);
  writes = first.writes;
  least = least-more line lines first.place ne first.least;
}

answered : (i : ℕ) (lines : List Line) → Answered i lines (writer_from i lines)
answered i [] = λ n w. w
answered i (line ∷ lines) = elim (cases_Bool (is_writer line.state)) [
  | inl w ↦ rw w (record { place = 0; is = omega arith; writes = w; least = λ m lt. absurd (omega (arith, lt)) })
  | inr ne ↦ rw ne (behind i line lines ne (writer_from (i + 1) lines) (answered (i + 1) lines))
]

in-lines : (lines : List Line) (found : Option CacheId) → Answered 0 lines found →
    MatchOption found (HoldsForNoneFrom (WritesIn lines) 0) (λ cache. IsLeastFrom (WritesIn lines) 0 cache.0)
in-lines lines None none = λ n le. none n
in-lines lines (Some cache) first = record {
  not_below = omega arith;
  holds = subst (WritesIn lines) (omega (arith, first.is)) first.writes;
  least = λ m le lt. first.least m (omega (arith, first.is, lt));
}

-- the writer of a block is the least cache that may write it
pub writer-is : (s : State) (block : ℕ) →
    MatchOption (writer_of s block) (HoldsForNoneFrom (λ c. Writes s c block) 0) (λ cache. IsLeastFrom (λ c. Writes s c block) 0 cache.0)
writer-is s block = by-block (slice_get s.blocks block)
  where
    may-write : Option BlockState → ℕ → Type 0
    may-write o c = IsSomeAnd (option_and_then (λ b. slice_get b.lines c) o) (λ line. IsTrue (is_writer line.state))

    by-block : (o : Option BlockState) → MatchOption (option_and_then (λ b. writer_in b.lines) o) (HoldsForNoneFrom (may-write o) 0)
        (λ cache. IsLeastFrom (may-write o) 0 cache.0)
    by-block None = λ n le w. w
    by-block (Some b) = in-lines b.lines (writer_in b.lines) (answered 0 b.lines)

-- how many lines may read
abbrev counted : List Line → ℕ
counted lines = count_by (λ line. is_reader line.state) lines

counted-cons : (line : Line) (lines : List Line) → counted (line ∷ lines) ≡ cond (is_reader line.state) 1 0 + counted lines
counted-cons line lines = sum_by-cons (λ line. cond (is_reader line.state) 1 0) line lines

counts-one : (line : Line) → IsTrue (is_reader line.state) → ◌≡◌ {A = ℕ} (cond (is_reader line.state) 1 0) 1
counts-one line reads = ap (λ b. cond b 1 0) reads

some-counted : (lines : List Line) (n : ℕ) → ReadsIn lines n → 0 < counted lines
some-counted [] n reads = absurd reads
some-counted (line ∷ lines) zero reads = omega (arith, counted-cons line lines, counts-one line reads)
some-counted (line ∷ lines) (suc n) reads = omega (arith, counted-cons line lines, some-counted lines n reads)

one-line : (lines : List Line) (m n : ℕ) → counted lines ≤ 1 → ReadsIn lines m → ReadsIn lines n → m ≡ n
one-line [] m n few first second = absurd first
one-line (line ∷ lines) zero zero few first second = refl
one-line (line ∷ lines) zero (suc n) few first second =
    absurd (omega (arith, few, counted-cons line lines, counts-one line first, some-counted lines n second))
one-line (line ∷ lines) (suc m) zero few first second =
    absurd (omega (arith, few, counted-cons line lines, counts-one line second, some-counted lines m first))
one-line (line ∷ lines) (suc m) (suc n) few first second = ap suc (one-line lines m n (omega (arith, few, counted-cons line lines)) first second)

-- where there is one reader at most, two readers are one
one-reader : (s : State) (block m n : ℕ) → readers_of s block ≤ 1 → Reads s m block → Reads s n block → m ≡ n
one-reader s block m n = by-block (slice_get s.blocks block)
  where
    may-read : Option BlockState → ℕ → Type 0
    may-read o c = IsSomeAnd (option_and_then (λ b. slice_get b.lines c) o) (λ line. IsTrue (is_reader line.state))

    by-block : (o : Option BlockState) → option_map_or (λ b. counted b.lines) o 0 ≤ 1 → may-read o m → may-read o n → m ≡ n
    by-block None few first second = absurd first
    by-block (Some b) few first second = one-line b.lines m n few first second

-- a writer is a reader: where there is one reader at most, there is neither a second writer nor a reader beside one
pub none-shared : (scene : Scene) → readers_of scene.state (block_of scene.step) ≤ 1 → ShowsNone scene 1 3
none-shared scene few (Blank at block) low high s = absurd (omega (arith, low))
none-shared scene few (SecondWriter block first second) low high s =
    let at = block_of scene.step in
    let same : first.0 ≡ second.0 = one-reader scene.state at first.0 second.0 few (writes-reads scene.state first.0 at s.1.least.holds)
    (writes-reads scene.state second.0 at s.1.next.holds.1) in
    absurd (omega (arith, same, s.1.next.holds.0))
none-shared scene few (WriterBesideReader block writer reader) low high s =
    let at = block_of scene.step in
    s.1.beside.holds.0
    (one-reader scene.state at reader.0 writer.0 few s.1.beside.holds.1 (writes-reads scene.state writer.0 at s.1.writes.holds))
none-shared scene few (StaleLoad block got due) low high s = absurd (omega (arith, high))

-- where no cache may write, there is neither a second writer nor a reader beside one
pub none-writes : (scene : Scene) → HoldsForNoneFrom (λ c. Writes scene.state c (block_of scene.step)) 0 → ShowsNone scene 1 3
none-writes scene none (Blank at block) low high s = absurd (omega (arith, low))
none-writes scene none (SecondWriter block first second) low high s = none first.0 (omega arith) s.1.least.holds
none-writes scene none (WriterBesideReader block writer reader) low high s = none writer.0 (omega arith) s.1.writes.holds
none-writes scene none (StaleLoad block got due) low high s = absurd (omega (arith, high))

-- what a look for a crowded writer says
pub crowded-some : (s : State) (block : ℕ) (found : Option CacheId) → IfSome found (λ cache. Some cache ≡ writer_of s block) →
    IfSome found (λ cache. IsLeastFrom (λ c. Writes s c block) 0 cache.0)
crowded-some s block None h = tt
crowded-some s block (Some cache) h =
    subst (λ o. MatchOption o (HoldsForNoneFrom (λ c. Writes s c block) 0) (λ cache. IsLeastFrom (λ c. Writes s c block) 0 cache.0)) (sym h) (writer-is s block)

pub crowded-none : (s : State) (block : ℕ) (found : Option CacheId) → IfNone found ((readers_of s block ≤ 1) ⊎ (None ≡ writer_of s block)) →
    IfNone found ((readers_of s block ≤ 1) ⊎ HoldsForNoneFrom (λ c. Writes s c block) 0)
crowded-none s block None (inl few) = inl few
crowded-none s block None (inr none) =
    inr (subst (λ o. MatchOption o (HoldsForNoneFrom (λ c. Writes s c block) 0) (λ cache. IsLeastFrom (λ c. Writes s c block) 0 cache.0))
    (sym none) (writer-is s block))
crowded-none s block (Some cache) h = tt
