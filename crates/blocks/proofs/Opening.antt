-- A block that opens holds together.
use Rattle.std.proofs.Common.{◌≡◌, ℕ, [], ◌∷◌, None, true, false, refl, ap, sym, subst, ◌∙◌, zero, suc}
use Rattle.std.proofs.Common.{◌<◌, ◌^◌, Bool, arith, count_by, map, replicate}
use Rattle.std.proofs.lemmas.List.{length-replicate}
use Rattle.std.proofs.lemmas.List.Sums.{sum_by-cons}
use Rattle.network.specs.Traffic.{link, quiet}
use Rattle.cache_table.specs.declared.state.CacheState.{CacheState}
use Rattle.control.specs.declared.line.Line.{Line}
use Rattle.control.specs.LineEffect.{is_reader, is_writer, opened_line}
use Rattle.control.proofs.HomeSends.{no-flag}
use Rattle.machine.specs.Block.{opened_block}
use Rattle.network.specs.Room.{one_if}
use Rattle.blocks.proofs.Access.{by-ones}
use Rattle.blocks.specs.inner.Lined.{IsHeld, kept_lines, lines_of}
use Rattle.blocks.specs.inner.Named.{Each, NamesOnLink}

-- each element of a list is made the same
map-same : {X Y : Type 0} (f : X → Y) (n : ℕ) (x : X) → map f (replicate n x) ≡ replicate n (f x)
map-same f zero x = refl
map-same f (suc n) x = ap (λ ys. f x ∷ ys) (map-same f n x)

pub no-message : (n cache : ℕ) → link (quiet n) cache ≡ []
no-message zero zero = refl
no-message zero (suc k) = refl
no-message (suc n) zero = refl
no-message (suc n) (suc k) = no-message n k

-- no line that opens passes a test that I doesn't
none-counted : (test : CacheState → Bool) → test opened_line.state ≡ false → (n : ℕ) →
    0 ≡ count_by (λ (line : Line). test line.state) (replicate n opened_line)
none-counted test fails zero = refl
none-counted test fails (suc n) =
    let first = ap one_if fails in
    let one = by-ones test (opened_line ∷ replicate n opened_line) in
    let rest = by-ones test (replicate n opened_line) in
    omega (arith, first, one, rest, none-counted test fails n, sum_by-cons (λ (l : Line). one_if (test l.state)) opened_line (replicate n opened_line))

-- nothing is named in a block that opens
pub held-opened : (caches value : ℕ) → caches < 2 ^ 32 → IsHeld (opened_block caches value) (replicate caches None) 0 0
held-opened caches value few =
    let lines = length-replicate caches opened_line in
    record {
      lines = sym (map-same _ caches None);
      among = record {
        lines = refl;
        links = length-replicate caches [] ∙ sym lines;
        home = record { sharers = length-replicate caches false ∙ sym lines; owner = tt };
        requests = tt;
      };
      few = omega (arith, lines);
      home = record {
        owner = tt;
        sharers = λ k e. let wrong : false ≡ true = sym (no-flag caches k) ∙ e in cc;
      };
      traffic = record {
        requests = tt;
        links = λ cache. subst (Each (NamesOnLink (kept_lines (replicate caches None)) cache)) (sym (no-message caches cache)) tt;
        responses = tt;
      };
      readers = none-counted is_reader refl caches;
      writers = none-counted is_writer refl caches;
    }

-- the lines of a block that opens
pub lines-opened : (caches : ℕ) → lines_of (replicate caches None) ≡ replicate caches opened_line
lines-opened caches = map-same _ caches None

-- and of such a block no line is kept
pub none-kept : (caches : ℕ) → kept_lines (replicate caches None) ≡ replicate caches false
none-kept caches = map-same _ caches None
