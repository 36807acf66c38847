-- Where nothing is on its way there are no marks, and all counts are 0.
use Rattle.std.proofs.Common.{◌≡◌, ℕ, ◌+◌, List, [], ◌∷◌, Bool, length, map, replicate}
use Rattle.std.proofs.Common.{refl, sym, ap, ◌∙◌, zero, suc}
use Rattle.network.specs.Marks.{Marks, no_marks}
use Rattle.network.specs.Traffic.{Traffic, quiet}
use Rattle.cache_table.specs.Table as cache_table
use Rattle.control.specs.declared.line.Line.{Line}
use Rattle.control.specs.declared.home.HomeInput.TheVariants as home_input
use Rattle.tables.specs.Tables.{Tables}
use Rattle.machine.specs.Block.{BlockState, opened_block}
use Rattle.world.specs.inner.Counts.{AreCounted}
use Rattle.blocks.specs.Marking.{home_stalls, response_stalls, links_stall, marks_of}
use Rattle.network.specs.Marks.{unmarked_heads, unmarked_count, unmarked_heads_count}
use Rattle.blocks.specs.Marking.{free_requests, free_heads, free_responses}
use Rattle.network.proofs.UnmarkedPlaces.{unmarked_heads-length}

links_stall-quiet : (cells : cache_table.Cells) (lines : List Line) (cache n : ℕ) → links_stall cells lines cache (replicate n []) ≡ replicate n []
links_stall-quiet cells lines cache zero = refl
links_stall-quiet cells lines cache (suc n) = ap (λ ls. [] ∷ ls) (links_stall-quiet cells lines (cache + 1) n)

pub marks-quiet : (tables : Tables) (b : BlockState) (caches : ℕ) → b.traffic ≡ quiet caches → marks_of tables b ≡ no_marks caches
marks-quiet tables b caches e =
    ap on e ∙ ap of_links (links_stall-quiet tables.cache b.lines 0 caches)
  where
    on : Traffic → Marks
    on w = record {
      requests = map (λ r. home_stalls tables.directory b.home (home_input.Request r)) w.requests;
      links = links_stall tables.cache b.lines 0 w.links;
      responses = map (response_stalls tables b) w.responses;
    }

    of_links : List (List Bool) → Marks
    of_links ls = record { requests = []; links = ls; responses = [] }

no-heads : (cache n : ℕ) → unmarked_heads cache (replicate n []) ≡ []
no-heads cache zero = refl
no-heads cache (suc n) = no-heads (cache + 1) n

no-heads-count : (n : ℕ) → unmarked_heads_count (replicate n []) ≡ 0
no-heads-count n = sym (unmarked_heads-length 0 (replicate n [])) ∙ ap length (no-heads 0 n)

pub requests-quiet : (tables : Tables) (b : BlockState) (caches : ℕ) → b.traffic ≡ quiet caches → free_requests tables b ≡ 0
requests-quiet tables b caches e = ap (λ (m : Marks). unmarked_count m.requests) (marks-quiet tables b caches e)

pub heads-quiet : (tables : Tables) (b : BlockState) (caches : ℕ) → b.traffic ≡ quiet caches → free_heads tables b ≡ 0
heads-quiet tables b caches e = ap (λ (m : Marks). unmarked_heads_count m.links) (marks-quiet tables b caches e) ∙ no-heads-count caches

pub responses-quiet : (tables : Tables) (b : BlockState) (caches : ℕ) → b.traffic ≡ quiet caches → free_responses tables b ≡ 0
responses-quiet tables b caches e = ap (λ (m : Marks). unmarked_count m.responses) (marks-quiet tables b caches e)

-- rows of an opened world
row-opened : (count : BlockState → ℕ) (caches : ℕ) (values : List ℕ) → ((b : BlockState) → b.traffic ≡ quiet caches → count b ≡ 0) →
    replicate (length values) 0 ≡ map count (map (opened_block caches) values)
row-opened count caches [] none = refl
row-opened count caches (v ∷ values) none =
    ap (λ (ns : List ℕ). 0 ∷ ns) (row-opened count caches values none)
    ∙ ap (λ n. n ∷ map count (map (opened_block caches) values)) (sym (none (opened_block caches v) refl))

pub counted-opened : (tables : Tables) (caches n : ℕ) (values : List ℕ) → length values ≡ n →
    AreCounted tables (map (opened_block caches) values) (replicate n 0) (replicate n 0) (replicate n 0)
counted-opened tables caches n values e = record {
  of_requests = row (free_requests tables) (λ b q. requests-quiet tables b caches q);
  of_heads = row (free_heads tables) (λ b q. heads-quiet tables b caches q);
  of_responses = row (free_responses tables) (λ b q. responses-quiet tables b caches q);
}
  where
    row : (count : BlockState → ℕ) → ((b : BlockState) → b.traffic ≡ quiet caches → count b ≡ 0) →
        replicate n 0 ≡ map count (map (opened_block caches) values)
    row count none = ap (λ m. replicate m 0) (sym e) ∙ row-opened count caches values none
