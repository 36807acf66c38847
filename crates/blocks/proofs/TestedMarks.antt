-- The marks of a block while what is on its links is tested, one link after another.
use Rattle.std.proofs.Common.{◌≡◌, ℕ, ◌+◌, ◌-◌, ◌<◌, ◌≤◌, List, [], ◌∷◌, Bool, false}
use Rattle.std.proofs.Common.{length, get_or, set, refl, sym, ap, ◌∙◌, zero, suc, arith, zero-add}
use Rattle.network.specs.declared.message.Forward.{Forward}
use Rattle.network.specs.Marks.{Marks, link_marks}
use Rattle.network.specs.Traffic.{Traffic, IsNextWaiting, NoneWaits, is_nil, link}
use Rattle.cache_table.specs.Table as cache_table
use Rattle.control.specs.declared.line.Line.{Line}
use Rattle.network.proofs.Written.{written, written-all, written-next, written-skipped}
use Rattle.blocks.specs.Marking.{link_stalls, links_stall}
use Rattle.blocks.proofs.LinkMarks.{links_stall-at, links_stall-length}

-- a link that waits is there
waiting-within : (ls : List (List Forward)) (cache : ℕ) → is_nil (get_or ls cache []) ≡ false → cache < length ls
waiting-within [] cache e = absurd (cc)
waiting-within (l ∷ ls) zero e = omega arith
waiting-within (l ∷ ls) (suc cache) e = omega (arith, waiting-within ls cache e)

nil-marks : (l : List Bool) → length l ≡ 0 → [] ≡ l
nil-marks [] e = refl
nil-marks (x ∷ xs) e = absurd (omega arith)

module _ (cells : cache_table.Cells) (lines : List Line) (w : Traffic) (old : Marks) (same : length old.links ≡ length w.links)
    (each : (cache : ℕ) → length (link_marks old cache) ≡ length (link w cache)) where
  abbrev tested : List (List Bool)
  tested = links_stall cells lines 0 w.links

  as_long : length old.links ≡ length tested
  as_long = same ∙ sym (links_stall-length cells lines 0 w.links)

  at : (cache : ℕ) → get_or tested cache [] ≡ link_stalls cells lines cache (link w cache)
  at cache = links_stall-at cells lines 0 w.links cache ∙ ap (λ c. link_stalls cells lines c (link w cache)) (zero-add cache)

  -- where a link is empty there is nothing to test
  empty : (cache : ℕ) → link w cache ≡ [] → get_or tested cache [] ≡ link_marks old cache
  empty cache none =
      at cache ∙ ap (link_stalls cells lines cache) none ∙ nil-marks (link_marks old cache) (each cache ∙ ap length none)

  pub links-step : (m new : Marks) (from cache : ℕ) → IsNextWaiting w from cache → m ≡ record old { links = written tested old.links from } →
      new ≡ record m { links = set m.links cache (link_stalls cells lines cache (link w cache)) } →
      new ≡ record old { links = written tested old.links (cache + 1) }
  links-step m new from cache next before e =
      let behind = next.behind in
      let there : from + (cache - from) ≡ cache = omega arith in
      e ∙ ap (λ (m : Marks). record m { links = set m.links cache (link_stalls cells lines cache (link w cache)) }) before
      ∙ ap (λ (ls : List (List Bool)). record old { links = ls })
      (ap (λ ls. set ls cache (link_stalls cells lines cache (link w cache)))
      (written-skipped [] tested old.links from (cache - from) as_long (λ k l u. empty k (next.first k l (omega arith)))
      ∙ ap (written tested old.links) there)
      ∙ ap (set (written tested old.links cache) cache) (sym (at cache))
      ∙ written-next [] tested old.links cache as_long
      (let within = waiting-within w.links cache next.waits in omega (arith, links_stall-length cells lines 0 w.links)))

  pub links-none : (m : Marks) (from : ℕ) → NoneWaits w from → m ≡ record old { links = written tested old.links from } →
      m ≡ record old { links = tested }
  links-none m from none before =
      before ∙ ap (λ (ls : List (List Bool)). record old { links = ls })
      (written-skipped [] tested old.links from (length tested) as_long (λ k l u. empty k (none.none k l))
      ∙ written-all tested old.links (from + length tested) as_long (omega arith))

  pub links-end : (m : Marks) (from : ℕ) → length w.links ≤ from → m ≡ record old { links = written tested old.links from } →
      m ≡ record old { links = tested }
  links-end m from past before =
      before ∙ ap (λ (ls : List (List Bool)). record old { links = ls })
      (written-all tested old.links from as_long (omega (arith, links_stall-length cells lines 0 w.links)))
