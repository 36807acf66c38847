-- The marks of what is on the links: one for each message.
use Rattle.std.proofs.Common.{◌≡◌, ◌≢◌, ℕ, ◌+◌, List, [], ◌∷◌, length, get_or, map, slice_set, refl, sym, ap, ◌∙◌, zero, suc, arith, add-zero}
use Rattle.network.specs.declared.message.Forward.{Forward}
use Rattle.cache_table.specs.Table as cache_table
use Rattle.control.specs.declared.line.Line.{Line}
use Rattle.control.specs.declared.line.LineInput.TheVariants as line_input
use Rattle.machine.proofs.Places.{slice_get-set_other}
use Rattle.blocks.specs.Marking.{line_stalls, link_stalls, links_stall}

pub links_stall-length : (cells : cache_table.Cells) (lines : List Line) (cache : ℕ) (ls : List (List Forward)) →
    length (links_stall cells lines cache ls) ≡ length ls
links_stall-length cells lines cache [] = refl
links_stall-length cells lines cache (l ∷ ls) = ap suc (links_stall-length cells lines (cache + 1) ls)

pub links_stall-at : (cells : cache_table.Cells) (lines : List Line) (cache : ℕ) (ls : List (List Forward)) (k : ℕ) →
    get_or (links_stall cells lines cache ls) k [] ≡ link_stalls cells lines (cache + k) (get_or ls k [])
links_stall-at cells lines cache [] k = refl
links_stall-at cells lines cache (l ∷ ls) zero = ap (λ c. link_stalls cells lines c l) (sym (add-zero cache))
links_stall-at cells lines cache (l ∷ ls) (suc k) =
    links_stall-at cells lines (cache + 1) ls k
    ∙ ap (λ c. link_stalls cells lines c (get_or ls k [])) (let e : cache + 1 + k ≡ cache + suc k = omega arith in e)

-- what is on the links to other caches is marked as before
pub links-other : (cells : cache_table.Cells) (lines : List Line) (cache : ℕ) (line : Line) (other : ℕ) (fs : List Forward) → other ≢ cache →
    link_stalls cells (slice_set lines cache line) other fs ≡ link_stalls cells lines other fs
links-other cells lines cache line other fs apart =
    ap (λ o. map (λ f. line_stalls cells o (line_input.Forward f)) fs) (slice_get-set_other lines cache other line apart)

-- another list of messages is on a link
pub links_stall-set : (cells : cache_table.Cells) (lines : List Line) (cache : ℕ) (ls : List (List Forward)) (k : ℕ) (fs : List Forward) →
    links_stall cells lines cache (slice_set ls k fs) ≡ slice_set (links_stall cells lines cache ls) k (link_stalls cells lines (cache + k) fs)
links_stall-set cells lines cache [] k fs = refl
links_stall-set cells lines cache (l ∷ ls) zero fs =
    ap (λ c. link_stalls cells lines c fs ∷ links_stall cells lines (cache + 1) ls) (sym (add-zero cache))
links_stall-set cells lines cache (l ∷ ls) (suc k) fs =
    ap (λ ms. link_stalls cells lines cache l ∷ ms) (links_stall-set cells lines (cache + 1) ls k fs)
    ∙ ap (λ c. link_stalls cells lines cache l ∷ slice_set (links_stall cells lines (cache + 1) ls) k (link_stalls cells lines c fs))
    (let e : cache + 1 + k ≡ cache + suc k = omega arith in e)
