-- A block that a cell acts at still holds together.
use Rattle.std.proofs.Common.{◌≡◌, ℕ, ◌+◌, List, Option, Some, None, true, ap, sym, subst, ◌∙◌, arith}
use Rattle.std.proofs.Common.{length, set, slice_get}
use Rattle.std.proofs.lemmas.List.{map-set, length-map, length-set, get_or-set_same}
use Rattle.std.proofs.lemmas.Option.{slice_get_within}
use Rattle.base.specs.declared.ids.CacheId.{CacheId}
use Rattle.network.specs.Traffic.{all_sent}
use Rattle.cache_table.specs.declared.actions.CacheAction.{CacheAction}
use Rattle.cache_table.specs.declared.state.CacheState.{CacheState}
use Rattle.directory_table.specs.declared.actions.DirectoryAction.{DirectoryAction}
use Rattle.directory_table.specs.declared.state.DirectoryState.{DirectoryState}
use Rattle.control.specs.declared.line.Line.{Line}
use Rattle.control.specs.declared.line.LineInput.{LineInput}
use Rattle.control.specs.declared.home.HomeInput.{HomeInput}
use Rattle.control.specs.LineEffect.{line_sends, taken_in, requestor_of, is_reader, is_writer}
use Rattle.control.specs.HomeEffect.{home_sends, home_after, sender_of, brought_by}
use Rattle.control.specs.Homes.{IsBelow}
use Rattle.machine.specs.declared.decision.Origin.{Origin}
use Rattle.machine.specs.Block.{BlockState, IsBlockAmong}
use Rattle.machine.specs.Transition.{without}
use Rattle.machine.proofs.Whole.{whole-at_line, whole-at_home}
use Rattle.blocks.specs.View.{line_or}
use Rattle.network.specs.Room.{one_if}
use Rattle.blocks.specs.inner.Lined.{IsHeld, kept_lines, lines_of}
use Rattle.blocks.specs.inner.Named.{HomeNames, IsKept, IsKeptIf}
use Rattle.blocks.proofs.Access.{recounted}
use Rattle.blocks.proofs.Naming.{home-more, more-set, moved-names, traffic-home_sent, traffic-line_sent, traffic-more, traffic-without}

-- where a line acts
pub held-at_line : (items : List (Option Line)) (cache : CacheId) (line after : Line) (input : LineInput) (next : CacheState) (actions : List CacheAction)
    (from : Origin) (b new : BlockState) (readers writers reading writing : ℕ) →
    IsHeld b items readers writers → Some line ≡ slice_get b.lines cache.0 → IsKeptIf (kept_lines items) (requestor_of input) →
    new.lines ≡ lines_of (set items cache.0 (Some after)) → new.home ≡ b.home →
    new.traffic ≡ all_sent (line_sends cache input actions line) (without from b.traffic) →
    after.state ≡ next → reading + one_if (is_reader line.state) ≡ readers + one_if (is_reader next) →
    writing + one_if (is_writer line.state) ≡ writers + one_if (is_writer next) → IsHeld new (set items cache.0 (Some after)) reading writing
held-at_line items cache line after input next actions from b new readers writers reading writing h there requestor lines home traffic state reads writes =
    let below = slice_get_within b.lines cache.0 line (sym there) in
    let at : new.lines ≡ set b.lines cache.0 after =
    lines ∙ map-set line_or items cache.0 (Some after) ∙ ap (λ ls. set ls cache.0 after) (sym h.lines) in
    let long : length new.lines ≡ length b.lines = ap length at ∙ length-set b.lines cache.0 after in
    let kept : kept_lines (set items cache.0 (Some after)) ≡ set (kept_lines items) cache.0 true = map-set _ items cache.0 (Some after) in
    let places : length (kept_lines items) ≡ length b.lines = length-map items _ ∙ sym (length-map items line_or) ∙ ap length (sym h.lines) in
    let own : IsKept (set (kept_lines items) cache.0 true) cache.0 =
    get_or-set_same (kept_lines items) cache.0 true _ (omega (arith, below, places)) in
    let more = more-set (kept_lines items) cache.0 in
    record {
      lines = lines;
      among = subst (λ n. IsBlockAmong n new) (sym long)
          (whole-at_line (length b.lines) cache line after input actions from b new h.among below at home traffic);
      few = omega (arith, h.few, long);
      home = rw (kept, home) (home-more (kept_lines items) (set (kept_lines items) cache.0 true) b.home more h.home);
      traffic =
          rw (kept, traffic)
          (traffic-line_sent (set (kept_lines items) cache.0 true) cache (taken_in input line).value (requestor_of input) actions (without from b.traffic) own
          (kept_if-more (requestor_of input) requestor)
          (traffic-without (set (kept_lines items) cache.0 true) from b.traffic
          (traffic-more (kept_lines items) (set (kept_lines items) cache.0 true) b.traffic more h.traffic)));
      readers = rw at (recounted is_reader b.lines cache.0 line after readers reading h.readers there (rw (← state) at reads));
      writers = rw at (recounted is_writer b.lines cache.0 line after writers writing h.writers there (rw (← state) at writes));
    }
  where
    kept_if-more : (c : Option CacheId) → IsKeptIf (kept_lines items) c → IsKeptIf (set (kept_lines items) cache.0 true) c
    kept_if-more None h = tt
    kept_if-more (Some c) h = more-set (kept_lines items) cache.0 c.0 h

-- where the home does
pub held-at_home : (items : List (Option Line)) (input : HomeInput) (next : DirectoryState) (actions : List DirectoryAction) (from : Origin)
    (b new : BlockState) (readers writers : ℕ) →
    IsHeld b items readers writers → IsBelow (sender_of input) (length b.lines) → IsKeptIf (kept_lines items) (sender_of input) →
    new.lines ≡ b.lines → new.home ≡ home_after input next actions b.home →
    new.traffic ≡ all_sent (home_sends input actions b.home) (without from b.traffic) → IsHeld new items readers writers
held-at_home items input next actions from b new readers writers h below sender lines home traffic =
    let names : HomeNames (kept_lines items) (home_after input next actions b.home) =
    (let m = moved-names (kept_lines items) (sender_of input) (brought_by input) actions b.home sender h.home in
    record { owner = m.owner; sharers = m.sharers }) in
    record {
      lines = lines ∙ h.lines;
      among = subst (λ n. IsBlockAmong n new) (sym (ap length lines))
          (whole-at_home (length b.lines) input next actions from b new h.among below lines home traffic);
      few = rw lines h.few;
      home = rw home names;
      traffic =
          rw traffic
          (traffic-home_sent (kept_lines items) (sender_of input) (brought_by input) actions b.home (without from b.traffic) sender h.home
          (traffic-without (kept_lines items) from b.traffic h.traffic));
      readers = rw lines h.readers;
      writers = rw lines h.writers;
    }
