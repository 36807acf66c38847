-- An Inv-Ack comes to a line, as the pairs of its receiver see it.
use Rattle.std.proofs.Common.{◌≡◌, ◌≢◌, ℕ, ◌+◌, refl, ap, sym, ◌∙◌, Some, None, Bool, true, false, not, ◌&&◌, ◌||◌, ◌==◌}
use Rattle.std.proofs.Common.{if◌then◌else◌, sum_by, arith, slice_get, pos, ◌+ℤ◌}
use Rattle.std.proofs.lemmas.Bool.{ne_eqb}
use Rattle.base.specs.declared.ids.CacheId.{CacheId}
use Rattle.tables.specs.Tables.{Tables}
use Rattle.machine.specs.Block.{BlockState, IsBlockAmong}
use Rattle.cache_table.specs.declared.event.CacheEvent.TheVariants as event
use Rattle.cache_table.specs.Table as cache_table
use Rattle.cache_table.specs.Table.{CacheEntry}
use Rattle.control.specs.declared.line.Line.{Line}
use Rattle.control.specs.declared.line.LineInput.TheVariants as line_input
use Rattle.control.specs.LineEvents.{event_at_line, is_count}
use Rattle.network.specs.declared.message.Response.{Response}
use Rattle.network.specs.declared.message.Response.TheVariants.{InvAck}
use Rattle.machine.proofs.Seen.{line_of}
use Rattle.pairs.specs.declared.pair.Pair.{Pair}
use Rattle.pairs.specs.declared.steps.Rule.{Rule}
use Rattle.pairs.specs.declared.steps.Party.TheVariants.{Nobody}
use Rattle.pairs.specs.declared.steps.Rule.TheVariants.{GetsInvAck}
use Rattle.pairs.specs.declared.steps.Sight.TheVariants.{Unmoved}
use Rattle.pairs.specs.Sights.{sight, by_line, at_line, response_seen, ack_fits, counts_fit}
use Rattle.closing.proofs.Alpha.{Tags, alpha, Faithful}
use Rattle.network.specs.Traffic.{Traffic, response_taken}
use Rattle.control.specs.LineEffect.{taken_in, one_ack_less}
use Rattle.machine.proofs.Counts.{total}
use Rattle.machine.proofs.Seen.{names, is_inv, inv_ack, ack_number}
use Rattle.closing.proofs.Alpha.{Face, LagIs, Owing, face, owing, pair_of, owed_to}
use Rattle.closing.proofs.LineActing.{AckCounts}
use Rattle.closing.proofs.LineGoes.{owed_on}
use Rattle.closing.proofs.Alpha.{side_of}
use Rattle.closing.proofs.LineActing.{same-if}
use Rattle.closing.proofs.LineSettling.{message-settles}
use Rattle.machine.proofs.Counts.{total}
use Rattle.machine.proofs.Facts.{promised-zero}
use Rattle.machine.proofs.Seen.{dir_data, late_of}
use Rattle.closing.proofs.LineActing.{AckCounts}
use Rattle.closing.proofs.Taking.{face_with, counts-nothing, lost-count, same-count}
use Rattle.closing.proofs.Taking.{ack-taken, not-last}
use Rattle.closing.proofs.Lags.{ack-lag, ack-low, counts-fit, same-lag}
use Rattle.closing.proofs.AskActs.{plain-replies}
use Rattle.closing.proofs.ResponseActs.{pair-taken, Known}
use Rattle.closing.proofs.DirDataActs.{here}

-- an Inv-Ack fits where one was owed, and where the line waits for it
fits-so : (some low last none_dir fits_so : Bool) → some ≡ true → not (low && last) ≡ true → (none_dir ≡ true → fits_so ≡ true) →
    (some && not (low && last) && (not none_dir || fits_so)) ≡ true
fits-so some low last true fits_so e f g = ap (λ (t : Bool). t && not (low && last) && fits_so) e ∙ ap (λ (t : Bool). t && fits_so) f ∙ g refl
fits-so some low last false fits_so e f g = ap (λ (t : Bool). t && not (low && last) && true) e ∙ ap (λ (t : Bool). t && true) f

module _ (tables : Tables) (caches : ℕ) (tags : Tags) (b : BlockState) (cache : CacheId) (index : ℕ) (by to : CacheId)
    (whole : IsBlockAmong caches b) (faithful : Faithful tags b) (e : Some (InvAck by to) ≡ slice_get b.traffic.responses index)
    (same : cache ≡ to) (line : Line) (there : line_of b.lines cache.0 ≡ line) where
  abbrev a : ℕ
  a = cache.0

  abbrev r : Response
  r = InvAck by to

  abbrev w : Traffic
  w = response_taken index b.traffic

  -- how many are owed when it was taken
  abbrev left : ℕ
  left = total (names a is_inv) b.traffic.links + sum_by (inv_ack a) w.responses

  abbrev last : Bool
  last = is_count line.acks 1

  abbrev some_left : Bool
  some_left = not (left == 0)

  one-ack : inv_ack a r ≡ 1
  one-ack = here cache to same 1

  one-less : owed_to b a ≡ left + 1
  one-less = omega (arith, lost-count tags b.home b.traffic index r e (inv_ack a) 1 one-ack)

  -- what is awaited, before it was taken
  lag-before : LagIs (tags.lag a) (line.acks +ℤ pos (sum_by (ack_number a) b.traffic.responses)) (left + 1)
  lag-before = same-lag (tags.lag a) _ _ _ _ _ _ (ap (λ (l : Line). l.acks) there) refl one-less (faithful.lags a)

  -- where no Data from the home is on its way, nothing is announced any more
  waits-so : (sum_by (dir_data a) b.traffic.responses == 0) ≡ true → counts_fit (tags.lag a) (late_of line.acks == 0) last some_left ≡ true
  waits-so none =
      counts-fit (tags.lag a) line.acks left
      (same-lag (tags.lag a) _ _ _ _ _ _ refl (promised-zero a b.traffic.responses (same-if (sum_by (dir_data a) b.traffic.responses) 0 none)) refl lag-before)

  fits-here : ack_fits (side_of (face_with tags b a line) tags b.home b.traffic a) last some_left ≡ true
  fits-here =
      fits-so (not (owed_to b a == 0)) (late_of line.acks == 0) last (sum_by (dir_data a) b.traffic.responses == 0) _
      (ap (λ (t : Bool). not t) (ne_eqb (owed_to b a) 0 (λ none. absurd (omega (arith, none, one-less))))) (not-last line.acks) waits-so

  abbrev still : Owing
  still = record { any = some_left; lag = tags.lag a }

  abbrev after : Face
  after = record { line = taken_in (line_input.Response r) line; fresh = tags.line a; owed = still }

  abbrev behind : ℕ → Pair
  behind x = pair_of after (face tags b x) tags b.home w a x

  abbrev rule : Rule
  rule = GetsInvAck last some_left

  began : (y : CacheEntry) → cache_table.cell tables.cache line.state (event_at_line line.acks (line_input.Response r)) ≡ y → (t : Bool) (x : ℕ) → x ≢ a →
      sight tables rule t (alpha tags b a x) ≡ by_line rule t Nobody Nobody (event_at_line line.acks (line_input.Response r)) y (behind x)
  began y cell t x ne =
      ap (λ (l : Line). sight tables rule t (pair_of (face_with tags b a l) (face tags b x) tags b.home b.traffic a x)) there
      ∙ ap (λ (fit : Bool). if fit then (let p : Pair = pair_of (face_with tags b a line) (face tags b x) tags b.home b.traffic a x in
      response_seen tables rule t (if last then event.LastInvAck else event.InvAck) p (record p.first { owed = some_left; low = p.first.low || last }))
      else Unmoved)
      fits-here
      ∙ ap (λ (q : Pair). at_line tables rule t Nobody Nobody (if last then event.LastInvAck else event.InvAck) q)
      (pair-taken tables caches tags b cache index r whole faithful e same line _ after x ne
      (ack-taken tags b.home b.traffic index r e a line (tags.line a) (owing tags b a) (one_ack_less line.acks) some_left
      ((late_of line.acks == 0) || last) refl refl refl (ack-low line.acks)))
      ∙ ap (λ (z : CacheEntry). by_line rule t Nobody Nobody (if last then event.LastInvAck else event.InvAck) z (behind x)) cell

  -- how many are owed behind it
  owed-here : (u : Traffic) (sent : ℕ) → AckCounts cache None sent w u → owed_on u a ≡ left
  owed-here u sent counts = omega (arith, ap (λ ls. total (names a is_inv) ls) counts.links, counts.acks a)

  owed-there : (u : Traffic) (sent : ℕ) → AckCounts cache None sent w u → (x : ℕ) → x ≢ a → owed_on u x ≡ owed_to b x
  owed-there u sent counts x ne =
      omega (
        arith,
        ap (λ ls. total (names x is_inv) ls) counts.links,
        counts.acks x,
        same-count tags b.home b.traffic index r e (inv_ack x) (counts-nothing cache r x same ne).ack,
      )

  numbers-same : (u : Traffic) (sent : ℕ) → AckCounts cache None sent w u → (c : ℕ) →
      sum_by (ack_number c) u.responses ≡ sum_by (ack_number c) b.traffic.responses
  numbers-same u sent counts c = counts.numbers c ∙ same-count tags b.home b.traffic index r e (ack_number c) refl

  pub ack-known : Known tables caches tags b cache index r whole faithful e same line rule (tags.line a) still
  ack-known = record {
    start = began;
    right = λ known. ap (λ (l : Line). l.value) (sym there) ∙ faithful.tags_are_true.line a known;
    settles = λ next. message-settles (record (taken_in (line_input.Response r) line) { state = next }) (tags.line a) still;
    answers = λ by u sent counts. record {
      lags = tags.lag;
      owed_after = ap (λ (n : ℕ). record { any = not (n == 0); lag = tags.lag a }) (sym (owed-here u sent counts));
      law = record {
        own = same-lag (tags.lag a) _ _ _ _ _ _ refl (sym (numbers-same u sent counts a)) (sym (owed-here u sent counts))
            (ack-lag (tags.lag a) line.acks (sum_by (ack_number a) b.traffic.responses) left lag-before (faithful.announced a));
        others = λ x ne.
            same-lag (tags.lag x) _ _ _ _ _ _ refl (sym (numbers-same u sent counts x)) (sym (owed-there u sent counts x ne)) (faithful.lags x);
        announced = λ c. omega (arith, numbers-same u sent counts c, faithful.announced c);
      };
      replies = λ x ne f. plain-replies tags b a by w u x f (owed-there u sent counts x ne);
    };
  }
