-- Data from the home comes to a line, as the pairs of its receiver see it.
use Rattle.std.proofs.Common.{◌≡◌, ◌≢◌, ℕ, ◌+◌, ◌-◌, refl, ap, sym, subst, ◌∙◌, inl, Option, Some, None, Bool, true, not, ◌||◌, ◌==◌}
use Rattle.std.proofs.Common.{if◌then◌else◌, sum_by, arith, slice_get, eq-eqb}
use Rattle.base.specs.declared.ids.CacheId.{CacheId}
use Rattle.tables.specs.Tables.{Tables}
use Rattle.machine.specs.Block.{BlockState, IsBlockAmong}
use Rattle.cache_table.specs.declared.event.CacheEvent.TheVariants as event
use Rattle.cache_table.specs.Table as cache_table
use Rattle.cache_table.specs.Table.{CacheEntry}
use Rattle.cache_table.specs.declared.event.CacheEvent.{CacheEvent}
use Rattle.control.specs.declared.line.Line.{Line}
use Rattle.control.specs.declared.line.LineInput.TheVariants as line_input
use Rattle.control.specs.LineEvents.{event_at_line, more_acks}
use Rattle.network.specs.declared.message.Response.{Response}
use Rattle.network.specs.declared.message.Response.TheVariants.{Data}
use Rattle.base.specs.declared.ids.Place.TheVariants.{Dir, Cache}
use Rattle.machine.proofs.Counts.{only}
use Rattle.machine.proofs.Seen.{line_of}
use Rattle.pairs.specs.declared.pair.Pair.{Pair}
use Rattle.pairs.specs.declared.steps.Party.TheVariants.{Nobody}
use Rattle.pairs.specs.declared.steps.Rule.TheVariants.{GetsDirData}
use Rattle.pairs.specs.Sights.{sight, by_line, at_line, response_seen, with_data, acks_awaited, dir_data_seen, is_ahead, is_level}
use Rattle.closing.proofs.Alpha.{Tags, alpha, Faithful}
use Rattle.network.specs.Traffic.{Traffic, response_taken}
use Rattle.control.specs.LineEffect.{taken_in}
use Rattle.machine.proofs.Seen.{ack_number}
use Rattle.closing.proofs.Alpha.{Face, Owing, face, owing, pair_of, owed_to}
use Rattle.closing.proofs.LineActing.{AckCounts}
use Rattle.closing.proofs.LineGoes.{owed_on}
use Rattle.closing.proofs.LineSettling.{message-settles}
use Rattle.machine.proofs.Facts.{promised-zero}
use Rattle.machine.proofs.Seen.{dir_data}
use Rattle.pairs.specs.declared.side.Lag.{Lag}
use Rattle.pairs.specs.declared.steps.Sight.{Sight}
use Rattle.closing.proofs.Simulation.{IsBreach, Breaks, next-other}
use Rattle.closing.proofs.AskActs.{plain-replies}
use Rattle.closing.proofs.Lags.{Awaits, data-awaits, same-lag}
use Rattle.closing.proofs.Alpha.{side, data_count}
use Rattle.closing.proofs.LineActing.{AckCounts}
use Rattle.closing.proofs.Taking.{face_with, counts-nothing, lost-count, same-count, dir-taken}
use Rattle.closing.proofs.Taking.{face_with}
use Rattle.closing.proofs.ResponseActs.{passes, few-dir, pair-taken, Known, same-owed, fresh-there, one-there}

-- who a response goes to, as a flag
pub here : (cache to : CacheId) → cache ≡ to → (n : ℕ) → only (to.0 == cache.0) n ≡ n
here cache to same n = ap (λ (t : Bool). only t n) (eq-eqb to.0 cache.0 (ap (λ (c : CacheId). c.0) (sym same)))

module _ (tables : Tables) (caches : ℕ) (tags : Tags) (b : BlockState) (cache : CacheId) (index : ℕ) (to : CacheId) (value acks : ℕ)
    (whole : IsBlockAmong caches b) (faithful : Faithful tags b) (e : Some (Data Dir (Cache to) value acks) ≡ slice_get b.traffic.responses index)
    (same : cache ≡ to) (line : Line) (there : line_of b.lines cache.0 ≡ line) where
  abbrev a : ℕ
  a = cache.0

  abbrev r : Response
  r = Data Dir (Cache to) value acks

  abbrev w : Traffic
  w = response_taken index b.traffic

  abbrev told : Bool
  told = tags.data_to a || (data_count a b.traffic.responses == 0)

  abbrev owed : Owing
  owed = owing tags b a

  one-dir : dir_data a r ≡ 1
  one-dir = here cache to same 1

  none-left : sum_by (ack_number a) w.responses ≡ 0
  none-left =
      promised-zero a w.responses
      (omega (arith, few-dir (side tags b a) (faithful.few a), lost-count tags b.home b.traffic index r e (dir_data a) 1 one-dir))

  all-announced : sum_by (ack_number a) b.traffic.responses ≡ acks
  all-announced = omega (arith, none-left, lost-count tags b.home b.traffic index r e (ack_number a) acks (here cache to same acks))

  -- what the line awaits then is sought
  seeks : (t : Bool) (x : ℕ) → sight tables GetsDirData t (alpha tags b a x) ≡
      dir_data_seen tables t (acks_awaited (tags.lag a) owed.any) (alpha tags b a x)
      (record (side tags b a) { dir_data = (side tags b a).dir_data - 1 })
  seeks t x =
      passes (sum_by (dir_data a) b.traffic.responses) _
      (one-there tables caches tags b cache index r whole faithful e same (dir_data a) one-dir)

  -- where it isn't known, that can't be followed
  pub dir-lost : acks_awaited (tags.lag a) owed.any ≡ None → Breaks tables tags b
  dir-lost none = (
    a,
    a + 1,
    next-other a,
    true,
    inl (
      GetsDirData,
      subst (λ (s : Sight). IsBreach s) (sym (seeks true (a + 1) ∙ ap (λ (o : Option Lag). dir_data_seen tables true o (alpha tags b a (a + 1))
          (record (side tags b a) { dir_data = (side tags b a).dir_data - 1 })) none)) tt,
    ),
  )

  module _ (k : Lag) (some : acks_awaited (tags.lag a) owed.any ≡ Some k) where
    awaits : Awaits (tags.lag a) k (more_acks line.acks acks) (owed_to b a)
    awaits =
        data-awaits (tags.lag a) k line.acks acks (owed_to b a)
        (same-lag (tags.lag a) _ _ _ _ _ _ (ap (λ (l : Line). l.acks) there) all-announced refl (faithful.lags a)) some

    abbrev event_then : CacheEvent
    event_then = if is_level k then event.DataDirZero else event.DataDirMore

    -- so the event is what the pair says
    pub same-event : event_then ≡ event_at_line line.acks (line_input.Response r)
    same-event = ap (λ (t : Bool). if t then event.DataDirZero else event.DataDirMore) (sym awaits.none)

    abbrev after : Face
    after = record { line = taken_in (line_input.Response r) line; fresh = told; owed = owed }

    abbrev behind : ℕ → Pair
    behind x = pair_of after (face tags b x) tags b.home w a x

    began : (y : CacheEntry) → cache_table.cell tables.cache line.state (event_at_line line.acks (line_input.Response r)) ≡ y → (t : Bool) (x : ℕ) → x ≢ a →
        sight tables GetsDirData t (alpha tags b a x) ≡
        by_line GetsDirData t Nobody Nobody (event_at_line line.acks (line_input.Response r)) y (behind x)
    began y cell t x ne =
        seeks t x
        ∙ ap (λ (o : Option Lag). dir_data_seen tables t o (alpha tags b a x) (record (side tags b a) { dir_data = (side tags b a).dir_data - 1 })) some
        ∙ ap (λ (l : Line). (let p : Pair = pair_of (face_with tags b a l) (face tags b x) tags b.home b.traffic a x in
        response_seen tables GetsDirData t event_then p
        (with_data (record p.first { dir_data = p.first.dir_data - 1; low = not (is_ahead k) })))) there
        ∙ ap (λ (q : Pair). at_line tables GetsDirData t Nobody Nobody event_then q)
        (pair-taken tables caches tags b cache index r whole faithful e same line _ after x ne
        (dir-taken tags b.home b.traffic index r e a line (tags.line a) owed value (more_acks line.acks acks) (not (is_ahead k)) one-dir refl refl awaits.low))
        ∙ ap (λ (v : CacheEvent). at_line tables GetsDirData t Nobody Nobody v (behind x)) same-event
        ∙ ap (λ (z : CacheEntry). by_line GetsDirData t Nobody Nobody (event_at_line line.acks (line_input.Response r)) z (behind x)) cell

    kept : (u : Traffic) (sent : ℕ) → AckCounts cache None sent w u → (c : ℕ) → owed_on u c ≡ owed_to b c
    kept u sent counts = same-owed tables caches tags b cache index r whole faithful e same u sent counts (λ c. refl)

    pub dir-known : Known tables caches tags b cache index r whole faithful e same line GetsDirData told owed
    dir-known = record {
      start = began;
      right = λ known. fresh-there tables caches tags b cache index r whole faithful e same known (ap (λ (c : CacheId). c.0) (sym same));
      settles = λ next. message-settles (record (taken_in (line_input.Response r) line) { state = next }) told owed;
      answers = λ by u sent counts. record {
        lags = tags.lag;
        owed_after = ap (λ (n : ℕ). record { any = not (n == 0); lag = tags.lag a }) (sym (kept u sent counts a));
        law = record {
          own = same-lag (tags.lag a) _ _ _ _ _ _ refl (sym (counts.numbers a ∙ none-left)) (sym (kept u sent counts a)) awaits.lag;
          others = λ x ne. same-lag (tags.lag x) _ _ _ _ _ _ refl
              (sym (counts.numbers x ∙ same-count tags b.home b.traffic index r e (ack_number x) (counts-nothing cache r x same ne).number))
              (sym (kept u sent counts x)) (faithful.lags x);
          announced = λ c. omega (
            arith,
            counts.numbers c,
            faithful.announced c,
            lost-count tags b.home b.traffic index r e (ack_number c) (ack_number c r) refl,
          );
        };
        replies = λ x ne f. plain-replies tags b a by w u x f (kept u sent counts x);
      };
    }
