-- Data from a cache, or exclusive Data, comes to a line, as the pairs of its receiver see it.
use Rattle.std.proofs.Common.{◌≡◌, ℕ, ◌-◌, refl, ap, sym, ◌∙◌, Some, None, Bool, ◌||◌, ◌==◌}
use Rattle.std.proofs.Common.{sum_by, slice_get}
use Rattle.base.specs.declared.ids.CacheId.{CacheId}
use Rattle.tables.specs.Tables.{Tables}
use Rattle.machine.specs.Block.{BlockState, IsBlockAmong}
use Rattle.cache_table.specs.declared.event.CacheEvent.TheVariants as event
use Rattle.cache_table.specs.Table.{CacheEntry}
use Rattle.control.specs.declared.line.Line.{Line}
use Rattle.control.specs.declared.line.LineInput.TheVariants as line_input
use Rattle.network.specs.declared.message.Response.{Response}
use Rattle.network.specs.declared.message.Response.TheVariants.{Data, DataExcl}
use Rattle.base.specs.declared.ids.Place.TheVariants.{Cache}
use Rattle.machine.proofs.Seen.{line_of}
use Rattle.pairs.specs.declared.pair.Pair.{Pair}
use Rattle.pairs.specs.declared.steps.Party.TheVariants.{Nobody}
use Rattle.pairs.specs.declared.steps.Rule.TheVariants.{GetsOwnerData, GetsExclData}
use Rattle.pairs.specs.Sights.{by_line, at_line}
use Rattle.pairs.specs.declared.side.Lag.{Lag}
use Rattle.closing.proofs.Alpha.{Tags, Faithful}
use Rattle.control.specs.declared.line.Line.{Line}
use Rattle.network.specs.Traffic.{Traffic}
use Rattle.control.specs.LineEffect.{taken_in}
use Rattle.machine.proofs.Seen.{inv_ack, ack_number}
use Rattle.closing.proofs.Alpha.{Face, Owing, face, owing, pair_of}
use Rattle.closing.proofs.LineActing.{AckCounts}
use Rattle.closing.proofs.LineGoes.{Answered}
use Rattle.closing.proofs.LineSettling.{message-settles}
use Rattle.network.specs.Traffic.{response_taken}
use Rattle.machine.proofs.Seen.{owner_data, excl_data}
use Rattle.pairs.specs.Sights.{response_seen, with_data}
use Rattle.closing.proofs.Alpha.{data_count}
use Rattle.closing.proofs.LineActing.{AckCounts}
use Rattle.closing.proofs.AskActs.{still-answered}
use Rattle.closing.proofs.Taking.{Receives, face_with, same-count, owner-taken}
use Rattle.closing.proofs.Taking.{excl-taken}
use Rattle.closing.proofs.ResponseActs.{passes, pair-taken, Known, same-owed, fresh-there, one-there}
use Rattle.closing.proofs.DirDataActs.{here}

module _ (tables : Tables) (caches : ℕ) (tags : Tags) (b : BlockState) (cache : CacheId) (index : ℕ) (r : Response)
    (whole : IsBlockAmong caches b) (faithful : Faithful tags b) (e : Some r ≡ slice_get b.traffic.responses index)
    (same : Receives cache r) (line : Line) (there : line_of b.lines cache.0 ≡ line) where
  abbrev a : ℕ
  a = cache.0

  abbrev w : Traffic
  w = response_taken index b.traffic

  abbrev told : Bool
  told = tags.data_to a || (data_count a b.traffic.responses == 0)

  abbrev owed : Owing
  owed = owing tags b a

  abbrev after : Face
  after = record { line = taken_in (line_input.Response r) line; fresh = told; owed = owed }

  abbrev behind : ℕ → Pair
  behind x = pair_of after (face tags b x) tags b.home w a x

  -- a value that comes without an ack number leaves all lags as they are
  plain-answers : (taken_in (line_input.Response r) line).acks ≡ line.acks → ((c : ℕ) → inv_ack c r ≡ 0) → ((c : ℕ) → ack_number c r ≡ 0) →
      (by : Lag) (u : Traffic) (sent : ℕ) → AckCounts cache None sent w u → Answered tags b a (taken_in (line_input.Response r) line) owed None by w u
  plain-answers acks no_ack no_number by u sent counts =
      still-answered tags b a (taken_in (line_input.Response r) line) by w u faithful (acks ∙ ap (λ (l : Line). l.acks) (sym there))
      (same-owed tables caches tags b cache index r whole faithful e same u sent counts no_ack)
      (λ c. counts.numbers c ∙ same-count tags b.home b.traffic index r e (ack_number c) (no_number c))

pub owner-known : (tables : Tables) (caches : ℕ) (tags : Tags) (b : BlockState) (cache : CacheId) (index : ℕ) (by to : CacheId) (value acks : ℕ)
    (whole : IsBlockAmong caches b) (faithful : Faithful tags b) (e : Some (Data (Cache by) (Cache to) value acks) ≡ slice_get b.traffic.responses index)
    (same : cache ≡ to) (line : Line) → line_of b.lines cache.0 ≡ line →
    Known tables caches tags b cache index (Data (Cache by) (Cache to) value acks) whole faithful e same line GetsOwnerData
    (tags.data_to cache.0 || (data_count cache.0 b.traffic.responses == 0)) (owing tags b cache.0)
owner-known tables caches tags b cache index by to value acks whole faithful e same line there =
    let r : Response = Data (Cache by) (Cache to) value acks in
    record {
      start = λ y cell t x ne.
          passes (sum_by (owner_data cache.0) b.traffic.responses) _
          (one-there tables caches tags b cache index r whole faithful e same (owner_data cache.0) (here cache to same 1))
          ∙ ap (λ (l : Line). (let p : Pair = pair_of (face_with tags b cache.0 l) (face tags b x) tags b.home b.traffic cache.0 x in
          response_seen tables GetsOwnerData t event.DataOwner p (with_data (record p.first { owner_data = p.first.owner_data - 1 })))) there
          ∙ ap (λ (q : Pair). at_line tables GetsOwnerData t Nobody Nobody event.DataOwner q)
          (pair-taken tables caches tags b cache index r whole faithful e same line _
          (after tables caches tags b cache index r whole faithful e same line there) x ne
          (owner-taken tags b.home b.traffic index r e cache.0 line (tags.line cache.0) (owing tags b cache.0) value refl (here cache to same 1) refl))
          ∙ ap (λ (z : CacheEntry). by_line GetsOwnerData t Nobody Nobody event.DataOwner z
          (behind tables caches tags b cache index r whole faithful e same line there x)) cell;
      right = λ known. fresh-there tables caches tags b cache index r whole faithful e same known (ap (λ (c : CacheId). c.0) (sym same));
      settles = λ next. message-settles (record (taken_in (line_input.Response r) line) { state = next }) _ _;
      answers = plain-answers tables caches tags b cache index r whole faithful e same line there refl (λ c. refl) (λ c. refl);
    }

pub excl-known : (tables : Tables) (caches : ℕ) (tags : Tags) (b : BlockState) (cache : CacheId) (index : ℕ) (to : CacheId) (value : ℕ)
    (whole : IsBlockAmong caches b) (faithful : Faithful tags b) (e : Some (DataExcl to value) ≡ slice_get b.traffic.responses index)
    (same : cache ≡ to) (line : Line) → line_of b.lines cache.0 ≡ line →
    Known tables caches tags b cache index (DataExcl to value) whole faithful e same line GetsExclData
    (tags.data_to cache.0 || (data_count cache.0 b.traffic.responses == 0)) (owing tags b cache.0)
excl-known tables caches tags b cache index to value whole faithful e same line there =
    let r : Response = DataExcl to value in
    record {
      start = λ y cell t x ne.
          passes (sum_by (excl_data cache.0) b.traffic.responses) _
          (one-there tables caches tags b cache index r whole faithful e same (excl_data cache.0) (here cache to same 1))
          ∙ ap (λ (l : Line). (let p : Pair = pair_of (face_with tags b cache.0 l) (face tags b x) tags b.home b.traffic cache.0 x in
          response_seen tables GetsExclData t event.DataDirExcl p (with_data (record p.first { excl_data = p.first.excl_data - 1 })))) there
          ∙ ap (λ (q : Pair). at_line tables GetsExclData t Nobody Nobody event.DataDirExcl q)
          (pair-taken tables caches tags b cache index r whole faithful e same line _
          (after tables caches tags b cache index r whole faithful e same line there) x ne
          (excl-taken tags b.home b.traffic index r e cache.0 line (tags.line cache.0) (owing tags b cache.0) value refl refl (here cache to same 1)))
          ∙ ap (λ (z : CacheEntry). by_line GetsExclData t Nobody Nobody event.DataDirExcl z
          (behind tables caches tags b cache index r whole faithful e same line there x)) cell;
      right = λ known. fresh-there tables caches tags b cache index r whole faithful e same known (ap (λ (c : CacheId). c.0) (sym same));
      settles = λ next. message-settles (record (taken_in (line_input.Response r) line) { state = next }) _ _;
      answers = plain-answers tables caches tags b cache index r whole faithful e same line there refl (λ c. refl) (λ c. refl);
    }
