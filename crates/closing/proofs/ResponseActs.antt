-- A response comes to a line, as the pairs of its receiver see it.
use Rattle.std.proofs.Common.{◌≡◌, ◌≢◌, ℕ, ◌≤◌, ◌+◌, List, refl, ap, sym, subst, ◌∙◌, inl, inr, Option, Some, None, Bool, true, false, not, ◌||◌, ◌==◌}
use Rattle.std.proofs.Common.{if◌then◌else◌, sum_by, arith, slice_get, IsSome}
use Rattle.std.proofs.lemmas.Bool.{ne_eqb, leb-true}
use Rattle.base.specs.declared.ids.CacheId.{CacheId}
use Rattle.tables.specs.Tables.{Tables}
use Rattle.machine.specs.Block.{BlockState, IsBlockAmong}
use Rattle.machine.specs.declared.decision.Decision.TheVariants.{AtLine}
use Rattle.machine.specs.declared.decision.Origin.TheVariants as origin
use Rattle.base.specs.declared.controller.entry.CellEntry.TheVariants as table_entry
use Rattle.cache_table.specs.declared.state.CacheState.{CacheState}
use Rattle.cache_table.specs.declared.actions.CacheAction.{CacheAction}
use Rattle.cache_table.specs.Table as cache_table
use Rattle.cache_table.specs.Table.{CacheEntry}
use Rattle.control.specs.declared.line.Line.{Line}
use Rattle.control.specs.declared.line.LineInput.TheVariants as line_input
use Rattle.control.specs.LineEvents.{event_at_line}
use Rattle.network.specs.declared.message.Response.{Response}
use Rattle.machine.specs.Transition.{carried_out}
use Rattle.pairs.specs.declared.steps.Rule.{Rule}
use Rattle.pairs.specs.declared.steps.Sight.{Sight}
use Rattle.pairs.specs.declared.steps.Party.TheVariants.{Nobody}
use Rattle.pairs.specs.declared.steps.Sight.TheVariants.{Unmoved}
use Rattle.pairs.specs.Sights.{sight, by_line, where_some, settles, inv_acks}
use Rattle.closing.proofs.Alpha.{Tags, alpha, Faithful}
use Rattle.closing.proofs.Simulation.{IsBreach, Breaks, SimulatedBy, next-other}
use Rattle.network.specs.Traffic.{Traffic, response_taken}
use Rattle.control.specs.LineEffect.{taken_in, moved_on, line_after, line_completes}
use Rattle.machine.proofs.Counts.{total}
use Rattle.machine.proofs.Seen.{names, is_inv, inv_ack}
use Rattle.closing.proofs.Alpha.{Face, Owing, face, pair_of, owed_to}
use Rattle.closing.proofs.LineActing.{AreTrueOn, AckCounts}
use Rattle.closing.proofs.LineSettling.{SettlesAs}
use Rattle.closing.proofs.LineGoes.{owed_on, Answered, line-goes}
use Rattle.pairs.specs.declared.side.Lag.{Lag}
use Rattle.pairs.specs.declared.side.PairSide.{PairSide}
use Rattle.pairs.specs.Pairs.{is_few_side}
use Rattle.closing.proofs.Alpha.{side_of}
use Rattle.closing.proofs.LineActing.{both-true}
use Rattle.machine.proofs.Counts.{total}
use Rattle.closing.proofs.Alpha.{data_count, Brings, BringsHome}
use Rattle.closing.proofs.Sides.{same_pair}
use Rattle.closing.proofs.LineActing.{AreTrueOn, AckCounts, both-true, all-removed, data-known}
use Rattle.closing.proofs.Taking.{Receives, face_with, all-there, counts-nothing, not-home, lost-count, same-count, taken-elsewhere, taken-shared}

-- where there is some, it is seen
pub passes : (n : ℕ) (x : Sight) → n ≢ 0 → where_some n x ≡ x
passes n x ne = ap (λ (u : Bool). if u then Unmoved else x) (ne_eqb n 0 ne)

pub if-not : {X : Type 0} (t : Bool) (x y : X) → (if not t then x else y) ≡ (if t then y else x)
if-not true x y = refl
if-not false x y = refl

-- at most one Data from the home is on its way to a cache
pub few-dir : (s : PairSide) → is_few_side s ≡ true → s.dir_data ≤ 1
few-dir s few =
    let link = both-true _ _ few in
    let fwd_getm = both-true _ _ link.0 in
    let fwd_gets = both-true _ _ fwd_getm.0 in
    let excl = both-true _ _ fwd_gets.0 in
    let owner = both-true _ _ excl.0 in
    let dir = both-true _ _ owner.0 in
    leb-true s.dir_data 1 dir.1

module _ (tables : Tables) (caches : ℕ) (tags : Tags) (b : BlockState) (cache : CacheId) (index : ℕ) (r : Response) (whole : IsBlockAmong caches b)
    (faithful : Faithful tags b) (e : Some r ≡ slice_get b.traffic.responses index) (receives : Receives cache r) where
  abbrev a : ℕ
  a = cache.0

  abbrev w : Traffic
  w = response_taken index b.traffic

  -- the pair of the receiver and another, where its side is this
  pub pair-taken : (l : Line) (s : PairSide) (f : Face) (x : ℕ) → x ≢ a → s ≡ side_of f tags b.home w a →
      record (pair_of (face_with tags b a l) (face tags b x) tags b.home b.traffic a x) { first = s } ≡ pair_of f (face tags b x) tags b.home w a x
  pair-taken l s f x ne same =
      same_pair _ _ _ _ _ _ _ _ _ _ (sym (taken-shared tags b.home b.traffic index r e (not-home cache r receives))) same
      (sym (taken-elsewhere tags b.home b.traffic index r e (face tags b x) x (counts-nothing cache r x receives ne))) refl refl

  -- what is known of a response that comes to a line
  pub record Known (line : Line) (rule : Rule) (fresh : Bool) (owed : Owing) : Type 0 where
    pub start : (y : CacheEntry) → cache_table.cell tables.cache line.state (event_at_line line.acks (line_input.Response r)) ≡ y → (t : Bool) (x : ℕ) → x ≢ a →
        sight tables rule t (alpha tags b a x) ≡ by_line rule t Nobody Nobody (event_at_line line.acks (line_input.Response r)) y
        (pair_of (record { line = taken_in (line_input.Response r) line; fresh = fresh; owed = owed }) (face tags b x) tags b.home w a x)
    pub right : fresh ≡ true → (taken_in (line_input.Response r) line).value ≡ b.latest
    pub settles : (next : CacheState) → SettlesAs (λ concerned q. settles concerned rule q) (moved_on (line_input.Response r) next line) fresh owed
        (line_after (line_input.Response r) next line) (line_completes (line_input.Response r) next line)
    pub answers : (by : Lag) (u : Traffic) (sent : ℕ) → AckCounts cache None sent w u →
        Answered tags b a (taken_in (line_input.Response r) line) owed None by w u

  there-still : IsSome (slice_get b.traffic.responses index)
  there-still = subst (λ (o : Option Response). IsSome o) e refl

  wires-known : AreTrueOn tags b.latest w
  wires-known = record {
    data_to = λ c known. all-removed (Brings c b.latest) b.traffic.responses index (faithful.tags_are_true.data_to c known);
    putm = faithful.tags_are_true.putm;
    home_data = λ known. all-removed (BringsHome b.latest) b.traffic.responses index (faithful.tags_are_true.home_data known);
  }

  pub known-blank : (line : Line) (rule : Rule) (fresh : Bool) (owed : Owing) → Known line rule fresh owed →
      cache_table.cell tables.cache line.state (event_at_line line.acks (line_input.Response r)) ≡ table_entry.Blank → Breaks tables tags b
  known-blank line rule fresh owed k blank = (
    a,
    a + 1,
    next-other a,
    true,
    inl (rule, subst (λ (s : Sight). IsBreach s) (sym (k.start table_entry.Blank blank true (a + 1) (λ same. next-other a (sym same)))) tt),
  )

  pub known-acted : (line : Line) (rule : Rule) (fresh : Bool) (owed : Owing) → Known line rule fresh owed → (next : CacheState) (actions : List CacheAction) →
      Some line ≡ slice_get b.lines a → cache_table.cell tables.cache line.state (event_at_line line.acks (line_input.Response r)) ≡ table_entry.Act next
      actions →
      SimulatedBy tables tags b (carried_out (AtLine cache line (line_input.Response r) next actions (origin.Response index)) b)
  known-acted line rule fresh owed k next actions there acts =
      line-goes tables caches tags b cache line (line_input.Response r) next actions (origin.Response index) rule
      (event_at_line line.acks (line_input.Response r)) fresh owed whole faithful (record {
        there = there;
        origin_there = there-still;
        taken = tt;
        right = k.right;
        wires = wires-known;
        start = k.start (table_entry.Act next actions) acts;
        few = λ x ne far.
            ap (λ (s : PairSide). is_few_side s)
            (taken-elsewhere tags b.home b.traffic index r e (face tags b x) x (counts-nothing cache r x receives ne)) ∙ faithful.few x;
        settles = k.settles next;
        acks = λ u counts. inr (k.answers _ u (inv_acks actions) counts);
      })

  -- how many acks are owed behind it, where it is no Inv-Ack
  pub same-owed : (u : Traffic) (sent : ℕ) → AckCounts cache None sent w u → ((c : ℕ) → inv_ack c r ≡ 0) → (c : ℕ) → owed_on u c ≡ owed_to b c
  same-owed u sent counts none c =
      omega (
        arith,
        ap (λ ls. total (names c is_inv) ls) counts.links,
        counts.acks c,
        same-count tags b.home b.traffic index r e (inv_ack c) (none c),
      )

  -- Data that is there is known to be fresh if all are
  pub fresh-there : tags.data_to a || (data_count a b.traffic.responses == 0) ≡ true → Brings a b.latest r
  fresh-there known =
      all-there (Brings a b.latest) b.traffic.responses index r (data-known tags b.latest b.traffic a (record {
        data_to = faithful.tags_are_true.data_to;
        putm = faithful.tags_are_true.putm;
        home_data = faithful.tags_are_true.home_data;
      }) known) e

  -- what is there counts
  pub one-there : (f : Response → ℕ) → f r ≡ 1 → sum_by f b.traffic.responses ≢ 0
  one-there f one none = absurd (omega (arith, none, lost-count tags b.home b.traffic index r e f 1 one))
