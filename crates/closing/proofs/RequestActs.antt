-- A cell of the home that acts on a request: all pairs of the sender have the step among their sights, or one breaks.
use Rattle.std.proofs.Common.{◌≡◌, ◌≢◌, ℕ, ◌+◌, ◌≤◌, ◌<◌, List, refl, ap, sym, subst, ◌∙◌, inl, inr, Option, Some, None, Bool, true, false, arith}
use Rattle.std.proofs.Common.{◌&&◌, slice_get, length, nat_le, sum_by, ◌⊎◌, zero, suc, pos, ◌+ℤ◌}
use Rattle.std.proofs.lemmas.Bool.{cases_eq, cases_lt, leb-true}
use Rattle.base.specs.declared.controller.entry.CellEntry.TheVariants as table_entry
use Rattle.network.specs.declared.message.Request.{Request}
use Rattle.network.specs.Traffic.{Traffic, request_taken}
use Rattle.directory_table.specs.declared.state.DirectoryState.{DirectoryState}
use Rattle.directory_table.specs.declared.event.DirectoryEvent.{DirectoryEvent}
use Rattle.directory_table.specs.declared.actions.DirectoryAction.{DirectoryAction}
use Rattle.directory_table.specs.Table as directory_table
use Rattle.tables.specs.Tables.{Tables}
use Rattle.control.specs.declared.home.HomeInput.TheVariants as home_input
use Rattle.control.specs.HomeEffect.{value_in}
use Rattle.machine.specs.Block.{BlockState, IsBlockAmong}
use Rattle.machine.specs.declared.decision.Decision.TheVariants.{AtHome}
use Rattle.machine.specs.declared.decision.Origin.TheVariants as origin
use Rattle.machine.specs.Transition.{carried_out}
use Rattle.machine.proofs.Senders.{AllFrom-get}
use Rattle.machine.proofs.Whole.{whole-at_home}
use Rattle.machine.proofs.Seen.{line_of, home_data}
use Rattle.pairs.specs.declared.side.PairSide.{PairSide}
use Rattle.pairs.specs.Pairs.{is_few, is_few_side}
use Rattle.pairs.specs.declared.steps.Rule.{Rule}
use Rattle.pairs.specs.declared.steps.Sight.{Sight}
use Rattle.pairs.specs.declared.steps.Sight.TheVariants.{Lost}
use Rattle.pairs.specs.Sights.{sight, at_home, lag_after, lag_settled, looked_at}
use Rattle.pairs.specs.declared.side.Lag.{Lag}
use Rattle.pairs.specs.declared.pair.Pair.{Pair}
use Rattle.control.specs.Sharing.{others_from}
use Rattle.closing.proofs.Lags.{same-lag}
use Rattle.closing.proofs.HomeLags.{lag-served}
use Rattle.closing.proofs.Sending.{lag_at, lag-here, lag-elsewhere}
use Rattle.closing.proofs.Alpha.{Tags, LagIs, alpha, side, owed_to, Faithful}
use Rattle.closing.proofs.Simulation.{role, Moves, IsBreach, Breaks, SimulatedBy, next-other}
use Rattle.closing.proofs.HomeSending.{at}
use Rattle.closing.proofs.HomeScene.{third_of}
use Rattle.closing.proofs.HomeActing.{Matches}
use Rattle.closing.proofs.HomeStages.{Stage, last_stage, last-home, last-lags, last-wires}
use Rattle.closing.proofs.HomeTruths.{and-left, and-right}
use Rattle.closing.proofs.HomeBalance.{acks_to, datas_to}
use Rattle.closing.proofs.HomeDebts.{FewAnnounced}
use Rattle.closing.proofs.HomeGoing.{IsServing, serving-last}
use Rattle.closing.proofs.RequestTaken.{left-elsewhere, left-true}
use Rattle.closing.proofs.RequestEnds.{besides_of, besides-apart, ended, begun_with, end-seen, looked-few, settled-many}

-- TESTS
and-false : (s t u : Bool) → u ≡ false → s && t && u ≡ false
and-false true true u e = e
and-false true false u e = refl
and-false false t u e = refl

-- all numbers below a bound pass, or one doesn't
all-or-one : (f : ℕ → Bool) (n : ℕ) → ((x : ℕ) → x < n → f x ≡ true) ⊎ ((x : ℕ) × (f x ≡ false))
all-or-one f zero = inl (λ x h. absurd (omega (arith, h)))
all-or-one f (suc n) = with-last (all-or-one f n) (f n) refl
  where
    with-last : ((x : ℕ) → x < n → f x ≡ true) ⊎ ((x : ℕ) × (f x ≡ false)) → (t : Bool) → f n ≡ t →
        ((x : ℕ) → x < suc n → f x ≡ true) ⊎ ((x : ℕ) × (f x ≡ false))
    with-last (inr found) t e = inr found
    with-last (inl below) false e = inr (n, e)
    with-last (inl below) true e = inl (λ x h. elim (cases_eq x n) [ inl same ↦ ap f same ∙ e | inr ne ↦ below x (omega (arith, h, ne)) ])

the-first : (s t u v x y : Bool) → s && t && u && v && x && y ≡ true → s ≡ true
the-first s t u v x y h =
    and-left s t (and-left (s && t) u (and-left (s && t && u) v (and-left (s && t && u && v) x (and-left (s && t && u && v && x) y h))))

few-datas : (s : PairSide) → is_few_side s ≡ true → s.dir_data ≤ 1
few-datas s h =
    leb-true s.dir_data 1
    (and-right (nat_le s.gets 2 && nat_le s.getm 2 && nat_le s.puts 1 && nat_le s.putm 1) (nat_le s.dir_data 1)
    (the-first (nat_le s.gets 2 && nat_le s.getm 2 && nat_le s.puts 1 && nat_le s.putm 1 && nat_le s.dir_data 1) (nat_le s.owner_data 1)
    (nat_le s.excl_data 1) (nat_le s.fwd_gets 2) (nat_le s.fwd_getm 2) (nat_le (length s.link) 2) h))

module _ (tables : Tables) (caches : ℕ) (tags : Tags) (b : BlockState) (index : ℕ) (r : Request) (few : caches ≤ 4294967296) (whole : IsBlockAmong caches b)
    (faithful : Faithful tags b) (e : Some r ≡ slice_get b.traffic.requests index) (value : Option Bool) (m : Matches value (value_in r.kind) b.latest)
    (next : DirectoryState) (actions : List DirectoryAction) where
  abbrev wires : Traffic
  wires = request_taken index b.traffic

  abbrev first : Stage
  first = begun_with b tags wires

  abbrev last : Stage
  last = last_stage b r.from value (value_in r.kind) actions first

  -- the block afterwards
  abbrev after : BlockState
  after = ended b next last

  abbrev new : BlockState
  new = (carried_out (AtHome (home_input.Request r) next actions (origin.Request index)) b).block

  same-block : after ≡ new
  same-block = λ i. record {
    lines = b.lines;
    home = record (last-home b r.from value (value_in r.kind) actions first i) { state = next };
    traffic = last-wires b r.from value (value_in r.kind) actions first i;
    latest = b.latest;
  }

  below : r.from.0 < caches
  below = AllFrom-get caches b.traffic.requests index r whole.requests e

  whole-after : IsBlockAmong caches after
  whole-after =
      subst (λ (x : BlockState). IsBlockAmong caches x) (sym same-block)
      (whole-at_home caches (home_input.Request r) next actions (origin.Request index) b new whole below refl refl refl)

  serving-first : IsServing caches b r.from wires first
  serving-first = record {
    among = record { links = whole.links; sharers = whole.home.sharers; owner = whole.home.owner };
    truths = left-true tags b index r e faithful.tags_are_true;
    owes = omega arith;
    owed = λ few_first. inr few_first;
    announced = inl (faithful.announced r.from.0);
    acks_elsewhere = λ c ne. refl;
    owed_elsewhere = λ c ne. refl;
    past =
        λ c past. ap (λ (s : PairSide). is_few_side s) (left-elsewhere tags b index r e c (λ same. absurd (omega (arith, same, below, past))))
        ∙ faithful.few c;
  }

  serving : IsServing caches b r.from wires last
  serving = serving-last caches b r.from value (value_in r.kind) wires actions first few below m serving-first

  -- what makes the tags faithful: each cache has few
  abbrev IsEnding : Type 0
  IsEnding = (nat_le (sum_by home_data last.wires.responses) 1 ≡ true) × ((c : ℕ) → is_few_side (side last.tags after c) ≡ true)

  -- the requestor's lag, if that can be followed
  abbrev lag_then : Option Lag
  lag_then = lag_after last.debt (last.tags.lag r.from.0)

  -- the tags with it
  abbrev tags_with : Lag → Tags
  tags_with k = record last.tags { lag = lag_at r.from.0 k last.tags.lag }

  lag-kept : (c : ℕ) → last.tags.lag c ≡ tags.lag c
  lag-kept c = ap (λ (l : ℕ → Lag). l c) (last-lags b r.from value (value_in r.kind) actions first)

  own-lag : (k : Lag) → lag_then ≡ Some k →
      LagIs k ((line_of b.lines r.from.0).acks +ℤ pos (acks_to last.wires r.from.0)) (owed_to after r.from.0)
  own-lag k some =
      lag-served last.debt (tags.lag r.from.0) k (line_of b.lines r.from.0).acks (acks_to last.wires r.from.0) (owed_to after r.from.0)
      (acks_to wires r.from.0) (owed_to b r.from.0) (others_from 0 r.from.0 last.home.sharers)
      (ap (λ (l : Lag). lag_after last.debt l) (sym (lag-kept r.from.0)) ∙ some) serving.owes (faithful.lags r.from.0) serving.owed

  lags-after : (k : Lag) → lag_then ≡ Some k → (c : ℕ) →
      LagIs ((tags_with k).lag c) ((line_of b.lines c).acks +ℤ pos (acks_to last.wires c)) (owed_to after c)
  lags-after k some c =
      elim (cases_eq c r.from.0) [
        | inl same ↦
            subst (λ (n : ℕ). LagIs ((tags_with k).lag n) ((line_of b.lines n).acks +ℤ pos (acks_to last.wires n)) (owed_to after n)) (sym same)
            (subst (λ (l : Lag). LagIs l ((line_of b.lines r.from.0).acks +ℤ pos (acks_to last.wires r.from.0)) (owed_to after r.from.0))
            (sym (lag-here r.from.0 k last.tags.lag)) (own-lag k some))
        | inr ne ↦
            subst (λ (l : Lag). LagIs l ((line_of b.lines c).acks +ℤ pos (acks_to last.wires c)) (owed_to after c))
            (sym (lag-elsewhere r.from.0 k last.tags.lag c ne ∙ lag-kept c))
            (same-lag (tags.lag c) _ _ _ _ _ _ refl (sym (serving.acks_elsewhere c ne)) (sym (serving.owed_elsewhere c ne)) (faithful.lags c))
      ]

  announced-after : ((c : ℕ) → is_few_side (side last.tags after c) ≡ true) → (c : ℕ) → acks_to last.wires c ≤ 4294967296
  announced-after all c =
      elim (cases_eq c r.from.0) [
        | inl same ↦ subst (λ (n : ℕ). acks_to last.wires n ≤ 4294967296) (sym same) (own serving.announced)
        | inr ne ↦ omega (arith, serving.acks_elsewhere c ne, faithful.announced c)
      ]
    where
      own : FewAnnounced (acks_to last.wires r.from.0) (datas_to last.wires r.from.0) → acks_to last.wires r.from.0 ≤ 4294967296
      own (inl h) = h
      own (inr many) = absurd (omega (arith, many, few-datas (side last.tags after r.from.0) (all r.from.0)))

  faithful-after : (k : Lag) → lag_then ≡ Some k → IsEnding → Faithful (tags_with k) after
  faithful-after k some h = record {
    tags_are_true =
        record {
          line = serving.truths.line;
          data_to = serving.truths.data_to;
          putm = serving.truths.putm;
          home_data = serving.truths.home_data;
          memory = serving.truths.memory;
        };
    few = h.1;
    few_home = h.0;
    lags = lags-after k some;
    announced = announced-after h.1;
  }

  -- SIGHTS
  module _ (rule : Rule) (ev : DirectoryEvent) (cell : directory_table.cell tables.directory b.home.state ev ≡ table_entry.Act next actions)
      (reaches : (x : ℕ) (t : Bool) → x ≢ r.from.0 →
      sight tables rule t (alpha tags b r.from.0 x) ≡ at_home tables t true value ev (alpha tags (at b b.home wires) r.from.0 x)) where
    sees : (x : ℕ) → x ≢ r.from.0 → sight tables rule (third_of r.from.0 x b.home.sharers) (alpha tags b r.from.0 x) ≡
        lag_settled (role (besides_of actions b.home.owner r.from.0) x) lag_then (alpha last.tags after r.from.0 x)
    sees x ne =
        reaches x (third_of r.from.0 x b.home.sharers) ne
        ∙ end-seen tables caches b r.from value (value_in r.kind) next actions tags wires ev x ne below m serving-first.among cell

    breaks : (x : ℕ) → x ≢ r.from.0 →
        lag_settled (role (besides_of actions b.home.owner r.from.0) x) lag_then (alpha last.tags after r.from.0 x) ≡ Lost → Breaks tables tags b
    breaks x ne lost =
        (r.from.0, x, (λ same. ne (sym same)), third_of r.from.0 x b.home.sharers, inl (rule, subst (λ (s : Sight). IsBreach s) (sym (sees x ne ∙ lost)) tt))

    -- what is seen where that lag is known
    seen-with : (k : Lag) → lag_then ≡ Some k → (x : ℕ) → x ≢ r.from.0 →
        sight tables rule (third_of r.from.0 x b.home.sharers) (alpha tags b r.from.0 x) ≡
        looked_at (role (besides_of actions b.home.owner r.from.0) x) (alpha (tags_with k) after r.from.0 x)
    seen-with k some x ne =
        let p : Pair = alpha last.tags after r.from.0 x in
        sees x ne ∙ ap (λ (o : Option Lag). lag_settled (role (besides_of actions b.home.owner r.from.0) x) o p) some
        ∙ (λ i. looked_at (role (besides_of actions b.home.owner r.from.0) x) (record p {
          first = record p.first { lag = sym (lag-here r.from.0 k last.tags.lag) i };
          second = record p.second { lag = sym (lag-elsewhere r.from.0 k last.tags.lag x ne) i };
        }))

    -- all pairs of the sender move
    moves : (k : Lag) → lag_then ≡ Some k → IsEnding → Moves tables tags b after
    moves k some h = record {
      decided = AtHome (home_input.Request r) next actions (origin.Request index);
      made = same-block;
      actor = r.from.0;
      acts = (refl, tt);
      besides = besides_of actions b.home.owner r.from.0;
      apart = λ x same. besides-apart actions b.home.owner r.from.0 x same;
      rule = rule;
      after = tags_with k;
      faithful = faithful-after k some h;
      sees = λ x ne. (
        third_of r.from.0 x b.home.sharers,
        seen-with k some x ne
            ∙ looked-few caches (tags_with k) after (role (besides_of actions b.home.owner r.from.0) x) r.from.0 x whole-after (λ same. ne (sym same))
            (few-pair x),
      );
    }
      where
        few-pair : (x : ℕ) → is_few (alpha (tags_with k) after r.from.0 x) ≡ true
        few-pair x =
            ap (λ (t : Bool). t && is_few_side (side last.tags after r.from.0) && is_few_side (side last.tags after x)) h.0
            ∙ ap (λ (t : Bool). t && is_few_side (side last.tags after x)) (h.1 r.from.0) ∙ h.1 x

    -- too many of some kind
    many-breaks : (x : ℕ) → x ≢ r.from.0 → is_few (alpha last.tags after r.from.0 x) ≡ false → Breaks tables tags b
    many-breaks x ne many =
        breaks x ne (settled-many (role (besides_of actions b.home.owner r.from.0) x) lag_then (alpha last.tags after r.from.0 x) many)

    abbrev home_few : Bool
    home_few = nat_le (sum_by home_data last.wires.responses) 1

    abbrev own_few : Bool
    own_few = is_few_side (side last.tags after r.from.0)

    abbrev next_few : Bool
    next_few = is_few_side (side last.tags after (r.from.0 + 1))

    next-apart : r.from.0 + 1 ≢ r.from.0
    next-apart same = next-other r.from.0 (sym same)

    -- the sender and its neighbour have few, so either each cache has, or one breaks
    searched : (k : Lag) → lag_then ≡ Some k → is_few (alpha last.tags after r.from.0 (r.from.0 + 1)) ≡ true →
        ((x : ℕ) → x < caches → is_few_side (side last.tags after x) ≡ true) ⊎ ((x : ℕ) × (is_few_side (side last.tags after x) ≡ false)) →
        Breaks tables tags b ⊎ Moves tables tags b after
    searched k is some (inl all) = inr (moves k is (and-left home_few own_few (and-left (home_few && own_few) next_few some), all-few))
      where
        all-few : (c : ℕ) → is_few_side (side last.tags after c) ≡ true
        all-few c = elim (cases_lt c caches) [ inl there ↦ all c there | inr past ↦ serving.past c past ]
    searched k is some (inr found) =
        elim (cases_eq found.0 r.from.0) [
          | inl same ↦
              let own : is_few_side (side last.tags after r.from.0) ≡ true = and-right home_few own_few (and-left (home_few && own_few) next_few some) in
              let not_own : is_few_side (side last.tags after r.from.0) ≡ false =
              subst (λ (n : ℕ). is_few_side (side last.tags after n) ≡ false) same found.1 in
              absurd (cc)
          | inr ne ↦ inl (many-breaks found.0 ne (and-false home_few own_few (is_few_side (side last.tags after found.0)) found.1))
        ]

    decided-few : (k : Lag) → lag_then ≡ Some k → (some : Bool) → is_few (alpha last.tags after r.from.0 (r.from.0 + 1)) ≡ some →
        Breaks tables tags b ⊎ Moves tables tags b after
    decided-few k is true s = searched k is s (all-or-one (λ (x : ℕ). is_few_side (side last.tags after x)) caches)
    decided-few k is false s = inl (many-breaks (r.from.0 + 1) next-apart s)

    decided : (o : Option Lag) → lag_then ≡ o → Breaks tables tags b ⊎ Moves tables tags b after
    decided (Some k) is = decided-few k is (is_few (alpha last.tags after r.from.0 (r.from.0 + 1))) refl
    decided None none =
        inl (breaks (r.from.0 + 1) next-apart
        (ap (λ (o : Option Lag). lag_settled (role (besides_of actions b.home.owner r.from.0) (r.from.0 + 1)) o (alpha last.tags after r.from.0 (r.from.0 + 1)))
        none))

    pub served : SimulatedBy tables tags b (carried_out (AtHome (home_input.Request r) next actions (origin.Request index)) b)
    served = from-moves (decided lag_then refl)
      where
        from-moves : Breaks tables tags b ⊎ Moves tables tags b after →
            SimulatedBy tables tags b (carried_out (AtHome (home_input.Request r) next actions (origin.Request index)) b)
        from-moves (inl broken) = inl broken
        from-moves (inr moved) =
            inr (record { unmet = λ blank. absurd (cc); fits = refl; moves = inr (inl (subst (λ (x : BlockState). Moves tables tags b x) same-block moved)) })
