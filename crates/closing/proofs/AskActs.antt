-- A cell that acts on an ask, as the pairs of its cache see it.
use Rattle.std.proofs.Common.{◌≡◌, ℕ, ◌≤◌, List, Some, Bool, false, ◌==◌, if◌then◌else◌}
use Rattle.std.proofs.Common.{inr, None, refl, ap, sym, ◌∙◌, not, sum_by, arith, slice_get}
use Rattle.base.specs.declared.ids.CacheId.{CacheId}
use Rattle.base.specs.declared.step.Ask.{Ask}
use Rattle.tables.specs.Tables.{Tables}
use Rattle.machine.specs.Block.{BlockState, IsBlockAmong}
use Rattle.machine.specs.declared.decision.Decision.TheVariants.{AtLine}
use Rattle.machine.specs.declared.decision.Origin.TheVariants as origin
use Rattle.base.specs.declared.step.Ask.TheVariants as ask
use Rattle.base.specs.declared.controller.entry.CellEntry.TheVariants as table_entry
use Rattle.cache_table.specs.declared.state.CacheState.{CacheState}
use Rattle.cache_table.specs.declared.state.CacheState.TheVariants.{I, IsD, ImAd, ImA, S, SmAd, SmA, M, MiA, SiA, IiA, E}
use Rattle.cache_table.specs.declared.event.CacheEvent.TheVariants as event
use Rattle.cache_table.specs.declared.actions.CacheAction.{CacheAction}
use Rattle.cache_table.specs.Table as cache_table
use Rattle.cache_table.specs.Table.{CacheEntry}
use Rattle.control.specs.declared.line.Line.{Line}
use Rattle.control.specs.declared.line.LineInput.TheVariants as line_input
use Rattle.control.specs.LineEvents.{ask_event}
use Rattle.machine.proofs.Seen.{line_of}
use Rattle.machine.proofs.Sound.{line_of-there}
use Rattle.machine.specs.Transition.{carried_out, is_idle}
use Rattle.pairs.specs.declared.pair.Pair.{Pair}
use Rattle.pairs.specs.declared.steps.Rule.{Rule}
use Rattle.pairs.specs.declared.steps.Party.TheVariants.{Nobody}
use Rattle.pairs.specs.declared.steps.Rule.TheVariants.{AsksLoad, AsksStore, AsksReplacement}
use Rattle.pairs.specs.declared.steps.Sight.TheVariants.{Unmoved}
use Rattle.pairs.specs.Sights.{sight, by_line, at_line, answered, is_absent, settles}
use Rattle.closing.proofs.Alpha.{Tags, alpha, Faithful}
use Rattle.closing.proofs.Simulation.{SimulatedBy}
use Rattle.network.specs.Traffic.{Traffic}
use Rattle.control.specs.LineEffect.{moved_on, line_after, line_completes}
use Rattle.machine.proofs.Counts.{total}
use Rattle.machine.proofs.Seen.{names, is_inv, ack_number}
use Rattle.closing.proofs.Alpha.{Face, Owing, face, pair_of, owed_to, owing}
use Rattle.closing.proofs.Lags.{same-lag}
use Rattle.pairs.specs.declared.side.Lag.{Lag}
use Rattle.closing.proofs.LineActing.{AreTrueOn}
use Rattle.closing.proofs.LineSettling.{SettlesAs, load-settles, store-settles, replacement-settles}
use Rattle.closing.proofs.LineGoes.{owed_on, face_on, AckLaw, Answered, line-goes}

abbrev pub ask_rule : Ask → Rule
ask_rule ask.Load = AsksLoad
ask_rule (ask.Store value) = AsksStore
ask_rule ask.Replace = AsksReplacement

-- a replacement that isn't idle finds the block
pub not-absent : (s : CacheState) → is_idle ask.Replace s ≡ false → is_absent s ≡ false
not-absent I h = absurd (cc)
not-absent IsD h = refl
not-absent ImAd h = refl
not-absent ImA h = refl
not-absent S h = refl
not-absent SmAd h = refl
not-absent SmA h = refl
not-absent M h = refl
not-absent MiA h = refl
not-absent SiA h = refl
not-absent IiA h = refl
not-absent E h = refl

-- where nothing is owed otherwise to a cache that doesn't act, its pair is answered as it is
pub plain-replies : (tags : Tags) (b : BlockState) (a : ℕ) (by : Lag) (w u : Traffic) (x : ℕ) (f : Face) → owed_on u x ≡ owed_to b x →
    answered (not (owed_on u x == 0)) Nobody by (pair_of f (face tags b x) tags b.home w a x) ≡ Some (pair_of f (face_on tags b u tags.lag x) tags b.home w a x)
plain-replies tags b a by w u x f owed =
    ap (λ (n : ℕ). Some (pair_of f (record {
      line = line_of b.lines x;
      fresh = tags.line x;
      owed = record { any = not (n == 0); lag = tags.lag x };
    }) tags b.home w a x)) (sym owed)

-- where no ack is sent or taken, all lags stay
pub still-law : (tags : Tags) (b : BlockState) (a : ℕ) (line : Line) (u : Traffic) → Faithful tags b → line.acks ≡ (line_of b.lines a).acks →
    ((c : ℕ) → owed_on u c ≡ owed_to b c) → ((c : ℕ) → sum_by (ack_number c) u.responses ≡ sum_by (ack_number c) b.traffic.responses) →
    AckLaw b a line u tags.lag
still-law tags b a line u faithful acks owed announced = record {
  own = same-lag (tags.lag a) _ _ _ _ _ _ (sym acks) (sym (announced a)) (sym (owed a)) (faithful.lags a);
  others = λ x ne. same-lag (tags.lag x) _ _ _ _ _ _ refl (sym (announced x)) (sym (owed x)) (faithful.lags x);
  announced = λ c. omega (arith, announced c, faithful.announced c);
}

-- and each pair is answered as it is
pub still-answered : (tags : Tags) (b : BlockState) (a : ℕ) (line : Line) (by : Lag) (w u : Traffic) → Faithful tags b → line.acks ≡ (line_of b.lines a).acks →
    ((c : ℕ) → owed_on u c ≡ owed_to b c) → ((c : ℕ) → sum_by (ack_number c) u.responses ≡ sum_by (ack_number c) b.traffic.responses) →
    Answered tags b a line (owing tags b a) None by w u
still-answered tags b a line by w u faithful acks owed announced = record {
  lags = tags.lag;
  owed_after = ap (λ (n : ℕ). record { any = not (n == 0); lag = tags.lag a }) (sym (owed a));
  law = still-law tags b a line u faithful acks owed announced;
  replies = λ x ne f. plain-replies tags b a by w u x f (owed x);
}

-- what is known of wires that nothing was taken from
pub true-wires : (tags : Tags) (b : BlockState) → Faithful tags b → AreTrueOn tags b.latest b.traffic
true-wires tags b faithful = record {
  data_to = faithful.tags_are_true.data_to;
  putm = faithful.tags_are_true.putm;
  home_data = faithful.tags_are_true.home_data;
}

-- the pair of a cache, where its line is this, and another
abbrev mine : Tags → BlockState → CacheId → ℕ → Line → Pair
mine tags b cache x l =
    pair_of (record { line = l; fresh = tags.line cache.0; owed = owing tags b cache.0 }) (face tags b x) tags b.home b.traffic cache.0 x

-- the sight of an ask begins at the pair as it is
ask-start : (tables : Tables) (tags : Tags) (b : BlockState) (cache : CacheId) (a : Ask) (line : Line) (next : CacheState) (actions : List CacheAction) →
    line_of b.lines cache.0 ≡ line → is_idle a line.state ≡ false → cache_table.cell tables.cache line.state (ask_event a) ≡ table_entry.Act next actions →
    (t : Bool) (x : ℕ) → sight tables (ask_rule a) t (alpha tags b cache.0 x) ≡
    by_line (ask_rule a) t Nobody Nobody (ask_event a) (table_entry.Act next actions)
    (pair_of (record { line = line; fresh = tags.line cache.0; owed = owing tags b cache.0 }) (face tags b x) tags b.home b.traffic cache.0 x)
ask-start tables tags b cache ask.Load line next actions same busy cell t x =
    ap (λ (l : Line). at_line tables AsksLoad t Nobody Nobody event.Load (mine tags b cache x l)) same
    ∙ ap (λ (y : CacheEntry). by_line AsksLoad t Nobody Nobody event.Load y (mine tags b cache x line)) cell
ask-start tables tags b cache (ask.Store value) line next actions same busy cell t x =
    ap (λ (l : Line). at_line tables AsksStore t Nobody Nobody event.Store (mine tags b cache x l)) same
    ∙ ap (λ (y : CacheEntry). by_line AsksStore t Nobody Nobody event.Store y (mine tags b cache x line)) cell
ask-start tables tags b cache ask.Replace line next actions same busy cell t x =
    ap (λ (l : Line). if is_absent l.state then Unmoved else at_line tables AsksReplacement t Nobody Nobody event.Replacement (mine tags b cache x l)) same
    ∙ ap (λ (t : Bool). if t then Unmoved else at_line tables AsksReplacement t Nobody Nobody event.Replacement (mine tags b cache x line))
    (not-absent line.state busy)
    ∙ ap (λ (y : CacheEntry). by_line AsksReplacement t Nobody Nobody event.Replacement y (mine tags b cache x line)) cell

-- and settles as the ask does
ask-settles : (a : Ask) (line : Line) (next : CacheState) (fresh : Bool) (owed : Owing) → SettlesAs (λ concerned q. settles concerned (ask_rule a) q)
    (moved_on (line_input.Ask a) next line) fresh owed (line_after (line_input.Ask a) next line) (line_completes (line_input.Ask a) next line)
ask-settles ask.Load line next fresh owed = load-settles (record line { state = next }) fresh owed
ask-settles (ask.Store value) line next fresh owed = store-settles value (record line { state = next }) fresh owed
ask-settles ask.Replace line next fresh owed = replacement-settles (record line { state = next }) fresh owed

-- a cell that acts on an ask
pub ask-acted : (tables : Tables) (caches : ℕ) (tags : Tags) (b : BlockState) (cache : CacheId) (a : Ask) (line : Line) (next : CacheState)
    (actions : List CacheAction) → caches ≤ 4294967296 → IsBlockAmong caches b → Faithful tags b → Some line ≡ slice_get b.lines cache.0 → is_idle a
    line.state ≡ false →
    cache_table.cell tables.cache line.state (ask_event a) ≡ table_entry.Act next actions →
    SimulatedBy tables tags b (carried_out (AtLine cache line (line_input.Ask a) next actions origin.Core) b)
ask-acted tables caches tags b cache a line next actions few whole faithful e busy acts =
    line-goes tables caches tags b cache line (line_input.Ask a) next actions origin.Core (ask_rule a) (ask_event a) (tags.line cache.0)
    (owing tags b cache.0) whole faithful (record {
      there = e;
      origin_there = tt;
      taken = tt;
      right = λ known. ap (λ (l : Line). l.value) (sym same) ∙ faithful.tags_are_true.line cache.0 known;
      wires = true-wires tags b faithful;
      start = λ t x ne. ask-start tables tags b cache a line next actions same busy acts t x;
      few = λ x ne far. faithful.few x;
      settles = ask-settles a line next (tags.line cache.0) (owing tags b cache.0);
      acks = λ u counts. inr (still-answered tags b cache.0 line _ b.traffic u faithful (ap (λ (l : Line). l.acks) (sym same))
          (λ c. omega (arith, ap (λ ls. total (names c is_inv) ls) counts.links, counts.acks c)) counts.numbers);
    })
  where
    same : line_of b.lines cache.0 ≡ line
    same = line_of-there b.lines cache.0 line e
