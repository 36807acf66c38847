-- Under tables that have a closed set of pairs, and ranked pairs in which blame works, no run is stuck.
use Rattle.std.proofs.Common.{◌≡◌, ◌≢◌, ◌⊎◌, ℕ, ◌+◌, ◌≤◌, List, [], ◌∷◌, refl, ap, sym, subst, ◌∙◌, inl, inr, Option, Some, None, Bool, true, false, not}
use Rattle.std.proofs.Common.{◌&&◌, ◌||◌, ◌==◌, if◌then◌else◌, slice_get, get_or, sum_by, arith, length, Contains, suc}
use Rattle.base.specs.Extent.{Extent, IsWithinLimits}
use Rattle.base.specs.Steps.{block_of}
use Rattle.base.specs.declared.ids.BlockId.{BlockId}
use Rattle.base.specs.declared.ids.CacheId.{CacheId}
use Rattle.base.specs.declared.step.Ask.{Ask}
use Rattle.base.specs.declared.step.Ask.TheVariants.{Load, Store, Replace}
use Rattle.base.specs.declared.step.Step.{Step}
use Rattle.base.specs.declared.step.Step.TheVariants as step
use Rattle.base.specs.declared.step.Outcome.{Outcome}
use Rattle.base.specs.declared.step.Outcome.TheVariants as outcome
use Rattle.network.specs.declared.message.Forward.{Forward}
use Rattle.network.specs.declared.message.Request.{Request}
use Rattle.network.specs.declared.message.Response.{Response}
use Rattle.cache_table.specs.declared.state.CacheState.{CacheState}
use Rattle.cache_table.specs.Table as cache_table
use Rattle.control.specs.declared.line.Line.{Line}
use Rattle.control.specs.declared.line.LineInput.TheVariants as line_input
use Rattle.control.specs.LineEvents.{ask_event}
use Rattle.tables.specs.Tables.{Tables}
use Rattle.machine.specs.Block.{BlockState, IsBlockAmong, opened_block}
use Rattle.machine.specs.Transition.{transition, decision_of, carried_out, at_line, at_ask, is_idle}
use Rattle.machine.specs.declared.decision.Origin.TheVariants as origin
use Rattle.machine.specs.declared.decision.Decision.TheVariants.{Refused}
use Rattle.machine.specs.Machine.{State, Next, IsRefusal, next, next_at, is_blank, opened, state_after}
use Rattle.machine.specs.Unstuck.{Unstuck, Flows, Flowing}
use Rattle.machine.proofs.Cases.{by-test}
use Rattle.machine.proofs.Counts.{total}
use Rattle.machine.proofs.Fitting.{decision-fits}
use Rattle.machine.proofs.Moves as moving
use Rattle.machine.proofs.Opened.{linkless}
use Rattle.machine.proofs.Quiet.{IsQuiet, quiet-told, quiet-tells}
use Rattle.machine.proofs.Runs.{EachBlock, Guards, guarded, next-each}
use Rattle.machine.proofs.Safety.{few-enough}
use Rattle.machine.proofs.Seen.{names, is_fwd_gets, is_fwd_getm, is_inv, inv_ack, dir_data, owner_data, excl_data, of_kind, home_data}
use Rattle.machine.proofs.Seen.{from, is_gets, is_getm, is_puts, is_putm}
use Rattle.machine.proofs.Sound.{line_of-there}
use Rattle.machine.proofs.Whole.{whole-carried_out}
use Rattle.pairs.specs.declared.pair.Pair.{Pair}
use Rattle.pairs.specs.declared.side.PairSide.{PairSide}
use Rattle.pairs.specs.Pairs.{data_to}
use Rattle.pairs.specs.Sights.{is_absent}
use Rattle.closing.specs.declared.ranked.Order.TheVariants.{Unknown}
use Rattle.closing.specs.declared.ranked.RankedPair.{RankedPair}
use Rattle.closing.specs.Closed.{Closed}
use Rattle.closing.specs.Ranked.{is_open}
use Rattle.closing.specs.Blamed.{Blamed, ServesAsks, is_silent, requests_of, serves_asks, line_holds}
use Rattle.closing.proofs.Alpha.{Tags, alpha, side, waiting_of, owed_to}
use Rattle.closing.proofs.AlphaFits.{places}
use Rattle.closing.proofs.LineActing.{both-true}
use Rattle.closing.proofs.Simulation.{Moves, HomeMoves, next-other}
use Rattle.closing.proofs.Opening.{opened_tags, opened-alpha, opened-faithful, opened-whole}
use Rattle.closing.proofs.Closing.{Followed, goes, closed-guards}
use Rattle.closing.proofs.Gluing.{moved-in, home_moved-in}
use Rattle.closing.proofs.Serving.{Served, served-moved, served-home_moved}
use Rattle.closing.proofs.Sharings.{IsLevel, level-moved, level-home_moved}
use Rattle.closing.proofs.Receivers.{Received, CanWait, wait-get, transition-received, opened-received}
use Rattle.closing.proofs.Delivering.{line-serves}
use Rattle.closing.proofs.Descending.{some-found}

-- THE INVARIANT
-- all pairs are among closed ones, and among ranked ones
pub record Going (pairs : List Pair) (list : List RankedPair) (caches : ℕ) (b : BlockState) : Type 0 where
  pub followed : Followed pairs caches b
  pub served : Served list followed.tags b
  pub level : IsLevel b
  pub received : Received caches b

no-weight : (f : Forward → ℕ) (ls : List (List Forward)) → ((c : ℕ) → get_or ls c [] ≡ []) → total f ls ≡ 0
no-weight f [] h = refl
no-weight f (l ∷ ls) h = omega (arith, ap (λ (k : List Forward). sum_by f k) (h 0), no-weight f ls (λ c. h (suc c)))

opened-served : (tables : Tables) (list : List RankedPair) (caches value : ℕ) → Blamed tables list → Served list opened_tags (opened_block caches value)
opened-served tables list caches value blamed = record {
  times = λ c. 0;
  clock = 1;
  below = λ c. omega arith;
  placed = λ c d ne. record {
    order = Unknown;
    there =
        subst (λ (p : Pair). Contains list (record { pair = p; order = Unknown })) (sym (opened-alpha caches value c d)) blamed.ranked.opened;
    so = tt;
  };
}

opened-level : (caches value : ℕ) → IsLevel (opened_block caches value)
opened-level caches value =
    omega (arith, no-weight (of_kind is_fwd_gets) (opened_block caches value).traffic.links (λ c. linkless caches c))

module _ (tables : Tables) (pairs : List Pair) (list : List RankedPair) (caches : ℕ) (closed : Closed tables pairs) (blamed : Blamed tables list)
    (few : caches ≤ 4294967296) where
  going-moved : (b new : BlockState) (h : Going pairs list caches b) → IsBlockAmong caches new → Received caches new →
      (new ≡ b) ⊎ Moves tables h.followed.tags b new ⊎ HomeMoves tables h.followed.tags b new → Going pairs list caches new
  going-moved b new h whole received (inl same) = subst (λ (x : BlockState). Going pairs list caches x) (sym same) h
  going-moved b new h whole received (inr (inl m)) = record {
    followed = record {
      whole = whole;
      tags = m.after;
      faithful = m.faithful;
      inside = moved-in tables pairs caches h.followed.tags b new closed whole h.followed.inside m;
    };
    served = served-moved tables list caches h.followed.tags b new blamed.ranked h.served whole m;
    level = level-moved tables list caches h.followed.tags b new blamed.balanced h.served h.level h.followed.whole whole m;
    received = received;
  }
  going-moved b new h whole received (inr (inr m)) = record {
    followed = record {
      whole = whole;
      tags = m.after;
      faithful = m.faithful;
      inside = home_moved-in tables pairs h.followed.tags b new closed h.followed.inside m;
    };
    served = served-home_moved tables list caches h.followed.tags b new blamed.ranked h.served m;
    level = level-home_moved tables list caches h.followed.tags b new blamed.balanced h.served h.level h.followed.whole whole m;
    received = received;
  }

  abbrev closed_guards : Guards (Followed pairs caches) tables caches
  closed_guards = closed-guards tables pairs caches closed few

  pub going-guards : Guards (Going pairs list caches) tables caches
  going-guards = record {
    at_first = λ value. record {
      followed = record {
        whole = opened-whole caches value;
        tags = opened_tags;
        faithful = opened-faithful caches value;
        inside = λ c d ne. subst (λ (p : Pair). Contains pairs p) (sym (opened-alpha caches value c d)) closed.opened;
      };
      served = opened-served tables list caches value blamed;
      level = opened-level caches value;
      received = opened-received caches value;
    };
    kept = λ s b h.
        going-moved b (transition tables s b).block h
        (whole-carried_out caches (decision_of tables s b) b h.followed.whole (decision-fits caches tables s b h.followed.whole))
        (transition-received caches tables s b h.followed.whole h.received) (goes tables pairs caches closed few s b h.followed).moves;
    single = λ b h. closed_guards.single b h.followed;
    unmet = λ s b h. closed_guards.unmet s b h.followed;
  }

-- RUNS
not-blank : (o : Outcome) → (o ≡ outcome.Blank → ⊥) → is_blank o ≡ false
not-blank o h = grind (arith)

unbroken-in : (P : BlockState → Type 0) (tables : Tables) (caches : ℕ) → Guards P tables caches → (s : State) (d : Step) (found : Option BlockState) →
    found ≡ slice_get s.blocks (block_of d) → EachBlock P s → s.broken ≡ false → (next_at tables s d found).state.broken ≡ false
unbroken-in P tables caches g s d None e h w = w
unbroken-in P tables caches g s d (Some b) e h w = not-blank (transition tables d b).outcome (g.unmet d b (h.each (block_of d) b e))

unbroken-if : (t : Bool) (x y : Next) → t ≡ false → y.state.broken ≡ false → (if t then x else y).state.broken ≡ false
unbroken-if false x y e h = h
unbroken-if true x y e h = absurd (cc)

unbroken-after : (P : BlockState → Type 0) (tables : Tables) (caches : ℕ) → Guards P tables caches → (steps : List Step) (s : State) → EachBlock P s →
    s.broken ≡ false → (state_after tables s steps).broken ≡ false
unbroken-after P tables caches g [] s h w = w
unbroken-after P tables caches g (d ∷ steps) s h w =
    unbroken-after P tables caches g steps (next tables s d).state (next-each P tables g.kept d s h)
    (unbroken-if s.broken _ (next_at tables s d (slice_get s.blocks (block_of d))) w
    (unbroken-in P tables caches g s d (slice_get s.blocks (block_of d)) refl h w))

-- the outcome of a step is that of its block
outcome-in : (tables : Tables) (s : State) (d : Step) (b : BlockState) (found : Option BlockState) → Some b ≡ found →
    (next_at tables s d found).outcome ≡ (transition tables d b).outcome
outcome-in tables s d b None e = absurd (cc)
outcome-in tables s d b (Some x) e = let same : b ≡ x = cc in ap (λ (y : BlockState). (transition tables d y).outcome) (sym same)

outcome-if : (t : Bool) (x y : Next) → t ≡ false → (if t then x else y).outcome ≡ y.outcome
outcome-if false x y e = refl
outcome-if true x y e = absurd (cc)

outcome-at : (tables : Tables) (s : State) (d : Step) (b : BlockState) (block : BlockId) → s.broken ≡ false → block_of d ≡ block.0 →
    Some b ≡ slice_get s.blocks block.0 → (next tables s d).outcome ≡ (transition tables d b).outcome
outcome-at tables s d b block w here e =
    outcome-if s.broken _ (next_at tables s d (slice_get s.blocks (block_of d))) w
    ∙ outcome-in tables s d b (slice_get s.blocks (block_of d)) (e ∙ ap (λ k. slice_get s.blocks k) (sym here))

-- what moves, on no blank cell, is no refusal
moved : (o : Outcome) → IsRefusal o → o ≢ outcome.Held → o ≢ outcome.Absent → o ≢ outcome.Idle →
    o ≢ outcome.Blank → o ≢ outcome.Broken → ⊥
moved outcome.Sent r held absent idle blank broken = r
moved outcome.Moved r held absent idle blank broken = r
moved (outcome.Load cache value) r held absent idle blank broken = r
moved (outcome.Store cache value) r held absent idle blank broken = r
moved outcome.Held r held absent idle blank broken = held refl
moved outcome.Absent r held absent idle blank broken = absent refl
moved outcome.Idle r held absent idle blank broken = idle refl
moved outcome.Blank r held absent idle blank broken = blank refl
moved outcome.Broken r held absent idle blank broken = broken refl

-- QUIET BLOCKS
shut : (s : PairSide) → data_to s ≡ 0 → length s.link ≡ 0 → s.owed ≡ false → s.fwd_gets ≡ 0 → s.fwd_getm ≡ 0 → is_open s ≡ false
shut s d l o g m = λ i. (not (d i == 0) || not (l i == 0) || o i) || not (g i == 0) || not (m i == 0)

silent : (shown : Bool) (requests datas : ℕ) → shown ≡ false → requests ≡ 0 → datas ≡ 0 → (not shown && (requests == 0) && (datas == 0)) ≡ true
silent shown requests datas e f g = λ i. not (e i) && (f i == 0) && (g i == 0)

none-waits : (p : Option Ask) → CanWait p → waiting_of p ≡ None → p ≡ None
none-waits None h e = refl
none-waits (Some Load) h e = absurd (cc)
none-waits (Some (Store value)) h e = absurd (cc)
none-waits (Some Replace) h e = absurd h

same-idle : (s : CacheState) → is_idle Replace s ≡ is_absent s
same-idle s = grind (arith)

module _ (tables : Tables) (pairs : List Pair) (list : List RankedPair) (caches : ℕ) (b : BlockState) (h : Going pairs list caches b)
    (quiet : IsQuiet b.traffic) where
  abbrev tags : Tags
  tags = h.followed.tags

  abbrev seen : ℕ → PairSide
  seen c = side h.followed.tags b c

  no-total : (f : Forward → ℕ) → total f b.traffic.links ≡ 0
  no-total f = no-weight f b.traffic.links quiet.links

  no-request : (f : Request → ℕ) → sum_by f b.traffic.requests ≡ 0
  no-request f = ap (λ (rs : List Request). sum_by f rs) quiet.requests

  no-response : (f : Response → ℕ) → sum_by f b.traffic.responses ≡ 0
  no-response f = ap (λ (rs : List Response). sum_by f rs) quiet.responses

  nothing-owed : (c : ℕ) → (seen c).owed ≡ false
  nothing-owed c = ap (λ (n : ℕ). not (n == 0)) (none (owed_to b c) (omega (arith, no-total (names c is_inv), no-response (inv_ack c))))
    where
      none : (n : ℕ) → n ≡ 0 → n ≡ 0
      none n e = e

  all-silent : (c : ℕ) → is_silent (alpha tags b c (c + 1)) ≡ true
  all-silent c =
      silent (is_open (seen c)) (requests_of (seen c)) (sum_by home_data b.traffic.responses)
      (shut (seen c) (omega (arith, no-response (dir_data c), no-response (owner_data c), no-response (excl_data c)))
      (ap (λ (fs : List Forward). length (places c fs)) (quiet.links c)) (nothing-owed c)
      (no-total (names c is_fwd_gets)) (no-total (names c is_fwd_getm)))
      (omega (arith, no-request (from c is_gets), no-request (from c is_getm), no-request (from c is_puts), no-request (from c is_putm)))
      (no-response home_data)

  -- nothing waits
  quiet-done : Blamed tables list → (c : ℕ) (line : Line) → Some line ≡ slice_get b.lines c → line.pending ≡ None
  quiet-done blamed c line there =
      let at = h.served.placed c (c + 1) (next-other c) in
      none-waits line.pending (wait-get b.lines c line h.received.lines there)
      (ap (λ (l : Line). waiting_of l.pending) (sym (line_of-there b.lines c line there))
      ∙ blamed.done (record { pair = alpha tags b c (c + 1); order = at.order }) at.there (all-silent c))

  -- and no ask is held
  line-asked : (cache : CacheId) (a : Ask) (line : Line) → line_holds tables line.state (ask_event a) ≡ false →
      (carried_out (at_line tables.cache cache (line_input.Ask a) origin.Core (Some line)) b).outcome ≢ outcome.Held
  line-asked cache a line serves =
      (line-serves b cache line (line_input.Ask a) origin.Core (cache_table.cell tables.cache line.state (ask_event a)) serves).served

  quiet-asked : ServesAsks tables list → (cache : CacheId) (a : Ask) (found : Option Line) → found ≡ slice_get b.lines cache.0 →
      (carried_out (at_ask tables.cache cache a found) b).outcome ≢ outcome.Held
  quiet-asked serves cache a None e = λ x. absurd (cc)
  quiet-asked serves cache a (Some line) e = by-ask a
    where
      all : serves_asks tables line.state ≡ true
      all =
          let at = h.served.placed cache.0 (cache.0 + 1) (next-other cache.0) in
          subst (λ (l : Line). serves_asks tables l.state ≡ true) (line_of-there b.lines cache.0 line e)
          (serves (record { pair = alpha tags b cache.0 (cache.0 + 1); order = at.order }) at.there (all-silent cache.0))

      not-true : (t : Bool) → not t ≡ true → t ≡ false
      not-true true x = absurd (cc)
      not-true false x = refl

      or-else : (s t : Bool) → s || not t ≡ true → s ≡ false → t ≡ false
      or-else true t x y = absurd (cc)
      or-else false true x y = absurd (cc)
      or-else false false x y = refl

      by-ask : (a : Ask) → (carried_out (at_ask tables.cache cache a (Some line)) b).outcome ≢ outcome.Held
      by-ask Load = line-asked cache Load line (not-true _ (both-true _ _ (both-true _ _ all).0).0)
      by-ask (Store value) = line-asked cache (Store value) line (not-true _ (both-true _ _ (both-true _ _ all).0).1)
      by-ask Replace =
          by-test
          (λ t. (carried_out (if t then Refused outcome.Idle else at_line tables.cache cache (line_input.Ask Replace) origin.Core (Some line)) b).outcome ≢
          outcome.Held)
          (is_idle Replace line.state) (λ idle x. absurd (cc))
          (λ there. line-asked cache Replace line (or-else _ _ (both-true _ _ all).1 (sym (same-idle line.state) ∙ there)))

-- STATES
module _ (tables : Tables) (pairs : List Pair) (list : List RankedPair) (caches : ℕ) (blamed : Blamed tables list)
    (g : Guards (Going pairs list caches) tables caches) (s : State) (each : EachBlock (Going pairs list caches) s) (whole : s.broken ≡ false) where
  pub flowing-at : Flowing tables s
  flowing-at block b e =
      let there : Some b ≡ slice_get s.blocks block.0 = sym e in
      let h : Going pairs list caches b = each.each block.0 b there in
      record {
        moves = λ loud.
            let f : moving.Found tables b block =
            some-found tables list caches h.followed.tags b block blamed h.served h.level h.followed.whole h.followed.faithful h.received
            (λ q. loud (quiet-tells b.traffic q)) in
            let o : (next tables s f.0).outcome ≡ (transition tables f.0 b).outcome = outcome-at tables s f.0 b block whole f.2 there in
            let m : moving.Moves (transition tables f.0 b) = f.3 in (
              f.0,
              record {
                delivery = f.1;
                here = f.2;
                acts = λ r. moved (next tables s f.0).outcome r (λ x. m.served (sym o ∙ x)) (λ x. m.there (sym o ∙ x)) (λ x. m.busy (sym o ∙ x))
                    (λ x. g.unmet f.0 b h (sym o ∙ x)) (λ x. m.whole (sym o ∙ x));
              },
            );
        done = λ quiet c line at. quiet-done tables pairs list caches b h (quiet-told b.traffic quiet) blamed c line (sym at);
      }

  pub unstuck-at : ServesAsks tables list → Unstuck tables s
  unstuck-at serves block b e =
      let there : Some b ≡ slice_get s.blocks block.0 = sym e in
      let h : Going pairs list caches b = each.each block.0 b there in
      let f : Flows tables s block b = flowing-at block b e in
      record {
        moves = f.moves;
        done = f.done;
        ready = λ quiet cache ask x.
            quiet-asked tables pairs list caches b h (quiet-told b.traffic quiet) serves cache ask (slice_get b.lines cache.0) refl
            (sym (outcome-at tables s (step.Ask cache block ask) b block whole refl there) ∙ x);
      }

-- what is so of each such state is so of each that a run reaches
reached : (tables : Tables) (pairs : List Pair) (list : List RankedPair) (shape : Extent) (opening : List ℕ) (steps : List Step) (Q : State → Type 0) →
    Closed tables pairs → Blamed tables list → IsWithinLimits shape →
    (Guards (Going pairs list shape.caches) tables shape.caches → (s : State) → EachBlock (Going pairs list shape.caches) s → s.broken ≡ false → Q s) →
    Q (state_after tables (opened shape opening) steps)
reached tables pairs list shape opening steps Q closed blamed within told =
    let P : BlockState → Type 0 = Going pairs list shape.caches in
    let g : Guards P tables shape.caches = going-guards tables pairs list shape.caches closed blamed (few-enough shape within) in
    told g (state_after tables (opened shape opening) steps) (guarded P tables shape g opening steps)
    (unbroken-after P tables shape.caches g steps (opened shape opening) (guarded P tables shape g opening []) refl)

-- no message is stuck
pub blamed-flowing : (tables : Tables) (pairs : List Pair) (list : List RankedPair) (shape : Extent) (opening : List ℕ) (steps : List Step) →
    Closed tables pairs → Blamed tables list → IsWithinLimits shape → Flowing tables (state_after tables (opened shape opening) steps)
blamed-flowing tables pairs list shape opening steps closed blamed within =
    reached tables pairs list shape opening steps (Flowing tables) closed blamed within (flowing-at tables pairs list shape.caches blamed)

-- and nothing is where asks are served
pub blamed-unstuck : (tables : Tables) (pairs : List Pair) (list : List RankedPair) (shape : Extent) (opening : List ℕ) (steps : List Step) →
    Closed tables pairs → Blamed tables list → ServesAsks tables list → IsWithinLimits shape →
    Unstuck tables (state_after tables (opened shape opening) steps)
blamed-unstuck tables pairs list shape opening steps closed blamed serves within =
    reached tables pairs list shape opening steps (Unstuck tables) closed blamed within
    (λ g s each whole. unstuck-at tables pairs list shape.caches blamed g s each whole serves)
