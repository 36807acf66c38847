-- Under restrained tables that keep going no run is stuck.
use Rattle.std.proofs.Common.{◌≡◌, ◌≢◌, ℕ, ◌≤◌, List, [], ◌∷◌, refl, ap, sym, ◌∙◌, Option, arith}
use Rattle.std.proofs.Common.{Some, None, Bool, true, false, if◌then◌else◌, slice_get, replicate, zero, suc, inl, subst}
use Rattle.base.specs.Extent.{Extent, IsWithinLimits}
use Rattle.base.specs.Steps.{block_of}
use Rattle.base.specs.declared.controller.protocol.Protocol.{Protocol}
use Rattle.base.specs.declared.ids.BlockId.{BlockId}
use Rattle.base.specs.declared.step.Step.{Step}
use Rattle.base.specs.declared.step.Step.TheVariants as step
use Rattle.base.specs.declared.step.Outcome.{Outcome}
use Rattle.base.specs.declared.step.Outcome.TheVariants as outcome
use Rattle.machine.specs.Block.{BlockState, opened_block}
use Rattle.machine.specs.Restraint.{AreRestrained}
use Rattle.machine.specs.Going.{AreNeverStuck, KeepsGoing, ServesAsks, IsSettled}
use Rattle.cache_table.specs.declared.state.CacheState.{CacheState}
use Rattle.cache_table.specs.declared.event.CacheEvent.{CacheEvent}
use Rattle.cache_table.specs.Table.{CacheEntry}
use Rattle.cache_table.specs.Baseline.{baseline_entry}
use Rattle.cache_table.proofs.BaselineCells.{cell-baseline}
use Rattle.control.specs.declared.line.Line.{Line}
use Rattle.control.specs.LineEffect.{opened_line}
use Rattle.tables.specs.Tables.{Tables, baseline_of}
use Rattle.machine.specs.Transition.{transition}
use Rattle.machine.specs.Machine.{State, Next, IsRefusal, next, next_at, is_blank, opened, state_after}
use Rattle.machine.specs.Unstuck.{Unstuck, Flows, Flowing}
use Rattle.machine.proofs.Runs.{EachBlock, Guards, guarded, next-each}
use Rattle.machine.proofs.Idling.{quiet-done, quiet-ready}
use Rattle.machine.proofs.StallRules.{Serves}
use Rattle.machine.proofs.Moves.{Moves, Found}
use Rattle.machine.proofs.AckMoves.{some-move}
use Rattle.machine.proofs.Ranks.{Ranked}
use Rattle.machine.proofs.Gathering.{Gathering, IsImA, IsSmA, transition-gathering}
use Rattle.machine.proofs.Admitting.{Holding, restrained-guards, step-passes}
use Rattle.machine.proofs.Quiet.{quiet-told, quiet-tells}
use Rattle.machine.proofs.Invariant.{guards}
use Rattle.machine.proofs.Safety.{few-enough, own-restrained}

-- no reached state is broken
not-blank : (o : Outcome) → (o ≡ outcome.Blank → ⊥) → is_blank o ≡ false
not-blank o h = grind (arith)

whole-in : (P : BlockState → Type 0) (tables : Tables) (caches : ℕ) → Guards P tables caches → (s : State) (d : Step) (found : Option BlockState) →
    found ≡ slice_get s.blocks (block_of d) → EachBlock P s → s.broken ≡ false → (next_at tables s d found).state.broken ≡ false
whole-in P tables caches g s d None e h w = w
whole-in P tables caches g s d (Some b) e h w = not-blank (transition tables d b).outcome (g.unmet d b (h.each (block_of d) b e))

whole-if : (t : Bool) (x y : Next) → t ≡ false → y.state.broken ≡ false → (if t then x else y).state.broken ≡ false
whole-if false x y e h = h
whole-if true x y e h = absurd (cc)

whole-after : (P : BlockState → Type 0) (tables : Tables) (caches : ℕ) → Guards P tables caches → (steps : List Step) (s : State) → EachBlock P s →
    s.broken ≡ false → (state_after tables s steps).broken ≡ false
whole-after P tables caches g [] s h w = w
whole-after P tables caches g (d ∷ steps) s h w =
    whole-after P tables caches g steps (next tables s d).state (next-each P tables g.kept d s h)
    (whole-if s.broken _ (next_at tables s d (slice_get s.blocks (block_of d))) w (whole-in P tables caches g s d (slice_get s.blocks (block_of d)) refl h w))

-- the outcome of a step is that of its block
outcome-in : (tables : Tables) (s : State) (d : Step) (b : BlockState) (found : Option BlockState) → Some b ≡ found →
    (next_at tables s d found).outcome ≡ (transition tables d b).outcome
outcome-in tables s d b None e = absurd (cc)
outcome-in tables s d b (Some x) e = let same : b ≡ x = cc in ap (λ (y : BlockState). (transition tables d y).outcome) (sym same)

outcome-if : (t : Bool) (x y : Next) → t ≡ false → (if t then x else y).outcome ≡ y.outcome
outcome-if false x y e = refl
outcome-if true x y e = absurd (cc)

outcome-at : (tables : Tables) (s : State) (d : Step) (b : BlockState) (block : BlockId) → s.broken ≡ false → block_of d ≡ block.0 →
    Some b ≡ slice_get s.blocks block.0 → (next tables s d).outcome ≡ (transition tables d b).outcome
outcome-at tables s d b block w here e =
    outcome-if s.broken _ (next_at tables s d (slice_get s.blocks (block_of d))) w
    ∙ outcome-in tables s d b (slice_get s.blocks (block_of d)) (e ∙ ap (λ k. slice_get s.blocks k) (sym here))

-- what moves, on no blank cell, is no refusal
moved : (o : Outcome) → IsRefusal o → o ≢ outcome.Held → o ≢ outcome.Absent → o ≢ outcome.Idle →
    o ≢ outcome.Blank → o ≢ outcome.Broken → ⊥
moved outcome.Sent r held absent idle blank broken = r
moved outcome.Moved r held absent idle blank broken = r
moved (outcome.Load cache value) r held absent idle blank broken = r
moved (outcome.Store cache value) r held absent idle blank broken = r
moved outcome.Held r held absent idle blank broken = held refl
moved outcome.Absent r held absent idle blank broken = absent refl
moved outcome.Idle r held absent idle blank broken = idle refl
moved outcome.Blank r held absent idle blank broken = blank refl
moved outcome.Broken r held absent idle blank broken = broken refl

-- each line of an opened block is as it was opened
replicated : (n c : ℕ) (line : Line) → Some line ≡ slice_get (replicate n opened_line) c → line ≡ opened_line
replicated zero c line at = absurd (cc)
replicated (suc n) zero line at = cc
replicated (suc n) (suc c) line at = replicated n c line at

opened-line : (n c : ℕ) (line : Line) → Some line ≡ slice_get (opened_block n 0).lines c → line ≡ opened_line
opened-line n c line at = replicated n c line at

-- the invariant that not being stuck needs
pub record Going (n : ℕ) (tables : Tables) (b : BlockState) : Type 0 where
  pub holding : Holding tables.protocol n b
  pub ranked : Ranked b
  pub gathering : Gathering tables b

opened-gathering : (tables : Tables) (n value : ℕ) → Gathering tables (opened_block n value)
opened-gathering tables n value = record {
  invalid = λ w c line at p. subst (λ (l : Line). IsImA l.state) (opened-line n c line at) p;
  shared = λ w c line at p. subst (λ (l : Line). IsSmA l.state) (opened-line n c line at) p;
}

going-guards : (tables : Tables) (n : ℕ) → AreRestrained tables → n ≤ 4294967296 → Guards (Going n tables) tables n
going-guards tables n r few =
    let g : Guards (Holding tables.protocol n) tables n = restrained-guards tables n r few in
    record {
      at_first = λ value. record {
        holding = g.at_first value;
        ranked = ((guards tables.protocol n few).at_first value).ranked;
        gathering = opened-gathering tables n value;
      };
      kept = λ s b h. record {
        holding = g.kept s b h.holding;
        ranked = (step-passes n tables s b r h.holding.sound h.holding.valued h.holding.plain).order h.ranked;
        gathering = transition-gathering n tables s b r h.holding.sound h.holding.plain h.gathering;
      };
      single = λ b h. g.single b h.holding;
      unmet = λ s b h. g.unmet s b h.holding;
    }

flowing-at : (caches : ℕ) (tables : Tables) → KeepsGoing tables → Guards (Going caches tables) tables caches → (s : State) → EachBlock (Going caches tables) s →
    s.broken ≡ false → Flowing tables s
flowing-at caches tables going g s h w block b e =
    let there : Some b ≡ slice_get s.blocks block.0 = sym e in
    let k : Going caches tables b = h.each block.0 b there in
    record {
      moves = λ not_quiet.
          let f : Found tables b block =
          some-move caches tables going b block b.traffic.responses refl k.ranked k.holding.sound k.holding.plain k.gathering
          (λ q. not_quiet (quiet-tells b.traffic q)) in
          let o : (next tables s f.0).outcome ≡ (transition tables f.0 b).outcome = outcome-at tables s f.0 b block w f.2 there in
          let m : Moves (transition tables f.0 b) = f.3 in (
            f.0,
            record {
              delivery = f.1;
              here = f.2;
              acts = λ r. moved (next tables s f.0).outcome r (λ x. m.served (sym o ∙ x))
                  (λ x. m.there (sym o ∙ x)) (λ x. m.busy (sym o ∙ x))
                  (λ x. g.unmet f.0 b k (sym o ∙ x)) (λ x. m.whole (sym o ∙ x));
            },
          );
      done = λ quiet c line at. quiet-done caches b k.holding.sound k.holding.valued (quiet-told b.traffic quiet) c line (sym at);
    }

unstuck-at : (caches : ℕ) (tables : Tables) → KeepsGoing tables → ServesAsks tables → Guards (Going caches tables) tables caches → (s : State) →
    EachBlock (Going caches tables) s → s.broken ≡ false → Unstuck tables s
unstuck-at caches tables going asks g s h w block b e =
    let there : Some b ≡ slice_get s.blocks block.0 = sym e in
    let k : Going caches tables b = h.each block.0 b there in
    let f : Flows tables s block b = flowing-at caches tables going g s h w block b e in
    record {
      moves = f.moves;
      done = f.done;
      ready =
          λ quiet cache ask x. quiet-ready caches tables going asks b block k.holding.sound k.holding.plain (quiet-told b.traffic quiet) cache ask
          (sym (outcome-at tables s (step.Ask cache block ask) b block w refl there) ∙ x);
    }

-- what the invariant gives of each state holds of each that a run reaches
reached : (tables : Tables) (shape : Extent) (opening : List ℕ) (steps : List Step) (Q : State → Type 0) → AreRestrained tables → IsWithinLimits shape →
    (Guards (Going shape.caches tables) tables shape.caches → (s : State) → EachBlock (Going shape.caches tables) s → s.broken ≡ false → Q s) →
    Q (state_after tables (opened shape opening) steps)
reached tables shape opening steps Q r within told =
    let g : Guards (Going shape.caches tables) tables shape.caches = going-guards tables shape.caches r (few-enough shape within) in
    let start : EachBlock (Going shape.caches tables) (opened shape opening) = guarded (Going shape.caches tables) tables shape g opening [] in
    told g (state_after tables (opened shape opening) steps) (guarded (Going shape.caches tables) tables shape g opening steps)
    (whole-after (Going shape.caches tables) tables shape.caches g steps (opened shape opening) start refl)

-- under restrained tables that keep going no message is stuck
pub restrained-flowing : (tables : Tables) (shape : Extent) (opening : List ℕ) (steps : List Step) → AreRestrained tables → KeepsGoing tables →
    IsWithinLimits shape →
    Flowing tables (state_after tables (opened shape opening) steps)
restrained-flowing tables shape opening steps r going within =
    reached tables shape opening steps (Flowing tables) r within (flowing-at shape.caches tables going)

-- and nothing is stuck where they serve asks too
pub never_stuck : (tables : Tables) (shape : Extent) (opening : List ℕ) (steps : List Step) → AreNeverStuck tables → IsWithinLimits shape →
    Unstuck tables (state_after tables (opened shape opening) steps)
never_stuck tables shape opening steps never within =
    reached tables shape opening steps (Unstuck tables) never.restrained within (unstuck-at shape.caches tables never.going never.serving)

-- the own tables keep going
own-going : (p : Protocol) → KeepsGoing (baseline_of p)
own-going p = record { cache = λ s e x. inl x; directory = λ s e x. inl x }

-- and serve asks
settled-serves : (p : Protocol) (e : CacheEvent) (s : CacheState) → IsSettled s → Serves (baseline_entry p s e)
settled-serves p e s h = grind (arith)

own-serves-asks : (p : Protocol) → ServesAsks (baseline_of p)
own-serves-asks p = record {
  served = λ s e h x. absurd (subst (λ (y : CacheEntry). Serves y) (sym (cell-baseline p s e) ∙ x) (settled-serves p e s h));
}

pub own-never_stuck : (p : Protocol) → AreNeverStuck (baseline_of p)
own-never_stuck p = record { restrained = own-restrained p; going = own-going p; serving = own-serves-asks p }

-- so under them no reached state is stuck
pub unstuck : (p : Protocol) (shape : Extent) (opening : List ℕ) (steps : List Step) → IsWithinLimits shape →
    Unstuck (baseline_of p) (state_after (baseline_of p) (opened shape opening) steps)
unstuck p shape opening steps within = never_stuck (baseline_of p) shape opening steps (own-never_stuck p) within
