-- Asks of a cache as its pairs see them.
use Rattle.std.proofs.Common.{◌≡◌, ℕ, ◌≤◌, Option, Some, None, Bool, true, false, if◌then◌else◌}
use Rattle.std.proofs.Common.{refl, ap, sym, subst, ◌∙◌, inl, ◌+◌, slice_get}
use Rattle.base.specs.declared.ids.BlockId.{BlockId}
use Rattle.base.specs.declared.ids.CacheId.{CacheId}
use Rattle.base.specs.declared.step.Ask.{Ask}
use Rattle.base.specs.declared.step.Step.TheVariants as step
use Rattle.base.specs.declared.step.Outcome.TheVariants as outcome
use Rattle.tables.specs.Tables.{Tables}
use Rattle.machine.specs.Block.{BlockState, IsBlockAmong}
use Rattle.machine.specs.declared.decision.Decision.TheVariants.{Refused}
use Rattle.machine.specs.declared.decision.Origin.TheVariants as origin
use Rattle.base.specs.declared.step.Ask.TheVariants as ask
use Rattle.base.specs.declared.controller.entry.CellEntry.TheVariants as table_entry
use Rattle.cache_table.specs.declared.state.CacheState.{CacheState}
use Rattle.cache_table.specs.declared.event.CacheEvent.TheVariants as event
use Rattle.cache_table.specs.Table as cache_table
use Rattle.cache_table.specs.Table.{CacheEntry}
use Rattle.control.specs.declared.line.Line.{Line}
use Rattle.control.specs.declared.line.LineInput.TheVariants as line_input
use Rattle.control.specs.LineEvents.{ask_event}
use Rattle.machine.proofs.Sound.{line_of-there}
use Rattle.machine.specs.Transition.{carried_out, is_idle, by_line_entry, at_ask}
use Rattle.pairs.specs.declared.pair.Pair.{Pair}
use Rattle.pairs.specs.declared.steps.Party.TheVariants.{Nobody}
use Rattle.pairs.specs.declared.steps.Rule.TheVariants.{AsksLoad, AsksStore, AsksReplacement}
use Rattle.pairs.specs.declared.steps.Sight.TheVariants.{Unmoved}
use Rattle.pairs.specs.Sights.{sight, by_line, at_line, is_absent}
use Rattle.closing.proofs.Alpha.{Tags, alpha, Faithful}
use Rattle.closing.proofs.AskActs.{ask_rule, not-absent, ask-acted}
use Rattle.closing.proofs.Simulation.{IsBreach, SimulatedBy, Simulated, still, next-other}

-- a blank cell breaks a pair of its cache
ask-blank : (tables : Tables) (a : Ask) (p : Pair) (state : CacheState) → p.first.state ≡ state → is_idle a state ≡ false →
    cache_table.cell tables.cache state (ask_event a) ≡ table_entry.Blank → IsBreach (sight tables (ask_rule a) true p)
ask-blank tables ask.Load p state e busy blank =
    subst (λ (x : CacheEntry). IsBreach (by_line AsksLoad true Nobody Nobody event.Load x p))
    (sym (ap (λ s. cache_table.cell tables.cache s event.Load) e ∙ blank)) tt
ask-blank tables (ask.Store value) p state e busy blank =
    subst (λ (x : CacheEntry). IsBreach (by_line AsksStore true Nobody Nobody event.Store x p))
    (sym (ap (λ s. cache_table.cell tables.cache s event.Store) e ∙ blank)) tt
ask-blank tables ask.Replace p state e busy blank =
    subst (λ (t : Bool). IsBreach (if t then Unmoved else at_line tables AsksReplacement true Nobody Nobody event.Replacement p))
    (sym (ap (λ s. is_absent s) e ∙ not-absent state busy))
    (subst (λ (x : CacheEntry). IsBreach (by_line AsksReplacement true Nobody Nobody event.Replacement x p))
    (sym (ap (λ s. cache_table.cell tables.cache s event.Replacement) e ∙ blank)) tt)

ask-entry : (tables : Tables) (caches : ℕ) (tags : Tags) (b : BlockState) (cache : CacheId) (a : Ask) (line : Line) (x : CacheEntry) → caches ≤ 4294967296 →
    IsBlockAmong caches b → Faithful tags b → Some line ≡ slice_get b.lines cache.0 → is_idle a line.state ≡ false →
    cache_table.cell tables.cache line.state (ask_event a) ≡ x →
    SimulatedBy tables tags b (carried_out (by_line_entry x cache line (line_input.Ask a) origin.Core) b)
ask-entry tables caches tags b cache a line table_entry.Stall few whole faithful e busy cell = still tables tags b outcome.Held (λ blank. absurd (cc)) refl
ask-entry tables caches tags b cache a line table_entry.Blank few whole faithful e busy cell =
    inl (
      cache.0,
      cache.0 + 1,
      next-other cache.0,
      true,
      inl (
        ask_rule a,
        ask-blank tables a (alpha tags b cache.0 (cache.0 + 1)) line.state (ap (λ (l : Line). l.state) (line_of-there b.lines cache.0 line e)) busy cell,
      ),
    )
ask-entry tables caches tags b cache a line (table_entry.Act next actions) few whole faithful e busy cell =
    ask-acted tables caches tags b cache a line next actions few whole faithful e busy cell

ask-if : (tables : Tables) (caches : ℕ) (tags : Tags) (b : BlockState) (cache : CacheId) (a : Ask) (line : Line) (idle : Bool) → caches ≤ 4294967296 →
    IsBlockAmong caches b → Faithful tags b → Some line ≡ slice_get b.lines cache.0 → is_idle a line.state ≡ idle →
    SimulatedBy tables tags b (carried_out (if idle then Refused outcome.Idle
    else by_line_entry (cache_table.cell tables.cache line.state (ask_event a)) cache line (line_input.Ask a) origin.Core) b)
ask-if tables caches tags b cache a line true few whole faithful e i = still tables tags b outcome.Idle (λ blank. absurd (cc)) refl
ask-if tables caches tags b cache a line false few whole faithful e i =
    ask-entry tables caches tags b cache a line (cache_table.cell tables.cache line.state (ask_event a)) few whole faithful e i refl

ask-found : (tables : Tables) (caches : ℕ) (tags : Tags) (b : BlockState) (cache : CacheId) (a : Ask) (found : Option Line) → caches ≤ 4294967296 →
    IsBlockAmong caches b → Faithful tags b → found ≡ slice_get b.lines cache.0 → SimulatedBy tables tags b (carried_out (at_ask tables.cache cache a found) b)
ask-found tables caches tags b cache a None few whole faithful e = still tables tags b outcome.Absent (λ blank. absurd (cc)) refl
ask-found tables caches tags b cache a (Some line) few whole faithful e =
    ask-if tables caches tags b cache a line (is_idle a line.state) few whole faithful e refl

-- so each ask is seen by all pairs of its cache
pub ask-simulated : (tables : Tables) (caches : ℕ) (tags : Tags) (b : BlockState) (cache : CacheId) (block : BlockId) (a : Ask) → caches ≤ 4294967296 →
    IsBlockAmong caches b → Faithful tags b → Simulated tables tags b (step.Ask cache block a)
ask-simulated tables caches tags b cache block a few whole faithful =
    ask-found tables caches tags b cache a (slice_get b.lines cache.0) few whole faithful refl
