-- What it means that a step of a block is a step of all its pairs.
use Rattle.std.proofs.Common.{◌≡◌, ◌≢◌, ℕ, List, Option, Some, None, Bool, true, false, ◌==◌, if◌then◌else◌, ◌⊎◌}
use Rattle.std.proofs.Common.{refl, sym, subst, inl, inr, ◌+◌, ◌||◌, arith, slice_get}
use Rattle.std.proofs.lemmas.Bool.{ne_eqb}
use Rattle.base.specs.declared.ids.CacheId.{CacheId}
use Rattle.base.specs.declared.step.Step.{Step}
use Rattle.base.specs.declared.step.Outcome.TheVariants as outcome
use Rattle.tables.specs.Tables.{Tables}
use Rattle.machine.specs.Block.{BlockState}
use Rattle.machine.specs.declared.decision.Decision.{Decision}
use Rattle.machine.specs.declared.decision.Decision.TheVariants.{Refused, AtLine, AtHome}
use Rattle.base.specs.declared.step.Outcome.{Outcome}
use Rattle.base.specs.declared.controller.entry.CellEntry.TheVariants as table_entry
use Rattle.cache_table.specs.declared.state.CacheState.{CacheState}
use Rattle.cache_table.specs.declared.actions.CacheAction.{CacheAction}
use Rattle.cache_table.specs.Table as cache_table
use Rattle.cache_table.specs.Table.{CacheEntry}
use Rattle.control.specs.declared.line.Line.{Line}
use Rattle.control.specs.LineEvents.{event_at_line}
use Rattle.control.specs.HomeEvents.{event_at_home}
use Rattle.control.specs.declared.line.LineInput.{LineInput}
use Rattle.control.specs.declared.home.HomeInput.{HomeInput}
use Rattle.machine.specs.declared.decision.Origin.{Origin}
use Rattle.directory_table.specs.declared.state.DirectoryState.{DirectoryState}
use Rattle.directory_table.specs.declared.actions.DirectoryAction.{DirectoryAction}
use Rattle.directory_table.specs.Table as directory_table
use Rattle.directory_table.specs.Table.{DirectoryEntry}
use Rattle.machine.proofs.Seen.{from}
use Rattle.directory_table.specs.declared.event.DirectoryEvent.{DirectoryEvent}
use Rattle.machine.specs.Transition.{Transition, transition, carried_out, by_line_entry, by_home_entry, at_line as line_at}
use Rattle.machine.proofs.LineValues.{FitsLatest}
use Rattle.pairs.specs.declared.pair.Pair.{Pair}
use Rattle.pairs.specs.Pairs.{thirds_fit}
use Rattle.pairs.specs.declared.steps.Party.{Party}
use Rattle.pairs.specs.declared.steps.Rule.{Rule}
use Rattle.pairs.specs.declared.steps.Sight.{Sight}
use Rattle.pairs.specs.declared.steps.Scene.{Scene}
use Rattle.pairs.specs.declared.steps.Debt.TheVariants.{Even}
use Rattle.pairs.specs.declared.steps.Party.TheVariants.{Nobody, First, Second, Third}
use Rattle.pairs.specs.declared.steps.Sight.TheVariants.{Unmoved, Lost, Spoilt, Seen}
use Rattle.pairs.specs.Sights.{sight, home_data_seen, where_some, at_home, by_home, owner_in}
use Rattle.closing.proofs.Alpha.{Tags, alpha, Faithful}
use Rattle.closing.proofs.Staying.{ActsFor}

-- whom a step that concerns this cache besides its actor concerns, in the pair of the actor and another
abbrev pub role : Option ℕ → ℕ → Party
role None x = Nobody
role (Some e) x = if e == x then Second else Third

-- a cache acts by this decision: each of its pairs has the step among its sights
pub record Moves (tables : Tables) (tags : Tags) (b new : BlockState) : Type 0 where
  pub decided : Decision
  pub made : new ≡ (carried_out decided b).block
  pub actor : ℕ
  pub acts : ActsFor actor decided
  pub besides : Option ℕ
  pub apart : (e : ℕ) → besides ≡ Some e → e ≢ actor
  pub rule : Rule
  pub after : Tags
  pub faithful : Faithful after new
  pub sees : (x : ℕ) → x ≢ actor → (t : Bool) × (sight tables rule t (alpha tags b actor x) ≡ Seen (role besides x) (alpha after new actor x))

-- Data comes to the home: all pairs have the step among their sights
pub record HomeMoves (tables : Tables) (tags : Tags) (b new : BlockState) : Type 0 where
  pub after : Tags
  pub faithful : Faithful after new
  pub sees : (c d : ℕ) → c ≢ d → (t : Bool) × (home_data_seen tables t (alpha tags b c d) ≡ Seen Nobody (alpha after new c d))

-- a sight that no closed set allows
abbrev pub IsBreach : Sight → Type 0
IsBreach Lost = Unit {0}
IsBreach (Spoilt Nobody) = Unit {0}
IsBreach (Spoilt First) = Unit {0}
IsBreach (Spoilt Second) = Unit {0}
IsBreach other = ⊥

-- some pair of the block has such a sight
abbrev pub Breaks : Tables → Tags → BlockState → Type 0
Breaks tables tags b =
    (c : ℕ) × (d : ℕ) × (c ≢ d) × (t : Bool) × (((rule : Rule) × IsBreach (sight tables rule t (alpha tags b c d))) ⊎ IsBreach
    (home_data_seen tables t (alpha tags b c d)))

-- a transition meets no blank cell, answers by the latest value, and changes nothing or is seen by all pairs
pub record Goes (tables : Tables) (tags : Tags) (b : BlockState) (t : Transition) : Type 0 where
  pub unmet : t.outcome ≡ outcome.Blank → ⊥
  pub fits : FitsLatest t.outcome b.latest t.block.latest
  pub moves : (t.block ≡ b) ⊎ Moves tables tags b t.block ⊎ HomeMoves tables tags b t.block

abbrev pub SimulatedBy : Tables → Tags → BlockState → Transition → Type 0
SimulatedBy tables tags b t = Breaks tables tags b ⊎ Goes tables tags b t

abbrev pub Simulated : Tables → Tags → BlockState → Step → Type 0
Simulated tables tags b s = SimulatedBy tables tags b (transition tables s b)

pub still : (tables : Tables) (tags : Tags) (b : BlockState) (what : Outcome) → (what ≡ outcome.Blank → ⊥) → FitsLatest what b.latest b.latest →
    SimulatedBy tables tags b (carried_out (Refused what) b)
still tables tags b what unmet fits = inr (record { unmet = unmet; fits = fits; moves = inl refl })

pub next-other : (n : ℕ) → n ≡ n + 1 → ⊥
next-other n e = absurd (omega (arith, e))

-- CELLS: a blank one and one that acts are left
abbrev pub LineBlank : Tables → Tags → BlockState → CacheId → LineInput → Type 0
LineBlank tables tags b cache input =
    (line : Line) → Some line ≡ slice_get b.lines cache.0 → cache_table.cell tables.cache line.state (event_at_line line.acks input) ≡ table_entry.Blank →
    Breaks tables tags b

abbrev pub LineActs : Tables → Tags → BlockState → CacheId → LineInput → Origin → Type 0
LineActs tables tags b cache input from =
    (line : Line) (next : CacheState) (actions : List CacheAction) → Some line ≡ slice_get b.lines cache.0 →
    cache_table.cell tables.cache line.state (event_at_line line.acks input) ≡ table_entry.Act next actions →
    SimulatedBy tables tags b (carried_out (AtLine cache line input next actions from) b)

pub line-entry : (tables : Tables) (tags : Tags) (b : BlockState) (cache : CacheId) (input : LineInput) (from : Origin) (line : Line) (x : CacheEntry) →
    Some line ≡ slice_get b.lines cache.0 → cache_table.cell tables.cache line.state (event_at_line line.acks input) ≡ x → LineBlank tables tags b cache input →
    LineActs tables tags b cache input from → SimulatedBy tables tags b (carried_out (by_line_entry x cache line input from) b)
line-entry tables tags b cache input from line table_entry.Stall e cell blank acts = still tables tags b outcome.Held (λ none. absurd (cc)) refl
line-entry tables tags b cache input from line table_entry.Blank e cell blank acts = inl (blank line e cell)
line-entry tables tags b cache input from line (table_entry.Act next actions) e cell blank acts = acts line next actions e cell

pub line-simulated : (tables : Tables) (tags : Tags) (b : BlockState) (cache : CacheId) (input : LineInput) (from : Origin) (found : Option Line) →
    found ≡ slice_get b.lines cache.0 → LineBlank tables tags b cache input → LineActs tables tags b cache input from →
    SimulatedBy tables tags b (carried_out (line_at tables.cache cache input from found) b)
line-simulated tables tags b cache input from None e blank acts = still tables tags b outcome.Absent (λ none. absurd (cc)) refl
line-simulated tables tags b cache input from (Some line) e blank acts =
    line-entry tables tags b cache input from line (cache_table.cell tables.cache line.state (event_at_line line.acks input))
    e refl blank acts

abbrev pub HomeBlank : Tables → Tags → BlockState → HomeInput → Type 0
HomeBlank tables tags b input =
    directory_table.cell tables.directory b.home.state (event_at_home b.home.owner b.home.sharers input) ≡ table_entry.Blank → Breaks tables tags b

abbrev pub HomeActs : Tables → Tags → BlockState → HomeInput → Origin → Type 0
HomeActs tables tags b input from =
    (next : DirectoryState) (actions : List DirectoryAction) →
    directory_table.cell tables.directory b.home.state (event_at_home b.home.owner b.home.sharers input) ≡ table_entry.Act next actions →
    SimulatedBy tables tags b (carried_out (AtHome input next actions from) b)

pub home-entry : (tables : Tables) (tags : Tags) (b : BlockState) (input : HomeInput) (from : Origin) (x : DirectoryEntry) →
    directory_table.cell tables.directory b.home.state (event_at_home b.home.owner b.home.sharers input) ≡ x → HomeBlank tables tags b input →
    HomeActs tables tags b input from → SimulatedBy tables tags b (carried_out (by_home_entry x input from) b)
home-entry tables tags b input from table_entry.Stall cell blank acts = still tables tags b outcome.Held (λ none. absurd (cc)) refl
home-entry tables tags b input from table_entry.Blank cell blank acts = inl (blank cell)
home-entry tables tags b input from (table_entry.Act next actions) cell blank acts = acts next actions cell

-- a blank cell of the home breaks every pair that fits
pub home-breach : (tables : Tables) (t asked : Bool) (value : Option Bool) (e : DirectoryEvent) (p : Pair) → thirds_fit t p ≡ true →
    directory_table.cell tables.directory p.shared.home e ≡ table_entry.Blank → IsBreach (at_home tables t asked value e p)
home-breach tables t asked value e p fit blank =
    let scene : Scene = record {
      pair = p;
      owner = owner_in p.first.owned p.second.owned;
      third_shares = t;
      debt = Even;
    } in
    subst (λ (u : Bool). IsBreach (if u then by_home asked value (directory_table.cell tables.directory p.shared.home e) scene else Unmoved)) (sym fit)
    (subst (λ (x : DirectoryEntry). IsBreach (by_home asked value x scene)) (sym blank) tt)

pub some-breach : (n : ℕ) (x : Sight) → n ≢ 0 → IsBreach x → IsBreach (where_some n x)
some-breach n x ne breach = subst (λ (u : Bool). IsBreach (if u then Unmoved else x)) (sym (ne_eqb n 0 ne)) breach

pub or-cases : (s t : Bool) → s || t ≡ true → (s ≡ true) ⊎ (t ≡ true)
or-cases true t e = inl refl
or-cases false t e = inr e
