-- Responses as the pairs of their receiver see them, and Data that come to the home as all pairs do.
use Rattle.std.proofs.Common.{◌≡◌, ◌≢◌, ℕ, ◌≤◌, Option, Some, None, Bool, true, false}
use Rattle.std.proofs.Common.{refl, inl, inr, not, ◌==◌, ◌⊎◌, ◌-◌, sum_by, arith, slice_get}
use Rattle.machine.specs.declared.decision.Decision.TheVariants.{AtLine}
use Rattle.base.specs.declared.ids.BlockId.{BlockId}
use Rattle.base.specs.declared.ids.CacheId.{CacheId}
use Rattle.base.specs.declared.step.Step.TheVariants as step
use Rattle.base.specs.declared.step.Outcome.TheVariants as outcome
use Rattle.tables.specs.Tables.{Tables}
use Rattle.machine.specs.Block.{BlockState, IsBlockAmong}
use Rattle.machine.specs.declared.decision.Origin.TheVariants as origin
use Rattle.control.specs.declared.line.Line.{Line}
use Rattle.control.specs.declared.line.LineInput.TheVariants as line_input
use Rattle.control.specs.declared.home.HomeInput.TheVariants as home_input
use Rattle.network.specs.declared.message.Response.{Response}
use Rattle.network.specs.declared.message.Response.TheVariants.{Data, InvAck, DataExcl}
use Rattle.base.specs.declared.ids.Place.{Place}
use Rattle.base.specs.declared.ids.Place.TheVariants.{Dir, Cache}
use Rattle.machine.proofs.Counts.{sum_by-remove}
use Rattle.machine.proofs.Seen.{line_of, home_data}
use Rattle.directory_table.specs.declared.event.DirectoryEvent.TheVariants as home_event
use Rattle.closing.proofs.AlphaFits.{thirds-fit}
use Rattle.machine.proofs.Sound.{line_of-there}
use Rattle.machine.specs.Transition.{carried_out, at_response}
use Rattle.machine.specs.Transition.{at_line as line_at}
use Rattle.pairs.specs.Pairs.{thirds_fit, trimmed_home}
use Rattle.pairs.specs.declared.steps.Rule.{Rule}
use Rattle.pairs.specs.declared.steps.Rule.TheVariants.{GetsDirData, GetsOwnerData, GetsExclData}
use Rattle.pairs.specs.Sights.{acks_awaited, home_data_seen}
use Rattle.pairs.specs.declared.side.Lag.{Lag}
use Rattle.closing.proofs.Alpha.{Owing, Tags, alpha, owed_to, Faithful}
use Rattle.closing.proofs.Taking.{Receives}
use Rattle.closing.proofs.ResponseActs.{Known, known-blank, known-acted}
use Rattle.closing.proofs.DirDataActs.{dir-known, dir-lost}
use Rattle.closing.proofs.CopyActs.{owner-known, excl-known}
use Rattle.closing.proofs.InvAckActs.{ack-known}
use Rattle.closing.proofs.HomeDataActs.{home_data-acted}
use Rattle.closing.proofs.Simulation.{IsBreach, Breaks, SimulatedBy, Simulated, still, next-other, LineBlank, LineActs, line-simulated, HomeBlank, home-entry}
use Rattle.closing.proofs.Simulation.{home-breach, some-breach, or-cases}

-- what is known of a response that comes to its receiver's line, if it can be followed
abbrev IsKnown : (tables : Tables) (caches : ℕ) (tags : Tags) (b : BlockState) (cache : CacheId) (index : ℕ) (r : Response) (whole : IsBlockAmong caches b)
    (faithful : Faithful tags b) (e : Some r ≡ slice_get b.traffic.responses index) (to : Receives cache r) (line : Line) → Type 0
IsKnown tables caches tags b cache index r whole faithful e to line =
    Breaks tables tags b ⊎ ((rule : Rule) × (fresh : Bool) × (owed : Owing) × Known tables caches tags b cache index r whole faithful e to line rule fresh owed)

response-known : (tables : Tables) (caches : ℕ) (tags : Tags) (b : BlockState) (cache : CacheId) (index : ℕ) (r : Response)
    (whole : IsBlockAmong caches b) (faithful : Faithful tags b) (e : Some r ≡ slice_get b.traffic.responses index) (to : Receives cache r) (line : Line) →
    line_of b.lines cache.0 ≡ line → IsKnown tables caches tags b cache index r whole faithful e to line
response-known tables caches tags b cache index (Data Dir (Cache at) value acks) whole faithful e to line there =
    sought (acks_awaited (tags.lag cache.0) (not (owed_to b cache.0 == 0))) refl
  where
    sought : (o : Option Lag) → acks_awaited (tags.lag cache.0) (not (owed_to b cache.0 == 0)) ≡ o →
        IsKnown tables caches tags b cache index (Data Dir (Cache at) value acks) whole faithful e to line
    sought None none = inl (dir-lost tables caches tags b cache index at value acks whole faithful e to line there none)
    sought (Some k) some = inr (GetsDirData, _, _, dir-known tables caches tags b cache index at value acks whole faithful e to line there k some)
response-known tables caches tags b cache index (Data (Cache by) (Cache at) value acks) whole faithful e to line there =
    inr (GetsOwnerData, _, _, owner-known tables caches tags b cache index by at value acks whole faithful e to line there)
response-known tables caches tags b cache index (Data by Dir value acks) whole faithful e to line there = absurd to
response-known tables caches tags b cache index (InvAck by at) whole faithful e to line there =
    inr (_, _, _, ack-known tables caches tags b cache index by at whole faithful e to line there)
response-known tables caches tags b cache index (DataExcl at value) whole faithful e to line there =
    inr (GetsExclData, _, _, excl-known tables caches tags b cache index at value whole faithful e to line there)

response-blank : (tables : Tables) (caches : ℕ) (tags : Tags) (b : BlockState) (cache : CacheId) (index : ℕ) (r : Response) → IsBlockAmong caches b →
    Faithful tags b → Some r ≡ slice_get b.traffic.responses index → Receives cache r → LineBlank tables tags b cache (line_input.Response r)
response-blank tables caches tags b cache index r whole faithful e to line there blank =
    at (response-known tables caches tags b cache index r whole faithful e to line (line_of-there b.lines cache.0 line there))
  where
    at : IsKnown tables caches tags b cache index r whole faithful e to line → Breaks tables tags b
    at (inl broken) = broken
    at (inr known) = known-blank tables caches tags b cache index r whole faithful e to line known.0 known.1 known.2 known.3 blank

response-acted : (tables : Tables) (caches : ℕ) (tags : Tags) (b : BlockState) (cache : CacheId) (index : ℕ) (r : Response) → IsBlockAmong caches b →
    Faithful tags b → Some r ≡ slice_get b.traffic.responses index → Receives cache r →
    LineActs tables tags b cache (line_input.Response r) (origin.Response index)
response-acted tables caches tags b cache index r whole faithful e to line next actions there acts =
    at (response-known tables caches tags b cache index r whole faithful e to line (line_of-there b.lines cache.0 line there))
  where
    at : IsKnown tables caches tags b cache index r whole faithful e to line →
        SimulatedBy tables tags b (carried_out (AtLine cache line (line_input.Response r) next actions (origin.Response index)) b)
    at (inl broken) = inl broken
    at (inr known) = known-acted tables caches tags b cache index r whole faithful e to line known.0 known.1 known.2 known.3 next actions there acts

pub home_data-blank : (tables : Tables) (tags : Tags) (b : BlockState) (index : ℕ) (by : Place) (value acks : ℕ) → Faithful tags b →
    Some (Data by Dir value acks) ≡ slice_get b.traffic.responses index → HomeBlank tables tags b (home_input.Data value)
home_data-blank tables tags b index by value acks faithful e blank =
    elim (or-cases (thirds_fit true (alpha tags b 0 1)) (thirds_fit false (alpha tags b 0 1)) (thirds-fit tags b 0 1 (next-other 0))) [
      | inl fit ↦ (0, 1, next-other 0, true, inr (at true fit))
      | inr fit ↦ (0, 1, next-other 0, false, inr (at false fit))
    ]
  where
    some : sum_by home_data b.traffic.responses ≢ 0
    some z = absurd (omega (arith, z, sum_by-remove home_data b.traffic.responses index (Data by Dir value acks) e))

    at : (t : Bool) → thirds_fit t (alpha tags b 0 1) ≡ true → IsBreach (home_data_seen tables t (alpha tags b 0 1))
    at t fit =
        some-breach (alpha tags b 0 1).shared.home_data _ some
        (home-breach tables t false (Some (alpha tags b 0 1).shared.fresh_home_data) home_event.Data (record (alpha tags b 0 1) {
          shared = trimmed_home (record (alpha tags b 0 1).shared { home_data = (alpha tags b 0 1).shared.home_data - 1 });
        }) fit blank)

response-line : (tables : Tables) (caches : ℕ) (tags : Tags) (b : BlockState) (cache : CacheId) (index : ℕ) (r : Response) → caches ≤ 4294967296 →
    IsBlockAmong caches b → Faithful tags b → Some r ≡ slice_get b.traffic.responses index → Receives cache r →
    SimulatedBy tables tags b (carried_out (line_at tables.cache cache (line_input.Response r) (origin.Response index) (slice_get b.lines cache.0)) b)
response-line tables caches tags b cache index r few whole faithful e to =
    line-simulated tables tags b cache (line_input.Response r) (origin.Response index) (slice_get b.lines cache.0) refl
    (response-blank tables caches tags b cache index r whole faithful e to) (response-acted tables caches tags b cache index r whole faithful e to)

response-found : (tables : Tables) (caches : ℕ) (tags : Tags) (b : BlockState) (index : ℕ) (found : Option Response) → caches ≤ 4294967296 →
    IsBlockAmong caches b → Faithful tags b → found ≡ slice_get b.traffic.responses index →
    SimulatedBy tables tags b (carried_out (at_response tables index b found) b)
response-found tables caches tags b index None few whole faithful e = still tables tags b outcome.Absent (λ none. absurd (cc)) refl
response-found tables caches tags b index (Some (Data by Dir value acks)) few whole faithful e =
    home-entry tables tags b (home_input.Data value) (origin.Response index) _ refl (home_data-blank tables tags b index by value acks faithful e)
    (home_data-acted tables caches tags b index by value acks few whole faithful e)
response-found tables caches tags b index (Some (Data by (Cache to) value acks)) few whole faithful e =
    response-line tables caches tags b to index (Data by (Cache to) value acks) few whole faithful e refl
response-found tables caches tags b index (Some (InvAck by to)) few whole faithful e =
    response-line tables caches tags b to index (InvAck by to) few whole faithful e refl
response-found tables caches tags b index (Some (DataExcl to value)) few whole faithful e =
    response-line tables caches tags b to index (DataExcl to value) few whole faithful e refl

pub response-simulated : (tables : Tables) (caches : ℕ) (tags : Tags) (b : BlockState) (block : BlockId) (index : ℕ) → caches ≤ 4294967296 →
    IsBlockAmong caches b → Faithful tags b → Simulated tables tags b (step.Response block index)
response-simulated tables caches tags b block index few whole faithful =
    response-found tables caches tags b index (slice_get b.traffic.responses index) few whole faithful refl
