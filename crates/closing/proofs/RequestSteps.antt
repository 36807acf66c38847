-- Requests that come to the home as the pairs of their sender see them.
use Rattle.std.proofs.Common.{◌≡◌, ◌≢◌, ℕ, ◌≤◌, Option, Some, None, Bool, true, false, ◌==◌, if◌then◌else◌}
use Rattle.std.proofs.Common.{refl, ap, ◌∙◌, inl, inr, ◌+◌, ◌-◌, ◌&&◌, not, eq-eqb, sum_by, arith, slice_get}
use Rattle.base.specs.declared.ids.BlockId.{BlockId}
use Rattle.base.specs.declared.step.Step.TheVariants as step
use Rattle.base.specs.declared.step.Outcome.TheVariants as outcome
use Rattle.tables.specs.Tables.{Tables}
use Rattle.machine.specs.Block.{BlockState, IsBlockAmong}
use Rattle.machine.specs.declared.decision.Origin.TheVariants as origin
use Rattle.base.specs.declared.controller.entry.CellEntry.TheVariants as table_entry
use Rattle.control.specs.HomeEvents.{request_event}
use Rattle.control.specs.Sharing.{shares, others_from}
use Rattle.network.specs.declared.message.RequestKind.{RequestKind}
use Rattle.network.specs.declared.message.RequestKind.TheVariants as request
use Rattle.control.specs.declared.home.HomeInput.TheVariants as home_input
use Rattle.directory_table.specs.Table as directory_table
use Rattle.directory_table.specs.Table.{DirectoryEntry}
use Rattle.network.specs.declared.message.Request.{Request}
use Rattle.machine.proofs.Counts.{sum_by-remove, only}
use Rattle.machine.proofs.Seen.{from, is_gets, is_getm, is_puts, is_putm}
use Rattle.directory_table.specs.declared.event.DirectoryEvent.TheVariants as home_event
use Rattle.closing.proofs.AlphaFits.{thirds-fit}
use Rattle.machine.specs.Transition.{carried_out, at_request}
use Rattle.pairs.specs.Pairs.{thirds_fit, trimmed}
use Rattle.pairs.specs.declared.steps.Rule.{Rule}
use Rattle.pairs.specs.declared.steps.Rule.TheVariants.{SentGetS, SentGetM, SentPutS, SentPutM}
use Rattle.pairs.specs.Sights.{sight, is_owner}
use Rattle.closing.proofs.Alpha.{Tags, alpha, Faithful}
use Rattle.closing.proofs.Sending.{not-twice}
use Rattle.closing.proofs.RequestKinds.{same-owner, request-acted}
use Rattle.closing.proofs.Simulation.{IsBreach, SimulatedBy, Simulated, still, next-other, HomeBlank, home-entry, home-breach, some-breach, or-cases}

abbrev pub request_rule : RequestKind → Rule
request_rule request.GetS = SentGetS
request_rule request.GetM = SentGetM
request_rule request.PutS = SentPutS
request_rule (request.PutM value) = SentPutM

request-breach : (tables : Tables) (tags : Tags) (b : BlockState) (index : ℕ) (r : Request) (d : ℕ) (t : Bool) →
    Some r ≡ slice_get b.traffic.requests index → thirds_fit t (alpha tags b r.from.0 d) ≡ true → (kind : RequestKind) → r.kind ≡ kind →
    directory_table.cell tables.directory b.home.state (request_event b.home.owner b.home.sharers kind r.from) ≡ table_entry.Blank →
    IsBreach (sight tables (request_rule kind) t (alpha tags b r.from.0 d))
request-breach tables tags b index r d t e fit kind same blank = at kind same blank
  where
    one : (weight : RequestKind → ℕ) (kind : RequestKind) → r.kind ≡ kind → from r.from.0 weight r ≡ weight kind
    one weight kind same = ap (λ u. only u (weight r.kind)) (eq-eqb r.from.0 r.from.0 refl) ∙ ap weight same

    some : (weight : RequestKind → ℕ) → from r.from.0 weight r ≡ 1 → sum_by (from r.from.0 weight) b.traffic.requests ≢ 0
    some weight is z = absurd (omega (arith, z, is, sum_by-remove (from r.from.0 weight) b.traffic.requests index r e))

    at : (kind : RequestKind) → r.kind ≡ kind →
        directory_table.cell tables.directory b.home.state (request_event b.home.owner b.home.sharers kind r.from) ≡ table_entry.Blank →
        IsBreach (sight tables (request_rule kind) t (alpha tags b r.from.0 d))
    at request.GetS same blank =
        some-breach (alpha tags b r.from.0 d).first.gets _ (some is_gets (one is_gets request.GetS same))
        (home-breach tables t true None home_event.GetS (record (alpha tags b r.from.0 d) {
          first = trimmed
              (record (alpha tags b r.from.0 d).first { gets = (alpha tags b r.from.0 d).first.gets - 1 });
        }) fit blank)
    at request.GetM same blank =
        some-breach (alpha tags b r.from.0 d).first.getm _ (some is_getm (one is_getm request.GetM same))
        (home-breach tables t true None home_event.GetM (record (alpha tags b r.from.0 d) {
          first = trimmed
              (record (alpha tags b r.from.0 d).first { getm = (alpha tags b r.from.0 d).first.getm - 1 });
        }) fit blank)
    at request.PutS same blank =
        some-breach (alpha tags b r.from.0 d).first.puts _ (some is_puts (one is_puts request.PutS same)) (home-breach tables t true None
        (if (alpha tags b r.from.0 d).first.shares && not (alpha tags b r.from.0 d).first.others then home_event.PutSLast else home_event.PutSNotLast)
        (record (alpha tags b r.from.0 d) { first = trimmed (record (alpha tags b r.from.0 d).first { puts = (alpha tags b r.from.0 d).first.puts - 1 }) }) fit
        (ap (λ u. directory_table.cell tables.directory b.home.state (if u then home_event.PutSLast else home_event.PutSNotLast))
        (ap (λ u. shares b.home.sharers r.from.0 && u) (not-twice (others_from 0 r.from.0 b.home.sharers == 0))) ∙ blank))
    at (request.PutM value) same blank =
        some-breach (alpha tags b r.from.0 d).first.putm _ (some is_putm (one is_putm (request.PutM value) same))
        (home-breach tables t true (Some (alpha tags b r.from.0 d).first.fresh_putm)
        (if is_owner (alpha tags b r.from.0 d).first.owned then home_event.PutMOwner else home_event.PutMNonOwner)
        (record (alpha tags b r.from.0 d) { first = trimmed (record (alpha tags b r.from.0 d).first { putm = (alpha tags b r.from.0 d).first.putm - 1 }) }) fit
        (ap (λ u. directory_table.cell tables.directory b.home.state (if u then home_event.PutMOwner else home_event.PutMNonOwner))
        (same-owner b.home.owner r.from) ∙ blank))

pub request-blank : (tables : Tables) (tags : Tags) (b : BlockState) (index : ℕ) (r : Request) → Faithful tags b →
    Some r ≡ slice_get b.traffic.requests index → HomeBlank tables tags b (home_input.Request r)
request-blank tables tags b index r faithful e blank =
    let c : ℕ = r.from.0 in
    elim (or-cases (thirds_fit true (alpha tags b c (c + 1))) (thirds_fit false (alpha tags b c (c + 1))) (thirds-fit tags b c (c + 1) (next-other c))) [
      | inl fit ↦ (c, c + 1, next-other c, true, inl (request_rule r.kind, request-breach tables tags b index r (c + 1) true e fit r.kind refl blank))
      | inr fit ↦ (c, c + 1, next-other c, false, inl (request_rule r.kind, request-breach tables tags b index r (c + 1) false e fit r.kind refl blank))
    ]

request-found : (tables : Tables) (caches : ℕ) (tags : Tags) (b : BlockState) (index : ℕ) (found : Option Request) → caches ≤ 4294967296 →
    IsBlockAmong caches b → Faithful tags b → found ≡ slice_get b.traffic.requests index →
    SimulatedBy tables tags b (carried_out (at_request tables.directory index b.home found) b)
request-found tables caches tags b index None few whole faithful e = still tables tags b outcome.Absent (λ none. absurd (cc)) refl
request-found tables caches tags b index (Some r) few whole faithful e =
    home-entry tables tags b (home_input.Request r) (origin.Request index) _ refl (request-blank tables tags b index r faithful e)
    (request-acted tables caches tags b index r few whole faithful e)

pub request-simulated : (tables : Tables) (caches : ℕ) (tags : Tags) (b : BlockState) (block : BlockId) (index : ℕ) → caches ≤ 4294967296 →
    IsBlockAmong caches b → Faithful tags b → Simulated tables tags b (step.Request block index)
request-simulated tables caches tags b block index few whole faithful =
    request-found tables caches tags b index (slice_get b.traffic.requests index) few whole faithful refl
