-- In a block without messages nothing waits, and nothing is held, under tables that keep going.
use Rattle.std.proofs.Common.{◌≡◌, ◌≢◌, ℕ, ◌<◌, [], inl, inr, refl, ap, arith}
use Rattle.std.proofs.Common.{Option, Some, None, if◌then◌else◌, slice_get, sum_by, map}
use Rattle.std.proofs.lemmas.Bool.{cases_eq}
use Rattle.base.specs.declared.ids.CacheId.{CacheId}
use Rattle.base.specs.declared.ids.BlockId.{BlockId}
use Rattle.base.specs.declared.step.Ask.{Ask}
use Rattle.base.specs.declared.step.Ask.TheVariants.{Load, Store, Replace}
use Rattle.base.specs.declared.step.Step.TheVariants as step
use Rattle.base.specs.declared.step.Outcome.TheVariants as outcome
use Rattle.network.specs.declared.message.Forward.{Forward}
use Rattle.network.specs.Traffic.{Traffic, link}
use Rattle.control.specs.declared.line.Line.{Line}
use Rattle.control.specs.declared.line.LineInput.TheVariants as line_input
use Rattle.machine.specs.Block.{BlockState}
use Rattle.machine.specs.Transition.{carried_out, at_line, at_ask, is_idle, transition, by_line_entry}
use Rattle.machine.specs.declared.decision.Origin.TheVariants as origin
use Rattle.machine.specs.declared.decision.Decision.TheVariants.{Refused}
use Rattle.tables.specs.Tables.{Tables, baseline_of}
use Rattle.machine.proofs.Quiet.{IsQuiet}
use Rattle.machine.proofs.Counts.{total}
use Rattle.machine.proofs.Seen.{seen, names, is_fwd_gets, is_fwd_getm, is_inv, dir_data, owner_data, excl_data, inv_ack}
use Rattle.machine.proofs.Sound.{Sound, local-at}
use Rattle.machine.proofs.Values.{Valued}
use Rattle.machine.proofs.LineValues.{waits-at}
use Rattle.machine.proofs.StallRules.{Idle, Serves}
use Rattle.machine.proofs.StallRules.{idle_pending}
use Rattle.machine.proofs.StallRules.{idle_load, idle_store, idle_replace}
use Rattle.machine.proofs.Cases.{by-test}
use Rattle.machine.proofs.Moves.{IsMet, line-goes}
use Rattle.machine.proofs.Plain.{Plain}
use Rattle.machine.proofs.Own.{own-fine}
use Rattle.machine.proofs.Views.{View, Local}
use Rattle.machine.specs.Going.{KeepsGoing, ServesAsks, IsSettled}
use Rattle.cache_table.specs.Table.{CacheEntry}
use Rattle.cache_table.specs.Baseline.{msi_e_entry}
use Rattle.control.specs.LineEvents.{ask_event}
use Rattle.cache_table.specs.declared.state.CacheState.{CacheState}
use Rattle.cache_table.specs.declared.state.CacheState.TheVariants.{I, IsD, ImAd, ImA, S, SmAd, SmA, M, MiA, SiA, IiA, E}
use Rattle.machine.proofs.HeadMoves.{find-link}

-- a block without messages is idle
no-total : (f : Forward → ℕ) (w : Traffic) → ((c : ℕ) → link w c ≡ []) → total f w.links ≡ 0
no-total f w e = elim (cases_eq (total f w.links) 0) as (λ _. total f w.links ≡ 0) [
  | inl z ↦ z
  | inr ne ↦ let found : (c : ℕ) × (0 < sum_by f (link w c)) =
      find-link f w (omega (arith, ne)) in absurd (omega (arith, found.1, ap (λ l. sum_by f l) (e found.0)))
]

quiet-idle : (b : BlockState) (c : ℕ) (line : Line) → IsQuiet b.traffic → Idle (seen line b.home b.traffic c)
quiet-idle b c line q = record {
  gets = ap (λ l. (seen line b.home (record b.traffic { requests = l }) c).gets) q.requests;
  getm = ap (λ l. (seen line b.home (record b.traffic { requests = l }) c).getm) q.requests;
  puts = ap (λ l. (seen line b.home (record b.traffic { requests = l }) c).puts) q.requests;
  putm = ap (λ l. (seen line b.home (record b.traffic { requests = l }) c).putm) q.requests;
  fwd_gets = no-total (names c is_fwd_gets) b.traffic q.links;
  fwd_getm = no-total (names c is_fwd_getm) b.traffic q.links;
  invs = omega (arith, no-total (names c is_inv) b.traffic q.links, ap (λ l. sum_by (inv_ack c) l) q.responses);
  dir = ap (λ l. sum_by (dir_data c) l) q.responses;
  owner = ap (λ l. sum_by (owner_data c) l) q.responses;
  excl = ap (λ l. sum_by (excl_data c) l) q.responses;
  link = ap (λ l. map (λ f. f.kind) l) (q.links c);
}

pub quiet-done : (n : ℕ) (b : BlockState) → Sound n b → Valued b → IsQuiet b.traffic →
    (c : ℕ) (line : Line) → Some line ≡ slice_get b.lines c →
    line.pending ≡ None
quiet-done n b h v q c line there =
    idle_pending line.state (seen line b.home b.traffic c) line.pending (quiet-idle b c line q) (local-at n b c line h there) (waits-at b c line v there)

-- a line without messages waits for nothing
idle-settled : (s : CacheState) (v : View) → Idle v → Local s v → IsSettled s
idle-settled I v i h = tt
idle-settled IsD v i h = grind (arith)
idle-settled ImAd v i h = grind (arith)
idle-settled ImA v i h = grind (arith)
idle-settled S v i h = tt
idle-settled SmAd v i h = grind (arith)
idle-settled SmA v i h = grind (arith)
idle-settled M v i h = tt
idle-settled MiA v i h = grind (arith)
idle-settled SiA v i h = grind (arith)
idle-settled IiA v i h = grind (arith)
idle-settled E v i h = tt

-- at such a line an ask isn't held
ask-served : (tables : Tables) → KeepsGoing tables → ServesAsks tables → (b : BlockState) (cache : CacheId) (ask : Ask) (line : Line) →
    Serves (msi_e_entry line.state (ask_event ask)) → IsSettled line.state →
    IsMet (at_line (baseline_of tables.protocol).cache cache (line_input.Ask ask) origin.Core (Some line)) b →
    (carried_out (at_line tables.cache cache (line_input.Ask ask) origin.Core (Some line)) b).outcome ≢ outcome.Held
ask-served tables k asks b cache ask line own settled met =
    elim (line-goes tables k b cache (line_input.Ask ask) origin.Core (Some line) line refl own met) [
      | inl moves ↦ moves.served
      | inr waits ↦ absurd (met (ap (λ (x : CacheEntry). (carried_out (by_line_entry x cache line (line_input.Ask ask) origin.Core) b).outcome)
          (asks.served line.state (ask_event ask) settled waits.1)))
    ]

asks-ready : (n : ℕ) (tables : Tables) → KeepsGoing tables → ServesAsks tables → (b : BlockState) (cache : CacheId) (ask : Ask) (found : Option Line) →
    found ≡ slice_get b.lines cache.0 → Sound n b → IsQuiet b.traffic → IsMet (at_ask (baseline_of tables.protocol).cache cache ask found) b →
    (carried_out (at_ask tables.cache cache ask found) b).outcome ≢ outcome.Held
asks-ready n tables k asks b cache ask None e h q met = λ x. absurd (cc)
asks-ready n tables k asks b cache Load (Some line) e h q met =
    let v : View = seen line b.home b.traffic cache.0 in
    let idle : Idle v = quiet-idle b cache.0 line q in
    let local : Local line.state v = local-at n b cache.0 line h e in
    ask-served tables k asks b cache Load line (idle_load line.state v idle local) (idle-settled line.state v idle local) met
asks-ready n tables k asks b cache (Store x) (Some line) e h q met =
    let v : View = seen line b.home b.traffic cache.0 in
    let idle : Idle v = quiet-idle b cache.0 line q in
    let local : Local line.state v = local-at n b cache.0 line h e in
    ask-served tables k asks b cache (Store x) line (idle_store line.state v idle local) (idle-settled line.state v idle local) met
asks-ready n tables k asks b cache Replace (Some line) e h q met =
    let v : View = seen line b.home b.traffic cache.0 in
    let idle : Idle v = quiet-idle b cache.0 line q in
    let local : Local line.state v = local-at n b cache.0 line h e in
    by-test
    (λ t.
    IsMet (if t then Refused outcome.Idle else at_line (baseline_of tables.protocol).cache cache (line_input.Ask Replace) origin.Core (Some line)) b →
    (carried_out (if t then Refused outcome.Idle else at_line tables.cache cache (line_input.Ask Replace) origin.Core (Some line)) b).outcome ≢ outcome.Held)
    (is_idle Replace line.state)
    (λ t m x. absurd (cc))
    (λ t m. ask-served tables k asks b cache Replace line (idle_replace line.state v idle local) (idle-settled line.state v idle local) m) met

pub quiet-ready : (n : ℕ) (tables : Tables) → KeepsGoing tables → ServesAsks tables → (b : BlockState) (block : BlockId) → Sound n b →
    Plain tables.protocol b → IsQuiet b.traffic →
    (cache : CacheId) (ask : Ask) → (transition tables (step.Ask cache block ask) b).outcome ≢ outcome.Held
quiet-ready n tables k asks b block h pl q cache ask =
    asks-ready n tables k asks b cache ask (slice_get b.lines cache.0) refl h q (own-fine tables.protocol n (step.Ask cache block ask) b h pl).met
