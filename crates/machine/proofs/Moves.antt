-- In a block with a message one can be delivered, under tables that keep going.
use Rattle.std.proofs.Common.{◌≡◌, ◌≢◌, ◌⊎◌, ℕ, ◌<◌, ◌+◌, List, [], ◌∷◌, inl, inr, length, refl, ap, sym, subst, ◌∙◌, zero, suc, arith}
use Rattle.std.proofs.Common.{Option, Some, None, Bool, true, false, ◌==◌, ◌&&◌, if◌then◌else◌, slice_get, sum_by, eq-eqb}
use Rattle.std.proofs.lemmas.Bool.{cases_lt}
use Rattle.base.specs.declared.controller.protocol.Protocol.{Protocol}
use Rattle.base.specs.declared.controller.protocol.Protocol.TheVariants.{Msi, MsiE}
use Rattle.base.specs.declared.ids.CacheId.{CacheId}
use Rattle.base.specs.declared.ids.BlockId.{BlockId}
use Rattle.base.specs.declared.ids.Place.TheVariants.{Dir, Cache}
use Rattle.base.specs.declared.step.Step.{Step}
use Rattle.base.specs.declared.step.Step.TheVariants as step
use Rattle.base.specs.declared.step.Outcome.{Outcome}
use Rattle.base.specs.declared.step.Outcome.TheVariants as outcome
use Rattle.base.specs.declared.controller.entry.CellEntry.TheVariants as entry
use Rattle.base.specs.Steps.{block_of}
use Rattle.network.specs.declared.message.Request.{Request}
use Rattle.network.specs.declared.message.RequestKind.{RequestKind}
use Rattle.network.specs.declared.message.RequestKind.TheVariants as request
use Rattle.network.specs.declared.message.Forward.{Forward}
use Rattle.network.specs.declared.message.ForwardKind.{ForwardKind}
use Rattle.network.specs.declared.message.ForwardKind.TheVariants as forward
use Rattle.network.specs.declared.message.Response.{Response}
use Rattle.network.specs.declared.message.Response.TheVariants as response
use Rattle.network.specs.Traffic.{link}
use Rattle.cache_table.specs.declared.state.CacheState.{CacheState}
use Rattle.cache_table.specs.declared.state.CacheState.TheVariants.{IsD, E}
use Rattle.cache_table.specs.declared.event.CacheEvent.{CacheEvent}
use Rattle.cache_table.specs.declared.event.CacheEvent.TheVariants as line_event
use Rattle.cache_table.specs.Table.{CacheEntry, cell}
use Rattle.cache_table.specs.Baseline.{baseline_entry, msi_e_entry}
use Rattle.cache_table.proofs.BaselineCells.{cell-baseline}
use Rattle.directory_table.specs.declared.state.DirectoryState.{DirectoryState}
use Rattle.directory_table.specs.declared.state.DirectoryState.TheVariants as home
use Rattle.directory_table.specs.declared.event.DirectoryEvent.{DirectoryEvent}
use Rattle.directory_table.specs.declared.event.DirectoryEvent.TheVariants as home_event
use Rattle.directory_table.specs.Table.{DirectoryEntry}
use Rattle.directory_table.specs.Table as directory_table
use Rattle.directory_table.specs.Baseline as directory_baseline
use Rattle.directory_table.proofs.BaselineCells as directory_cells
use Rattle.control.specs.declared.line.Line.{Line}
use Rattle.control.specs.declared.line.LineInput.{LineInput}
use Rattle.control.specs.declared.line.LineInput.TheVariants as line_input
use Rattle.control.specs.declared.line.LineCompletion.{LineCompletion}
use Rattle.control.specs.declared.line.LineCompletion.TheVariants as done
use Rattle.control.specs.declared.home.HomeInput.{HomeInput}
use Rattle.control.specs.declared.home.HomeInput.TheVariants as home_input
use Rattle.control.specs.Sharing.{shares, is_sole, others_from}
use Rattle.control.specs.LineEvents.{event_at_line, forward_event, response_event, is_count, more_acks}
use Rattle.control.specs.HomeEvents.{event_at_home, owns}
use Rattle.control.specs.LineEffect.{line_completes}
use Rattle.tables.specs.Tables.{Tables, baseline_of}
use Rattle.machine.specs.Block.{BlockState}
use Rattle.machine.specs.Transition.{Transition, outcome_of, carried_out, by_line_entry, by_home_entry, at_line, at_home, at_request}
use Rattle.machine.specs.Transition.{at_forward, at_response, transition}
use Rattle.machine.specs.declared.decision.Origin.{Origin}
use Rattle.machine.specs.declared.decision.Origin.TheVariants as origin
use Rattle.machine.specs.declared.decision.Decision.{Decision}
use Rattle.machine.specs.Going.{KeepsGoing, MayWait, MayWaitAtHome}
use Rattle.machine.specs.Unstuck.{IsDelivery}
use Rattle.machine.proofs.Views.{Local}
use Rattle.machine.proofs.Counts.{only, sum_by-remove}
use Rattle.machine.proofs.Seen.{view_of, dir_data, owner_data, excl_data, inv_ack}
use Rattle.machine.proofs.Sound.{Sound}
use Rattle.machine.proofs.Homes.{line_of-past}
use Rattle.machine.proofs.Plain.{Plain}
use Rattle.machine.proofs.Own.{own-fine}
use Rattle.machine.proofs.StallRules.{Serves, data_zero_serves, data_more_serves, data_owner_serves, data_excl_serves, inv_ack_serves}
use Rattle.machine.proofs.StallRules.{last_ack_serves}
use Rattle.machine.proofs.StallRules.{response_waits}
use Rattle.machine.proofs.Cases.{by-test}

-- a transition that is neither held nor without its message
pub record Moves (t : Transition) : Type 0 where
  pub served : t.outcome ≢ outcome.Held
  pub there : t.outcome ≢ outcome.Absent
  pub whole : t.outcome ≢ outcome.Broken
  pub busy : t.outcome ≢ outcome.Idle

completed : (cache : CacheId) (from : Origin) (c : Option LineCompletion) →
    (outcome_of cache from c ≢ outcome.Held) × (outcome_of cache from c ≢ outcome.Absent) × (outcome_of cache from c ≢ outcome.Broken)
    × (outcome_of cache from c ≢ outcome.Idle)
completed cache origin.Core None = (λ e. absurd (cc), λ e. absurd (cc), λ e. absurd (cc), λ e. absurd (cc))
completed cache (origin.Request i) None = (λ e. absurd (cc), λ e. absurd (cc), λ e. absurd (cc), λ e. absurd (cc))
completed cache (origin.Head c) None = (λ e. absurd (cc), λ e. absurd (cc), λ e. absurd (cc), λ e. absurd (cc))
completed cache (origin.Response i) None = (λ e. absurd (cc), λ e. absurd (cc), λ e. absurd (cc), λ e. absurd (cc))
completed cache from (Some (done.Load x)) = (λ e. absurd (cc), λ e. absurd (cc), λ e. absurd (cc), λ e. absurd (cc))
completed cache from (Some (done.Store x)) = (λ e. absurd (cc), λ e. absurd (cc), λ e. absurd (cc), λ e. absurd (cc))

-- a cell that isn't a stall moves
serves-moves : (b : BlockState) (cache : CacheId) (line : Line) (input : LineInput) (from : Origin) (x : CacheEntry) → Serves x →
    Moves (carried_out (by_line_entry x cache line input from) b)
serves-moves b cache line input from entry.Blank h =
    record { served = λ e. absurd (cc); there = λ e. absurd (cc); whole = λ e. absurd (cc); busy = λ e. absurd (cc) }
serves-moves b cache line input from entry.Stall h = absurd h
serves-moves b cache line input from (entry.Act next actions) h =
    let o : Outcome = outcome_of cache from (line_completes input next line) in
    let c : (o ≢ outcome.Held) × (o ≢ outcome.Absent) × (o ≢ outcome.Broken) × (o ≢ outcome.Idle) =
    completed cache from (line_completes input next line) in
    record { served = c.0; there = c.1; whole = c.2; busy = c.3 }

-- a cell holds a stall where it may
abbrev pub Waits : Tables → CacheState → CacheEvent → Type 0
Waits tables s e = MayWait tables s e × (cell tables.cache s e ≡ entry.Stall)

serves-or-stalls : (x : CacheEntry) → Serves x ⊎ (x ≡ entry.Stall)
serves-or-stalls entry.Blank = inl tt
serves-or-stalls entry.Stall = inr refl
serves-or-stalls (entry.Act next actions) = inl tt

-- a cell that isn't a stall under MSI+E is none under MSI
serves-own : (p : Protocol) (s : CacheState) (e : CacheEvent) → Serves (msi_e_entry s e) → Serves (baseline_entry p s e)
serves-own MsiE s e h = h
serves-own Msi IsD line_event.FwdGetS h = tt
serves-own Msi IsD line_event.FwdGetM h = tt
serves-own Msi IsD line_event.DataDirExcl h = tt
serves-own Msi E e h = tt
serves-own Msi s e h = h

stalls-only : (tables : Tables) → KeepsGoing tables → (s : CacheState) (e : CacheEvent) → Serves (msi_e_entry s e) →
    (cell (baseline_of tables.protocol).cache s e ≡ entry.Blank → ⊥) → cell tables.cache s e ≡ entry.Stall → MayWait tables s e
stalls-only tables k s e own met x = elim (k.cache s e x) [
  | inl stall ↦ absurd (subst Serves (sym (cell-baseline tables.protocol s e) ∙ stall) (serves-own tables.protocol s e own))
  | inr (inl blank) ↦ absurd (met blank)
  | inr (inr may) ↦ may
]

-- the own decision doesn't meet a blank cell
abbrev pub IsMet : Decision → BlockState → Type 0
IsMet own b = (carried_out own b).outcome ≡ outcome.Blank → ⊥

-- what the own tables serve either moves or waits where it may
line-goes-on : (tables : Tables) → KeepsGoing tables → (b : BlockState) (cache : CacheId) (input : LineInput) (from : Origin) (line : Line) →
    Serves (msi_e_entry line.state (event_at_line line.acks input)) → IsMet (at_line (baseline_of tables.protocol).cache cache input from (Some line)) b →
    Moves (carried_out (at_line tables.cache cache input from (Some line)) b) ⊎ Waits tables line.state (event_at_line line.acks input)
line-goes-on tables k b cache input from line own met =
    let e : CacheEvent = event_at_line line.acks input in
    elim (serves-or-stalls (cell tables.cache line.state e)) [
      | inl serves ↦ inl (serves-moves b cache line input from (cell tables.cache line.state e) serves)
      | inr x ↦ inr (
        stalls-only tables k line.state e own
            (λ z. met (ap (λ (y : CacheEntry). (carried_out (by_line_entry y cache line input from) b).outcome) z)) x,
        x,
      )
    ]

pub line-goes : (tables : Tables) → KeepsGoing tables →
    (b : BlockState) (cache : CacheId) (input : LineInput) (from : Origin) (found : Option Line) (line : Line) →
    Some line ≡ found → Serves (msi_e_entry line.state (event_at_line line.acks input)) →
    IsMet (at_line (baseline_of tables.protocol).cache cache input from found) b →
    Moves (carried_out (at_line tables.cache cache input from found) b) ⊎ Waits tables line.state (event_at_line line.acks input)
line-goes tables k b cache input from found line e own =
    subst (λ (o : Option Line). IsMet (at_line (baseline_of tables.protocol).cache cache input from o) b →
    Moves (carried_out (at_line tables.cache cache input from o) b) ⊎ Waits tables line.state (event_at_line line.acks input)) e
    (line-goes-on tables k b cache input from line own)

-- the line of a cache below
pub line-there : (lines : List Line) (c : ℕ) → c < length lines → (line : Line) × (Some line ≡ slice_get lines c)
line-there [] c h = absurd (omega arith)
line-there (l ∷ ls) zero h = (l, refl)
line-there (l ∷ ls) (suc c) h = line-there ls c (omega arith)

pub receiver-below : (n : ℕ) (b : BlockState) (c : ℕ) → Sound n b →
    0 < (view_of b c).dir_data + (view_of b c).owner_data + (view_of b c).invs + (view_of b c).excl_data →
    c < length b.lines
receiver-below n b c h some =
    elim (cases_lt c (length b.lines)) [
      | inl lt ↦ lt
      | inr past ↦
          let z : ((view_of b c).dir_data ≡ 0) × ((view_of b c).owner_data ≡ 0) × ((view_of b c).invs ≡ 0) × ((view_of b c).excl_data ≡ 0) =
          response_waits (view_of b c) (subst (λ (l : Line). Local l.state (view_of b c)) (line_of-past b.lines c past) (h.good.each c)) in
          absurd (omega (arith, z.0, z.1, z.2, z.3))
    ]

-- the same of a home's cell
abbrev HomeServes : DirectoryEntry → Type 0
HomeServes entry.Stall = ⊥
HomeServes other = Unit {0}

home-moves : (b : BlockState) (input : HomeInput) (from : Origin) (x : DirectoryEntry) → HomeServes x → Moves (carried_out (by_home_entry x input from) b)
home-moves b input from entry.Blank h = record { served = λ e. absurd (cc); there = λ e. absurd (cc); whole = λ e. absurd (cc); busy = λ e. absurd (cc) }
home-moves b input from entry.Stall h = absurd h
home-moves b input from (entry.Act next actions) h =
    record { served = λ e. absurd (cc); there = λ e. absurd (cc); whole = λ e. absurd (cc); busy = λ e. absurd (cc) }

home-serves-or-stalls : (x : DirectoryEntry) → HomeServes x ⊎ (x ≡ entry.Stall)
home-serves-or-stalls entry.Blank = inl tt
home-serves-or-stalls entry.Stall = inr refl
home-serves-or-stalls (entry.Act next actions) = inl tt

home-goes : (tables : Tables) → KeepsGoing tables → (b : BlockState) (input : HomeInput) (from : Origin) →
    HomeServes (directory_baseline.baseline_entry tables.protocol b.home.state (event_at_home b.home.owner b.home.sharers input)) →
    (MayWaitAtHome b.home.state (event_at_home b.home.owner b.home.sharers input) → ⊥) →
    IsMet (at_home (baseline_of tables.protocol).directory input from b.home) b →
    Moves (carried_out (at_home tables.directory input from b.home) b)
home-goes tables k b input from own stays met =
    let s : DirectoryState = b.home.state in
    let e : DirectoryEvent = event_at_home b.home.owner b.home.sharers input in
    elim (home-serves-or-stalls (directory_table.cell tables.directory s e)) [
      | inl serves ↦ home-moves b input from (directory_table.cell tables.directory s e) serves
      | inr x ↦ elim (k.directory s e x) [
        | inl stall ↦ absurd (subst HomeServes (sym (directory_cells.cell-baseline tables.protocol s e) ∙ stall) own)
        | inr (inl blank) ↦ absurd (met (ap (λ (y : DirectoryEntry). (carried_out (by_home_entry y input from) b).outcome) blank))
        | inr (inr may) ↦ absurd (stays may)
      ]
    ]

data-serves : (p : Protocol) (s : DirectoryState) → HomeServes (directory_baseline.baseline_entry p s home_event.Data)
data-serves p s = grind (arith)

data-stays : (s : DirectoryState) → MayWaitAtHome s home_event.Data → ⊥
data-stays home.I h = h
data-stays home.S h = h
data-stays home.M h = h
data-stays home.SD h = h

-- what a response waits for, if it may: its line's cell is a stall
abbrev pub ResponseWaits : Tables → BlockState → Response → Type 0
ResponseWaits tables b (response.Data by Dir value acks) = ⊥
ResponseWaits tables b (response.Data by (Cache c) value acks) =
    (line : Line) × (Some line ≡ slice_get b.lines c.0) × Waits tables line.state (response_event line.acks (response.Data by (Cache c) value acks))
ResponseWaits tables b (response.InvAck by c) =
    (line : Line) × (Some line ≡ slice_get b.lines c.0) × Waits tables line.state (response_event line.acks (response.InvAck by c))
ResponseWaits tables b (response.DataExcl c value) =
    (line : Line) × (Some line ≡ slice_get b.lines c.0) × Waits tables line.state (response_event line.acks (response.DataExcl c value))

mine : (f : Response → ℕ) (xs : List Response) (i : ℕ) (x : Response) → Some x ≡ slice_get xs i → f x ≡ 1 → 0 < sum_by f xs
mine f xs i x at e = omega (arith, sum_by-remove f xs i x at)

to-line : (n : ℕ) (tables : Tables) → KeepsGoing tables → (b : BlockState) (i : ℕ) (c : CacheId) (x : Response) →
    0 < (view_of b c.0).dir_data + (view_of b c.0).owner_data + (view_of b c.0).invs + (view_of b c.0).excl_data → Sound n b →
    ((line : Line) → Serves (msi_e_entry line.state (response_event line.acks x))) →
    IsMet (at_line (baseline_of tables.protocol).cache c (line_input.Response x) (origin.Response i) (slice_get b.lines c.0)) b →
    Moves (carried_out (at_line tables.cache c (line_input.Response x) (origin.Response i) (slice_get b.lines c.0)) b)
    ⊎ ((line : Line) × (Some line ≡ slice_get b.lines c.0) × Waits tables line.state (response_event line.acks x))
to-line n tables k b i c x some h serves met =
    let l : (line : Line) × (Some line ≡ slice_get b.lines c.0) = line-there b.lines c.0 (receiver-below n b c.0 h some) in
    elim (line-goes tables k b c (line_input.Response x) (origin.Response i) (slice_get b.lines c.0) l.0 l.1 (serves l.0) met) [
      | inl moves ↦ inl moves
      | inr waits ↦ inr (l.0, l.1, waits)
    ]

response-moves : (n : ℕ) (tables : Tables) → KeepsGoing tables → (b : BlockState) (i : ℕ) (x : Response) → Some x ≡ slice_get b.traffic.responses i →
    Sound n b → IsMet (at_response (baseline_of tables.protocol) i b (Some x)) b → Moves (carried_out (at_response tables i b (Some x)) b) ⊎
    ResponseWaits tables b x
response-moves n tables k b i (response.Data by Dir value acks) at h met =
    inl (home-goes tables k b (home_input.Data value) (origin.Response i) (data-serves tables.protocol b.home.state) (data-stays b.home.state) met)
response-moves n tables k b i (response.Data Dir (Cache c) value acks) at h met =
    let some : 0 < sum_by (dir_data c.0) b.traffic.responses =
    mine (dir_data c.0) b.traffic.responses i (response.Data Dir (Cache c) value acks) at (ap (λ t. only t 1) (eq-eqb c.0 c.0 refl)) in
    to-line n tables k b i c (response.Data Dir (Cache c) value acks) (omega arith) h
    (λ line. by-test (λ t. Serves (msi_e_entry line.state (if t then line_event.DataDirZero else line_event.DataDirMore)))
    (is_count (more_acks line.acks acks) 0) (λ t. data_zero_serves line.state) (λ t. data_more_serves line.state)) met
response-moves n tables k b i (response.Data (Cache by) (Cache c) value acks) at h met =
    let some : 0 < sum_by (owner_data c.0) b.traffic.responses =
    mine (owner_data c.0) b.traffic.responses i (response.Data (Cache by) (Cache c) value acks) at (ap (λ t. only t 1) (eq-eqb c.0 c.0 refl)) in
    to-line n tables k b i c (response.Data (Cache by) (Cache c) value acks) (omega arith) h (λ line. data_owner_serves line.state) met
response-moves n tables k b i (response.InvAck by c) at h met =
    let some : 0 < sum_by (inv_ack c.0) b.traffic.responses =
    mine (inv_ack c.0) b.traffic.responses i (response.InvAck by c) at (ap (λ t. only t 1) (eq-eqb c.0 c.0 refl)) in
    to-line n tables k b i c (response.InvAck by c) (omega arith) h
    (λ line. by-test (λ t. Serves (msi_e_entry line.state (if t then line_event.LastInvAck else line_event.InvAck))) (is_count line.acks 1)
    (λ t. last_ack_serves line.state) (λ t. inv_ack_serves line.state)) met
response-moves n tables k b i (response.DataExcl c value) at h met =
    let some : 0 < sum_by (excl_data c.0) b.traffic.responses =
    mine (excl_data c.0) b.traffic.responses i (response.DataExcl c value) at (ap (λ t. only t 1) (eq-eqb c.0 c.0 refl)) in
    to-line n tables k b i c (response.DataExcl c value) (omega arith) h (λ line. data_excl_serves line.state) met

-- what can be delivered
abbrev pub Found : Tables → BlockState → BlockId → Type 0
Found tables b block = (d : Step) × IsDelivery d × (block_of d ≡ block.0) × Moves (transition tables d b)

-- a response can be delivered, or waits where it may
pub response-goes : (n : ℕ) (tables : Tables) → KeepsGoing tables → (b : BlockState) (block : BlockId) (i : ℕ) (x : Response) →
    Some x ≡ slice_get b.traffic.responses i → Sound n b → Plain tables.protocol b → Found tables b block ⊎ ResponseWaits tables b x
response-goes n tables k b block i x at h pl =
    elim (response-moves n tables k b i x at h
    (subst (λ (o : Option Response). IsMet (at_response (baseline_of tables.protocol) i b o) b) (sym at)
    (own-fine tables.protocol n (step.Response block i) b h pl).met)) [
      | inl moves ↦ inl (step.Response block i, tt, refl, subst (λ (o : Option Response). Moves (carried_out (at_response tables i b o) b)) at moves)
      | inr waits ↦ inr waits
    ]

-- no head of a link may wait
head-stays : (tables : Tables) (s : CacheState) (kind : ForwardKind) → MayWait tables s (forward_event kind) → ⊥
head-stays tables s forward.FwdGetS h = h
head-stays tables s forward.FwdGetM h = h
head-stays tables s forward.Inv h = h
head-stays tables s forward.PutAck h = h

pub found-head : (n : ℕ) (tables : Tables) → KeepsGoing tables → (b : BlockState) (block : BlockId) (c : ℕ) (m : Forward) (line : Line) →
    Some m ≡ slice_get (link b.traffic c) 0 → Some line ≡ slice_get b.lines c → Sound n b → Plain tables.protocol b →
    Serves (msi_e_entry line.state (forward_event m.kind)) →
    Found tables b block
found-head n tables k b block c m line at there h pl own =
    let cache : CacheId = record { 0 = c } in
    let met : IsMet (at_forward (baseline_of tables.protocol).cache cache b.lines (Some m)) b =
    subst (λ (o : Option Forward). IsMet (at_forward (baseline_of tables.protocol).cache cache b.lines o) b) (sym at)
    (own-fine tables.protocol n (step.Forward block cache) b h pl).met in
    elim (line-goes tables k b cache (line_input.Forward m) (origin.Head cache) (slice_get b.lines c) line there own met) [
      | inl moves ↦ (
        step.Forward block cache,
        tt,
        refl,
        subst (λ (o : Option Forward). Moves (carried_out (at_forward tables.cache cache b.lines o) b)) at moves,
      )
      | inr waits ↦ absurd (head-stays tables line.state m.kind waits.0)
    ]

-- a home that isn't in S^D holds no request
request-serves : (p : Protocol) (e : DirectoryEvent) (s : DirectoryState) → s ≢ home.SD → HomeServes (directory_baseline.baseline_entry p s e)
request-serves p home_event.Data s ne = data-serves p s
request-serves p e home.SD ne = absurd (ne refl)
request-serves Msi e s ne = tt
request-serves MsiE e s ne = tt

-- but of one that isn't there
waits-last : (s : DirectoryState) (e : DirectoryEvent) → s ≢ home.SD → MayWaitAtHome s e → (e ≡ home_event.PutSLast) × (s ≢ home.S)
waits-last home.SD e ne h = absurd (ne refl)
waits-last home.I home_event.PutSLast ne h = (refl, λ x. absurd (cc))
waits-last home.M home_event.PutSLast ne h = (refl, λ x. absurd (cc))
waits-last s e ne h = absurd h

first-of : (x y : Bool) → (x && y) ≡ true → x ≡ true
first-of true y e = refl
first-of false y e = absurd (cc)

last-told : (t : Bool) → (if t then home_event.PutSLast else home_event.PutSNotLast) ≡ home_event.PutSLast → t ≡ true
last-told true e = refl
last-told false e = absurd (cc)

no-putm : (t : Bool) → (if t then home_event.PutMOwner else home_event.PutMNonOwner) ≡ home_event.PutSLast → ⊥
no-putm true e = absurd (cc)
no-putm false e = absurd (cc)

-- a sole sharer shares
last-shares : (b : BlockState) (kind : RequestKind) (from : CacheId) →
    event_at_home b.home.owner b.home.sharers (home_input.Request (record { kind = kind; from = from })) ≡ home_event.PutSLast →
    (view_of b from.0).shares ≡ true
last-shares b request.GetS from e = let no : home_event.GetS ≡ home_event.PutSLast = e in absurd (cc)
last-shares b request.GetM from e = let no : home_event.GetM ≡ home_event.PutSLast = e in absurd (cc)
last-shares b request.PutS from e =
    first-of (shares b.home.sharers from.0) (others_from 0 from.0 b.home.sharers == 0) (last-told (is_sole from.0 b.home.sharers) e)
last-shares b (request.PutM value) from e = absurd (no-putm (owns b.home.owner from) e)

request-stays : (n : ℕ) (b : BlockState) (r : Request) → Sound n b → b.home.state ≢ home.SD →
    MayWaitAtHome b.home.state (event_at_home b.home.owner b.home.sharers (home_input.Request r)) → ⊥
request-stays n b r h ne may =
    let w : (event_at_home b.home.owner b.home.sharers (home_input.Request r) ≡ home_event.PutSLast) × (b.home.state ≢ home.S) =
    waits-last b.home.state (event_at_home b.home.owner b.home.sharers (home_input.Request r)) ne may in
    elim (h.good.sharers r.from.0 (last-shares b r.kind r.from w.0)) [
      | inl in_s ↦ w.1 in_s
      | inr in_sd ↦ ne in_sd
    ]

pub found-request : (n : ℕ) (tables : Tables) → KeepsGoing tables → (b : BlockState) (block : BlockId) (r : Request) → Some r ≡ slice_get b.traffic.requests 0 →
    Sound n b → Plain tables.protocol b → b.home.state ≢ home.SD → Found tables b block
found-request n tables k b block r at h pl ne =
    let met : IsMet (at_request (baseline_of tables.protocol).directory 0 b.home (Some r)) b =
    subst (λ (o : Option Request). IsMet (at_request (baseline_of tables.protocol).directory 0 b.home o) b) (sym at)
    (own-fine tables.protocol n (step.Request block 0) b h pl).met in (
      step.Request block 0,
      tt,
      refl,
      subst (λ (o : Option Request). Moves (carried_out (at_request tables.directory 0 b.home o) b)) at
          (home-goes tables k b (home_input.Request r) (origin.Request 0)
          (request-serves tables.protocol (event_at_home b.home.owner b.home.sharers (home_input.Request r)) b.home.state ne)
          (request-stays n b r h ne) met),
    )
