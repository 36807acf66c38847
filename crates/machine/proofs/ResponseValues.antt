-- Transitions at a line on a response keep the latest value in its places, and answer by it.
use Rattle.std.proofs.Common.{◌≡◌, ℕ, List, refl, sym, subst, Some, None, Bool, if◌then◌else◌}
use Rattle.std.proofs.Common.{slice_get, ℤ}
use Rattle.base.specs.declared.ids.CacheId.{CacheId}
use Rattle.base.specs.declared.ids.Place.TheVariants.{Dir, Cache}
use Rattle.network.specs.declared.message.Response.{Response}
use Rattle.network.specs.declared.message.Response.TheVariants as response
use Rattle.network.specs.Traffic.{response_taken, all_sent}
use Rattle.cache_table.specs.declared.state.CacheState.{CacheState}
use Rattle.cache_table.specs.declared.state.CacheState.TheVariants.{MiA}
use Rattle.cache_table.specs.declared.event.CacheEvent.{CacheEvent}
use Rattle.cache_table.specs.declared.event.CacheEvent.TheVariants as event
use Rattle.cache_table.specs.Table.{CacheEntry}
use Rattle.base.specs.declared.controller.entry.CellEntry.TheVariants as entry
use Rattle.cache_table.specs.declared.actions.CacheAction.{CacheAction}
use Rattle.cache_table.specs.Baseline.{msi_e_entry}
use Rattle.control.specs.declared.line.Line.{Line}
use Rattle.control.specs.declared.line.LineInput.TheVariants as line_input
use Rattle.control.specs.LineEffect.{line_messages, taken_in}
use Rattle.control.specs.LineEvents.{event_at_line, is_count, more_acks}
use Rattle.machine.specs.Block.{BlockState}
use Rattle.machine.specs.Transition.{carried_out, by_line_entry}
use Rattle.machine.specs.declared.decision.Origin.TheVariants as origin
use Rattle.machine.proofs.Views.{View}
use Rattle.machine.proofs.Seen.{seen}
use Rattle.machine.proofs.Sound.{Sound, local-at}
use Rattle.machine.proofs.ValueRules.{Waits, DeliverRule, PutRule, put_rule}
use Rattle.machine.proofs.QuietRules.{QuietRule, data_zero_quiet, data_more_quiet, data_owner_quiet, data_excl_quiet, inv_ack_quiet}
use Rattle.machine.proofs.QuietRules.{last_ack_quiet}
use Rattle.machine.proofs.ResponseSettling.{inv_ack_settles, last_ack_settles, data_zero_settles, data_more_settles, data_owner_settles, data_excl_settles}
use Rattle.machine.proofs.Values.{PutsCarry, Valued, carries-removed, carries-read, puts-none}
use Rattle.machine.proofs.Cases.{by-test}
use Rattle.machine.proofs.LineValues.{Right, WiresFit, value-at, waits-at, acted-right}

-- responses
response-wires : (b : BlockState) (cache : CacheId) (next : CacheState) (i : ℕ) → Valued b →
    (next ≡ MiA → PutsCarry b.latest cache.0 b.traffic.requests) → WiresFit b cache.0 next (response_taken i b.traffic)
response-wires b cache next i v old =
    record { links = λ d ne. refl; sent = carries-removed b.latest b.traffic.responses i v.sent; puts = λ d ne m. v.puts d m; own = old }

response-right : (n : ℕ) (b : BlockState) (cache : CacheId) (i : ℕ) (r : Response) (line : Line) (x : CacheEntry) → Valued b →
    Some line ≡ slice_get b.lines cache.0
    → QuietRule x → PutRule line.state (seen line b.home b.traffic cache.0) x → DeliverRule (taken_in (line_input.Response r) line).value
    (taken_in (line_input.Response r) line).acks (taken_in (line_input.Response r) line).pending b.latest x
    → Sound n (carried_out (by_line_entry x cache line (line_input.Response r) (origin.Response i)) b).block → Right b
    (carried_out (by_line_entry x cache line (line_input.Response r) (origin.Response i)) b)
response-right n b cache i r line entry.Blank v there quiet put s h = record { valued = v; fits = refl }
response-right n b cache i r line entry.Stall v there quiet put s h = record { valued = v; fits = refl }
response-right n b cache i r line (entry.Act next actions) v there quiet put s h =
    acted-right n b cache (line_input.Response r) line next actions (origin.Response i) refl h v there s
    (subst
    (λ (a : List CacheAction). WiresFit b cache.0 next
    (all_sent (line_messages cache (taken_in (line_input.Response r) line).value None a) (response_taken i b.traffic)))
    (sym quiet)
    (response-wires b cache next i v (λ m. puts-none b.latest cache.0 b.traffic.requests (put m).0)))

-- Data from the home
pub dir-data-right : (n : ℕ) (b : BlockState) (cache : CacheId) (i : ℕ) (value acks : ℕ) (line : Line) → Sound n b → Valued b →
    Some line ≡ slice_get b.lines cache.0 → Some (response.Data Dir (Cache cache) value acks) ≡ slice_get b.traffic.responses i
    → Sound n
    (carried_out
    (by_line_entry
    (msi_e_entry line.state (event_at_line line.acks (line_input.Response (response.Data Dir (Cache cache) value acks)))) cache line
    (line_input.Response (response.Data Dir (Cache cache) value acks)) (origin.Response i)) b).block
    → Right b
    (carried_out
    (by_line_entry
    (msi_e_entry line.state (event_at_line line.acks (line_input.Response (response.Data Dir (Cache cache) value acks)))) cache line
    (line_input.Response (response.Data Dir (Cache cache) value acks)) (origin.Response i)) b)
dir-data-right n b cache i value acks line h v there at h' =
    let e : CacheEvent = event_at_line line.acks (line_input.Response (response.Data Dir (Cache cache) value acks)) in
    let latest : value ≡ b.latest = carries-read b.latest b.traffic.responses i (response.Data Dir (Cache cache) value acks) v.sent at in
    let waits : Waits line.state line.pending = waits-at b cache.0 line v there in
    let zero_test : Bool = is_count (more_acks line.acks acks) 0 in
    response-right n b cache i (response.Data Dir (Cache cache) value acks) line (msi_e_entry line.state e) v there
    (by-test (λ t. QuietRule (msi_e_entry line.state (if t then event.DataDirZero else event.DataDirMore))) zero_test
    (λ t. data_zero_quiet line.state) (λ t. data_more_quiet line.state))
    (put_rule line.state e (seen line b.home b.traffic cache.0) (local-at n b cache.0 line h there))
    (by-test
    (λ t. DeliverRule value (more_acks line.acks acks) line.pending b.latest
    (msi_e_entry line.state (if t then event.DataDirZero else event.DataDirMore))) zero_test
    (λ t. data_zero_settles line.state value (more_acks line.acks acks) line.pending b.latest latest waits)
    (λ t. data_more_settles line.state value (more_acks line.acks acks) line.pending b.latest latest waits))
    h'

-- Data from an owner
pub owner-data-right : (n : ℕ) (b : BlockState) (by cache : CacheId) (i : ℕ) (value acks : ℕ) (line : Line) → Sound n b → Valued b →
    Some line ≡ slice_get b.lines cache.0 → Some (response.Data (Cache by) (Cache cache) value acks) ≡ slice_get b.traffic.responses i
    → Sound n
    (carried_out
    (by_line_entry (msi_e_entry line.state event.DataOwner) cache line
    (line_input.Response (response.Data (Cache by) (Cache cache) value acks)) (origin.Response i)) b).block
    → Right b
    (carried_out
    (by_line_entry (msi_e_entry line.state event.DataOwner) cache line
    (line_input.Response (response.Data (Cache by) (Cache cache) value acks)) (origin.Response i)) b)
owner-data-right n b by cache i value acks line h v there at h' =
    response-right n b cache i (response.Data (Cache by) (Cache cache) value acks) line (msi_e_entry line.state event.DataOwner) v there
    (data_owner_quiet line.state) (put_rule line.state event.DataOwner (seen line b.home b.traffic cache.0) (local-at n b cache.0 line h there))
    (data_owner_settles line.state value line.acks line.pending b.latest
    (carries-read b.latest b.traffic.responses i (response.Data (Cache by) (Cache cache) value acks) v.sent at) (waits-at b cache.0 line v there))
    h'

-- exclusive Data from the home
pub excl-data-right : (n : ℕ) (b : BlockState) (cache : CacheId) (i : ℕ) (value : ℕ) (line : Line) → Sound n b → Valued b →
    Some line ≡ slice_get b.lines cache.0 → Some (response.DataExcl cache value) ≡ slice_get b.traffic.responses i
    → Sound n
    (carried_out
    (by_line_entry (msi_e_entry line.state event.DataDirExcl) cache line (line_input.Response (response.DataExcl cache value)) (origin.Response i)) b).block
    → Right b
    (carried_out
    (by_line_entry (msi_e_entry line.state event.DataDirExcl) cache line (line_input.Response (response.DataExcl cache value)) (origin.Response i)) b)
excl-data-right n b cache i value line h v there at h' =
    response-right n b cache i (response.DataExcl cache value) line (msi_e_entry line.state event.DataDirExcl) v there
    (data_excl_quiet line.state) (put_rule line.state event.DataDirExcl (seen line b.home b.traffic cache.0) (local-at n b cache.0 line h there))
    (data_excl_settles line.state value line.acks line.pending b.latest
    (carries-read b.latest b.traffic.responses i (response.DataExcl cache value) v.sent at) (waits-at b cache.0 line v there))
    h'

-- an Inv-Ack
pub inv-ack-right : (n : ℕ) (b : BlockState) (by cache : CacheId) (i : ℕ) (line : Line) → Sound n b →
    Valued b → Some line ≡ slice_get b.lines cache.0
    → Sound n
    (carried_out
    (by_line_entry (msi_e_entry line.state (event_at_line line.acks (line_input.Response (response.InvAck by cache)))) cache line
    (line_input.Response (response.InvAck by cache)) (origin.Response i)) b).block
    → Right b
    (carried_out
    (by_line_entry (msi_e_entry line.state (event_at_line line.acks (line_input.Response (response.InvAck by cache)))) cache line
    (line_input.Response (response.InvAck by cache)) (origin.Response i)) b)
inv-ack-right n b by cache i line h v there h' =
    let e : CacheEvent = event_at_line line.acks (line_input.Response (response.InvAck by cache)) in
    let view : View = seen line b.home b.traffic cache.0 in
    let acks : ℤ = (taken_in (line_input.Response (response.InvAck by cache)) line).acks in
    response-right n b cache i (response.InvAck by cache) line (msi_e_entry line.state e) v there
    (by-test (λ t. QuietRule (msi_e_entry line.state (if t then event.LastInvAck else event.InvAck))) (is_count line.acks 1)
    (λ t. last_ack_quiet line.state) (λ t. inv_ack_quiet line.state))
    (put_rule line.state e view (local-at n b cache.0 line h there))
    (by-test (λ t. DeliverRule line.value acks line.pending b.latest (msi_e_entry line.state (if t then event.LastInvAck else event.InvAck)))
    (is_count line.acks 1)
    (λ t. last_ack_settles line.state view line.value acks line.pending b.latest (value-at b cache.0 line v there) (waits-at b cache.0 line v there))
    (λ t. inv_ack_settles line.state view line.value acks line.pending b.latest (value-at b cache.0 line v there) (waits-at b cache.0 line v there)))
    h'
