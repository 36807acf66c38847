-- Transitions on responses to a line keep the invariant.
use Rattle.std.proofs.Common.{◌≡◌, ◌≢◌, ℕ, ◌<◌, ◌≤◌, ◌+◌, ◌-◌, List, refl, ap, sym, subst, ◌∙◌, arith, Some, true, false, slice_get, eq-eqb, ℤ, pos}
use Rattle.std.proofs.Common.{negsuc, if◌then◌else◌}
use Rattle.std.proofs.lemmas.Bool.Decides.{nat_tests}
use Rattle.std.proofs.lemmas.Bool.{ne_eqb}
use Rattle.base.specs.declared.ids.CacheId.{CacheId}
use Rattle.base.specs.declared.ids.Place.TheVariants.{Dir, Cache}
use Rattle.network.specs.declared.message.Response.{Response}
use Rattle.network.specs.declared.message.Response.TheVariants.{Data, InvAck, DataExcl}
use Rattle.network.specs.Traffic.{Traffic, response_taken}
use Rattle.cache_table.specs.declared.state.CacheState.{CacheState}
use Rattle.cache_table.specs.declared.state.CacheState.TheVariants.{I, IsD, ImAd, ImA, S, SmAd, SmA, M, MiA, SiA, IiA, E}
use Rattle.cache_table.specs.declared.event.CacheEvent.TheVariants as event
use Rattle.cache_table.specs.Baseline.{msi_e_entry}
use Rattle.cache_table.specs.Table.{CacheEntry}
use Rattle.base.specs.declared.controller.entry.CellEntry.TheVariants as entry
use Rattle.cache_table.specs.declared.actions.CacheAction.{CacheAction}
use Rattle.control.specs.declared.line.Line.{Line}
use Rattle.control.specs.declared.line.LineInput.{LineInput}
use Rattle.control.specs.declared.line.LineInput.TheVariants as line_input
use Rattle.control.specs.declared.home.Home.{Home}
use Rattle.control.specs.LineEffect.{taken_in, one_ack_less, line_after, line_completes}
use Rattle.control.specs.LineEvents.{more_acks, is_count, event_at_line}
use Rattle.machine.specs.Block.{BlockState}
use Rattle.machine.specs.declared.decision.Origin.TheVariants as origin
use Rattle.machine.specs.Transition.{carried_out, by_line_entry}
use Rattle.machine.specs.declared.decision.Decision.TheVariants.{AtLine}
use Rattle.machine.proofs.Views.{View, Local}
use Rattle.machine.proofs.Counts.{only, sum_by-remove}
use Rattle.machine.proofs.Seen.{seen, line_of, early_of, late_of, home_data}
use Rattle.machine.proofs.Seeing.{response_added, response_taken-seen}
use Rattle.machine.proofs.Facts.{promised-zero}
use Rattle.machine.proofs.Acks.{sum-early, sum-late, rest-early, rest-late}
use Rattle.machine.proofs.CellRules.{Comes, ResponseRule, dir_data_taken, owner_data_taken, excl_data_taken, ack_taken, data_zero_rule, data_more_rule}
use Rattle.machine.proofs.CellRules.{data_owner_rule, data_excl_rule, inv_ack_rule, last_ack_rule}
use Rattle.machine.proofs.Settling.{acted-outcome}
use Rattle.machine.proofs.Sound.{Sound, Fine, Bounded, Alike, own-sound, local-at, line_block}
use Rattle.machine.proofs.AskTransitions.{seen-after, bounded-at}
use Rattle.machine.proofs.Cases.{by-test}

-- a line without the response that it takes, as its view has it
abbrev taken_view : Line → Home → Traffic → ℕ → LineInput → ℕ → CacheState → View
taken_view line home w i input c next =
    record (seen line home (response_taken i w) c) { state = next; early = early_of (taken_in input line).acks; acks = late_of (taken_in input line).acks }

-- a response that concerns its receiver alone
taken-sound : (n : ℕ) (b : BlockState) (cache : CacheId) (i : ℕ) (x : Response) (line : Line) (next : CacheState) (latest : ℕ) (after : View) →
    Sound n b → Some line ≡ slice_get b.lines cache.0 → Some x ≡ slice_get b.traffic.responses i
    → home_data x ≡ 0 → ((d : ℕ) (v : View) → d ≢ cache.0 → response_added d x v ≡ v)
    → taken_view line b.home b.traffic i (line_input.Response x) cache.0 next ≡ record after { state = next }
    → Comes line.state (seen line b.home b.traffic cache.0) next (record after { state = next }) → Alike
    (seen line b.home b.traffic cache.0) after → Bounded n after
    → Sound n (line_block b cache.0 (line_after (line_input.Response x) next line) (response_taken i b.traffic) latest)
taken-sound n b cache i x line next latest after h there at home none e comes alike bound =
    own-sound n b cache.0 line (line_after (line_input.Response x) next line) (response_taken i b.traffic) latest (record after { state = next }) h there
    (record {
      links = refl;
      home = omega (arith, sum_by-remove home_data b.traffic.responses i x at);
      fwd_gets = refl;
      others =
          λ d ne. sym (none d (seen (line_of b.lines d) b.home (response_taken i b.traffic) d) ne)
          ∙ response_taken-seen (line_of b.lines d) b.home b.traffic i x d at;
    })
    (seen-after (line_input.Response x) line next b.home (response_taken i b.traffic) cache.0 ∙ e)
    comes
    (record { shares = alike.shares; owns = alike.owns; fwd_gets = alike.fwd_gets; link = alike.link })
    (record { promised = bound.promised; acks = bound.acks })

-- what the Data from the home leaves
data-left : (v u : View) (n early acks : ℕ) → early ≡ v.early - (v.acks + n) → acks ≡ v.acks + n - v.early →
    record u { invs = u.invs + 0; dir_data = u.dir_data + 1; owner_data = u.owner_data + 0; excl_data = u.excl_data + 0; promised = u.promised + n } ≡ v
    → (next : CacheState) → record u { state = next; early = early; acks = acks } ≡ record (dir_data_taken n v) { state = next }
data-left v u n early acks p q e next = grind (arith)

pub nothing-added : (v : View) →
    record v { invs = v.invs + 0; dir_data = v.dir_data + 0; owner_data = v.owner_data + 0; excl_data = v.excl_data + 0; promised = v.promised + 0 } ≡ v
nothing-added v = grind (arith)

owner-left : (v u : View) →
    record u { invs = u.invs + 0; dir_data = u.dir_data + 0; owner_data = u.owner_data + 1; excl_data = u.excl_data + 0; promised = u.promised + 0 } ≡ v
    → (next : CacheState) → record u { state = next; early = v.early; acks = v.acks } ≡ record (owner_data_taken v) { state = next }
owner-left v u e next = grind (arith)

excl-left : (v u : View) →
    record u { invs = u.invs + 0; dir_data = u.dir_data + 0; owner_data = u.owner_data + 0; excl_data = u.excl_data + 1; promised = u.promised + 0 } ≡ v
    → (next : CacheState) → record u { state = next; early = v.early; acks = v.acks } ≡ record (excl_data_taken v) { state = next }
excl-left v u e next = grind (arith)

ack-left : (v u : View) (early acks : ℕ) → early ≡ v.early + 1 - v.acks → acks ≡ v.acks - 1 →
    record u { invs = u.invs + 1; dir_data = u.dir_data + 0; owner_data = u.owner_data + 0; excl_data = u.excl_data + 0; promised = u.promised + 0 } ≡ v
    → (next : CacheState) → record u { state = next; early = early; acks = acks } ≡ record (ack_taken v) { state = next }
ack-left v u early acks p q e next = grind (arith)

-- acks come before their Data only while that is on its way
pub early-promised : (s : CacheState) (v : View) → Local s v → v.early ≤ v.promised
early-promised I v h = grind (arith)
early-promised IsD v h = grind (arith)
early-promised ImAd v h = grind (arith)
early-promised ImA v h = grind (arith)
early-promised S v h = grind (arith)
early-promised SmAd v h = grind (arith)
early-promised SmA v h = grind (arith)
early-promised M v h = grind (arith)
early-promised MiA v h = grind (arith)
early-promised SiA v h = grind (arith)
early-promised IiA v h = grind (arith)
early-promised E v h = grind (arith)

none-awaited : (s : CacheState) (v : View) → 0 < v.dir_data → Local s v → v.acks ≡ 0
none-awaited I v p h = grind (arith)
none-awaited IsD v p h = grind (arith)
none-awaited ImAd v p h = grind (arith)
none-awaited ImA v p h = grind (arith)
none-awaited S v p h = grind (arith)
none-awaited SmAd v p h = grind (arith)
none-awaited SmA v p h = grind (arith)
none-awaited M v p h = grind (arith)
none-awaited MiA v p h = grind (arith)
none-awaited SiA v p h = grind (arith)
none-awaited IiA v p h = grind (arith)
none-awaited E v p h = grind (arith)

-- a response that finds its cell is fine
response-fine : (n : ℕ) (b : BlockState) (cache : CacheId) (i : ℕ) (r : Response) (line : Line) (after : View) (x : CacheEntry) → Sound n b →
    Some line ≡ slice_get b.lines cache.0 → Some r ≡ slice_get b.traffic.responses i
    → home_data r ≡ 0 → ((d : ℕ) (v : View) → d ≢ cache.0 → response_added d r v ≡ v)
    → ((next : CacheState) → taken_view line b.home b.traffic i (line_input.Response r) cache.0 next ≡ record after { state = next })
    → Alike (seen line b.home b.traffic cache.0) after → Bounded n after
    → ResponseRule line.state (seen line b.home b.traffic cache.0) after x
    → Fine n (carried_out (by_line_entry x cache line (line_input.Response r) (origin.Response i)) b)
response-fine n b cache i r line after entry.Blank h there at home none e alike bound rule = absurd rule
response-fine n b cache i r line after entry.Stall h there at home none e alike bound rule = absurd rule
response-fine n b cache i r line after (entry.Act next actions) h there at home none e alike bound rule = record {
  sound = subst (λ (a : List CacheAction). Sound n (carried_out (AtLine cache line (line_input.Response r) next a (origin.Response i)) b).block) (sym rule.0)
      (taken-sound n b cache i r line next _ after h there at home none (e next) rule.1 alike bound);
  met = acted-outcome cache (origin.Response i) (line_completes (line_input.Response r) next line);
}

zero-true : (a : ℤ) → is_count a 0 ≡ true → early_of a + late_of a ≡ 0
zero-true (pos m) e = grind (arith, nat_tests)
zero-true (negsuc m) e = absurd (cc)

pub zero-false : (a : ℤ) → is_count a 0 ≡ false → early_of a + late_of a ≢ 0
zero-false (pos m) e = grind (arith, nat_tests)
zero-false (negsuc m) e = grind (arith)

one-true : (a : ℤ) → is_count a 1 ≡ true → late_of a ≡ 1
one-true (pos m) e = grind (arith, nat_tests)
one-true (negsuc m) e = absurd (cc)

one-false : (a : ℤ) → is_count a 1 ≡ false → late_of a ≢ 1
one-false (pos m) e = grind (arith, nat_tests)
one-false (negsuc m) e = grind (arith)

-- Data from the home
pub dir-data-fine : (n : ℕ) (b : BlockState) (cache : CacheId) (i : ℕ) (value acks : ℕ) (line : Line) → Sound n b →
    Some line ≡ slice_get b.lines cache.0 → Some (Data Dir (Cache cache) value acks) ≡ slice_get b.traffic.responses i
    → Fine n
    (carried_out
    (by_line_entry (msi_e_entry line.state (event_at_line line.acks (line_input.Response (Data Dir (Cache cache) value acks)))) cache line
    (line_input.Response (Data Dir (Cache cache) value acks)) (origin.Response i)) b)
dir-data-fine n b cache i value acks line h there at =
    let r : Response = Data Dir (Cache cache) value acks in
    let v : View = seen line b.home b.traffic cache.0 in
    let u : View = seen line b.home (response_taken i b.traffic) cache.0 in
    let local : Local line.state v = local-at n b cache.0 line h there in
    let bound : Bounded n v = bounded-at n b cache.0 line h there in
    let added : record u {
      invs = u.invs + 0;
      dir_data = u.dir_data + 1;
      owner_data = u.owner_data + 0;
      excl_data = u.excl_data + 0;
      promised = u.promised + acks;
    } ≡ v =
    ap (λ t. record u {
      invs = u.invs + 0;
      dir_data = u.dir_data + only t 1;
      owner_data = u.owner_data + 0;
      excl_data = u.excl_data + 0;
      promised = u.promised + only t acks;
    })
    (sym (eq-eqb cache.0 cache.0 refl))
    ∙ response_taken-seen line b.home b.traffic i r cache.0 at in
    let more : u.dir_data + 1 ≡ v.dir_data = ap (λ (x : View). x.dir_data) added in
    let sum : u.promised + acks ≡ v.promised = ap (λ (x : View). x.promised) added in
    let few : n ≤ 4294967296 = h.few in
    let early : v.early ≤ v.promised = early-promised line.state v local in
    let late : v.acks ≡ 0 = none-awaited line.state v (omega arith) local in
    let first : v.dir_data ≡ 1 → v.promised ≡ acks = λ e. omega (arith, promised-zero cache.0 (response_taken i b.traffic).responses (omega arith)) in
    let e1 : early_of (more_acks line.acks acks) ≡ v.early - (v.acks + acks) =
    sum-early line.acks acks (omega (arith, bound.promised)) (omega (arith, bound.acks)) (omega (arith, bound.promised)) in
    let e2 : late_of (more_acks line.acks acks) ≡ v.acks + acks - v.early =
    sum-late line.acks acks (omega (arith, bound.promised)) (omega (arith, bound.acks)) (omega (arith, bound.promised)) in
    response-fine n b cache i r line (dir_data_taken acks v) (msi_e_entry line.state (event_at_line line.acks (line_input.Response r))) h there at refl
    (λ d x ne. ap
    (λ t. record x {
      invs = x.invs + 0;
      dir_data = x.dir_data + only t 1;
      owner_data = x.owner_data + 0;
      excl_data = x.excl_data + 0;
      promised = x.promised + only t acks;
    })
    (ne_eqb cache.0 d (λ e. ne (sym e))) ∙ nothing-added x)
    (data-left v u acks (early_of (more_acks line.acks acks)) (late_of (more_acks line.acks acks)) e1 e2 added)
    (record { shares = refl; owns = refl; fwd_gets = refl; link = λ p. p })
    (record { promised = omega (arith, bound.promised); acks = omega (arith, bound.promised) })
    (by-test (λ t. ResponseRule line.state v (dir_data_taken acks v) (msi_e_entry line.state (if t then event.DataDirZero else event.DataDirMore)))
    (is_count (more_acks line.acks acks) 0)
    (λ t. data_zero_rule line.state v acks (omega arith) first (omega (arith, zero-true (more_acks line.acks acks) t, e1, e2)) local)
    (λ t. data_more_rule line.state v acks (omega arith) first (λ e. zero-false (more_acks line.acks acks) t (omega (arith, e1, e2, e))) local))

-- Data from an owner
pub owner-data-fine : (n : ℕ) (b : BlockState) (by cache : CacheId) (i : ℕ) (value acks : ℕ) (line : Line) → Sound n b →
    Some line ≡ slice_get b.lines cache.0 → Some (Data (Cache by) (Cache cache) value acks) ≡ slice_get b.traffic.responses i
    → Fine n
    (carried_out
    (by_line_entry
    (msi_e_entry line.state (event_at_line line.acks (line_input.Response (Data (Cache by) (Cache cache) value acks)))) cache line
    (line_input.Response (Data (Cache by) (Cache cache) value acks)) (origin.Response i)) b)
owner-data-fine n b by cache i value acks line h there at =
    let r : Response = Data (Cache by) (Cache cache) value acks in
    let v : View = seen line b.home b.traffic cache.0 in
    let u : View = seen line b.home (response_taken i b.traffic) cache.0 in
    let bound : Bounded n v = bounded-at n b cache.0 line h there in
    let added : record u {
      invs = u.invs + 0;
      dir_data = u.dir_data + 0;
      owner_data = u.owner_data + 1;
      excl_data = u.excl_data + 0;
      promised = u.promised + 0;
    } ≡ v =
    ap (λ t. record u {
      invs = u.invs + 0;
      dir_data = u.dir_data + 0;
      owner_data = u.owner_data + only t 1;
      excl_data = u.excl_data + 0;
      promised = u.promised + 0;
    })
    (sym (eq-eqb cache.0 cache.0 refl))
    ∙ response_taken-seen line b.home b.traffic i r cache.0 at in
    let more : u.owner_data + 1 ≡ v.owner_data = ap (λ (x : View). x.owner_data) added in
    response-fine n b cache i r line (owner_data_taken v) (msi_e_entry line.state event.DataOwner) h there at refl
    (λ d x ne. ap (λ t. record x {
      invs = x.invs + 0;
      dir_data = x.dir_data + 0;
      owner_data = x.owner_data + only t 1;
      excl_data = x.excl_data + 0;
      promised = x.promised + 0;
    })
    (ne_eqb cache.0 d (λ e. ne (sym e))) ∙ nothing-added x)
    (owner-left v u added)
    (record { shares = refl; owns = refl; fwd_gets = refl; link = λ p. p })
    (record { promised = bound.promised; acks = bound.acks })
    (data_owner_rule line.state v (omega arith) (local-at n b cache.0 line h there))

-- exclusive Data from the home
pub excl-data-fine : (n : ℕ) (b : BlockState) (cache : CacheId) (i : ℕ) (value : ℕ) (line : Line) → Sound n b →
    Some line ≡ slice_get b.lines cache.0 → Some (DataExcl cache value) ≡ slice_get b.traffic.responses i
    → Fine n
    (carried_out
    (by_line_entry (msi_e_entry line.state event.DataDirExcl) cache line (line_input.Response (DataExcl cache value)) (origin.Response i)) b)
excl-data-fine n b cache i value line h there at =
    let r : Response = DataExcl cache value in
    let v : View = seen line b.home b.traffic cache.0 in
    let u : View = seen line b.home (response_taken i b.traffic) cache.0 in
    let bound : Bounded n v = bounded-at n b cache.0 line h there in
    let added : record u {
      invs = u.invs + 0;
      dir_data = u.dir_data + 0;
      owner_data = u.owner_data + 0;
      excl_data = u.excl_data + 1;
      promised = u.promised + 0;
    } ≡ v =
    ap (λ t. record u {
      invs = u.invs + 0;
      dir_data = u.dir_data + 0;
      owner_data = u.owner_data + 0;
      excl_data = u.excl_data + only t 1;
      promised = u.promised + 0;
    })
    (sym (eq-eqb cache.0 cache.0 refl))
    ∙ response_taken-seen line b.home b.traffic i r cache.0 at in
    let more : u.excl_data + 1 ≡ v.excl_data = ap (λ (x : View). x.excl_data) added in
    response-fine n b cache i r line (excl_data_taken v) (msi_e_entry line.state event.DataDirExcl) h there at refl
    (λ d x ne. ap (λ t. record x {
      invs = x.invs + 0;
      dir_data = x.dir_data + 0;
      owner_data = x.owner_data + 0;
      excl_data = x.excl_data + only t 1;
      promised = x.promised + 0;
    })
    (ne_eqb cache.0 d (λ e. ne (sym e))) ∙ nothing-added x)
    (excl-left v u added)
    (record { shares = refl; owns = refl; fwd_gets = refl; link = λ p. p })
    (record { promised = bound.promised; acks = bound.acks })
    (data_excl_rule line.state v (omega arith) (local-at n b cache.0 line h there))

-- an Inv-Ack
pub inv-ack-fine : (n : ℕ) (b : BlockState) (by cache : CacheId) (i : ℕ) (line : Line) → Sound n b → Some line ≡ slice_get b.lines cache.0 →
    Some (InvAck by cache) ≡ slice_get b.traffic.responses i
    → Fine n
    (carried_out
    (by_line_entry (msi_e_entry line.state (event_at_line line.acks (line_input.Response (InvAck by cache)))) cache line
    (line_input.Response (InvAck by cache)) (origin.Response i)) b)
inv-ack-fine n b by cache i line h there at =
    let r : Response = InvAck by cache in
    let v : View = seen line b.home b.traffic cache.0 in
    let u : View = seen line b.home (response_taken i b.traffic) cache.0 in
    let local : Local line.state v = local-at n b cache.0 line h there in
    let bound : Bounded n v = bounded-at n b cache.0 line h there in
    let few : n ≤ 4294967296 = h.few in
    let early : v.early ≤ v.promised = early-promised line.state v local in
    let added : record u {
      invs = u.invs + 1;
      dir_data = u.dir_data + 0;
      owner_data = u.owner_data + 0;
      excl_data = u.excl_data + 0;
      promised = u.promised + 0;
    } ≡ v =
    ap (λ t. record u {
      invs = u.invs + only t 1;
      dir_data = u.dir_data + 0;
      owner_data = u.owner_data + 0;
      excl_data = u.excl_data + 0;
      promised = u.promised + 0;
    })
    (sym (eq-eqb cache.0 cache.0 refl))
    ∙ response_taken-seen line b.home b.traffic i r cache.0 at in
    let more : u.invs + 1 ≡ v.invs = ap (λ (x : View). x.invs) added in
    let e1 : early_of (one_ack_less line.acks) ≡ v.early + 1 - v.acks = rest-early line.acks (omega (arith, bound.promised)) (omega (arith, bound.acks)) in
    let e2 : late_of (one_ack_less line.acks) ≡ v.acks - 1 = rest-late line.acks (omega (arith, bound.promised)) (omega (arith, bound.acks)) in
    response-fine n b cache i r line (ack_taken v) (msi_e_entry line.state (event_at_line line.acks (line_input.Response r))) h there at refl
    (λ d x ne. ap (λ t. record x {
      invs = x.invs + only t 1;
      dir_data = x.dir_data + 0;
      owner_data = x.owner_data + 0;
      excl_data = x.excl_data + 0;
      promised = x.promised + 0;
    })
    (ne_eqb cache.0 d (λ e. ne (sym e))) ∙ nothing-added x)
    (ack-left v u (early_of (one_ack_less line.acks)) (late_of (one_ack_less line.acks)) e1 e2 added)
    (record { shares = refl; owns = refl; fwd_gets = refl; link = λ p. p })
    (record { promised = bound.promised; acks = omega (arith, bound.acks) })
    (by-test (λ t. ResponseRule line.state v (ack_taken v) (msi_e_entry line.state (if t then event.LastInvAck else event.InvAck))) (is_count line.acks 1)
    (λ t. last_ack_rule line.state v (omega arith) (one-true line.acks t) local)
    (λ t. inv_ack_rule line.state v (omega arith) (one-false line.acks t) local))
