-- A FwdGetM at its line keeps the invariant, and so does every forward at its line.
use Rattle.std.proofs.Common.{◌≡◌, ◌≢◌, ℕ, ◌<◌, ◌+◌, List, [], ◌∷◌, refl, ap, sym, subst}
use Rattle.std.proofs.Common.{◌∙◌, arith, Some, true, false, ◌==◌, slice_get}
use Rattle.std.proofs.Common.{eq-eqb}
use Rattle.std.proofs.lemmas.Bool.{ne_eqb}
use Rattle.std.proofs.lemmas.List.{length-set}
use Rattle.std.proofs.lemmas.List.Sums.{sum_by_push}
use Rattle.base.specs.declared.ids.CacheId.{CacheId}
use Rattle.base.specs.declared.ids.Place.TheVariants.{Cache}
use Rattle.network.specs.declared.message.Forward.{Forward}
use Rattle.network.specs.declared.message.ForwardKind.{ForwardKind}
use Rattle.network.specs.declared.message.ForwardKind.TheVariants.{FwdGetS, FwdGetM, Inv, PutAck}
use Rattle.network.specs.declared.message.Response.{Response}
use Rattle.network.specs.declared.message.Response.TheVariants as response
use Rattle.network.specs.Traffic.{Traffic, link, head_taken, response_sent}
use Rattle.cache_table.specs.declared.state.CacheState.{CacheState}
use Rattle.cache_table.specs.declared.event.CacheEvent.TheVariants as event
use Rattle.cache_table.specs.Table.{CacheEntry}
use Rattle.base.specs.declared.controller.entry.CellEntry.TheVariants as entry
use Rattle.cache_table.specs.declared.actions.CacheAction.{CacheAction}
use Rattle.cache_table.specs.declared.actions.CacheAction.TheVariants as action
use Rattle.cache_table.specs.Baseline.{msi_e_entry}
use Rattle.control.specs.declared.line.Line.{Line}
use Rattle.control.specs.declared.line.LineInput.TheVariants as line_input
use Rattle.control.specs.LineEvents.{forward_event}
use Rattle.machine.specs.Block.{BlockState}
use Rattle.machine.specs.declared.decision.Origin.TheVariants as origin
use Rattle.machine.specs.Transition.{carried_out, by_line_entry}
use Rattle.machine.specs.declared.decision.Decision.TheVariants.{AtLine}
use Rattle.control.specs.LineEffect.{line_after, line_completes}
use Rattle.machine.proofs.Views.{View, Local, local, holds}
use Rattle.machine.proofs.LocalSteps.{get_m}
use Rattle.machine.proofs.BlockSteps.{fwd_getm_served}
use Rattle.machine.proofs.Counts.{only, total, head_taken-total}
use Rattle.machine.proofs.Seen.{seen, view_of, block_view, line_of, early_of, late_of, home_data, of_kind, is_fwd_gets}
use Rattle.machine.proofs.Facts.{counted}
use Rattle.machine.proofs.Seeing.{named, response_added, response_sent-seen}
use Rattle.machine.proofs.CellRules.{Gives, InvRule, PutAckRule, FwdGetSRule, FwdGetMRule, inv_rule, put_ack_rule, fwd_gets_rule, fwd_getm_rule}
use Rattle.machine.proofs.Settling.{acted-outcome}
use Rattle.machine.proofs.Sound.{Sound, Fine, Bounded, view-at, view-own, view-other, local-at, line_block, bounds-set}
use Rattle.machine.proofs.AskTransitions.{seen-after, bounded-at}
use Rattle.machine.proofs.Cases.{by-eq}
use Rattle.machine.proofs.Fitting.{below_read}
use Rattle.machine.proofs.ForwardTransitions.{rest_of, own-headed, own-begins, other-headed, relinked, inv-acted, put-ack-acted}
use Rattle.machine.proofs.ForwardTransitions.{named-waits, getm-other, getm-named, gets-acted}

-- a FwdGetM at the line that holds the block
getm-acted : (n : ℕ) (b : BlockState) (cache r : CacheId) (line : Line) (next : CacheState) (latest : ℕ) →
    Sound n b → Some line ≡ slice_get b.lines cache.0 →
    Some (record { kind = FwdGetM; requestor = r }) ≡ slice_get (link b.traffic cache.0) 0
    → (seen line b.home b.traffic cache.0).shares ≡ false
    → Gives line.state (seen line b.home b.traffic cache.0) next (record (seen line b.home b.traffic cache.0) { state = next; link = rest_of b cache.0 })
    → Sound n
    (line_block b cache.0 (line_after (line_input.Forward (record { kind = FwdGetM; requestor = r })) next line)
    (response_sent (response.Data (Cache cache) (Cache r) line.value 0) (head_taken cache.0 b.traffic)) latest)
getm-acted n b cache r line next latest h there at unshared gives =
    let m : Forward = record { kind = FwdGetM; requestor = r } in
    let x : Response = response.Data (Cache cache) (Cache r) line.value 0 in
    let w1 : Traffic = head_taken cache.0 b.traffic in
    let w : Traffic = response_sent x w1 in
    let l : Line = (line_after (line_input.Forward m) next line) in
    let b' : BlockState = line_block b cache.0 l w latest in
    let v : View = seen line b.home b.traffic cache.0 in
    let rest : List ForwardKind = rest_of b cache.0 in
    let local_c : Local line.state v = local-at n b cache.0 line h there in
    let bound : Bounded n v = bounded-at n b cache.0 line h there in
    let is_v : view_of b cache.0 ≡ v = view-at b cache.0 line there in
    let own : named (r.0 == cache.0) FwdGetM (record (seen line b.home w1 cache.0) { link = FwdGetM ∷ rest }) ≡ v = own-headed b cache.0 m line at in
    let apart : cache.0 ≢ r.0 = λ e.
    let one : named true FwdGetM (record (seen line b.home w1 cache.0) { link = FwdGetM ∷ rest }) ≡ v =
    ap (λ t. named t FwdGetM (record (seen line b.home w1 cache.0) { link = FwdGetM ∷ rest })) (sym (eq-eqb r.0 cache.0 (sym e))) ∙ own in
    let some : 0 < v.fwd_gets + v.fwd_getm = omega (arith, ap (λ (z : View). z.fwd_gets) one, ap (λ (z : View). z.fwd_getm) one) in
    absurd (omega (arith, named-waits line.state v some local_c gives.held)) in
    let other_test : (r.0 == cache.0) ≡ false = ne_eqb r.0 cache.0 (λ e. apart (sym e)) in
    let sent : (z : Line) (d : ℕ) → seen z b.home w d ≡ response_added d x (seen z b.home w1 d) = λ z d. response_sent-seen z b.home w1 x d in
    let mine : seen line b.home w cache.0 ≡ record v { link = rest } =
    sent line cache.0 ∙ relinked _ v (FwdGetM ∷ rest)
    (ap (λ t. let u : View = seen line b.home w1 cache.0 in record u {
      link = FwdGetM ∷ rest;
      invs = u.invs + 0;
      dir_data = u.dir_data + 0;
      owner_data = u.owner_data + only t 1;
      excl_data = u.excl_data + 0;
      promised = u.promised + 0;
    }) other_test
    ∙ getm-other (seen line b.home w1 cache.0) v (FwdGetM ∷ rest)
    (ap (λ t. named t FwdGetM (record (seen line b.home w1 cache.0) { link = FwdGetM ∷ rest })) (sym other_test) ∙ own)) in
    let after : view_of b' cache.0 ≡ record v { state = next; link = rest } =
    view-own b cache.0 l w latest (below_read b.lines cache.0 line there) ∙ seen-after (line_input.Forward m) line next b.home w cache.0
    ∙ ap (λ (z : View). record z { state = next; early = early_of line.acks; acks = late_of line.acks }) mine in
    let others : (d : ℕ) → d ≢ r.0 → d ≢ cache.0 → view_of b' d ≡ view_of b d = λ d nr nc.
    let z : Line = line_of b.lines d in
    let u : View = seen z b.home w1 d in
    let no : (r.0 == d) ≡ false = ne_eqb r.0 d (λ e. nr (sym e)) in
    view-other b cache.0 d l w latest nc ∙ sent z d
    ∙ ap (λ t. record u {
      invs = u.invs + 0;
      dir_data = u.dir_data + 0;
      owner_data = u.owner_data + only t 1;
      excl_data = u.excl_data + 0;
      promised = u.promised + 0;
    }) no
    ∙ getm-other u (view_of b d) u.link (ap (λ t. named t FwdGetM u) (sym no) ∙ other-headed b cache.0 d m z nc at) in
    let r_test : (r.0 == r.0) ≡ true = eq-eqb r.0 r.0 refl in
    let headed_r : named true FwdGetM (seen (line_of b.lines r.0) b.home w1 r.0) ≡ view_of b r.0 =
    ap (λ t. named t FwdGetM (seen (line_of b.lines r.0) b.home w1 r.0)) (sym r_test)
    ∙ other-headed b cache.0 r.0 m (line_of b.lines r.0) (λ e. apart (sym e)) at in
    let requestor : view_of b' r.0 ≡ get_m (view_of b r.0) =
    let u : View = seen (line_of b.lines r.0) b.home w1 r.0 in
    view-other b cache.0 r.0 l w latest (λ e. apart (sym e)) ∙ sent (line_of b.lines r.0) r.0
    ∙ ap (λ t. record u {
      invs = u.invs + 0;
      dir_data = u.dir_data + 0;
      owner_data = u.owner_data + only t 1;
      excl_data = u.excl_data + 0;
      promised = u.promised + 0;
    }) r_test
    ∙ getm-named u (view_of b r.0) headed_r in
    let held : holds (view_of b cache.0) = subst (λ z. holds z) (sym is_v) gives.held in
    let taken : total (of_kind is_fwd_gets) w1.links + is_fwd_gets FwdGetM ≡ total (of_kind is_fwd_gets) b.traffic.links =
    head_taken-total (of_kind is_fwd_gets) b.traffic cache.0 m at in
    record {
      few = h.few;
      lines = length-set b.lines cache.0 l ∙ h.lines;
      links = length-set b.traffic.links cache.0 _ ∙ h.links;
      sharers = h.sharers;
      owned = h.owned;
      good =
          fwd_getm_served (block_view b) (block_view b') cache.0 r.0 h.good (counted b) apart (omega (arith, ap (λ (z : View). z.fwd_getm) headed_r)) held
          (ap (λ (z : View). z.invs) is_v ∙ gives.settled)
          (record { home = refl; data_home = omega (arith, sum_by_push home_data w1.responses x); all_fwd_gets = omega (arith, taken) })
          (subst (λ z. local z) (sym after) gives.fits) (λ q. gives.given (subst (λ z. holds z) after q))
          (ap (λ (z : View). z.shares) after ∙ ap (λ (z : View). z.shares) (sym is_v))
          (ap (λ (z : View). z.owns) after ∙ ap (λ (z : View). z.owns) (sym is_v))
          (ap (λ (z : View). z.shares) is_v ∙ unshared)
          requestor others;
      bounds = bounds-set n b b' cache.0 h (subst (λ z. Bounded n z) (sym after) (record { promised = bound.promised; acks = bound.acks }))
          (λ d nc. by-eq d r.0 (λ e. subst (λ k. (view_of b' k).promised ≡ (view_of b k).promised) (sym e) (ap (λ (z : View). z.promised) requestor))
          (λ nr. ap (λ (z : View). z.promised) (others d nr nc)))
          (λ d nc. by-eq d r.0 (λ e. subst (λ k. (view_of b' k).acks ≡ (view_of b k).acks) (sym e) (ap (λ (z : View). z.acks) requestor))
          (λ nr. ap (λ (z : View). z.acks) (others d nr nc)));
    }

-- a forward at its line is fine
at-line : (n : ℕ) (b : BlockState) (cache : CacheId) (m : Forward) (line : Line) (next : CacheState) (actions known : List CacheAction) →
    actions ≡ known →
    Sound n (carried_out (AtLine cache line (line_input.Forward m) next known (origin.Head cache)) b).block
    → Fine n (carried_out (AtLine cache line (line_input.Forward m) next actions (origin.Head cache)) b)
at-line n b cache m line next actions known e h = record {
  sound = subst (λ (a : List CacheAction). Sound n (carried_out (AtLine cache line (line_input.Forward m) next a (origin.Head cache)) b).block) (sym e) h;
  met = acted-outcome cache (origin.Head cache) (line_completes (line_input.Forward m) next line);
}

inv-fine : (n : ℕ) (b : BlockState) (cache r : CacheId) (line : Line) (x : CacheEntry) → Sound n b → Some line ≡ slice_get b.lines cache.0 →
    Some (record { kind = Inv; requestor = r }) ≡ slice_get (link b.traffic cache.0) 0
    → InvRule line.state (seen line b.home b.traffic cache.0) (rest_of b cache.0) x → Fine n
    (carried_out (by_line_entry x cache line (line_input.Forward (record { kind = Inv; requestor = r })) (origin.Head cache)) b)
inv-fine n b cache r line entry.Blank h there at rule = absurd rule
inv-fine n b cache r line entry.Stall h there at rule = record { sound = h; met = λ e. absurd (cc) }
inv-fine n b cache r line (entry.Act next actions) h there at rule =
    at-line n b cache (record { kind = Inv; requestor = r }) line next actions (action.InvAck ∷ []) rule.0
    (inv-acted n b cache r line next _ h there at rule.1)

put-ack-fine : (n : ℕ) (b : BlockState) (cache r : CacheId) (line : Line) (x : CacheEntry) → Sound n b → Some line ≡ slice_get b.lines cache.0 →
    Some (record { kind = PutAck; requestor = r }) ≡ slice_get (link b.traffic cache.0) 0
    → PutAckRule line.state (seen line b.home b.traffic cache.0) (rest_of b cache.0) x → Fine n
    (carried_out (by_line_entry x cache line (line_input.Forward (record { kind = PutAck; requestor = r })) (origin.Head cache)) b)
put-ack-fine n b cache r line entry.Blank h there at rule = absurd rule
put-ack-fine n b cache r line entry.Stall h there at rule = record { sound = h; met = λ e. absurd (cc) }
put-ack-fine n b cache r line (entry.Act next actions) h there at rule =
    at-line n b cache (record { kind = PutAck; requestor = r }) line next actions [] rule.0 (put-ack-acted n b cache r line next _ h there at rule.1)

gets-fine : (n : ℕ) (b : BlockState) (cache r : CacheId) (line : Line) (x : CacheEntry) → Sound n b → Some line ≡ slice_get b.lines cache.0 →
    Some (record { kind = FwdGetS; requestor = r }) ≡ slice_get (link b.traffic cache.0) 0
    → FwdGetSRule line.state (seen line b.home b.traffic cache.0) (rest_of b cache.0) x → Fine n
    (carried_out (by_line_entry x cache line (line_input.Forward (record { kind = FwdGetS; requestor = r })) (origin.Head cache)) b)
gets-fine n b cache r line entry.Blank h there at rule = absurd rule
gets-fine n b cache r line entry.Stall h there at rule = record { sound = h; met = λ e. absurd (cc) }
gets-fine n b cache r line (entry.Act next actions) h there at rule =
    at-line n b cache (record { kind = FwdGetS; requestor = r }) line next actions (action.DataReq ∷ action.DataDir ∷ []) rule.0
    (gets-acted n b cache r line next _ h there at rule.1)

getm-fine : (n : ℕ) (b : BlockState) (cache r : CacheId) (line : Line) (x : CacheEntry) → Sound n b → Some line ≡ slice_get b.lines cache.0 →
    Some (record { kind = FwdGetM; requestor = r }) ≡ slice_get (link b.traffic cache.0) 0
    → FwdGetMRule line.state (seen line b.home b.traffic cache.0) (rest_of b cache.0) x → Fine n
    (carried_out (by_line_entry x cache line (line_input.Forward (record { kind = FwdGetM; requestor = r })) (origin.Head cache)) b)
getm-fine n b cache r line entry.Blank h there at rule = absurd rule
getm-fine n b cache r line entry.Stall h there at rule = record { sound = h; met = λ e. absurd (cc) }
getm-fine n b cache r line (entry.Act next actions) h there at rule =
    at-line n b cache (record { kind = FwdGetM; requestor = r }) line next actions (action.DataReq ∷ []) rule.0
    (getm-acted n b cache r line next _ h there at rule.1 rule.2)

pub forward-fine : (n : ℕ) (b : BlockState) (cache : CacheId) (kind : ForwardKind) (r : CacheId) (line : Line) → Sound n b →
    Some line ≡ slice_get b.lines cache.0 → Some (record { kind = kind; requestor = r }) ≡ slice_get (link b.traffic cache.0) 0
    → Fine n
    (carried_out
    (by_line_entry (msi_e_entry line.state (forward_event kind)) cache line (line_input.Forward (record { kind = kind; requestor = r }))
    (origin.Head cache)) b)
forward-fine n b cache Inv r line h there at =
    inv-fine n b cache r line (msi_e_entry line.state event.Inv) h there at
    (inv_rule line.state (seen line b.home b.traffic cache.0) (rest_of b cache.0) (own-begins b cache.0 (record { kind = Inv; requestor = r }) line at)
    (local-at n b cache.0 line h there))
forward-fine n b cache PutAck r line h there at =
    put-ack-fine n b cache r line (msi_e_entry line.state event.PutAck) h there at
    (put_ack_rule line.state (seen line b.home b.traffic cache.0) (rest_of b cache.0)
    (own-begins b cache.0 (record { kind = PutAck; requestor = r }) line at) (local-at n b cache.0 line h there))
forward-fine n b cache FwdGetS r line h there at =
    gets-fine n b cache r line (msi_e_entry line.state event.FwdGetS) h there at
    (fwd_gets_rule line.state (seen line b.home b.traffic cache.0) (rest_of b cache.0)
    (own-begins b cache.0 (record { kind = FwdGetS; requestor = r }) line at) (local-at n b cache.0 line h there))
forward-fine n b cache FwdGetM r line h there at =
    getm-fine n b cache r line (msi_e_entry line.state event.FwdGetM) h there at
    (fwd_getm_rule line.state (seen line b.home b.traffic cache.0) (rest_of b cache.0)
    (own-begins b cache.0 (record { kind = FwdGetM; requestor = r }) line at) (local-at n b cache.0 line h there))
