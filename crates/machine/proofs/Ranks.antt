-- Owners that wait for one another are in a row: each step keeps them so.
use Rattle.std.proofs.Common.{◌≡◌, ◌≢◌, ℕ, ◌<◌, ◌≤◌, ◌+◌, List, [], ◌∷◌, ◌++◌, inl, inr, length, remove, refl, ap, sym, subst, ◌∙◌, arith, Option}
use Rattle.std.proofs.Common.{Some, None, Bool, true, false, ◌==◌, ◌&&◌, not, if◌then◌else◌, get_or, slice_get, sum_by, eq-eqb, map}
use Rattle.std.proofs.lemmas.Bool.{ne_eqb, cases_eq}
use Rattle.std.proofs.lemmas.List.Sums.{sum_by_push, sum_by-cons}
use Rattle.base.specs.declared.controller.protocol.Protocol.TheVariants.{MsiE}
use Rattle.base.specs.declared.ids.CacheId.{CacheId}
use Rattle.base.specs.declared.step.Ask.{Ask}
use Rattle.base.specs.declared.step.Step.{Step}
use Rattle.base.specs.declared.step.Step.TheVariants as step
use Rattle.base.specs.declared.step.Outcome.TheVariants as outcome
use Rattle.base.specs.declared.ids.Place.TheVariants.{Dir, Cache}
use Rattle.network.specs.declared.message.Request.{Request}
use Rattle.network.specs.declared.message.RequestKind.{RequestKind}
use Rattle.network.specs.declared.message.RequestKind.TheVariants as request
use Rattle.network.specs.declared.message.Forward.{Forward}
use Rattle.network.specs.declared.message.ForwardKind.{ForwardKind}
use Rattle.network.specs.declared.message.ForwardKind.TheVariants.{FwdGetS, FwdGetM, Inv, PutAck}
use Rattle.network.specs.declared.message.Response.{Response}
use Rattle.network.specs.declared.message.Response.TheVariants as response
use Rattle.network.specs.Traffic.{Traffic, link, request_taken, response_taken, response_sent, head_taken, forward_sent, all_sent}
use Rattle.network.proofs.Sending.{all_sent-append}
use Rattle.cache_table.specs.Table.{CacheEntry}
use Rattle.base.specs.declared.controller.entry.CellEntry.TheVariants as entry
use Rattle.cache_table.specs.declared.actions.CacheAction.{CacheAction}
use Rattle.cache_table.specs.Table as cache_table_cells
use Rattle.directory_table.specs.declared.state.DirectoryState.{DirectoryState}
use Rattle.directory_table.specs.declared.state.DirectoryState.TheVariants as home
use Rattle.directory_table.specs.declared.event.DirectoryEvent.TheVariants as event
use Rattle.directory_table.specs.Table.{DirectoryEntry}
use Rattle.directory_table.specs.declared.actions.DirectoryAction.TheVariants as action
use Rattle.directory_table.specs.Baseline as directory_table
use Rattle.directory_table.proofs.BaselineCells as directory_cells
use Rattle.control.specs.declared.line.Line.{Line}
use Rattle.control.specs.declared.line.LineInput.{LineInput}
use Rattle.control.specs.declared.line.LineInput.TheVariants as line_input
use Rattle.control.specs.declared.home.HomeInput.TheVariants as home_input
use Rattle.control.specs.Sharing.{shares, is_sole, others_from}
use Rattle.control.specs.LineEffect.{line_messages, line_message, taken_in, requestor_of}
use Rattle.control.specs.LineEvents.{event_at_line}
use Rattle.control.specs.HomeEvents.{event_at_home, owns}
use Rattle.machine.proofs.Truths.{Never}
use Rattle.machine.proofs.Invitations.{invs_from, invs-link, invited}
use Rattle.machine.specs.Block.{BlockState}
use Rattle.machine.specs.Transition.{carried_out, by_line_entry, by_home_entry, at_line, at_ask, at_request, at_forward, at_response}
use Rattle.machine.specs.Transition.{is_idle, transition, without}
use Rattle.machine.specs.declared.decision.Origin.{Origin}
use Rattle.machine.specs.declared.decision.Origin.TheVariants as origin
use Rattle.machine.specs.declared.decision.Decision.TheVariants.{Refused, AtHome}
use Rattle.machine.proofs.Exclusive.{exclusive}
use Rattle.machine.proofs.Views.{View}
use Rattle.machine.proofs.Counts.{only, link-sent, link-sent_other, link-taken, link-taken_other, link-there, link-total, only-nothing}
use Rattle.machine.proofs.Seen.{view_of, names, is_fwd_getm, is_owner}
use Rattle.machine.proofs.OpenHomes.{open_shares}
use Rattle.machine.proofs.Sound.{Sound}
use Rattle.machine.proofs.Homes.{request-own, owner-below}
use Rattle.machine.proofs.GetTransitions.{req}
use Rattle.machine.proofs.PutTransitions.{put-below}
use Rattle.machine.proofs.HomeTransitions.{owned_by}
use Rattle.machine.proofs.StallRules.{HasFwdGetM, getm_first}
use Rattle.machine.proofs.Cases.{by-test}

-- the Fwd-GetM on a link that name a cache
abbrev pub owed_to : Traffic → ℕ → ℕ → ℕ
owed_to w a d = sum_by (names d is_fwd_getm) (link w a)

-- owners are ranked: one with a Fwd-GetM on its link comes before the cache that it names
pub record Ranked (b : BlockState) : Type 0 where
  pub ranks : (rk : ℕ → ℕ) × ((a d : ℕ) → 0 < owed_to b.traffic a d → rk a < rk d)

-- no link has come to more
abbrev pub Fewer : Traffic → Traffic → Type 0
Fewer old new = (a d : ℕ) → owed_to new a d ≤ owed_to old a d

ranked-fewer : (b b' : BlockState) → Ranked b → Fewer b.traffic b'.traffic → Ranked b'
ranked-fewer b b' h f = record { ranks = (h.ranks.0, λ a d p. h.ranks.1 a d (omega (arith, f a d))) }

same-links : (old new : Traffic) → new.links ≡ old.links → Fewer old new
same-links old new e a d = omega (arith, ap (λ ls. sum_by (names d is_fwd_getm) (get_or ls a [])) e)

pub ranked-same : (b b' : BlockState) → Ranked b → b'.traffic.links ≡ b.traffic.links → Ranked b'
ranked-same b b' h e = ranked-fewer b b' h (same-links b.traffic b'.traffic e)

head-fewer : (f : Forward → ℕ) (l : List Forward) → sum_by f (remove l 0) ≤ sum_by f l
head-fewer f [] = omega arith
head-fewer f (x ∷ l) = omega (arith, sum_by-cons f x l)

taken-fewer : (w : Traffic) (c : ℕ) (m : Forward) → Some m ≡ slice_get (link w c) 0 → Fewer w (head_taken c w)
taken-fewer w c m at a d = elim (cases_eq a c) as (λ _. owed_to (head_taken c w) a d ≤ owed_to w a d) [
  | inl e ↦ subst (λ k. owed_to (head_taken c w) k d ≤ owed_to w k d) (sym e)
      (omega (arith, ap (λ l. sum_by (names d is_fwd_getm) l) (link-taken w c (link-there c m w at)), head-fewer (names d is_fwd_getm) (link w c)))
  | inr ne ↦ omega (arith, ap (λ l. sum_by (names d is_fwd_getm) l) (link-taken_other w c a ne))
]

sent-fewer : (w : Traffic) (k : ℕ) (m : Forward) → k < length w.links → is_fwd_getm m.kind ≡ 0 → Fewer w (forward_sent k m w)
sent-fewer w k m h z a d = elim (cases_eq a k) as (λ _. owed_to (forward_sent k m w) a d ≤ owed_to w a d) [
  | inl e ↦ subst (λ x. owed_to (forward_sent k m w) x d ≤ owed_to w x d) (sym e)
      (omega (
        arith,
        ap (λ l. sum_by (names d is_fwd_getm) l) (link-sent w k m h),
        sum_by_push (names d is_fwd_getm) (link w k) m,
        ap
            (λ n. only (m.requestor.0 == d) n) z,
        only-nothing (m.requestor.0 == d),
      ))
  | inr ne ↦ omega (arith, ap (λ l. sum_by (names d is_fwd_getm) l) (link-sent_other w k a m ne))
]

-- a line sends nothing on links
message-links : (cache : CacheId) (value : ℕ) (to : Option CacheId) (a : CacheAction) (w : Traffic) →
    (all_sent (line_message cache value to a) w).links ≡ w.links
message-links cache value to a w = grind (arith)

messages-links : (cache : CacheId) (value : ℕ) (to : Option CacheId) (actions : List CacheAction) (w : Traffic) →
    (all_sent (line_messages cache value to actions) w).links ≡ w.links
messages-links cache value to [] w = refl
messages-links cache value to (a ∷ actions) w =
    ap (λ (u : Traffic). u.links) (all_sent-append (line_message cache value to a) (line_messages cache value to actions) w)
    ∙ messages-links cache value to actions (all_sent (line_message cache value to a) w) ∙ message-links cache value to a w

line-ranked : (b : BlockState) (cache : CacheId) (line : Line) (input : LineInput) (from : Origin) (x : CacheEntry) → Ranked b →
    Fewer b.traffic (without from b.traffic) → Ranked (carried_out (by_line_entry x cache line input from) b).block
line-ranked b cache line input from entry.Blank h f = h
line-ranked b cache line input from entry.Stall h f = h
line-ranked b cache line input from (entry.Act next actions) h f =
    ranked-fewer b _ h
    (λ a d. omega (
      arith,
      f a d,
      same-links (without from b.traffic)
          (all_sent (line_messages cache (taken_in input line).value (requestor_of input) actions) (without from b.traffic))
          (messages-links cache (taken_in input line).value (requestor_of input) actions (without from b.traffic)) a d,
    ))

at-line-ranked : (b : BlockState) (cache : CacheId) (input : LineInput) (from : Origin) (found : Option Line) → Ranked b →
    Fewer b.traffic (without from b.traffic) → Ranked (carried_out (at_line exclusive.cache cache input from found) b).block
at-line-ranked b cache input from None h f = h
at-line-ranked b cache input from (Some line) h f =
    line-ranked b cache line input from (cache_table_cells.cell exclusive.cache line.state (event_at_line line.acks input)) h f

not-fwd_getm : (k : ForwardKind) (t : Bool) → (k ≡ FwdGetM → Never) → only t (is_fwd_getm k) ≡ 0
not-fwd_getm FwdGetS t h = only-nothing t
not-fwd_getm FwdGetM t h = absurd (omega (arith, h refl))
not-fwd_getm Inv t h = only-nothing t
not-fwd_getm PutAck t h = only-nothing t

none-owed : (l : List Forward) (d : ℕ) → (HasFwdGetM (map (λ f. f.kind) l) → Never) → sum_by (names d is_fwd_getm) l ≡ 0
none-owed [] d h = refl
none-owed (f ∷ l) d h =
    omega (arith, sum_by-cons (names d is_fwd_getm) f l, none-owed l d (λ p. h (inr p)), not-fwd_getm f.kind (f.requestor.0 == d) (λ e. h (inl e)))

maybe-sum : (d : ℕ) (r : CacheId) (t : Bool) (l : List Forward) →
    sum_by (names d is_fwd_getm) (if t then l ++ record { kind = Inv; requestor = r } ∷ [] else l) ≡ sum_by (names d is_fwd_getm) l
maybe-sum d r true l = omega (arith, sum_by_push (names d is_fwd_getm) l (record { kind = Inv; requestor = r }), only-nothing (r.0 == d))
maybe-sum d r false l = refl

-- a GetM that is forwarded comes after the owner
edge : (b : BlockState) (i : ℕ) (r o : CacheId) (n : ℕ) → Sound n b → Ranked b → (o.0 < n) → (r.0 ≢ o.0) →
    Some (req request.GetM r) ≡ slice_get b.traffic.requests i
    → (b' : BlockState) → b'.traffic ≡ forward_sent o.0 (record { kind = FwdGetM; requestor = r }) (request_taken i b.traffic) → Ranked b'
edge b i r o n h ranked below ne at b' e =
    let rk : ℕ → ℕ = ranked.ranks.0 in
    let w1 : Traffic = request_taken i b.traffic in
    let m : Forward = record { kind = FwdGetM; requestor = r } in
    let w' : Traffic = forward_sent o.0 m w1 in
    let asks : 0 < (view_of b r.0).getm = omega (arith, ap (λ (v : View). v.getm) (request-own b i (req request.GetM r) at)) in
    let first : ((view_of b r.0).fwd_getm ≡ 0) × (HasFwdGetM (view_of b r.0).link → Never) =
    getm_first (view_of b r.0).state (view_of b r.0) asks (h.good.each r.0) in
    let into : (a : ℕ) → owed_to b.traffic a r.0 ≡ 0 = λ a. omega (arith, link-total (names r.0 is_fwd_getm) b.traffic a, first.0) in
    let out : (d : ℕ) → owed_to b.traffic r.0 d ≡ 0 = λ d. none-owed (link b.traffic r.0) d first.1 in
    let rank' : ℕ → ℕ = λ x. if x == r.0 then rk o.0 + 1 else rk x in
    let at_r : rank' r.0 ≡ rk o.0 + 1 = ap (λ t. if t then rk o.0 + 1 else rk r.0) (eq-eqb r.0 r.0 refl) in
    let else_at : (x : ℕ) → x ≢ r.0 → rank' x ≡ rk x = λ x nr. ap (λ t. if t then rk o.0 + 1 else rk x) (ne_eqb x r.0 nr) in
    let count_o : (d : ℕ) → owed_to w' o.0 d ≡ owed_to b.traffic o.0 d + only (r.0 == d) 1 =
    λ d. ap (λ l. sum_by (names d is_fwd_getm) l) (link-sent w1 o.0 m (omega (arith, h.links))) ∙ sum_by_push (names d is_fwd_getm) (link w1 o.0) m in
    let count : (a d : ℕ) → a ≢ o.0 → owed_to w' a d ≡ owed_to b.traffic a d =
    λ a d na. ap (λ l. sum_by (names d is_fwd_getm) l) (link-sent_other w1 o.0 a m na) in
    let old : (a d : ℕ) → d ≢ r.0 → 0 < owed_to b.traffic a d → rank' a < rank' d = λ a d nd p. elim (cases_eq a r.0) as (λ _. rank' a < rank' d) [
      | inl ar ↦ absurd (omega (arith, out d, ap (λ x. owed_to b.traffic x d) ar))
      | inr na ↦ omega (arith, ranked.ranks.1 a d p, else_at a na, else_at d nd)
    ] in
    record {
      ranks = (
        rank',
        λ a d p0.
            let p : 0 < owed_to w' a d = subst (λ w. 0 < owed_to w a d) e p0 in
            elim (cases_eq a o.0) as (λ _. rank' a < rank' d) [
              | inl ao ↦ elim (cases_eq d r.0) as (λ _. rank' a < rank' d) [
                | inl dr ↦ omega (arith, at_r, ap rank' dr, ap rank' ao, else_at o.0 (λ x. ne (sym x)))
                | inr nd ↦
                    let po : 0 < owed_to w' o.0 d = subst (λ x. 0 < owed_to w' x d) ao p in
                    let q : 0 < owed_to b.traffic o.0 d = omega (arith, count_o d, ap (λ t. only t 1) (ne_eqb r.0 d (λ x. nd (sym x)))) in
                    old a d nd (subst (λ x. 0 < owed_to b.traffic x d) (sym ao) q)
              ]
              | inr na ↦
                  let q : 0 < owed_to b.traffic a d = omega (arith, count a d na) in
                  elim (cases_eq d r.0) as (λ _. rank' a < rank' d) [
                    | inl dr ↦ absurd (omega (arith, into a, ap (λ x. owed_to b.traffic a x) dr))
                    | inr nd ↦ old a d nd q
                  ]
            ],
      );
    }

invs-fewer : (b : BlockState) (r : CacheId) (w : Traffic) (n : ℕ) → Sound n b → w.links ≡ b.traffic.links → Fewer b.traffic (invs_from r 0 b.home.sharers w)
invs-fewer b r w n h e a d =
    let same : link w a ≡ link b.traffic a = ap (λ ls. get_or ls a []) e in
    let got : link (invs_from r 0 b.home.sharers w) a ≡
    (if shares b.home.sharers a && not (a == r.0) then link w a ++ record { kind = Inv; requestor = r } ∷ [] else link w a) =
    invs-link r 0 b.home.sharers w a a
    (omega arith) (omega (arith, h.sharers, h.links, ap (λ ls. length ls) e)) in
    omega (
      arith,
      ap (λ l. sum_by (names d is_fwd_getm) l) got,
      maybe-sum d r (shares b.home.sharers a && not (a == r.0)) (link w a),
      ap
          (λ l. sum_by (names d is_fwd_getm) l) same,
    )

gets-ranked : (n : ℕ) (b : BlockState) (i : ℕ) (r : CacheId) (s : DirectoryState) → b.home.state ≡ s → Sound n b → Ranked b →
    Ranked (carried_out (by_home_entry (directory_table.msi_e_entry s event.GetS) (home_input.Request (req request.GetS r)) (origin.Request i)) b).block
gets-ranked n b i r home.I e h k = ranked-same b _ k refl
gets-ranked n b i r home.S e h k = ranked-same b _ k refl
gets-ranked n b i r home.M e h k =
    let o : (o : CacheId) × (b.home.owner ≡ Some o) = h.owned e in
    let owner_owns : (view_of b o.0.0).owns ≡ true = ap (λ (x : Option CacheId). is_owner x o.0.0) o.1 ∙ eq-eqb o.0.0 o.0.0 refl in
    let below : o.0.0 < n = owner-below n b o.0.0 h owner_owns in
    subst
    (λ (x : Option CacheId). Ranked
    (carried_out
    (AtHome (home_input.Request (req request.GetS r)) home.SD (action.FwdGetS ∷ action.AddReq ∷ action.AddOwner ∷ action.ClearOwner ∷ [])
    (origin.Request i))
    (owned_by b x)).block)
    (sym o.1)
    (ranked-fewer b _ k (sent-fewer (request_taken i b.traffic) o.0.0 (record { kind = FwdGetS; requestor = r }) (omega (arith, h.links)) refl))
gets-ranked n b i r home.SD e h k = k

getm-ranked : (n : ℕ) (b : BlockState) (i : ℕ) (r : CacheId) (s : DirectoryState) → b.home.state ≡ s → Sound n b → Ranked b →
    Some (req request.GetM r) ≡ slice_get b.traffic.requests i →
    Ranked (carried_out (by_home_entry (directory_table.msi_e_entry s event.GetM) (home_input.Request (req request.GetM r)) (origin.Request i)) b).block
getm-ranked n b i r home.I e h k at = ranked-same b _ k refl
getm-ranked n b i r home.S e h k at =
    let w : Traffic = response_sent (response.Data Dir (Cache r) b.home.memory (others_from 0 r.0 b.home.sharers)) (request_taken i b.traffic) in
    ranked-fewer b _ k (λ a d. omega (arith, ap (λ u. owed_to u a d) (invited r b.home.sharers w), invs-fewer b r w n h refl a d))
getm-ranked n b i r home.M e h k at =
    let o : (o : CacheId) × (b.home.owner ≡ Some o) = h.owned e in
    let owner_owns : (view_of b o.0.0).owns ≡ true = ap (λ (x : Option CacheId). is_owner x o.0.0) o.1 ∙ eq-eqb o.0.0 o.0.0 refl in
    let below : o.0.0 < n = owner-below n b o.0.0 h owner_owns in
    let asks : 0 < (view_of b r.0).getm = omega (arith, ap (λ (v : View). v.getm) (request-own b i (req request.GetM r) at)) in
    let r_not : (view_of b r.0).owns ≡ false = (open_shares (view_of b r.0).state (view_of b r.0) asks (h.good.each r.0)).0 in
    let ne : r.0 ≢ o.0.0 = λ e. let same : (view_of b r.0).owns ≡ true = ap (λ d. (view_of b d).owns) e ∙ owner_owns in absurd (cc) in
    subst
    (λ (x : Option CacheId). Ranked
    (carried_out (AtHome (home_input.Request (req request.GetM r)) home.M (action.FwdGetM ∷ action.SetOwner ∷ []) (origin.Request i))
    (owned_by b x)).block)
    (sym o.1)
    (edge b i r o.0 n h k below ne at _ refl)
getm-ranked n b i r home.SD e h k at = k

put-ranked : (n : ℕ) (b : BlockState) (i : ℕ) (kind : RequestKind) (r : CacheId) (b' : BlockState) → Sound n b → Ranked b →
    Some (req kind r) ≡ slice_get b.traffic.requests i →
    b'.traffic ≡ forward_sent r.0 (record { kind = PutAck; requestor = r }) (request_taken i b.traffic) → Ranked b'
put-ranked n b i kind r b' h k at e =
    ranked-fewer b b' k
    (λ a d. omega (
      arith,
      ap (λ w. owed_to w a d) e,
      sent-fewer (request_taken i b.traffic) r.0 (record { kind = PutAck; requestor = r })
          (omega (arith, put-below n b i r kind h at, h.links)) refl a d,
    ))

puts-ranked : (n : ℕ) (b : BlockState) (i : ℕ) (r : CacheId) (s : DirectoryState) → Sound n b → Ranked b →
    Some (req request.PutS r) ≡ slice_get b.traffic.requests i →
    Ranked
    (carried_out (by_home_entry (directory_table.msi_e_entry s event.PutSNotLast) (home_input.Request (req request.PutS r)) (origin.Request i)) b).block
puts-ranked n b i r home.I h k at = put-ranked n b i request.PutS r _ h k at refl
puts-ranked n b i r home.S h k at = put-ranked n b i request.PutS r _ h k at refl
puts-ranked n b i r home.M h k at = put-ranked n b i request.PutS r _ h k at refl
puts-ranked n b i r home.SD h k at = put-ranked n b i request.PutS r _ h k at refl

puts_last-ranked : (n : ℕ) (b : BlockState) (i : ℕ) (r : CacheId) (s : DirectoryState) → Sound n b → Ranked b →
    Some (req request.PutS r) ≡ slice_get b.traffic.requests i →
    Ranked (carried_out (by_home_entry (directory_table.msi_e_entry s event.PutSLast) (home_input.Request (req request.PutS r)) (origin.Request i)) b).block
puts_last-ranked n b i r home.I h k at = put-ranked n b i request.PutS r _ h k at refl
puts_last-ranked n b i r home.S h k at = put-ranked n b i request.PutS r _ h k at refl
puts_last-ranked n b i r home.M h k at = put-ranked n b i request.PutS r _ h k at refl
puts_last-ranked n b i r home.SD h k at = put-ranked n b i request.PutS r _ h k at refl

putm-ranked : (n : ℕ) (b : BlockState) (i : ℕ) (r : CacheId) (value : ℕ) (s : DirectoryState) → Sound n b → Ranked b →
    Some (req (request.PutM value) r) ≡ slice_get b.traffic.requests i →
    Ranked
    (carried_out
    (by_home_entry (directory_table.msi_e_entry s event.PutMNonOwner) (home_input.Request (req (request.PutM value) r)) (origin.Request i)) b).block
putm-ranked n b i r value home.I h k at = put-ranked n b i (request.PutM value) r _ h k at refl
putm-ranked n b i r value home.S h k at = put-ranked n b i (request.PutM value) r _ h k at refl
putm-ranked n b i r value home.M h k at = put-ranked n b i (request.PutM value) r _ h k at refl
putm-ranked n b i r value home.SD h k at = put-ranked n b i (request.PutM value) r _ h k at refl

putm_owner-ranked : (n : ℕ) (b : BlockState) (i : ℕ) (r : CacheId) (value : ℕ) (s : DirectoryState) → Sound n b → Ranked b →
    Some (req (request.PutM value) r) ≡ slice_get b.traffic.requests i →
    Ranked
    (carried_out
    (by_home_entry (directory_table.msi_e_entry s event.PutMOwner) (home_input.Request (req (request.PutM value) r)) (origin.Request i)) b).block
putm_owner-ranked n b i r value home.I h k at = k
putm_owner-ranked n b i r value home.S h k at = k
putm_owner-ranked n b i r value home.M h k at = put-ranked n b i (request.PutM value) r _ h k at refl
putm_owner-ranked n b i r value home.SD h k at = k

request-ranked : (n : ℕ) (b : BlockState) (i : ℕ) (kind : RequestKind) (r : CacheId) → Sound n b → Ranked b → Some (req kind r) ≡ slice_get b.traffic.requests i
    → Ranked
    (carried_out
    (by_home_entry (directory_table.msi_e_entry b.home.state (event_at_home b.home.owner b.home.sharers (home_input.Request (req kind r))))
    (home_input.Request (req kind r)) (origin.Request i)) b).block
request-ranked n b i request.GetS r h k at = gets-ranked n b i r b.home.state refl h k
request-ranked n b i request.GetM r h k at = getm-ranked n b i r b.home.state refl h k at
request-ranked n b i request.PutS r h k at =
    by-test
    (λ t. Ranked
    (carried_out
    (by_home_entry (directory_table.msi_e_entry b.home.state (if t then event.PutSLast else event.PutSNotLast))
    (home_input.Request (req request.PutS r)) (origin.Request i)) b).block)
    (is_sole r.0 b.home.sharers)
    (λ t. puts_last-ranked n b i r b.home.state h k at) (λ t. puts-ranked n b i r b.home.state h k at)
request-ranked n b i (request.PutM value) r h k at =
    by-test
    (λ t. Ranked
    (carried_out
    (by_home_entry (directory_table.msi_e_entry b.home.state (if t then event.PutMOwner else event.PutMNonOwner))
    (home_input.Request (req (request.PutM value) r)) (origin.Request i)) b).block)
    (owns b.home.owner r)
    (λ t. putm_owner-ranked n b i r value b.home.state h k at) (λ t. putm-ranked n b i r value b.home.state h k at)

data-ranked : (b : BlockState) (i : ℕ) (value : ℕ) (s : DirectoryState) → Ranked b →
    Ranked (carried_out (by_home_entry (directory_table.msi_e_entry s event.Data) (home_input.Data value) (origin.Response i)) b).block
data-ranked b i value home.I k = k
data-ranked b i value home.S k = k
data-ranked b i value home.M k = k
data-ranked b i value home.SD k = ranked-same b _ k refl

asked-ranked : (b : BlockState) (cache : CacheId) (ask : Ask) (found : Option Line) → Ranked b →
    Ranked (carried_out (at_ask exclusive.cache cache ask found) b).block
asked-ranked b cache ask None k = k
asked-ranked b cache ask (Some line) k =
    by-test
    (λ t. Ranked
    (carried_out (if t then Refused outcome.Idle else at_line exclusive.cache cache (line_input.Ask ask) origin.Core (Some line)) b).block)
    (is_idle ask line.state)
    (λ t. k) (λ t. at-line-ranked b cache (line_input.Ask ask) origin.Core (Some line) k (same-links b.traffic b.traffic refl))

requested-ranked : (n : ℕ) (b : BlockState) (i : ℕ) (found : Option Request) → found ≡ slice_get b.traffic.requests i → Sound n b → Ranked b →
    Ranked (carried_out (at_request exclusive.directory i b.home found) b).block
requested-ranked n b i None e h k = k
requested-ranked n b i (Some r) e h k =
    subst (λ (x : DirectoryEntry). Ranked (carried_out (by_home_entry x (home_input.Request r) (origin.Request i)) b).block)
    (sym (directory_cells.cell-baseline MsiE b.home.state (event_at_home b.home.owner b.home.sharers (home_input.Request r))))
    (request-ranked n b i r.kind r.from h k e)

headed-ranked : (b : BlockState) (cache : CacheId) (found : Option Forward) → found ≡ slice_get (link b.traffic cache.0) 0 → Ranked b →
    Ranked (carried_out (at_forward exclusive.cache cache b.lines found) b).block
headed-ranked b cache None e k = k
headed-ranked b cache (Some m) e k =
    at-line-ranked b cache (line_input.Forward m) (origin.Head cache) (slice_get b.lines cache.0) k (taken-fewer b.traffic cache.0 m e)

answered-ranked : (b : BlockState) (i : ℕ) (found : Option Response) → Ranked b → Ranked (carried_out (at_response exclusive i b found) b).block
answered-ranked b i None k = k
answered-ranked b i (Some (response.Data by Dir value acks)) k =
    subst (λ (x : DirectoryEntry). Ranked (carried_out (by_home_entry x (home_input.Data value) (origin.Response i)) b).block)
    (sym (directory_cells.cell-baseline MsiE b.home.state (event_at_home b.home.owner b.home.sharers (home_input.Data value))))
    (data-ranked b i value b.home.state k)
answered-ranked b i (Some (response.Data by (Cache cache) value acks)) k =
    at-line-ranked b cache (line_input.Response (response.Data by (Cache cache) value acks)) (origin.Response i) (slice_get b.lines cache.0) k
    (same-links b.traffic (response_taken i b.traffic) refl)
answered-ranked b i (Some (response.InvAck by cache)) k =
    at-line-ranked b cache (line_input.Response (response.InvAck by cache)) (origin.Response i) (slice_get b.lines cache.0) k
    (same-links b.traffic (response_taken i b.traffic) refl)
answered-ranked b i (Some (response.DataExcl cache value)) k =
    at-line-ranked b cache (line_input.Response (response.DataExcl cache value)) (origin.Response i) (slice_get b.lines cache.0) k
    (same-links b.traffic (response_taken i b.traffic) refl)

-- each step keeps the owners ranked
pub transition-ranked : (n : ℕ) (s : Step) (b : BlockState) → Sound n b → Ranked b → Ranked (transition exclusive s b).block
transition-ranked n (step.Ask cache block ask) b h k = asked-ranked b cache ask (slice_get b.lines cache.0) k
transition-ranked n (step.Request block index) b h k = requested-ranked n b index (slice_get b.traffic.requests index) refl h k
transition-ranked n (step.Forward block cache) b h k = headed-ranked b cache (slice_get (link b.traffic cache.0) 0) refl k
transition-ranked n (step.Response block index) b h k = answered-ranked b index (slice_get b.traffic.responses index) k
