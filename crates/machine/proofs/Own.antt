-- The own tables of MSI do in a plain block what those of MSI+E do there, but where the home serves a GetS in I.
use Rattle.std.proofs.Common.{◌≡◌, ◌≢◌, ◌⊎◌, inl, inr, ℕ, List, [], ◌∷◌, refl, ap, sym, subst, ◌∙◌, arith, Option, Some, None, Bool, true, false}
use Rattle.std.proofs.Common.{if◌then◌else◌, slice_get, ℤ}
use Rattle.base.specs.declared.ids.CacheId.{CacheId}
use Rattle.base.specs.declared.ids.Place.TheVariants.{Dir, Cache}
use Rattle.base.specs.declared.controller.protocol.Protocol.{Protocol}
use Rattle.base.specs.declared.controller.protocol.Protocol.TheVariants.{Msi, MsiE}
use Rattle.base.specs.declared.step.Ask.{Ask}
use Rattle.base.specs.declared.step.Ask.TheVariants as ask
use Rattle.base.specs.declared.step.Step.{Step}
use Rattle.base.specs.declared.step.Step.TheVariants as step
use Rattle.network.specs.declared.message.Request.{Request}
use Rattle.network.specs.declared.message.RequestKind.{RequestKind}
use Rattle.network.specs.declared.message.RequestKind.TheVariants as request
use Rattle.network.specs.declared.message.Forward.{Forward}
use Rattle.network.specs.declared.message.ForwardKind.{ForwardKind}
use Rattle.network.specs.declared.message.ForwardKind.TheVariants as forward
use Rattle.network.specs.declared.message.Response.{Response}
use Rattle.network.specs.declared.message.Response.TheVariants.{Data, InvAck, DataExcl}
use Rattle.network.specs.Traffic.{link}
use Rattle.cache_table.specs.declared.state.CacheState.{CacheState}
use Rattle.cache_table.specs.declared.state.CacheState.TheVariants.{IsD, E}
use Rattle.cache_table.specs.declared.event.CacheEvent.{CacheEvent}
use Rattle.cache_table.specs.declared.event.CacheEvent.TheVariants as event
use Rattle.cache_table.specs.Table as cache_table
use Rattle.cache_table.specs.Table.{CacheEntry}
use Rattle.cache_table.specs.Baseline as cache_baseline
use Rattle.cache_table.proofs.BaselineCells as cache_cells
use Rattle.directory_table.specs.declared.state.DirectoryState.{DirectoryState}
use Rattle.directory_table.specs.declared.state.DirectoryState.TheVariants as home
use Rattle.directory_table.specs.declared.event.DirectoryEvent.{DirectoryEvent}
use Rattle.directory_table.specs.declared.event.DirectoryEvent.TheVariants as home_event
use Rattle.directory_table.specs.declared.actions.DirectoryAction.TheVariants as action
use Rattle.directory_table.specs.Table as directory_table
use Rattle.directory_table.specs.Table.{DirectoryEntry}
use Rattle.directory_table.specs.Baseline as directory_baseline
use Rattle.directory_table.proofs.BaselineCells as directory_cells
use Rattle.control.specs.declared.line.Line.{Line}
use Rattle.control.specs.declared.line.LineInput.{LineInput}
use Rattle.control.specs.declared.line.LineInput.TheVariants as line_input
use Rattle.control.specs.declared.home.HomeInput.{HomeInput}
use Rattle.control.specs.declared.home.HomeInput.TheVariants as home_input
use Rattle.control.specs.Sharing.{is_sole}
use Rattle.control.specs.LineEvents.{ask_event, forward_event, response_event, event_at_line}
use Rattle.control.specs.HomeEvents.{event_at_home, owns}
use Rattle.tables.specs.Tables.{Tables, baseline_of}
use Rattle.machine.specs.Block.{BlockState}
use Rattle.machine.specs.declared.decision.Origin.{Origin}
use Rattle.machine.specs.declared.decision.Origin.TheVariants as origin
use Rattle.machine.specs.declared.decision.Decision.{Decision}
use Rattle.machine.specs.declared.decision.Decision.TheVariants.{AtHome}
use Rattle.machine.specs.Transition.{Transition, transition, decision_of, carried_out, by_line_entry, by_home_entry, at_line, at_home, at_ask, at_request}
use Rattle.machine.specs.Transition.{at_forward, at_response, is_idle}
use Rattle.machine.proofs.Truths.{Never}
use Rattle.machine.proofs.Exclusive.{exclusive}
use Rattle.machine.proofs.Views.{View, Local}
use Rattle.machine.proofs.Seen.{seen}
use Rattle.machine.proofs.Sound.{Sound, Fine, local-at, line_of-there}
use Rattle.machine.proofs.ForwardTransitions.{own-begins, rest_of}
use Rattle.machine.proofs.GetTransitions.{req, gets-shared}
use Rattle.machine.proofs.StepTransitions.{transition-fine}
use Rattle.machine.proofs.Values.{Valued}
use Rattle.machine.proofs.LineValues.{Right}
use Rattle.machine.proofs.HomeValues.{data-valued}
use Rattle.machine.proofs.StepValues.{transition-right}
use Rattle.machine.proofs.Ranks.{Ranked, ranked-same, transition-ranked}
use Rattle.machine.proofs.Plain.{IsPlain, Plain, NoExcl, none-read, none-sum, line-plain, home-plain, own-line-plain, own-home-plain}

-- the own tables of MSI
abbrev plain_tables : Tables
plain_tables = baseline_of Msi

-- an event at which IS^D has one cell in both protocols
abbrev IsOld : CacheEvent → Type 0
IsOld event.FwdGetS = ⊥
IsOld event.FwdGetM = ⊥
IsOld event.DataDirExcl = ⊥
IsOld other = Unit {0}

same-entry : (s : CacheState) (e : CacheEvent) → s ≢ E → (s ≡ IsD → IsOld e) → cache_baseline.msi_entry s e ≡ cache_baseline.msi_e_entry s e
same-entry s e n o = grind (arith)

-- an input at a line comes to the same there
at-line-same : (cache : CacheId) (input : LineInput) (from : Origin) (found : Option Line) →
    ((line : Line) → Some line ≡ found → line.state ≢ E) → ((line : Line) → Some line ≡ found → line.state ≡ IsD → IsOld (event_at_line line.acks input)) →
    at_line plain_tables.cache cache input from found ≡ at_line exclusive.cache cache input from found
at-line-same cache input from None n o = refl
at-line-same cache input from (Some line) n o =
    let e : CacheEvent = event_at_line line.acks input in
    let same : cache_table.cell plain_tables.cache line.state e ≡ cache_table.cell exclusive.cache line.state e =
    cache_cells.cell-baseline Msi line.state e ∙ same-entry line.state e (n line refl) (o line refl) ∙ sym (cache_cells.cell-baseline MsiE line.state e) in
    ap (λ (x : CacheEntry). by_line_entry x cache line input from) same

same-home : (s : DirectoryState) (e : DirectoryEvent) → (s ≡ home.I → e ≢ home_event.GetS) →
    directory_baseline.msi_entry s e ≡ directory_baseline.msi_e_entry s e
same-home s e n = grind (arith)

at-home-same : (b : BlockState) (input : HomeInput) (from : Origin) →
    (b.home.state ≡ home.I → event_at_home b.home.owner b.home.sharers input ≢ home_event.GetS) →
    at_home plain_tables.directory input from b.home ≡ at_home exclusive.directory input from b.home
at-home-same b input from n =
    let e : DirectoryEvent = event_at_home b.home.owner b.home.sharers input in
    let same : directory_table.cell plain_tables.directory b.home.state e ≡ directory_table.cell exclusive.directory b.home.state e =
    directory_cells.cell-baseline Msi b.home.state e ∙ same-home b.home.state e n ∙ sym (directory_cells.cell-baseline MsiE b.home.state e) in
    ap (λ (x : DirectoryEntry). by_home_entry x input from) same

-- the home answers a GetS in I as it does in S
pub record SharesOut (b : BlockState) (d : Decision) : Type 0 where
  pub index : ℕ
  pub requestor : CacheId
  pub at : Some (req request.GetS requestor) ≡ slice_get b.traffic.requests index
  pub free : b.home.state ≡ home.I
  pub is : d ≡ AtHome (home_input.Request (req request.GetS requestor)) home.S (action.DataReq ∷ action.AddReq ∷ []) (origin.Request index)

-- a decision is that of MSI+E, but for this
abbrev Agrees : BlockState → Decision → Decision → Type 0
Agrees b d x = (d ≡ x) ⊎ SharesOut b d

if-same : (t : Bool) (x d y : Decision) → d ≡ y → (if t then x else d) ≡ (if t then x else y)
if-same true x d y e = refl
if-same false x d y e = e

old-ask : (a : Ask) → IsOld (ask_event a)
old-ask ask.Load = tt
old-ask (ask.Store value) = tt
old-ask ask.Replace = tt

asked : (cache : CacheId) (a : Ask) (found : Option Line) → ((line : Line) → Some line ≡ found → line.state ≢ E) →
    at_ask plain_tables.cache cache a found ≡ at_ask exclusive.cache cache a found
asked cache a None n = refl
asked cache a (Some line) n =
    if-same (is_idle a line.state) _ _ _ (at-line-same cache (line_input.Ask a) origin.Core (Some line) n (λ l e d. old-ask a))

-- the line of a cache isn't in E
not-e : (b : BlockState) → IsPlain b → (c : ℕ) (line : Line) → Some line ≡ slice_get b.lines c → line.state ≢ E
not-e b k c line e x = k.lines c (ap (λ (l : Line). l.state) (line_of-there b.lines c line e) ∙ x)

-- no forward stands before an IS^D without exclusive Data under way
no-gets : (v : View) (rest : List ForwardKind) → v.link ≡ forward.FwdGetS ∷ rest → v.excl_data ≡ 0 → Local IsD v → Never
no-gets v rest l x h = grind (arith)

no-getm : (v : View) (rest : List ForwardKind) → v.link ≡ forward.FwdGetM ∷ rest → v.excl_data ≡ 0 → Local IsD v → Never
no-getm v rest l x h = grind (arith)

old-forward : (k : ForwardKind) (v : View) (rest : List ForwardKind) → v.link ≡ k ∷ rest → v.excl_data ≡ 0 → Local IsD v → IsOld (forward_event k)
old-forward forward.FwdGetS v rest l x h = absurd (omega (arith, no-gets v rest l x h))
old-forward forward.FwdGetM v rest l x h = absurd (omega (arith, no-getm v rest l x h))
old-forward forward.Inv v rest l x h = tt
old-forward forward.PutAck v rest l x h = tt

headed : (n : ℕ) (b : BlockState) (cache : CacheId) (found : Option Forward) → found ≡ slice_get (link b.traffic cache.0) 0 → Sound n b → IsPlain b →
    at_forward plain_tables.cache cache b.lines found ≡ at_forward exclusive.cache cache b.lines found
headed n b cache None e h k = refl
headed n b cache (Some m) e h k =
    at-line-same cache (line_input.Forward m) (origin.Head cache) (slice_get b.lines cache.0) (not-e b k cache.0)
    (λ line there d.
    old-forward m.kind (seen line b.home b.traffic cache.0) (rest_of b cache.0) (own-begins b cache.0 m line e)
    (none-sum cache.0 b.traffic.responses k.sent)
    (subst (λ s. Local s (seen line b.home b.traffic cache.0)) d (local-at n b cache.0 line h there)))

old-either : (t : Bool) (x y : CacheEvent) → IsOld x → IsOld y → IsOld (if t then x else y)
old-either true x y p q = p
old-either false x y p q = q

old-response : (acks : ℤ) (x : Response) → NoExcl x → IsOld (response_event acks x)
old-response acks (Data (Cache from) to value more) n = tt
old-response acks (Data Dir to value more) n = old-either _ event.DataDirZero event.DataDirMore tt tt
old-response acks (InvAck from to) n = old-either _ event.LastInvAck event.InvAck tt tt
old-response acks (DataExcl to value) n = absurd n

answered : (b : BlockState) (i : ℕ) (found : Option Response) → found ≡ slice_get b.traffic.responses i → IsPlain b →
    at_response plain_tables i b found ≡ at_response exclusive i b found
answered b i None e k = refl
answered b i (Some (Data by Dir value acks)) e k = at-home-same b (home_input.Data value) (origin.Response i) (λ x y. absurd (cc))
answered b i (Some (Data by (Cache to) value acks)) e k =
    at-line-same to (line_input.Response (Data by (Cache to) value acks)) (origin.Response i) (slice_get b.lines to.0) (not-e b k to.0)
    (λ line there d. old-response line.acks (Data by (Cache to) value acks) tt)
answered b i (Some (InvAck by to)) e k =
    at-line-same to (line_input.Response (InvAck by to)) (origin.Response i) (slice_get b.lines to.0) (not-e b k to.0)
    (λ line there d. old-response line.acks (InvAck by to) tt)
answered b i (Some (DataExcl to value)) e k = absurd (none-read b.traffic.responses i (DataExcl to value) k.sent e)

no-gets-if : (t : Bool) (x y : DirectoryEvent) → x ≢ home_event.GetS → y ≢ home_event.GetS → (if t then x else y) ≢ home_event.GetS
no-gets-if true x y p q = p
no-gets-if false x y p q = q

-- a GetS at a home
gets-agrees : (b : BlockState) (i : ℕ) (r : CacheId) (s : DirectoryState) → b.home.state ≡ s → Some (req request.GetS r) ≡ slice_get b.traffic.requests i →
    Agrees b (at_home plain_tables.directory (home_input.Request (req request.GetS r)) (origin.Request i) b.home)
    (at_home exclusive.directory (home_input.Request (req request.GetS r)) (origin.Request i) b.home)
gets-agrees b i r home.I e at = inr (record {
  index = i;
  requestor = r;
  at = at;
  free = e;
  is = ap (λ (x : DirectoryEntry). by_home_entry x (home_input.Request (req request.GetS r)) (origin.Request i))
      (directory_cells.cell-baseline Msi b.home.state home_event.GetS ∙ ap (λ (s : DirectoryState). directory_baseline.msi_entry s home_event.GetS) e);
})
gets-agrees b i r home.S e at =
    inl (at-home-same b (home_input.Request (req request.GetS r)) (origin.Request i) (λ x y. let no : home.S ≡ home.I = sym e ∙ x in absurd (cc)))
gets-agrees b i r home.M e at =
    inl (at-home-same b (home_input.Request (req request.GetS r)) (origin.Request i) (λ x y. let no : home.M ≡ home.I = sym e ∙ x in absurd (cc)))
gets-agrees b i r home.SD e at =
    inl (at-home-same b (home_input.Request (req request.GetS r)) (origin.Request i) (λ x y. let no : home.SD ≡ home.I = sym e ∙ x in absurd (cc)))

request-agrees : (b : BlockState) (i : ℕ) (kind : RequestKind) (r : CacheId) → Some (req kind r) ≡ slice_get b.traffic.requests i →
    Agrees b (at_home plain_tables.directory (home_input.Request (req kind r)) (origin.Request i) b.home)
    (at_home exclusive.directory (home_input.Request (req kind r)) (origin.Request i) b.home)
request-agrees b i request.GetS r at = gets-agrees b i r b.home.state refl at
request-agrees b i request.GetM r at = inl (at-home-same b (home_input.Request (req request.GetM r)) (origin.Request i) (λ x y. absurd (cc)))
request-agrees b i request.PutS r at =
    inl (at-home-same b (home_input.Request (req request.PutS r)) (origin.Request i)
    (λ x. no-gets-if (is_sole r.0 b.home.sharers) home_event.PutSLast home_event.PutSNotLast (λ y. absurd (cc)) (λ y. absurd (cc))))
request-agrees b i (request.PutM value) r at =
    inl (at-home-same b (home_input.Request (req (request.PutM value) r)) (origin.Request i)
    (λ x. no-gets-if (owns b.home.owner r) home_event.PutMOwner home_event.PutMNonOwner (λ y. absurd (cc)) (λ y. absurd (cc))))

requested : (b : BlockState) (i : ℕ) (found : Option Request) → found ≡ slice_get b.traffic.requests i →
    Agrees b (at_request plain_tables.directory i b.home found) (at_request exclusive.directory i b.home found)
requested b i None e = inl refl
requested b i (Some r) e = request-agrees b i r.kind r.from e

pub agrees : (n : ℕ) (s : Step) (b : BlockState) → Sound n b → IsPlain b → Agrees b (decision_of plain_tables s b) (decision_of exclusive s b)
agrees n (step.Ask cache block a) b h k = inl (asked cache a (slice_get b.lines cache.0) (not-e b k cache.0))
agrees n (step.Request block i) b h k = requested b i (slice_get b.traffic.requests i) refl
agrees n (step.Forward block cache) b h k = inl (headed n b cache (slice_get (link b.traffic cache.0) 0) refl h k)
agrees n (step.Response block i) b h k = inl (answered b i (slice_get b.traffic.responses i) refl k)

-- what each step of MSI+E has, and the answer to a GetS in I, each step of MSI has
by-own : (Q : Transition → Type 0) (n : ℕ) (s : Step) (b : BlockState) → Sound n b → IsPlain b → Q (transition exclusive s b) →
    ((d : Decision) → SharesOut b d → Q (carried_out d b)) → Q (transition plain_tables s b)
by-own Q n s b h k q f = elim (agrees n s b h k) [
  | inl e ↦ subst (λ (d : Decision). Q (carried_out d b)) (sym e) q
  | inr x ↦ f (decision_of plain_tables s b) x
]

-- each step of a protocol's own tables keeps the invariant and comes on no blank cell
pub own-fine : (p : Protocol) (n : ℕ) (s : Step) (b : BlockState) → Sound n b → Plain p b → Fine n (transition (baseline_of p) s b)
own-fine MsiE n s b h k = transition-fine n s b h
own-fine Msi n s b h k =
    by-own (Fine n) n s b h k (transition-fine n s b h)
    (λ d x. subst (λ (d : Decision). Fine n (carried_out d b)) (sym x.is)
    (record { sound = gets-shared n b x.index x.requestor h (inl x.free) x.at; met = λ e. absurd (cc) }))

-- and the latest value in its places, and answers by it
pub own-right : (p : Protocol) (n : ℕ) (s : Step) (b : BlockState) → Sound n b → Valued b → Plain p b → Right b (transition (baseline_of p) s b)
own-right MsiE n s b h v k = transition-right n s b h v
own-right Msi n s b h v k =
    by-own (Right b) n s b h k (transition-right n s b h v)
    (λ d x. subst (λ (d : Decision). Right b (carried_out d b)) (sym x.is)
    (record { valued = data-valued n b x.index x.requestor _ h v (inl x.free) refl; fits = refl }))

-- and the owners ranked
pub own-ranked : (p : Protocol) (n : ℕ) (s : Step) (b : BlockState) → Sound n b → Ranked b → Plain p b → Ranked (transition (baseline_of p) s b).block
own-ranked MsiE n s b h r k = transition-ranked n s b h r
own-ranked Msi n s b h r k =
    by-own (λ (t : Transition). Ranked t.block) n s b h k (transition-ranked n s b h r)
    (λ d x. subst (λ (d : Decision). Ranked (carried_out d b).block) (sym x.is) (ranked-same b _ r refl))

-- MSI keeps a block plain
found-plain : (b : BlockState) (cache : CacheId) (input : LineInput) (from : Origin) (found : Option Line) → IsPlain b →
    IsPlain (carried_out (at_line plain_tables.cache cache input from found) b).block
found-plain b cache input from None k = k
found-plain b cache input from (Some line) k =
    line-plain (cache_table.cell plain_tables.cache line.state (event_at_line line.acks input)) cache line input from b
    (own-line-plain line.state (event_at_line line.acks input)) k

known-plain : (b : BlockState) (input : HomeInput) (from : Origin) → IsPlain b →
    IsPlain (carried_out (at_home plain_tables.directory input from b.home) b).block
known-plain b input from k =
    home-plain (directory_table.cell plain_tables.directory b.home.state (event_at_home b.home.owner b.home.sharers input)) input from b
    (own-home-plain b.home.state (event_at_home b.home.owner b.home.sharers input)) k

if-plain : (t : Bool) (x y : Decision) (b : BlockState) → IsPlain (carried_out x b).block → IsPlain (carried_out y b).block →
    IsPlain (carried_out (if t then x else y) b).block
if-plain true x y b p q = p
if-plain false x y b p q = q

ask-plain : (b : BlockState) (cache : CacheId) (a : Ask) (found : Option Line) → IsPlain b →
    IsPlain (carried_out (at_ask plain_tables.cache cache a found) b).block
ask-plain b cache a None k = k
ask-plain b cache a (Some line) k = if-plain (is_idle a line.state) _ _ b k (found-plain b cache (line_input.Ask a) origin.Core (Some line) k)

request-plain : (b : BlockState) (i : ℕ) (found : Option Request) → IsPlain b →
    IsPlain (carried_out (at_request plain_tables.directory i b.home found) b).block
request-plain b i None k = k
request-plain b i (Some r) k = known-plain b (home_input.Request r) (origin.Request i) k

forward-plain : (b : BlockState) (cache : CacheId) (found : Option Forward) → IsPlain b →
    IsPlain (carried_out (at_forward plain_tables.cache cache b.lines found) b).block
forward-plain b cache None k = k
forward-plain b cache (Some m) k = found-plain b cache (line_input.Forward m) (origin.Head cache) (slice_get b.lines cache.0) k

response-plain : (b : BlockState) (i : ℕ) (found : Option Response) → IsPlain b → IsPlain (carried_out (at_response plain_tables i b found) b).block
response-plain b i None k = k
response-plain b i (Some (Data by Dir value acks)) k = known-plain b (home_input.Data value) (origin.Response i) k
response-plain b i (Some (Data by (Cache to) value acks)) k =
    found-plain b to (line_input.Response (Data by (Cache to) value acks)) (origin.Response i) (slice_get b.lines to.0) k
response-plain b i (Some (InvAck by to)) k =
    found-plain b to (line_input.Response (InvAck by to)) (origin.Response i) (slice_get b.lines to.0) k
response-plain b i (Some (DataExcl to value)) k =
    found-plain b to (line_input.Response (DataExcl to value)) (origin.Response i) (slice_get b.lines to.0) k

msi-plain : (s : Step) (b : BlockState) → IsPlain b → IsPlain (transition plain_tables s b).block
msi-plain (step.Ask cache block a) b k = ask-plain b cache a (slice_get b.lines cache.0) k
msi-plain (step.Request block i) b k = request-plain b i (slice_get b.traffic.requests i) k
msi-plain (step.Forward block cache) b k = forward-plain b cache (slice_get (link b.traffic cache.0) 0) k
msi-plain (step.Response block i) b k = response-plain b i (slice_get b.traffic.responses i) k

pub own-plain : (p : Protocol) (s : Step) (b : BlockState) → Plain p b → Plain p (transition (baseline_of p) s b).block
own-plain MsiE s b k = tt
own-plain Msi s b k = msi-plain s b k
