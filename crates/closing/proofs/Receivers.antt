-- Forwards name caches that are there, responses go to such, and no line waits for a replacement: each step keeps that.
use Rattle.std.proofs.Common.{◌≡◌, ℕ, ◌+◌, ◌<◌, List, [], ◌∷◌, ◌++◌, refl, sym, subst, Option, Some, None, Bool, true, false, not, ◌&&◌}
use Rattle.std.proofs.Common.{◌==◌, if◌then◌else◌, get_or, set, remove, slice_get, slice_set, zero, suc, replicate}
use Rattle.base.specs.declared.ids.CacheId.{CacheId}
use Rattle.base.specs.declared.ids.Place.TheVariants.{Dir, Cache}
use Rattle.base.specs.declared.step.Ask.{Ask}
use Rattle.base.specs.declared.step.Ask.TheVariants.{Load, Store, Replace}
use Rattle.base.specs.declared.step.Step.{Step}
use Rattle.base.specs.declared.step.Step.TheVariants as step
use Rattle.base.specs.declared.step.Outcome.TheVariants as outcome
use Rattle.base.specs.declared.controller.entry.CellEntry.TheVariants as table_entry
use Rattle.network.specs.declared.message.Request.{Request}
use Rattle.network.specs.declared.message.Forward.{Forward}
use Rattle.network.specs.declared.message.ForwardKind.{ForwardKind}
use Rattle.network.specs.declared.message.ForwardKind.TheVariants.{FwdGetS, FwdGetM, Inv, PutAck}
use Rattle.network.specs.declared.message.Response.{Response}
use Rattle.network.specs.declared.message.Response.TheVariants.{Data, InvAck, DataExcl}
use Rattle.network.specs.declared.message.Message.{Message}
use Rattle.network.specs.declared.message.Message.TheVariants as message
use Rattle.network.specs.Traffic.{Traffic, link, sent, all_sent}
use Rattle.cache_table.specs.declared.state.CacheState.{CacheState}
use Rattle.cache_table.specs.declared.actions.CacheAction.{CacheAction}
use Rattle.cache_table.specs.declared.actions.CacheAction.TheVariants as line_action
use Rattle.cache_table.specs.Table as cache_table
use Rattle.cache_table.specs.Table.{CacheEntry}
use Rattle.directory_table.specs.declared.actions.DirectoryAction.{DirectoryAction}
use Rattle.directory_table.specs.declared.actions.DirectoryAction.TheVariants as action
use Rattle.directory_table.specs.Table as directory_table
use Rattle.directory_table.specs.Table.{DirectoryEntry}
use Rattle.control.specs.declared.line.Line.{Line}
use Rattle.control.specs.declared.line.LineInput.{LineInput}
use Rattle.control.specs.declared.line.LineInput.TheVariants as line_input
use Rattle.control.specs.declared.line.LineCompletion.{LineCompletion}
use Rattle.control.specs.declared.line.LineCompletion.TheVariants as done
use Rattle.control.specs.declared.home.Home.{Home}
use Rattle.control.specs.declared.home.HomeInput.{HomeInput}
use Rattle.control.specs.declared.home.HomeInput.TheVariants as home_input
use Rattle.control.specs.LineEvents.{event_at_line}
use Rattle.control.specs.HomeEvents.{event_at_home}
use Rattle.control.specs.LineEffect.{opened_line, forward_requestor, requestor_of, line_message, line_messages, line_sends, taken_in, after_ask, after_message}
use Rattle.control.specs.LineEffect.{after_settling, moved_on, line_completes, line_after}
use Rattle.control.specs.HomeEffect.{sender_of, brought_by, home_message, home_messages, home_changed, home_sends, invalidation, invalidations, owner_message}
use Rattle.control.specs.Homes.{IsBelow}
use Rattle.control.proofs.HomeCounts.{nothing-sent}
use Rattle.tables.specs.Tables.{Tables}
use Rattle.machine.specs.Block.{BlockState, IsBlockAmong, opened_block}
use Rattle.machine.specs.Transition.{transition, carried_out, by_line_entry, by_home_entry, at_line, at_ask, at_request, at_forward, at_response, without}
use Rattle.machine.specs.Transition.{is_idle}
use Rattle.machine.specs.declared.decision.Origin.{Origin}
use Rattle.machine.specs.declared.decision.Origin.TheVariants as origin
use Rattle.machine.specs.declared.decision.Decision.{Decision}
use Rattle.machine.specs.declared.decision.Decision.TheVariants.{Refused, AtLine, AtHome}
use Rattle.machine.proofs.Cases.{by-test}
use Rattle.machine.proofs.Senders.{AllFrom-get}

-- WIRES
-- these forwards name caches that are there
abbrev pub NameBelow : ℕ → List Forward → Type 0
NameBelow n [] = Unit {0}
NameBelow n (f ∷ fs) = (f.requestor.0 < n) × NameBelow n fs

abbrev pub LinksBelow : ℕ → List (List Forward) → Type 0
LinksBelow n [] = Unit {0}
LinksBelow n (l ∷ ls) = NameBelow n l × LinksBelow n ls

-- a response goes to such a cache, or to the home
abbrev pub GoesBelow : ℕ → Response → Type 0
GoesBelow n (Data by Dir value acks) = Unit {0}
GoesBelow n (Data by (Cache to) value acks) = to.0 < n
GoesBelow n (InvAck by to) = to.0 < n
GoesBelow n (DataExcl to value) = to.0 < n

abbrev pub AllGoBelow : ℕ → List Response → Type 0
AllGoBelow n [] = Unit {0}
AllGoBelow n (r ∷ rs) = GoesBelow n r × AllGoBelow n rs

pub record WiresBelow (n : ℕ) (w : Traffic) : Type 0 where
  pub links : LinksBelow n w.links
  pub responses : AllGoBelow n w.responses

-- so does a message
abbrev pub IsSentBelow : ℕ → Message → Type 0
IsSentBelow n (message.Request r) = Unit {0}
IsSentBelow n (message.Forward to f) = f.requestor.0 < n
IsSentBelow n (message.Response r) = GoesBelow n r

abbrev pub AreSentBelow : ℕ → List Message → Type 0
AreSentBelow n [] = Unit {0}
AreSentBelow n (m ∷ ms) = IsSentBelow n m × AreSentBelow n ms

names-append : (n : ℕ) (fs : List Forward) (f : Forward) → NameBelow n fs → f.requestor.0 < n → NameBelow n (fs ++ f ∷ [])
names-append n [] f h lt = (lt, tt)
names-append n (g ∷ fs) f h lt = (h.0, names-append n fs f h.1 lt)

names-behind : (n : ℕ) (fs : List Forward) → NameBelow n fs → NameBelow n (remove fs 0)
names-behind n [] h = tt
names-behind n (f ∷ fs) h = h.1

links-at : (n : ℕ) (ls : List (List Forward)) (c : ℕ) → LinksBelow n ls → NameBelow n (get_or ls c [])
links-at n [] c h = tt
links-at n (l ∷ ls) zero h = h.0
links-at n (l ∷ ls) (suc c) h = links-at n ls c h.1

links-set : (n : ℕ) (ls : List (List Forward)) (c : ℕ) (l : List Forward) → LinksBelow n ls → NameBelow n l → LinksBelow n (set ls c l)
links-set n [] c l h g = tt
links-set n (k ∷ ls) zero l h g = (g, h.1)
links-set n (k ∷ ls) (suc c) l h g = (h.0, links-set n ls c l h.1 g)

goes-append : (n : ℕ) (rs : List Response) (r : Response) → AllGoBelow n rs → GoesBelow n r → AllGoBelow n (rs ++ r ∷ [])
goes-append n [] r h g = (g, tt)
goes-append n (x ∷ rs) r h g = (h.0, goes-append n rs r h.1 g)

goes-remove : (n : ℕ) (rs : List Response) (i : ℕ) → AllGoBelow n rs → AllGoBelow n (remove rs i)
goes-remove n [] zero h = tt
goes-remove n [] (suc i) h = tt
goes-remove n (x ∷ rs) zero h = h.1
goes-remove n (x ∷ rs) (suc i) h = (h.0, goes-remove n rs i h.1)

pub goes-get : (n : ℕ) (rs : List Response) (i : ℕ) (r : Response) → AllGoBelow n rs → Some r ≡ slice_get rs i → GoesBelow n r
goes-get n [] i r h e = absurd (cc)
goes-get n (x ∷ rs) zero r h e = let same : r ≡ x = cc in subst (λ (y : Response). GoesBelow n y) (sym same) h.0
goes-get n (x ∷ rs) (suc i) r h e = goes-get n rs i r h.1 e

sent-below : (n : ℕ) (m : Message) (w : Traffic) → IsSentBelow n m → WiresBelow n w → WiresBelow n (sent m w)
sent-below n (message.Request r) w h g = record { links = g.links; responses = g.responses }
sent-below n (message.Forward to f) w h g = record {
  links = links-set n w.links to.0 (link w to.0 ++ f ∷ []) g.links (names-append n (link w to.0) f (links-at n w.links to.0 g.links) h);
  responses = g.responses;
}
sent-below n (message.Response r) w h g = record { links = g.links; responses = goes-append n w.responses r g.responses h }

all_sent-below : (n : ℕ) (ms : List Message) (w : Traffic) → AreSentBelow n ms → WiresBelow n w → WiresBelow n (all_sent ms w)
all_sent-below n [] w h g = g
all_sent-below n (m ∷ ms) w h g = all_sent-below n ms (sent m w) h.1 (sent-below n m w h.0 g)

without-below : (n : ℕ) (from : Origin) (w : Traffic) → WiresBelow n w → WiresBelow n (without from w)
without-below n origin.Core w h = h
without-below n (origin.Request i) w h = record { links = h.links; responses = h.responses }
without-below n (origin.Head c) w h = record {
  links = links-set n w.links c.0 (remove (link w c.0) 0) h.links (names-behind n (link w c.0) (links-at n w.links c.0 h.links));
  responses = h.responses;
}
without-below n (origin.Response i) w h = record { links = h.links; responses = goes-remove n w.responses i h.responses }

are-append : (n : ℕ) (xs ys : List Message) → AreSentBelow n xs → AreSentBelow n ys → AreSentBelow n (xs ++ ys)
are-append n [] ys h g = g
are-append n (x ∷ xs) ys h g = (h.0, are-append n xs ys h.1 g)

-- a line answers its requestor
line_message-below : (n : ℕ) (cache : CacheId) (value : ℕ) (to : Option CacheId) (a : CacheAction) → IsBelow to n →
    AreSentBelow n (line_message cache value to a)
line_message-below n cache value to line_action.GetS h = (tt, tt)
line_message-below n cache value to line_action.GetM h = (tt, tt)
line_message-below n cache value to line_action.PutS h = (tt, tt)
line_message-below n cache value to line_action.PutM h = (tt, tt)
line_message-below n cache value (Some to) line_action.InvAck h = (h, tt)
line_message-below n cache value (Some to) line_action.DataReq h = (h, tt)
line_message-below n cache value None line_action.InvAck h = tt
line_message-below n cache value None line_action.DataReq h = tt
line_message-below n cache value to line_action.DataDir h = (tt, tt)

line_messages-below : (n : ℕ) (cache : CacheId) (value : ℕ) (to : Option CacheId) (actions : List CacheAction) → IsBelow to n →
    AreSentBelow n (line_messages cache value to actions)
line_messages-below n cache value to [] h = tt
line_messages-below n cache value to (a ∷ actions) h =
    are-append n (line_message cache value to a) (line_messages cache value to actions) (line_message-below n cache value to a h)
    (line_messages-below n cache value to actions h)

-- a home answers its sender
inv-below : (n : ℕ) (to : CacheId) (i : ℕ) (t : Bool) → to.0 < n →
    AreSentBelow n (if t then message.Forward (record { 0 = i }) (record { kind = Inv; requestor = to }) ∷ [] else [])
inv-below n to i true h = (h, tt)
inv-below n to i false h = tt

invalidations-below : (n : ℕ) (to : CacheId) (i : ℕ) (flags : List Bool) → to.0 < n → AreSentBelow n (invalidations to i flags)
invalidations-below n to i [] h = tt
invalidations-below n to i (flag ∷ flags) h =
    are-append n (invalidation to (record { 0 = i }) flag) (invalidations to (i + 1) flags) (inv-below n to i (flag && not (i == to.0)) h)
    (invalidations-below n to (i + 1) flags h)

owner-below : (n : ℕ) (o : Option CacheId) (kind : ForwardKind) (to : CacheId) → to.0 < n → AreSentBelow n (owner_message o kind to)
owner-below n None kind to h = tt
owner-below n (Some o) kind to h = (h, tt)

home_message-below : (n : ℕ) (to : CacheId) (x : DirectoryAction) (home : Home) → to.0 < n → AreSentBelow n (home_message (Some to) x home)
home_message-below n to action.DataReq home h = (h, tt)
home_message-below n to action.DataAcks home h = (h, tt)
home_message-below n to action.DataExcl home h = (h, tt)
home_message-below n to action.InvSharers home h = invalidations-below n to 0 home.sharers h
home_message-below n to action.FwdGetS home h = owner-below n home.owner FwdGetS to h
home_message-below n to action.FwdGetM home h = owner-below n home.owner FwdGetM to h
home_message-below n to action.PutAck home h = (h, tt)
home_message-below n to action.AddReq home h = tt
home_message-below n to action.AddOwner home h = tt
home_message-below n to action.RemoveReq home h = tt
home_message-below n to action.ClearSharers home h = tt
home_message-below n to action.ClearOwner home h = tt
home_message-below n to action.SetOwner home h = tt
home_message-below n to action.CopyData home h = tt

home_messages-below : (n : ℕ) (to : CacheId) (value : Option ℕ) (actions : List DirectoryAction) (home : Home) → to.0 < n →
    AreSentBelow n (home_messages (Some to) value actions home)
home_messages-below n to value [] home h = tt
home_messages-below n to value (x ∷ actions) home h =
    are-append n (home_message (Some to) x home) (home_messages (Some to) value actions (home_changed (Some to) value x home))
    (home_message-below n to x home h) (home_messages-below n to value actions (home_changed (Some to) value x home) h)

home_sends-below : (n : ℕ) (from : Option CacheId) (value : Option ℕ) (actions : List DirectoryAction) (home : Home) → IsBelow from n →
    AreSentBelow n (home_messages from value actions home)
home_sends-below n None value actions home h = subst (λ (ms : List Message). AreSentBelow n ms) (sym (nothing-sent value actions home)) tt
home_sends-below n (Some to) value actions home h = home_messages-below n to value actions home h

-- LINES
-- a replacement never waits
abbrev pub CanWait : Option Ask → Type 0
CanWait (Some Replace) = ⊥
CanWait other = Unit {0}

abbrev pub AllCanWait : List Line → Type 0
AllCanWait [] = Unit {0}
AllCanWait (l ∷ ls) = CanWait l.pending × AllCanWait ls

wait-set : (ls : List Line) (c : ℕ) (l : Line) → AllCanWait ls → CanWait l.pending → AllCanWait (slice_set ls c l)
wait-set [] c l h g = tt
wait-set (k ∷ ls) zero l h g = (g, h.1)
wait-set (k ∷ ls) (suc c) l h g = (h.0, wait-set ls c l h.1 g)

pub wait-get : (ls : List Line) (c : ℕ) (l : Line) → AllCanWait ls → Some l ≡ slice_get ls c → CanWait l.pending
wait-get [] c l h e = absurd (cc)
wait-get (k ∷ ls) zero l h e = let same : l ≡ k = cc in subst (λ (x : Line). CanWait x.pending) (sym same) h.0
wait-get (k ∷ ls) (suc c) l h e = wait-get ls c l h.1 e

same-pending : (input : LineInput) (l : Line) → (taken_in input l).pending ≡ l.pending
same-pending (line_input.Response (Data (Cache by) to value acks)) l = refl
same-pending (line_input.Response (Data Dir to value acks)) l = refl
same-pending (line_input.Response (InvAck by to)) l = refl
same-pending (line_input.Response (DataExcl to value)) l = refl
same-pending (line_input.Ask a) l = refl
same-pending (line_input.Forward f) l = refl

asked-waits : (a : Ask) (c : Option LineCompletion) (l : Line) → CanWait l.pending → CanWait (after_ask a c l).pending
asked-waits a (Some (done.Load value)) l h = h
asked-waits a (Some (done.Store value)) l h = h
asked-waits Load None l h = tt
asked-waits (Store value) None l h = tt
asked-waits Replace None l h = h

told-waits : (c : Option LineCompletion) (l : Line) → CanWait l.pending → CanWait (after_message c l).pending
told-waits None l h = h
told-waits (Some c) l h = tt

settled-waits : (input : LineInput) (c : Option LineCompletion) (l : Line) → CanWait l.pending → CanWait (after_settling input c l).pending
settled-waits (line_input.Ask a) c l h = asked-waits a c l h
settled-waits (line_input.Forward f) c l h = told-waits c l h
settled-waits (line_input.Response r) c l h = told-waits c l h

line-waits : (input : LineInput) (next : CacheState) (l : Line) → CanWait l.pending → CanWait (line_after input next l).pending
line-waits input next l h =
    settled-waits input (line_completes input next l) (moved_on input next l) (subst (λ (p : Option Ask). CanWait p) (sym (same-pending input l)) h)

-- BLOCKS
pub record Received (n : ℕ) (b : BlockState) : Type 0 where
  pub wires : WiresBelow n b.traffic
  pub lines : AllCanWait b.lines

-- what a decision needs for that
abbrev pub IsDecent : ℕ → Decision → Type 0
IsDecent n (Refused what) = Unit {0}
IsDecent n (AtLine cache line input next actions from) = IsBelow (requestor_of input) n × CanWait line.pending
IsDecent n (AtHome input next actions from) = IsBelow (sender_of input) n

decided-received : (n : ℕ) (d : Decision) (b : BlockState) → IsDecent n d → Received n b → Received n (carried_out d b).block
decided-received n (Refused what) b h g = g
decided-received n (AtLine cache line input next actions from) b h g = record {
  wires = all_sent-below n (line_sends cache input actions line) (without from b.traffic)
      (line_messages-below n cache (taken_in input line).value (requestor_of input) actions h.0) (without-below n from b.traffic g.wires);
  lines = wait-set b.lines cache.0 (line_after input next line) g.lines (line-waits input next line h.1);
}
decided-received n (AtHome input next actions from) b h g = record {
  wires = all_sent-below n (home_sends input actions b.home) (without from b.traffic)
      (home_sends-below n (sender_of input) (brought_by input) actions b.home h) (without-below n from b.traffic g.wires);
  lines = g.lines;
}

line_entry-decent : (n : ℕ) (x : CacheEntry) (cache : CacheId) (line : Line) (input : LineInput) (from : Origin) → IsBelow (requestor_of input) n →
    CanWait line.pending → IsDecent n (by_line_entry x cache line input from)
line_entry-decent n table_entry.Blank cache line input from h g = tt
line_entry-decent n table_entry.Stall cache line input from h g = tt
line_entry-decent n (table_entry.Act next actions) cache line input from h g = (h, g)

home_entry-decent : (n : ℕ) (x : DirectoryEntry) (input : HomeInput) (from : Origin) → IsBelow (sender_of input) n → IsDecent n (by_home_entry x input from)
home_entry-decent n table_entry.Blank input from h = tt
home_entry-decent n table_entry.Stall input from h = tt
home_entry-decent n (table_entry.Act next actions) input from h = h

line-decent : (n : ℕ) (cells : cache_table.Cells) (cache : CacheId) (input : LineInput) (from : Origin) (lines : List Line) (found : Option Line) →
    found ≡ slice_get lines cache.0 → AllCanWait lines → IsBelow (requestor_of input) n → IsDecent n (at_line cells cache input from found)
line-decent n cells cache input from lines None e h g = tt
line-decent n cells cache input from lines (Some line) e h g =
    line_entry-decent n (cache_table.cell cells line.state (event_at_line line.acks input)) cache line input from g (wait-get lines cache.0 line h e)

ask-decent : (n : ℕ) (cells : cache_table.Cells) (cache : CacheId) (a : Ask) (lines : List Line) (found : Option Line) → found ≡ slice_get lines cache.0 →
    AllCanWait lines → IsDecent n (at_ask cells cache a found)
ask-decent n cells cache a lines None e h = tt
ask-decent n cells cache a lines (Some line) e h =
    by-test (λ t. IsDecent n (if t then Refused outcome.Idle else at_line cells cache (line_input.Ask a) origin.Core (Some line))) (is_idle a line.state)
    (λ t. tt) (λ t. line-decent n cells cache (line_input.Ask a) origin.Core lines (Some line) e h tt)

request-decent : (n : ℕ) (cells : directory_table.Cells) (i : ℕ) (b : BlockState) (found : Option Request) → found ≡ slice_get b.traffic.requests i →
    IsBlockAmong n b → IsDecent n (at_request cells i b.home found)
request-decent n cells i b None e w = tt
request-decent n cells i b (Some r) e w =
    home_entry-decent n (directory_table.cell cells b.home.state (event_at_home b.home.owner b.home.sharers (home_input.Request r))) (home_input.Request r)
    (origin.Request i) (AllFrom-get n b.traffic.requests i r w.requests e)

requestor-below : (n : ℕ) (kind : ForwardKind) (to : CacheId) → to.0 < n → IsBelow (forward_requestor kind to) n
requestor-below n FwdGetS to h = h
requestor-below n FwdGetM to h = h
requestor-below n Inv to h = h
requestor-below n PutAck to h = tt

head-below : (n : ℕ) (fs : List Forward) (f : Forward) → NameBelow n fs → Some f ≡ slice_get fs 0 → f.requestor.0 < n
head-below n [] f h e = absurd (cc)
head-below n (g ∷ fs) f h e = let same : f ≡ g = cc in subst (λ (x : Forward). x.requestor.0 < n) (sym same) h.0

forward-decent : (n : ℕ) (cells : cache_table.Cells) (cache : CacheId) (b : BlockState) (found : Option Forward) →
    found ≡ slice_get (link b.traffic cache.0) 0 → Received n b → IsDecent n (at_forward cells cache b.lines found)
forward-decent n cells cache b None e h = tt
forward-decent n cells cache b (Some f) e h =
    line-decent n cells cache (line_input.Forward f) (origin.Head cache) b.lines (slice_get b.lines cache.0) refl h.lines
    (requestor-below n f.kind f.requestor (head-below n (link b.traffic cache.0) f (links-at n b.traffic.links cache.0 h.wires.links) e))

response-decent : (n : ℕ) (tables : Tables) (i : ℕ) (b : BlockState) (found : Option Response) → Received n b → IsDecent n (at_response tables i b found)
response-decent n tables i b None h = tt
response-decent n tables i b (Some (Data by Dir value acks)) h =
    home_entry-decent n (directory_table.cell tables.directory b.home.state (event_at_home b.home.owner b.home.sharers (home_input.Data value)))
    (home_input.Data value) (origin.Response i) tt
response-decent n tables i b (Some (Data by (Cache to) value acks)) h =
    line-decent n tables.cache to (line_input.Response (Data by (Cache to) value acks)) (origin.Response i) b.lines (slice_get b.lines to.0) refl h.lines tt
response-decent n tables i b (Some (InvAck by to)) h =
    line-decent n tables.cache to (line_input.Response (InvAck by to)) (origin.Response i) b.lines (slice_get b.lines to.0) refl h.lines tt
response-decent n tables i b (Some (DataExcl to value)) h =
    line-decent n tables.cache to (line_input.Response (DataExcl to value)) (origin.Response i) b.lines (slice_get b.lines to.0) refl h.lines tt

-- each step keeps it
pub transition-received : (n : ℕ) (tables : Tables) (s : Step) (b : BlockState) → IsBlockAmong n b → Received n b → Received n (transition tables s b).block
transition-received n tables (step.Ask cache block a) b w h =
    decided-received n (at_ask tables.cache cache a (slice_get b.lines cache.0)) b
    (ask-decent n tables.cache cache a b.lines (slice_get b.lines cache.0) refl h.lines) h
transition-received n tables (step.Request block i) b w h =
    decided-received n (at_request tables.directory i b.home (slice_get b.traffic.requests i)) b
    (request-decent n tables.directory i b (slice_get b.traffic.requests i) refl w) h
transition-received n tables (step.Forward block cache) b w h =
    decided-received n (at_forward tables.cache cache b.lines (slice_get (link b.traffic cache.0) 0)) b
    (forward-decent n tables.cache cache b (slice_get (link b.traffic cache.0) 0) refl h) h
transition-received n tables (step.Response block i) b w h =
    decided-received n (at_response tables i b (slice_get b.traffic.responses i)) b (response-decent n tables i b (slice_get b.traffic.responses i) h) h

-- OPENED
empty-links : (n m : ℕ) → LinksBelow n (replicate m [])
empty-links n zero = tt
empty-links n (suc m) = (tt, empty-links n m)

opened-waits : (m : ℕ) → AllCanWait (replicate m opened_line)
opened-waits zero = tt
opened-waits (suc m) = (tt, opened-waits m)

pub opened-received : (n value : ℕ) → Received n (opened_block n value)
opened-received n value = record { wires = record { links = empty-links n n; responses = tt }; lines = opened-waits n }
