-- A step names nobody whose line isn't kept, but the cache that it acts at.
use Rattle.std.proofs.Common.{◌≤◌, ◌≡◌, ℕ, ◌+◌, List, [], ◌∷◌, ◌++◌, Option}
use Rattle.std.proofs.Common.{Some, None, Bool, true, false, not, ◌&&◌, ◌==◌, if◌then◌else◌}
use Rattle.std.proofs.Common.{length, get_or, set, remove, replicate, refl, sym, subst, ◌∙◌, zero, suc, arith, inl, inr}
use Rattle.std.proofs.lemmas.Bool.{cases_eq, cases_lt}
use Rattle.std.proofs.lemmas.List.{get_or_past, get_or-set_other, get_or-set_same, length-set}
use Rattle.base.specs.declared.ids.CacheId.{CacheId}
use Rattle.base.specs.declared.ids.Place.TheVariants.{Dir, Cache}
use Rattle.network.specs.declared.message.ForwardKind.{ForwardKind}
use Rattle.network.specs.declared.message.ForwardKind.TheVariants as forward
use Rattle.network.specs.declared.message.Response.{Response}
use Rattle.network.specs.declared.message.Response.TheVariants.{Data, InvAck, DataExcl}
use Rattle.network.specs.declared.message.Message.{Message}
use Rattle.network.specs.declared.message.Message.TheVariants as message
use Rattle.network.specs.Traffic.{Traffic, link, sent, all_sent}
use Rattle.cache_table.specs.declared.actions.CacheAction.{CacheAction}
use Rattle.cache_table.specs.declared.actions.CacheAction.TheVariants as line_action
use Rattle.directory_table.specs.declared.actions.DirectoryAction.{DirectoryAction}
use Rattle.directory_table.specs.declared.actions.DirectoryAction.TheVariants as action
use Rattle.control.specs.declared.home.Home.{Home}
use Rattle.control.specs.HomeEffect.{home_message, home_messages, home_changed, home_moved, invalidation}
use Rattle.control.specs.HomeEffect.{invalidations, link_message, owner_message, with_owner, with_sharer}
use Rattle.control.specs.LineEffect.{line_message, line_messages}
use Rattle.control.proofs.HomeSends.{no-flag}
use Rattle.machine.specs.declared.decision.Origin.{Origin}
use Rattle.machine.specs.declared.decision.Origin.TheVariants as origin
use Rattle.machine.specs.Transition.{without}
use Rattle.rows.specs.Flags.{is_set}
use Rattle.blocks.specs.inner.Named.{Each, IsKept, IsKeptIf, NamesOnLink, NamesReceiver, NamesSender, HomeNames, TrafficNames}

Each-remove : {X : Type 0} (P : X → Type 0) (xs : List X) (i : ℕ) → Each P xs → Each P (remove xs i)
Each-remove P [] zero h = tt
Each-remove P [] (suc i) h = tt
Each-remove P (x ∷ xs) zero h = h.1
Each-remove P (x ∷ xs) (suc i) h = (h.0, Each-remove P xs i h.1)

Each-append : {X : Type 0} (P : X → Type 0) (xs ys : List X) → Each P xs → Each P ys → Each P (xs ++ ys)
Each-append P [] ys h g = g
Each-append P (x ∷ xs) ys h g = (h.0, Each-append P xs ys h.1 g)

Each-weaker : {X : Type 0} (P Q : X → Type 0) (xs : List X) → ((x : X) → P x → Q x) → Each P xs → Each Q xs
Each-weaker P Q [] f h = tt
Each-weaker P Q (x ∷ xs) f h = (f x h.0, Each-weaker P Q xs f h.1)

-- what holds of what is written at a place and of what stood elsewhere holds of all
set-holds : {X : Type 0} (P : ℕ → X → Type 0) (xs : List X) (i : ℕ) (x d : X) → ((k : ℕ) → P k (get_or xs k d)) → P i x →
    (k : ℕ) → P k (get_or (set xs i x) k d)
set-holds P xs i x d all new k =
    elim (cases_eq k i) [
      | inl same ↦ elim (cases_lt i (length xs)) [
        | inl below ↦ rw (same, get_or-set_same xs i x d below) new
        | inr past ↦
            let beyond : length xs ≤ k = omega (arith, same, past) in
            rw (get_or_past (set xs i x) k d (omega (arith, same, past, length-set xs i x)), ← get_or_past xs k d beyond) (all k)
      ]
      | inr other ↦ rw (get_or-set_other xs i k x d other) (all k)
    ]

-- more lines may be kept
abbrev pub KeepsMore : List Bool → List Bool → Type 0
KeepsMore old new = (k : ℕ) → IsKept old k → IsKept new k

kept_if-more : (old new : List Bool) (c : Option CacheId) → KeepsMore old new → IsKeptIf old c → IsKeptIf new c
kept_if-more old new None more h = tt
kept_if-more old new (Some c) more h = more c.0 h

receiver-more : (old new : List Bool) (r : Response) → KeepsMore old new → NamesReceiver old r → NamesReceiver new r
receiver-more old new (Data from Dir value acks) more h = tt
receiver-more old new (Data from (Cache to) value acks) more h = more to.0 h
receiver-more old new (InvAck from to) more h = more to.0 h
receiver-more old new (DataExcl to value) more h = more to.0 h

pub home-more : (old new : List Bool) (home : Home) → KeepsMore old new → HomeNames old home → HomeNames new home
home-more old new home more h = record {
  owner = kept_if-more old new home.owner more h.owner;
  sharers = λ k s. more k (h.sharers k s);
}

pub traffic-more : (old new : List Bool) (w : Traffic) → KeepsMore old new → TrafficNames old w → TrafficNames new w
traffic-more old new w more h = record {
  requests = Each-weaker (NamesSender old) (NamesSender new) w.requests (λ r n. more r.from.0 n) h.requests;
  links = λ c. Each-weaker (NamesOnLink old c) (NamesOnLink new c) (link w c)
      (λ f n. record { receiver = more c n.receiver; requestor = more f.requestor.0 n.requestor }) (h.links c);
  responses = Each-weaker (NamesReceiver old) (NamesReceiver new) w.responses (λ r n. receiver-more old new r more n) h.responses;
}

-- one more line is kept
pub more-set : (lines : List Bool) (cache : ℕ) → KeepsMore lines (set lines cache true)
more-set lines cache k h = set-holds (λ j flag. is_set lines j ≡ true → flag ≡ true) lines cache true false (λ j e. e) (λ e. refl) k h

-- what is taken off the wires names nobody any more
pub traffic-without : (lines : List Bool) (from : Origin) (w : Traffic) → TrafficNames lines w → TrafficNames lines (without from w)
traffic-without lines origin.Core w h = h
traffic-without lines (origin.Request i) w h = record {
  requests = Each-remove (NamesSender lines) w.requests i h.requests;
  links = h.links;
  responses = h.responses;
}
traffic-without lines (origin.Head c) w h = record {
  requests = h.requests;
  links = set-holds (λ k fs. Each (NamesOnLink lines k) fs) w.links c.0 (remove (link w c.0) 0) [] h.links
      (Each-remove (NamesOnLink lines c.0) (link w c.0) 0 (h.links c.0));
  responses = h.responses;
}
traffic-without lines (origin.Response i) w h = record {
  requests = h.requests;
  links = h.links;
  responses = Each-remove (NamesReceiver lines) w.responses i h.responses;
}

-- whom a message names has a line that is kept
abbrev Names : List Bool → Message → Type 0
Names lines (message.Request r) = NamesSender lines r
Names lines (message.Forward to f) = NamesOnLink lines to.0 f
Names lines (message.Response r) = NamesReceiver lines r

traffic-sent : (lines : List Bool) (m : Message) (w : Traffic) → Names lines m → TrafficNames lines w → TrafficNames lines (sent m w)
traffic-sent lines (message.Request r) w n h = record {
  requests = Each-append (NamesSender lines) w.requests (r ∷ []) h.requests (n, tt);
  links = h.links;
  responses = h.responses;
}
traffic-sent lines (message.Forward to f) w n h = record {
  requests = h.requests;
  links = set-holds (λ k fs. Each (NamesOnLink lines k) fs) w.links to.0 (link w to.0 ++ f ∷ []) [] h.links
      (Each-append (NamesOnLink lines to.0) (link w to.0) (f ∷ []) (h.links to.0) (n, tt));
  responses = h.responses;
}
traffic-sent lines (message.Response r) w n h = record {
  requests = h.requests;
  links = h.links;
  responses = Each-append (NamesReceiver lines) w.responses (r ∷ []) h.responses (n, tt);
}

traffic-all_sent : (lines : List Bool) (ms : List Message) (w : Traffic) → Each (Names lines) ms → TrafficNames lines w →
    TrafficNames lines (all_sent ms w)
traffic-all_sent lines [] w n h = h
traffic-all_sent lines (m ∷ ms) w n h = traffic-all_sent lines ms (sent m w) n.1 (traffic-sent lines m w n.0 h)

line_message-names : (lines : List Bool) (cache : CacheId) (value : ℕ) (to : Option CacheId) (a : CacheAction) → IsKept lines cache.0 →
    IsKeptIf lines to → Each (Names lines) (line_message cache value to a)
line_message-names lines cache value to line_action.GetS h g = (h, tt)
line_message-names lines cache value to line_action.GetM h g = (h, tt)
line_message-names lines cache value to line_action.PutS h g = (h, tt)
line_message-names lines cache value to line_action.PutM h g = (h, tt)
line_message-names lines cache value None line_action.InvAck h g = tt
line_message-names lines cache value (Some c) line_action.InvAck h g = (g, tt)
line_message-names lines cache value None line_action.DataReq h g = tt
line_message-names lines cache value (Some c) line_action.DataReq h g = (g, tt)
line_message-names lines cache value to line_action.DataDir h g = (tt, tt)

line_messages-names : (lines : List Bool) (cache : CacheId) (value : ℕ) (to : Option CacheId) (actions : List CacheAction) → IsKept lines cache.0 →
    IsKeptIf lines to → Each (Names lines) (line_messages cache value to actions)
line_messages-names lines cache value to [] h g = tt
line_messages-names lines cache value to (a ∷ actions) h g =
    Each-append (Names lines) (line_message cache value to a) (line_messages cache value to actions) (line_message-names lines cache value to a h g)
    (line_messages-names lines cache value to actions h g)

-- what a line sends names its own cache and whom it answers
pub traffic-line_sent : (lines : List Bool) (cache : CacheId) (value : ℕ) (to : Option CacheId) (actions : List CacheAction) (w : Traffic) →
    IsKept lines cache.0 → IsKeptIf lines to → TrafficNames lines w → TrafficNames lines (all_sent (line_messages cache value to actions) w)
traffic-line_sent lines cache value to actions w h g names =
    traffic-all_sent lines (line_messages cache value to actions) w (line_messages-names lines cache value to actions h g) names

invalidation-names : (lines : List Bool) (requestor : CacheId) (k : ℕ) (flag : Bool) → IsKept lines requestor.0 → (flag ≡ true → IsKept lines k) →
    Each (Names lines) (invalidation requestor (record { 0 = k }) flag)
invalidation-names lines requestor k false h f = tt
invalidation-names lines requestor k true h f = by_case (k == requestor.0)
  where
    by_case : (same : Bool)
        → Each (Names lines) (if true && not same then link_message (record { 0 = k }) forward.Inv requestor ∷ [] else [])
    by_case true = tt
    by_case false = (record { receiver = f refl; requestor = h }, tt)

invalidations-names : (lines : List Bool) (requestor : CacheId) (i : ℕ) (flags : List Bool) → IsKept lines requestor.0 →
    ((k : ℕ) → get_or flags k false ≡ true → IsKept lines (i + k)) → Each (Names lines) (invalidations requestor i flags)
invalidations-names lines requestor i [] h f = tt
invalidations-names lines requestor i (flag ∷ flags) h f =
    Each-append (Names lines) (invalidation requestor (record { 0 = i }) flag) (invalidations requestor (i + 1) flags)
    (invalidation-names lines requestor i flag h (λ e. subst (IsKept lines) (omega arith) (f 0 e)))
    (invalidations-names lines requestor (i + 1) flags h (λ k e. subst (IsKept lines) (omega arith) (f (suc k) e)))

owner-names : (lines : List Bool) (owner : Option CacheId) (kind : ForwardKind) (to : CacheId) → IsKeptIf lines owner → IsKept lines to.0 →
    Each (Names lines) (owner_message owner kind to)
owner-names lines None kind to h g = tt
owner-names lines (Some owner) kind to h g = (record { receiver = h; requestor = g }, tt)

home_message-names : (lines : List Bool) (from : Option CacheId) (a : DirectoryAction) (home : Home) → IsKeptIf lines from → HomeNames lines home →
    Each (Names lines) (home_message from a home)
home_message-names lines None a home g h = tt
home_message-names lines (Some to) action.DataReq home g h = (g, tt)
home_message-names lines (Some to) action.DataExcl home g h = (g, tt)
home_message-names lines (Some to) action.DataAcks home g h = (g, tt)
home_message-names lines (Some to) action.InvSharers home g h =
    invalidations-names lines to 0 home.sharers g (λ k e. subst (IsKept lines) (omega arith) (h.sharers k e))
home_message-names lines (Some to) action.FwdGetS home g h = owner-names lines home.owner forward.FwdGetS to h.owner g
home_message-names lines (Some to) action.FwdGetM home g h = owner-names lines home.owner forward.FwdGetM to h.owner g
home_message-names lines (Some to) action.PutAck home g h = (record { receiver = g; requestor = g }, tt)
home_message-names lines (Some to) action.AddReq home g h = tt
home_message-names lines (Some to) action.AddOwner home g h = tt
home_message-names lines (Some to) action.RemoveReq home g h = tt
home_message-names lines (Some to) action.ClearSharers home g h = tt
home_message-names lines (Some to) action.SetOwner home g h = tt
home_message-names lines (Some to) action.ClearOwner home g h = tt
home_message-names lines (Some to) action.CopyData home g h = tt

with_sharer-names : (lines : List Bool) (cache : CacheId) (flag : Bool) (home : Home) → IsKept lines cache.0 → HomeNames lines home →
    HomeNames lines (with_sharer cache flag home)
with_sharer-names lines cache flag home g h = record {
  owner = h.owner;
  sharers = set-holds (λ k shared. shared ≡ true → IsKept lines k) home.sharers cache.0 flag false h.sharers (λ e. g);
}

no_sharers-names : (lines : List Bool) (home : Home) → HomeNames lines home →
    HomeNames lines (record home { sharers = replicate (length home.sharers) false })
no_sharers-names lines home h = record {
  owner = h.owner;
  sharers = λ k e. let wrong : false ≡ true = sym (no-flag (length home.sharers) k) ∙ e in cc;
}

no_owner-names : (lines : List Bool) (home : Home) → HomeNames lines home → HomeNames lines (record home { owner = None })
no_owner-names lines home h = record { owner = tt; sharers = h.sharers }

with_owner-names : (lines : List Bool) (owner : Option CacheId) (home : Home) → IsKeptIf lines owner → HomeNames lines home →
    HomeNames lines (with_owner owner home)
with_owner-names lines None home g h = h
with_owner-names lines (Some owner) home g h = with_sharer-names lines owner true home g h

changed-names : (lines : List Bool) (from : Option CacheId) (value : Option ℕ) (a : DirectoryAction) (home : Home) → IsKeptIf lines from →
    HomeNames lines home → HomeNames lines (home_changed from value a home)
changed-names lines (Some c) value action.AddReq home g h = with_sharer-names lines c true home g h
changed-names lines (Some c) value action.RemoveReq home g h = with_sharer-names lines c false home g h
changed-names lines (Some c) value action.SetOwner home g h = record { owner = g; sharers = h.sharers }
changed-names lines None value action.AddReq home g h = h
changed-names lines None value action.RemoveReq home g h = h
changed-names lines None value action.SetOwner home g h = h
changed-names lines None value action.AddOwner home g h = with_owner-names lines home.owner home h.owner h
changed-names lines (Some c) value action.AddOwner home g h = with_owner-names lines home.owner home h.owner h
changed-names lines None value action.ClearSharers home g h = no_sharers-names lines home h
changed-names lines (Some c) value action.ClearSharers home g h = no_sharers-names lines home h
changed-names lines None value action.ClearOwner home g h = no_owner-names lines home h
changed-names lines (Some c) value action.ClearOwner home g h = no_owner-names lines home h
changed-names lines None (Some v) action.CopyData home g h = record { owner = h.owner; sharers = h.sharers }
changed-names lines (Some c) (Some v) action.CopyData home g h = record { owner = h.owner; sharers = h.sharers }
changed-names lines None None action.CopyData home g h = h
changed-names lines (Some c) None action.CopyData home g h = h
changed-names lines None value action.DataReq home g h = h
changed-names lines None value action.DataExcl home g h = h
changed-names lines (Some c) value action.DataReq home g h = h
changed-names lines (Some c) value action.DataExcl home g h = h
changed-names lines None value action.DataAcks home g h = h
changed-names lines (Some c) value action.DataAcks home g h = h
changed-names lines None value action.InvSharers home g h = h
changed-names lines (Some c) value action.InvSharers home g h = h
changed-names lines None value action.FwdGetS home g h = h
changed-names lines (Some c) value action.FwdGetS home g h = h
changed-names lines None value action.FwdGetM home g h = h
changed-names lines (Some c) value action.FwdGetM home g h = h
changed-names lines None value action.PutAck home g h = h
changed-names lines (Some c) value action.PutAck home g h = h

-- whatever its actions, a home names whom it named and the sender
pub moved-names : (lines : List Bool) (from : Option CacheId) (value : Option ℕ) (actions : List DirectoryAction) (home : Home) →
    IsKeptIf lines from → HomeNames lines home → HomeNames lines (home_moved from value actions home)
moved-names lines from value [] home g h = h
moved-names lines from value (a ∷ actions) home g h =
    moved-names lines from value actions (home_changed from value a home) g (changed-names lines from value a home g h)

home_messages-names : (lines : List Bool) (from : Option CacheId) (value : Option ℕ) (actions : List DirectoryAction) (home : Home) →
    IsKeptIf lines from → HomeNames lines home → Each (Names lines) (home_messages from value actions home)
home_messages-names lines from value [] home g h = tt
home_messages-names lines from value (a ∷ actions) home g h =
    Each-append (Names lines) (home_message from a home) (home_messages from value actions (home_changed from value a home))
    (home_message-names lines from a home g h)
    (home_messages-names lines from value actions (home_changed from value a home) g (changed-names lines from value a home g h))

-- what a home sends names whom it names, and whom it answers
pub traffic-home_sent : (lines : List Bool) (from : Option CacheId) (value : Option ℕ) (actions : List DirectoryAction) (home : Home) (w : Traffic) →
    IsKeptIf lines from → HomeNames lines home → TrafficNames lines w → TrafficNames lines (all_sent (home_messages from value actions home) w)
traffic-home_sent lines from value actions home w g h names =
    traffic-all_sent lines (home_messages from value actions home) w (home_messages-names lines from value actions home g h) names
