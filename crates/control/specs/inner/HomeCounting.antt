use Rattle.std.specs.Prelude.{◌≡◌, ◌≢◌, ◌≤◌, ℕ, zero, suc, ◌+◌, length, slice_index, List, [], ◌∷◌, ◌++◌, replicate}
use Rattle.std.specs.Prelude.{Option, Some, None, Bool, true, false, not, ◌&&◌, ◌||◌, ◌==◌, nat_lt, if◌then◌else◌, IsOk, OnOk}
use Rattle.std.specs.declared.result.Result.{Result}
use Rattle.base.specs.declared.ids.CacheId.{CacheId}
use Rattle.network.specs.Room.{Room, UsesRoomFor, Wiring, one_if}
use Rattle.directory_table.specs.declared.actions.DirectoryAction.{DirectoryAction}
use Rattle.directory_table.specs.declared.actions.DirectoryAction.TheVariants as action
use Rattle.control.specs.declared.home.Home.{Home}
use Rattle.control.specs.HomeEvents.{owns}
use Rattle.control.specs.Sharing.{shares}

-- how many responses one action of a home sends
abbrev pub replies_of : DirectoryAction → ℕ
replies_of action.DataReq = 1
replies_of action.DataAcks = 1
replies_of action.DataExcl = 1
replies_of other = 0

-- how many responses the actions of a home send
abbrev pub replies_by : List DirectoryAction → ℕ
replies_by [] = 0
replies_by (a ∷ actions) = replies_of a + replies_by actions

-- whether an action of a home may send on the link to the sender of its request
abbrev pub may_reach_sender : DirectoryAction → Bool
may_reach_sender action.FwdGetS = true
may_reach_sender action.FwdGetM = true
may_reach_sender action.PutAck = true
may_reach_sender other = false

-- whether one of the actions may
abbrev pub reaches_sender : List DirectoryAction → Bool
reaches_sender [] = false
reaches_sender (a ∷ actions) = may_reach_sender a || reaches_sender actions

-- whether it may send on the link to an owner that isn't the sender
abbrev pub may_reach_owner : DirectoryAction → Bool
may_reach_owner action.FwdGetS = true
may_reach_owner action.FwdGetM = true
may_reach_owner action.InvSharers = true
may_reach_owner other = false

-- whether one of the actions may
abbrev pub reaches_owner : List DirectoryAction → Bool
reaches_owner [] = false
reaches_owner (a ∷ actions) = may_reach_owner a || reaches_owner actions

-- whether an action of a home is the one that sends to the sharers
abbrev pub is_invalidation : DirectoryAction → Bool
is_invalidation action.InvSharers = true
is_invalidation other = false

-- whether one of the actions is
abbrev pub invalidates : List DirectoryAction → Bool
invalidates [] = false
invalidates (a ∷ actions) = is_invalidation a || invalidates actions

-- whether an action of a home sends on the link to a cache, where that cache is a sharer or not
abbrev pub is_sent_to : CacheId → CacheId → Option CacheId → Bool → DirectoryAction → Bool
is_sent_to cache from owner sharer action.InvSharers = sharer && not (cache.0 == from.0)
is_sent_to cache from owner sharer action.FwdGetS = owns owner cache
is_sent_to cache from owner sharer action.FwdGetM = owns owner cache
is_sent_to cache from owner sharer action.PutAck = from.0 == cache.0
is_sent_to cache from owner sharer other = false

-- the owner after an action
abbrev pub owner_left : CacheId → DirectoryAction → Option CacheId → Option CacheId
owner_left from action.ClearOwner owner = None
owner_left from action.SetOwner owner = Some from
owner_left from other owner = owner

-- whether a cache that has a flag is a sharer after an action
abbrev pub sharer_left : CacheId → CacheId → Option CacheId → DirectoryAction → Bool → Bool
sharer_left cache from owner action.AddReq sharer = (from.0 == cache.0) || sharer
sharer_left cache from owner action.RemoveReq sharer = not (from.0 == cache.0) && sharer
sharer_left cache from owner action.AddOwner sharer = owns owner cache || sharer
sharer_left cache from owner action.ClearSharers sharer = false
sharer_left cache from owner other sharer = sharer

-- how many messages the actions of a home put on the link to a cache, which has a flag or not, and is a sharer or not
abbrev pub forwards_by : Bool → CacheId → CacheId → Option CacheId → Bool → List DirectoryAction → ℕ
forwards_by flagged cache from owner sharer [] = 0
forwards_by flagged cache from owner sharer (a ∷ actions) =
    one_if (is_sent_to cache from owner sharer a)
    + forwards_by flagged cache from (owner_left from a owner) (flagged && sharer_left cache from owner a sharer) actions

-- the same for a cache at a home
abbrev pub forwards_to : CacheId → CacheId → List DirectoryAction → Home → ℕ
forwards_to cache from actions home = forwards_by (nat_lt cache.0 (length home.sharers)) cache from home.owner (shares home.sharers cache.0) actions

-- on the link to a cache there is room for so many messages
abbrev pub HasRoomOnLink : ℕ → CacheId → List DirectoryAction → Home → Room → Type 0
HasRoomOnLink k from actions home room = forwards_to (record { 0 = k }) from actions home ≤ slice_index room.links k

-- there is on the owner's, if there is an owner that isn't the sender
abbrev pub HasRoomToOwner : CacheId → List DirectoryAction → Home → Room → Type 0
HasRoomToOwner from actions home room = (k : ℕ) → owns home.owner (record { 0 = k }) ≡ true → k ≢ from.0 → HasRoomOnLink k from actions home room

-- there is on that of each sharer that is neither the owner nor the sender
abbrev pub HasRoomToSharers : CacheId → List DirectoryAction → Home → Room → Type 0
HasRoomToSharers from actions home room =
    (k : ℕ) → owns home.owner (record { 0 = k }) ≡ false → k ≢ from.0 → shares home.sharers k ≡ true → HasRoomOnLink k from actions home room

-- there is room for so many responses, and on the link to each cache for so many messages
pub record HasRoomToReply (from : CacheId) (actions : List DirectoryAction) (home : Home) (room : Room) : Type 0 where
  pub responses : replies_by actions ≤ room.responses
  pub links : (k : ℕ) → HasRoomOnLink k from actions home room

-- there is room on the link to each sharer that is neither the owner nor the sender, unless that was refused, which it isn't where there is
-- room on all links; no list has changed
pub record MakesRoomToSharers {T E : Type 0} (from : CacheId) (actions : List DirectoryAction) (home : Home) (result : Result T E)
    (old new : Wiring) : Type 0 where
  pub traffic : new.traffic ≡ old.traffic
  pub marks : new.marks ≡ old.marks
  pub ok : OnOk result (HasRoomToSharers from actions home new.room)
  pub succeeds : ((k : ℕ) → HasRoomOnLink k from actions home old.room) → IsOk result
  pub room : UsesRoomFor [] old.room new.room

-- the link to a cache, as often as the actions put a message on it
abbrev pub links_to : CacheId → CacheId → List DirectoryAction → Home → List CacheId
links_to cache from actions home = replicate (forwards_to cache from actions home) cache

-- the same, if there is such a cache
abbrev pub links_to_any : Option CacheId → CacheId → List DirectoryAction → Home → List CacheId
links_to_any None from actions home = []
links_to_any (Some cache) from actions home = links_to cache from actions home

-- the same for each cache below a number
abbrev pub links_below : ℕ → CacheId → List DirectoryAction → Home → List CacheId
links_below zero from actions home = []
links_below (suc n) from actions home = links_below n from actions home ++ links_to (record { 0 = n }) from actions home

-- a cache for which the home has no flag
abbrev pub unflagged : CacheId → Home → Option CacheId
unflagged cache home = if nat_lt cache.0 (length home.sharers) then None else Some cache

-- an owner without a flag
abbrev pub unflagged_owner : Option CacheId → Home → Option CacheId
unflagged_owner None home = None
unflagged_owner (Some owner) home = unflagged owner home

-- a sender without a flag that isn't the owner
abbrev pub unflagged_sender : CacheId → Home → Option CacheId
unflagged_sender from home = if owns home.owner from then None else unflagged from home

-- the link of each message that the actions of a home send
abbrev pub links_of : CacheId → List DirectoryAction → Home → List CacheId
links_of from actions home =
    links_below (length home.sharers) from actions home
    ++ (links_to_any (unflagged_owner home.owner home) from actions home ++ links_to_any (unflagged_sender from home) from actions home)
