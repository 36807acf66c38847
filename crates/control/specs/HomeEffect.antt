use Rattle.std.specs.Prelude.{ℕ, ◌+◌, List, [], ◌∷◌, ◌++◌, Option, Some, None, Bool, true, false, not, ◌&&◌, if◌then◌else◌, ◌==◌}
use Rattle.std.specs.Prelude.{length, replicate, slice_set}
use Rattle.base.specs.declared.ids.CacheId.{CacheId}
use Rattle.base.specs.declared.ids.Place.TheVariants.{Dir, Cache}
use Rattle.network.specs.declared.message.RequestKind.{RequestKind}
use Rattle.network.specs.declared.message.RequestKind.TheVariants as request
use Rattle.network.specs.declared.message.ForwardKind.{ForwardKind}
use Rattle.network.specs.declared.message.ForwardKind.TheVariants as forward
use Rattle.network.specs.declared.message.Response.TheVariants.{Data, DataExcl}
use Rattle.network.specs.declared.message.Message.{Message}
use Rattle.network.specs.declared.message.Message.TheVariants as message
use Rattle.directory_table.specs.declared.actions.DirectoryAction.{DirectoryAction}
use Rattle.directory_table.specs.declared.actions.DirectoryAction.TheVariants as action
use Rattle.directory_table.specs.declared.state.DirectoryState.{DirectoryState}
use Rattle.control.specs.declared.home.Home.{Home}
use Rattle.control.specs.declared.home.HomeInput.{HomeInput}
use Rattle.control.specs.declared.home.HomeInput.TheVariants as home_input
use Rattle.control.specs.Sharing.{others_from}

-- the requestor, which only a request has: its sender
abbrev pub sender_of : HomeInput → Option CacheId
sender_of (home_input.Request r) = Some r.from
sender_of (home_input.Data value) = None

-- the value that a request brings
abbrev pub value_in : RequestKind → Option ℕ
value_in (request.PutM value) = Some value
value_in request.GetS = None
value_in request.GetM = None
value_in request.PutS = None

-- the value that an input brings
abbrev pub brought_by : HomeInput → Option ℕ
brought_by (home_input.Request r) = value_in r.kind
brought_by (home_input.Data value) = Some value

-- the block for a cache, with the number of acks that it has to wait for
abbrev pub data_message : CacheId → ℕ → ℕ → Message
data_message to value acks = message.Response (Data Dir (Cache to) value acks)

-- the block for a cache that is to be its owner
abbrev pub exclusive_message : CacheId → ℕ → Message
exclusive_message to value = message.Response (DataExcl to value)

-- a message on the link to a cache
abbrev pub link_message : CacheId → ForwardKind → CacheId → Message
link_message to kind requestor = message.Forward to (record { kind = kind; requestor = requestor })

-- the same on the owner's link, if there is an owner
abbrev pub owner_message : Option CacheId → ForwardKind → CacheId → List Message
owner_message None kind requestor = []
owner_message (Some owner) kind requestor = link_message owner kind requestor ∷ []

-- an Inv to a cache, if it is a sharer and not the requestor
abbrev pub invalidation : CacheId → CacheId → Bool → List Message
invalidation requestor cache sharer = if sharer && not (cache.0 == requestor.0) then link_message cache forward.Inv requestor ∷ [] else []

-- an Inv to each sharer but the requestor, in rising order, where the flags are those of the caches from a number on
abbrev pub invalidations : CacheId → ℕ → List Bool → List Message
invalidations requestor i [] = []
invalidations requestor i (flag ∷ flags) = invalidation requestor (record { 0 = i }) flag ++ invalidations requestor (i + 1) flags

-- what one action sends from a home: only a request has somebody to answer
abbrev pub home_message : Option CacheId → DirectoryAction → Home → List Message
home_message None a home = []
home_message (Some to) action.DataReq home = data_message to home.memory 0 ∷ []
home_message (Some to) action.DataAcks home = data_message to home.memory (others_from 0 to.0 home.sharers) ∷ []
home_message (Some to) action.DataExcl home = exclusive_message to home.memory ∷ []
home_message (Some to) action.InvSharers home = invalidations to 0 home.sharers
home_message (Some to) action.FwdGetS home = owner_message home.owner forward.FwdGetS to
home_message (Some to) action.FwdGetM home = owner_message home.owner forward.FwdGetM to
home_message (Some to) action.PutAck home = link_message to forward.PutAck to ∷ []
home_message (Some to) other home = []

-- with a cache among the sharers, or not
abbrev pub with_sharer : CacheId → Bool → Home → Home
with_sharer cache flag home = record home { sharers = slice_set home.sharers cache.0 flag }

-- with the owner among the sharers, if there is an owner
abbrev pub with_owner : Option CacheId → Home → Home
with_owner None home = home
with_owner (Some owner) home = with_sharer owner true home

-- what one action makes of a home: an action that names the requestor needs a request, one that copies needs a value
abbrev pub home_changed : Option CacheId → Option ℕ → DirectoryAction → Home → Home
home_changed (Some from) value action.AddReq home = with_sharer from true home
home_changed (Some from) value action.RemoveReq home = with_sharer from false home
home_changed (Some from) value action.SetOwner home = record home { owner = Some from }
home_changed from value action.AddOwner home = with_owner home.owner home
home_changed from value action.ClearSharers home = record home { sharers = replicate (length home.sharers) false }
home_changed from value action.ClearOwner home = record home { owner = None }
home_changed from (Some value) action.CopyData home = record home { memory = value }
home_changed from value other home = home

-- what the actions make of a home, each of what the ones before it left
abbrev pub home_moved : Option CacheId → Option ℕ → List DirectoryAction → Home → Home
home_moved from value [] home = home
home_moved from value (a ∷ actions) home = home_moved from value actions (home_changed from value a home)

-- what the actions send, in order, each from the home as the ones before it left it
abbrev pub home_messages : Option CacheId → Option ℕ → List DirectoryAction → Home → List Message
home_messages from value [] home = []
home_messages from value (a ∷ actions) home = home_message from a home ++ home_messages from value actions (home_changed from value a home)

-- what the home becomes where an input acts at it
abbrev pub home_after : HomeInput → DirectoryState → List DirectoryAction → Home → Home
home_after input next actions home = record (home_moved (sender_of input) (brought_by input) actions home) { state = next }

-- what is sent where an input acts at a home
abbrev pub home_sends : HomeInput → List DirectoryAction → Home → List Message
home_sends input actions home = home_messages (sender_of input) (brought_by input) actions home
