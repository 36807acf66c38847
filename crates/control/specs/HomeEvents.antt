use Rattle.std.specs.Prelude.{List, Option, Some, None, Bool, false, if◌then◌else◌, ◌==◌}
use Rattle.base.specs.declared.ids.CacheId.{CacheId}
use Rattle.network.specs.declared.message.RequestKind.{RequestKind}
use Rattle.network.specs.declared.message.RequestKind.TheVariants as request
use Rattle.directory_table.specs.declared.event.DirectoryEvent.{DirectoryEvent}
use Rattle.directory_table.specs.declared.event.DirectoryEvent.TheVariants as home_event
use Rattle.control.specs.declared.home.HomeInput.{HomeInput}
use Rattle.control.specs.declared.home.HomeInput.TheVariants as home_input
use Rattle.control.specs.Sharing.{is_sole}

-- whether a cache is the owner
abbrev pub owns : Option CacheId → CacheId → Bool
owns None cache = false
owns (Some owner) cache = owner.0 == cache.0

-- the event that a request is at a home with this owner and these sharers
abbrev pub request_event : Option CacheId → List Bool → RequestKind → CacheId → DirectoryEvent
request_event owner sharers request.GetS from = home_event.GetS
request_event owner sharers request.GetM from = home_event.GetM
request_event owner sharers request.PutS from = if is_sole from.0 sharers then home_event.PutSLast else home_event.PutSNotLast
request_event owner sharers (request.PutM value) from = if owns owner from then home_event.PutMOwner else home_event.PutMNonOwner

-- the event that an input is at such a home
abbrev pub event_at_home : Option CacheId → List Bool → HomeInput → DirectoryEvent
event_at_home owner sharers (home_input.Request r) = request_event owner sharers r.kind r.from
event_at_home owner sharers (home_input.Data value) = home_event.Data
