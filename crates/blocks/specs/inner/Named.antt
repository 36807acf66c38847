-- Whom a block names: whoever a message goes to, or is answered to, has a line that is kept.
use Rattle.std.specs.Prelude.{◌≡◌, ℕ, List, [], ◌∷◌, Option, Some, None, Bool, true, false}
use Rattle.base.specs.declared.ids.CacheId.{CacheId}
use Rattle.base.specs.declared.ids.Place.TheVariants.{Dir, Cache}
use Rattle.network.specs.declared.message.Request.{Request}
use Rattle.network.specs.declared.message.Forward.{Forward}
use Rattle.network.specs.declared.message.Response.{Response}
use Rattle.network.specs.declared.message.Response.TheVariants.{Data, InvAck, DataExcl}
use Rattle.network.specs.Traffic.{Traffic, link}
use Rattle.control.specs.declared.home.Home.{Home}
use Rattle.control.specs.HomeEffect.{sender_of}
use Rattle.control.specs.LineEffect.{requestor_of}
use Rattle.control.specs.Sharing.{shares}
use Rattle.machine.specs.declared.decision.Decision.{Decision}
use Rattle.machine.specs.declared.decision.Decision.TheVariants.{Refused, AtLine, AtHome}
use Rattle.rows.specs.Flags.{is_set}
use Rattle.blocks.specs.View.{wakes_line}

-- this holds of each
abbrev pub Each : {X : Type 0} → (X → Type 0) → List X → Type 0
Each P [] = Unit {0}
Each P (x ∷ xs) = P x × Each P xs

-- the line of a cache is kept
abbrev pub IsKept : List Bool → ℕ → Type 0
IsKept lines cache = is_set lines cache ≡ true

-- that of a cache is, if there is one
abbrev pub IsKeptIf : List Bool → Option CacheId → Type 0
IsKeptIf lines None = Unit {0}
IsKeptIf lines (Some cache) = IsKept lines cache.0

-- that of a message's receiver and that of its requestor are, where the message is on the link to a cache
pub record NamesOnLink (lines : List Bool) (cache : ℕ) (f : Forward) : Type 0 where
  pub receiver : IsKept lines cache
  pub requestor : IsKept lines f.requestor.0

-- that of a response's receiver is
abbrev pub NamesReceiver : List Bool → Response → Type 0
NamesReceiver lines (Data from Dir value acks) = Unit {0}
NamesReceiver lines (Data from (Cache to) value acks) = IsKept lines to.0
NamesReceiver lines (InvAck from to) = IsKept lines to.0
NamesReceiver lines (DataExcl to value) = IsKept lines to.0

-- that of a request's sender is
abbrev pub NamesSender : List Bool → Request → Type 0
NamesSender lines r = IsKept lines r.from.0

-- the lines of all caches that a home names are kept
pub record HomeNames (lines : List Bool) (home : Home) : Type 0 where
  pub owner : IsKeptIf lines home.owner
  pub sharers : (k : ℕ) → shares home.sharers k ≡ true → IsKept lines k

-- and of all that messages name
pub record TrafficNames (lines : List Bool) (w : Traffic) : Type 0 where
  pub requests : Each (NamesSender lines) w.requests
  pub links : (cache : ℕ) → Each (NamesOnLink lines cache) (link w cache)
  pub responses : Each (NamesReceiver lines) w.responses

-- whom a decision answers has a kept line, and so has the cache that it acts at, but where an ask acts at a line in I
abbrev pub DecisionNames : List Bool → Decision → Type 0
DecisionNames lines (Refused what) = Unit {0}
DecisionNames lines (AtLine cache line input next actions from) =
    IsKeptIf lines (requestor_of input) × (wakes_line (AtLine cache line input next actions from) ≡ false → IsKept lines cache.0)
DecisionNames lines (AtHome input next actions from) = IsKeptIf lines (sender_of input)
