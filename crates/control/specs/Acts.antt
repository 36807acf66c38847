-- What an act at a home or a line leaves, of it and of its block's wires.
use Rattle.std.specs.Prelude.{◌≡◌, ℕ, List, [], Option, IsOk, OnOk, length}
use Rattle.std.specs.declared.result.Result.{Result}
use Rattle.base.specs.declared.ids.CacheId.{CacheId}
use Rattle.network.specs.Room.{AllBelow, HasRoomFor, Sends, UsesRoomFor, Wiring, forwards_in, requests_in, responses_in, times}
use Rattle.cache_table.specs.declared.actions.CacheAction.{CacheAction}
use Rattle.cache_table.specs.declared.state.CacheState.{CacheState}
use Rattle.directory_table.specs.declared.actions.DirectoryAction.{DirectoryAction}
use Rattle.directory_table.specs.declared.state.DirectoryState.{DirectoryState}
use Rattle.control.specs.declared.home.Home.{Home}
use Rattle.control.specs.declared.home.HomeInput.{HomeInput}
use Rattle.control.specs.declared.line.Line.{Line}
use Rattle.control.specs.declared.line.LineInput.{LineInput}
use Rattle.control.specs.declared.line.LineCompletion.{LineCompletion}
use Rattle.control.specs.declared.needs.Needs.{Needs}
use Rattle.control.specs.HomeEffect.{home_after, home_sends, sender_of}
use Rattle.control.specs.Homes.{IsBelow, NamesBelow}
use Rattle.control.specs.LineEffect.{line_after, line_completes, line_sends}

-- each cache that a home names, and the sender of a message, if there is one, has a flag at the home and a link
pub record HasFlagsAndLinks (sender : Option CacheId) (home : Home) (wires : Wiring) : Type 0 where
  pub flags : NamesBelow (length home.sharers) home
  pub links : NamesBelow (length wires.traffic.links) home
  pub sender_flag : IsBelow sender (length home.sharers)
  pub sender_link : IsBelow sender (length wires.traffic.links)

-- an input has acted at a home: what that is to send was sent
pub record HomeActs (input : HomeInput) (next : DirectoryState) (actions : List DirectoryAction) (before : Home) (wires : Wiring) (after : Home)
    (left : Wiring) : Type 0 where
  pub home : after ≡ home_after input next actions before
  pub sent : Sends (home_sends input actions before) wires left

-- an input has acted at the line of a cache: what that is to send was sent, and this ask completed, if one did
pub record LineActs (cache : CacheId) (input : LineInput) (next : CacheState) (actions : List CacheAction) (before : Line) (wires : Wiring)
    (completion : Option LineCompletion) (after : Line) (left : Wiring) : Type 0 where
  pub done : completion ≡ line_completes input next before
  pub line : after ≡ line_after input next before
  pub sent : Sends (line_sends cache input actions before) wires left

-- there is room for what an act of this input at the line of any cache sends, unless that was refused, which it isn't where there was; no
-- list has changed
pub record MakesRoomAtLine {T E : Type 0} (input : LineInput) (actions : List CacheAction) (result : Result T E) (old new : Wiring) : Type 0 where
  pub traffic : new.traffic ≡ old.traffic
  pub marks : new.marks ≡ old.marks
  pub ok : OnOk result ((cache : CacheId) (line : Line) → HasRoomFor (line_sends cache input actions line) new.room)
  pub succeeds : (cache : CacheId) (line : Line) → HasRoomFor (line_sends cache input actions line) old.room → IsOk result
  pub room : UsesRoomFor [] old.room new.room

-- what an act at a home sends, counted: so many requests and responses, and a listed link for each message that goes on one. Where caches
-- below a number are named, only theirs are listed
pub record AreNeeds (input : HomeInput) (actions : List DirectoryAction) (home : Home) (needs : Needs) (listed : List CacheId) : Type 0 where
  pub requests : requests_in (home_sends input actions home) ≡ needs.requests
  pub links : (cache : ℕ) → forwards_in cache (home_sends input actions home) ≡ times cache listed
  pub responses : responses_in (home_sends input actions home) ≡ needs.responses
  pub below : (caches : ℕ) → NamesBelow caches home → IsBelow (sender_of input) caches → AllBelow caches listed
