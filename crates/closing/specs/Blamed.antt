-- Lists of ranked pairs that show that no message is ever stuck: where all messages of a cache are held, another cache is to blame, which was served earlier.
use Rattle.std.specs.Prelude.{◌≡◌, ◌≢◌, ◌⊎◌, ◌+◌, ℕ, List, [], ◌∷◌, Option, Some, None, Bool, true, false, not, ◌&&◌, ◌||◌, ◌==◌, if◌then◌else◌, nat_le, Contains}
use Rattle.base.specs.declared.controller.entry.CellEntry.TheVariants.{Stall}
use Rattle.network.specs.declared.message.ForwardKind.{ForwardKind}
use Rattle.network.specs.declared.message.ForwardKind.TheVariants.{FwdGetS, FwdGetM, Inv, PutAck}
use Rattle.cache_table.specs.declared.state.CacheState.{CacheState}
use Rattle.cache_table.specs.declared.event.CacheEvent.{CacheEvent}
use Rattle.cache_table.specs.declared.event.CacheEvent.TheVariants as event
use Rattle.cache_table.specs.Table as cache_table
use Rattle.cache_table.specs.Table.{CacheEntry}
use Rattle.directory_table.specs.declared.state.DirectoryState.{DirectoryState}
use Rattle.directory_table.specs.declared.event.DirectoryEvent.{DirectoryEvent}
use Rattle.directory_table.specs.declared.event.DirectoryEvent.TheVariants as home_event
use Rattle.directory_table.specs.Table as directory_table
use Rattle.directory_table.specs.Table.{DirectoryEntry}
use Rattle.control.specs.LineEvents.{forward_event}
use Rattle.tables.specs.Tables.{Tables}
use Rattle.pairs.specs.declared.link.LinkPlace.{LinkPlace}
use Rattle.pairs.specs.declared.side.Lag.{Lag}
use Rattle.pairs.specs.declared.side.PairSide.{PairSide}
use Rattle.pairs.specs.declared.pair.Shared.{Shared}
use Rattle.pairs.specs.declared.pair.Pair.{Pair}
use Rattle.pairs.specs.Pairs.{marked, own_marked}
use Rattle.pairs.specs.Sights.{acks_awaited, is_level, is_owner, is_absent}
use Rattle.closing.specs.declared.ranked.Order.TheVariants.{After}
use Rattle.closing.specs.declared.ranked.RankedPair.{RankedPair}
use Rattle.closing.specs.declared.deciding.Flow.{Flow}
use Rattle.closing.specs.declared.deciding.Flow.TheVariants.{NeverStuck, AsksMayBeHeld, MessagesMayGetStuck}
use Rattle.closing.specs.Closed.{Closed}
use Rattle.closing.specs.Ranked.{Ranked, Balanced, ArePairsOf, awaited, is_busy, is_open}

-- WHAT IS HELD

abbrev pub line_stalls : CacheEntry → Bool
line_stalls Stall = true
line_stalls other = false

abbrev pub home_stalls : DirectoryEntry → Bool
home_stalls Stall = true
home_stalls other = false

-- an event is held at a line in a state, or at a home
abbrev pub line_holds : Tables → CacheState → CacheEvent → Bool
line_holds tables s e = line_stalls (cache_table.cell tables.cache s e)

abbrev pub home_holds : Tables → DirectoryState → DirectoryEvent → Bool
home_holds tables s e = home_stalls (directory_table.cell tables.directory s e)

-- the head of a link, if there is one
abbrev pub holds_head : Tables → CacheState → List LinkPlace → Bool
holds_head tables s [] = true
holds_head tables s (x ∷ xs) = line_holds tables s (forward_event x.kind)

-- what a PutS or a PutM of a cache is at the home
abbrev pub puts_event : PairSide → DirectoryEvent
puts_event s = if s.shares && not s.others then home_event.PutSLast else home_event.PutSNotLast

abbrev pub putm_event : PairSide → DirectoryEvent
putm_event s = if is_owner s.owned then home_event.PutMOwner else home_event.PutMNonOwner

-- requests of a cache
abbrev pub holds_requests : Tables → DirectoryState → PairSide → Bool
holds_requests tables h s =
    ((s.gets == 0) || home_holds tables h home_event.GetS)
    && ((s.getm == 0) || home_holds tables h home_event.GetM)
    && ((s.puts == 0) || home_holds tables h (puts_event s))
    && ((s.putm == 0) || home_holds tables h (putm_event s))

-- Data from the home, at a line in a state that then awaits this many acks; where that isn't known they count as held
abbrev pub holds_dir_data : Tables → CacheState → Option Lag → Bool
holds_dir_data tables s None = true
holds_dir_data tables s (Some lag) = line_holds tables s (if is_level lag then event.DataDirZero else event.DataDirMore)

-- Data on their way to a cache
abbrev pub holds_data : Tables → PairSide → Bool
holds_data tables s =
    ((s.dir_data == 0) || holds_dir_data tables s.state (acks_awaited s.lag s.owed))
    && ((s.owner_data == 0) || line_holds tables s.state event.DataOwner)
    && ((s.excl_data == 0) || line_holds tables s.state event.DataDirExcl)

-- all messages of a cache but Inv-Acks on their way to it
abbrev pub holds_side : Tables → DirectoryState → PairSide → Bool
holds_side tables h s = holds_head tables s.state s.link && holds_requests tables h s && holds_data tables s

-- Data on their way to the home
abbrev pub holds_home_data : Tables → Shared → Bool
holds_home_data tables g = (g.home_data == 0) || home_holds tables g.home home_event.Data

-- no message of a pair can be delivered, but for Inv-Acks
abbrev pub is_held : Tables → Pair → Bool
is_held tables p = holds_home_data tables p.shared && holds_side tables p.shared.home p.first && holds_side tables p.shared.home p.second

-- WHO IS TO BLAME

-- how many requests of a cache are on their way
abbrev pub requests_of : PairSide → ℕ
requests_of s = s.gets + s.getm + s.puts + s.putm

-- whether any message of a cache is
abbrev pub is_noisy : PairSide → Bool
is_noisy s = is_busy s || not (requests_of s == 0)

-- a forward of this kind that names the first is on another cache's link; where acks are owed, no Inv-Ack can be what is held
abbrev pub is_named : Tables → ForwardKind → PairSide → Bool
is_named tables FwdGetS s = not (nat_le s.fwd_gets (own_marked FwdGetS s.link))
is_named tables FwdGetM s = not (nat_le s.fwd_getm (own_marked FwdGetM s.link))
is_named tables Inv s =
    s.owed && (own_marked Inv s.link == 0) && not (line_holds tables s.state event.InvAck) && not (line_holds tables s.state event.LastInvAck)
is_named tables PutAck s = false

-- the first has only requests, and its home waits for Data that a Fwd-GetS on some link is to bring
abbrev pub awaits_home : Pair → Bool
awaits_home p = not (is_busy p.first) && not (awaited p.shared.home == 0) && (p.shared.home_data == 0)

-- a pair that begins like another one, is held, and whose second cache has a forward of this kind on its link that names the first
pub record IsBlamable (tables : Tables) (kind : ForwardKind) (p q : Pair) : Type 0 where
  pub shared : p.shared ≡ q.shared
  pub first : p.first ≡ q.first
  pub held : is_held tables q ≡ true
  pub named : marked kind q.second.link q.second_names ≢ 0

-- whoever has such a forward was served earlier than the first, if that has more than requests
pub record IsBlamed (tables : Tables) (list : List RankedPair) (p : Pair) (kind : ForwardKind) : Type 0 where
  pub named : is_named tables kind p.first ≡ true
  pub earlier : is_busy p.first ≡ true → (q : RankedPair) → Contains list q → IsBlamable tables kind p q.pair → q.order ≡ After

-- nothing is on its way that concerns the first cache, nor to the home
abbrev pub is_silent : Pair → Bool
is_silent p = not (is_open p.first) && (requests_of p.first == 0) && (p.shared.home_data == 0)

-- wherever messages are held, a cache that was served earlier is to blame; and where none are, nothing waits
pub record Blamed (tables : Tables) (list : List RankedPair) : Type 0 where
  pub ranked : Ranked tables list
  pub balanced : Balanced tables list
  pub home_data : (r : RankedPair) → Contains list r → is_held tables r.pair ≡ true → r.pair.shared.home_data ≡ 0
  pub done : (r : RankedPair) → Contains list r → is_silent r.pair ≡ true → r.pair.first.waits ≡ None
  pub blame : (r : RankedPair) → Contains list r → is_held tables r.pair ≡ true → is_noisy r.pair.first ≡ true →
      (awaits_home r.pair ≡ true) ⊎ ((kind : ForwardKind) × IsBlamed tables list r.pair kind)

-- a line for which nothing is on its way holds no ask
abbrev pub serves_asks : Tables → CacheState → Bool
serves_asks tables s =
    not (line_holds tables s event.Load) && not (line_holds tables s event.Store) && (is_absent s || not (line_holds tables s event.Replacement))

abbrev pub ServesAsks : Tables → List RankedPair → Type 0
ServesAsks tables list = (r : RankedPair) → Contains list r → is_silent r.pair ≡ true → serves_asks tables r.pair.first.state ≡ true

-- some ranked pairs show this of what may get stuck
abbrev pub HasFlow : Tables → Flow → Type 0
HasFlow tables NeverStuck = (list : List RankedPair) × Blamed tables list × ServesAsks tables list
HasFlow tables AsksMayBeHeld = (list : List RankedPair) × Blamed tables list
HasFlow tables MessagesMayGetStuck = Unit {0}

-- what a list of ranked pairs shows: that its pairs are closed, and this of what may get stuck
pub record Shows (tables : Tables) (list : List RankedPair) (shown : Flow) : Type 0 where
  pub closed : (pairs : List Pair) → ArePairsOf list pairs → Closed tables pairs
  pub flow : HasFlow tables shown
