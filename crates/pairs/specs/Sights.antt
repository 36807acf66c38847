-- What a step of the first of two caches makes of what both see.
use Rattle.std.specs.Prelude.{ℕ, ◌+◌, ◌-◌, List, [], ◌∷◌, ◌++◌, Option, Some, None, Bool, true, false, not, ◌&&◌, ◌||◌, if◌then◌else◌, ◌==◌}
use Rattle.base.specs.declared.controller.entry.CellEntry.TheVariants.{Blank, Stall, Act}
use Rattle.network.specs.declared.message.ForwardKind.{ForwardKind}
use Rattle.network.specs.declared.message.ForwardKind.TheVariants as forward
use Rattle.cache_table.specs.declared.state.CacheState.{CacheState}
use Rattle.cache_table.specs.declared.state.CacheState.TheVariants as state
use Rattle.cache_table.specs.declared.event.CacheEvent.{CacheEvent}
use Rattle.cache_table.specs.declared.event.CacheEvent.TheVariants as event
use Rattle.cache_table.specs.declared.actions.CacheAction.{CacheAction}
use Rattle.cache_table.specs.declared.actions.CacheAction.TheVariants as cache_action
use Rattle.cache_table.specs.Table as cache_table
use Rattle.cache_table.specs.Table.{CacheEntry}
use Rattle.directory_table.specs.declared.state.DirectoryState.{DirectoryState}
use Rattle.directory_table.specs.declared.event.DirectoryEvent.{DirectoryEvent}
use Rattle.directory_table.specs.declared.event.DirectoryEvent.TheVariants as home_event
use Rattle.directory_table.specs.declared.actions.DirectoryAction.{DirectoryAction}
use Rattle.directory_table.specs.declared.actions.DirectoryAction.TheVariants as action
use Rattle.directory_table.specs.Table as directory_table
use Rattle.directory_table.specs.Table.{DirectoryEntry}
use Rattle.control.specs.LineEvents.{forward_event}
use Rattle.control.specs.LineEffect.{is_reader, is_modified}
use Rattle.tables.specs.Tables.{Tables}
use Rattle.pairs.specs.declared.link.LinkPlace.{LinkPlace}
use Rattle.pairs.specs.declared.side.Waiting.{Waiting}
use Rattle.pairs.specs.declared.side.Waiting.TheVariants as waiting_for
use Rattle.pairs.specs.declared.side.Owned.{Owned}
use Rattle.pairs.specs.declared.side.Owned.TheVariants.{ByNobody, ByItself, ByAnother}
use Rattle.pairs.specs.declared.side.Lag.{Lag}
use Rattle.pairs.specs.declared.side.Lag.TheVariants.{Behind, Level, Ahead}
use Rattle.pairs.specs.declared.side.PairSide.{PairSide}
use Rattle.pairs.specs.declared.pair.Shared.{Shared}
use Rattle.pairs.specs.declared.pair.Pair.{Pair}
use Rattle.pairs.specs.declared.steps.Party.{Party}
use Rattle.pairs.specs.declared.steps.Party.TheVariants.{Nobody, First, Second, Third}
use Rattle.pairs.specs.declared.steps.Rule.{Rule}
use Rattle.pairs.specs.declared.steps.Rule.TheVariants.{AsksLoad, AsksStore, AsksReplacement, TakesHead, SentGetS, SentGetM, SentPutS, SentPutM, GetsDirData}
use Rattle.pairs.specs.declared.steps.Rule.TheVariants.{GetsOwnerData, GetsExclData, GetsInvAck}
use Rattle.pairs.specs.declared.steps.Sight.{Sight}
use Rattle.pairs.specs.declared.steps.Sight.TheVariants.{Unmoved, Lost, Spoilt, Seen}
use Rattle.pairs.specs.declared.steps.Debt.{Debt}
use Rattle.pairs.specs.declared.steps.Debt.TheVariants.{Even, Announced, Invalidated, Uneven}
use Rattle.pairs.specs.declared.steps.Scene.{Scene}
use Rattle.pairs.specs.Pairs.{trimmed, alike, trimmed_home, thirds_fit, fits, is_few}

-- WHAT IS AWAITED BESIDE WHAT IS OWED

-- a lag that is moved one way; where it stood on the other side it may be any afterwards
abbrev pub shifted : Lag → Lag → Option Lag
shifted Level lag = Some lag
shifted Behind Ahead = None
shifted Behind lag = Some Behind
shifted Ahead Behind = None
shifted Ahead lag = Some Ahead

abbrev pub is_level : Lag → Bool
is_level Level = true
is_level other = false

abbrev pub is_ahead : Lag → Bool
is_ahead Ahead = true
is_ahead other = false

-- WHAT THE ACTIONS OF A CELL DO

-- Data on their way to a cache, with a fresh value or not
abbrev pub dir_data_sent : Bool → PairSide → PairSide
dir_data_sent fresh s = record s { dir_data = s.dir_data + 1; fresh_data = s.fresh_data && fresh }

abbrev pub owner_data_sent : Bool → PairSide → PairSide
owner_data_sent fresh s = record s { owner_data = s.owner_data + 1; fresh_data = s.fresh_data && fresh }

abbrev pub excl_data_sent : Bool → PairSide → PairSide
excl_data_sent fresh s = record s { excl_data = s.excl_data + 1; fresh_data = s.fresh_data && fresh }

abbrev pub putm_sent : Bool → PairSide → PairSide
putm_sent fresh s = record s { putm = s.putm + 1; fresh_putm = s.fresh_putm && fresh }

abbrev pub home_data_sent : Bool → Shared → Shared
home_data_sent fresh g = record g { home_data = g.home_data + 1; fresh_home_data = g.fresh_home_data && fresh }

-- what an action of the first cache's line does, where the requestor is this one and the line's value is fresh or not. An Inv-Ack changes nothing that is
-- seen: what was an Inv that named its receiver is now on its way to it
abbrev pub line_acted : Party → Bool → CacheAction → Pair → Pair
line_acted to fresh cache_action.GetS p = record p { first = record p.first { gets = p.first.gets + 1 } }
line_acted to fresh cache_action.GetM p = record p { first = record p.first { getm = p.first.getm + 1 } }
line_acted to fresh cache_action.PutS p = record p { first = record p.first { puts = p.first.puts + 1 } }
line_acted to fresh cache_action.PutM p = record p { first = putm_sent fresh p.first }
line_acted to fresh cache_action.DataDir p = record p { shared = home_data_sent fresh p.shared }
line_acted First fresh cache_action.DataReq p = record p { first = owner_data_sent fresh p.first }
line_acted Second fresh cache_action.DataReq p = record p { second = owner_data_sent fresh p.second }
line_acted to fresh other p = p

abbrev pub line_acts : Party → Bool → List CacheAction → Pair → Pair
line_acts to fresh [] p = p
line_acts to fresh (a ∷ actions) p = line_acts to fresh actions (line_acted to fresh a p)

-- how many Inv-Acks the actions send, if there is a requestor
abbrev pub inv_acks : List CacheAction → ℕ
inv_acks [] = 0
inv_acks (cache_action.InvAck ∷ actions) = 1 + inv_acks actions
inv_acks (other ∷ actions) = inv_acks actions

-- how this many Inv-Acks in answer to an event move what their receiver awaits beside what is owed to it: an Inv that named it is owed no longer
abbrev pub moved_by : CacheEvent → ℕ → Lag
moved_by event.Inv acks = if acks == 0 then Ahead else (if acks == 1 then Level else Behind)
moved_by e acks = if acks == 0 then Level else Behind

abbrev pub answer : CacheEvent → List CacheAction → Lag
answer e actions = moved_by e (inv_acks actions)

-- whether acks are owed to it afterwards: where it was one less, that is guessed
abbrev pub still_owed : Bool → Lag → Bool → Bool
still_owed guess Level owed = owed
still_owed guess Ahead owed = guess
still_owed guess Behind owed = true

-- the second with this lag, if it is known
abbrev pub second_lagged : Bool → Option Lag → Pair → Option Pair
second_lagged owed None p = None
second_lagged owed (Some lag) p = Some (record p { second = record p.second { owed = owed; lag = lag } })

-- what an answer makes of the requestor, where that can be followed
abbrev pub answered : Bool → Party → Lag → Pair → Option Pair
answered guess Nobody by p = Some p
answered guess Third by p = Some p
answered guess First Level p = Some p
answered guess First other p = None
answered guess Second by p = second_lagged (still_owed guess by p.second.owed) (shifted by p.second.lag) p

-- who owns the block
abbrev pub owner_in : Owned → Owned → Party
owner_in ByNobody theirs = Nobody
owner_in ByItself theirs = First
owner_in ByAnother ByItself = Second
owner_in ByAnother theirs = Third

-- some cache besides the first shares
abbrev pub others_share : Scene → Bool
others_share s = s.pair.second.shares || s.third_shares

-- the requestor was told of the other sharers once more, or each of them was sent one more Inv that names it. What is more than one apart isn't followed,
-- nor an Inv to whom something was owed before
abbrev pub more_announced : Debt → Debt
more_announced Even = Announced
more_announced Invalidated = Even
more_announced other = Uneven

abbrev pub more_invalidated : Bool → Debt → Debt
more_invalidated false Even = Invalidated
more_invalidated false Announced = Even
more_invalidated owed other = Uneven

-- the other sharers change: as many are to have been announced as were invalidated
abbrev pub settled_debt : Debt → Debt
settled_debt Even = Even
settled_debt other = Uneven

abbrev pub resharing : Scene → Scene
resharing s = record s { debt = settled_debt s.debt }

-- a forward goes onto the first's link, and names it
abbrev pub first_linked : ForwardKind → Pair → Pair
first_linked kind p =
    record p { first = record p.first { link = p.first.link ++ record { kind = kind; own = true } ∷ [] }; first_names = p.first_names ++ false ∷ [] }

-- a forward goes onto the second's link, and names the first
abbrev pub second_linked : ForwardKind → Pair → Pair
second_linked kind p =
    record p { second = record p.second { link = p.second.link ++ record { kind = kind; own = false } ∷ [] }; second_names = p.second_names ++ true ∷ [] }

-- a forward goes onto the owner's link, if there is an owner
abbrev pub owner_linked : Party → ForwardKind → Pair → Pair
owner_linked Nobody kind p = p
owner_linked First kind p = first_linked kind p
owner_linked Second kind p = second_linked kind p
owner_linked Third kind p = p

-- one more forward names the first cache, if there is an owner
abbrev pub named : Party → ForwardKind → PairSide → PairSide
named Nobody kind s = s
named owner forward.FwdGetS s = record s { fwd_gets = s.fwd_gets + 1 }
named owner forward.FwdGetM s = record s { fwd_getm = s.fwd_getm + 1 }
named owner other s = s

abbrev pub forwarded : ForwardKind → Scene → Scene
forwarded kind s =
    let p : Pair = owner_linked s.owner kind s.pair in
    record s { pair = record p { first = named s.owner kind p.first } }

-- an Inv goes onto the link of each other sharer, and names the first cache
abbrev pub invited : Scene → Scene
invited s =
    if others_share s then record s {
      pair = (let p : Pair = if s.pair.second.shares then second_linked forward.Inv s.pair else s.pair in record p { first = record p.first { owed = true } });
      debt = more_invalidated s.pair.first.owed s.debt;
    } else s

abbrev pub announces : Scene → Scene
announces s = if others_share s then record s { debt = more_announced s.debt } else s

-- the owner is one of the sharers from now on
abbrev pub owner_added : Party → Scene → Scene
owner_added Nobody s = s
owner_added First s = record s { pair = record s.pair { first = record s.pair.first { shares = true } } }
owner_added Second s = record (resharing s) { pair = record s.pair { second = record s.pair.second { shares = true } } }
owner_added Third s = record (resharing s) { third_shares = true }

-- what an action of the home does for a request of the first cache or, where there is none, for Data; either brings a fresh value, another one, or none
abbrev pub home_acted : Bool → Option Bool → DirectoryAction → Scene → Scene
home_acted true value action.DataReq s = record s { pair = record s.pair { first = dir_data_sent s.pair.shared.fresh_memory s.pair.first } }
home_acted true value action.DataAcks s = announces (record s { pair = record s.pair { first = dir_data_sent s.pair.shared.fresh_memory s.pair.first } })
home_acted true value action.DataExcl s = record s { pair = record s.pair { first = excl_data_sent s.pair.shared.fresh_memory s.pair.first } }
home_acted true value action.InvSharers s = invited s
home_acted true value action.FwdGetS s = forwarded forward.FwdGetS s
home_acted true value action.FwdGetM s = forwarded forward.FwdGetM s
home_acted true value action.PutAck s = record s { pair = first_linked forward.PutAck s.pair }
home_acted true value action.AddReq s = record s { pair = record s.pair { first = record s.pair.first { shares = true } } }
home_acted true value action.RemoveReq s = record s { pair = record s.pair { first = record s.pair.first { shares = false } } }
home_acted true value action.SetOwner s = record s { owner = First }
home_acted asked value action.AddOwner s = owner_added s.owner s
home_acted asked value action.ClearSharers s = record (resharing s) {
  pair = record s.pair { first = record s.pair.first { shares = false }; second = record s.pair.second { shares = false } };
  third_shares = false;
}
home_acted asked value action.ClearOwner s = record s { owner = Nobody }
home_acted asked (Some fresh) action.CopyData s = record s { pair = record s.pair { shared = record s.pair.shared { fresh_memory = fresh } } }
home_acted asked value other s = s

abbrev pub home_acts : Bool → Option Bool → List DirectoryAction → Scene → Scene
home_acts asked value [] s = s
home_acts asked value (a ∷ actions) s = home_acts asked value actions (home_acted asked value a s)

-- SETTLING

-- where no value is that of the last store any more
abbrev pub stale : PairSide → PairSide
stale s = trimmed (record s { fresh = false; fresh_putm = false; fresh_data = false })

-- after the first cache stored: its line has the last store's value, and nothing else is known to
abbrev pub stored : Pair → Pair
stored p = record p {
  shared = trimmed_home (record p.shared { fresh_memory = false; fresh_home_data = false });
  first = record (stale p.first) { fresh = true };
  second = stale p.second;
}

abbrev pub waiting : Option Waiting → Pair → Pair
waiting a p = record p { first = record p.first { waits = a } }

-- a pair is seen, if it is followed; one that can't be is dropped
abbrev pub looked_at : Party → Pair → Sight
looked_at concerned p = if is_few p then (if fits p then Seen concerned p else Unmoved) else Lost

-- a load returns the line's value
abbrev pub loaded : Party → Pair → Pair → Sight
loaded concerned p after = if p.first.fresh then looked_at concerned after else Spoilt concerned

-- the ask completes, or waits from now on
abbrev pub ask_settled : Party → Waiting → Pair → Sight
ask_settled concerned waiting_for.Load p = if is_reader p.first.state then loaded concerned p p else looked_at concerned (waiting (Some waiting_for.Load) p)
ask_settled concerned waiting_for.Store p = looked_at concerned (if is_modified p.first.state then stored p else waiting (Some waiting_for.Store) p)

-- on a message what waits completes, if it can
abbrev pub wait_settled : Party → Option Waiting → Pair → Sight
wait_settled concerned None p = looked_at concerned p
wait_settled concerned (Some waiting_for.Load) p = if is_reader p.first.state then loaded concerned p (waiting None p) else looked_at concerned p
wait_settled concerned (Some waiting_for.Store) p = looked_at concerned (if is_modified p.first.state then stored (waiting None p) else p)

abbrev pub settles : Party → Rule → Pair → Sight
settles concerned AsksLoad p = ask_settled concerned waiting_for.Load p
settles concerned AsksStore p = ask_settled concerned waiting_for.Store p
settles concerned AsksReplacement p = looked_at concerned p
settles concerned other p = wait_settled concerned p.first.waits p

-- WHAT COMES TO A CELL

-- the actions of a line's cell, at a pair whose requestor was answered
abbrev pub line_settled : Rule → Party → Party → CacheState → List CacheAction → Option Pair → Sight
line_settled rule to concerned next actions None = Lost
line_settled rule to concerned next actions (Some p) =
    let q : Pair = line_acts to p.first.fresh actions p in settles concerned rule (record q { first = record q.first { state = next } })

-- an entry of the caches' table, at a pair from which the input was taken
abbrev pub by_line : Rule → Bool → Party → Party → CacheEvent → CacheEntry → Pair → Sight
by_line rule guess to concerned e Stall p = Unmoved
by_line rule guess to concerned e Blank p = Spoilt concerned
by_line rule guess to concerned e (Act next actions) p = line_settled rule to concerned next actions (answered guess to (answer e actions) p)

-- an event comes to the first cache's line, from a forward that names this cache
abbrev pub at_line : Tables → Rule → Bool → Party → Party → CacheEvent → Pair → Sight
at_line tables rule guess to concerned e p = by_line rule guess to concerned e (cache_table.cell tables.cache p.first.state e) p

-- what a request or Data leaves of the home
abbrev pub home_left : DirectoryState → Scene → Pair
home_left next s = record s.pair {
  shared = record s.pair.shared { home = next };
  first = record s.pair.first { others = s.pair.second.shares || s.third_shares; owned = owned_by First s.owner };
  second = record s.pair.second { others = s.pair.first.shares || s.third_shares; owned = owned_by Second s.owner };
}
  where
    owned_by : Party → Party → Owned
    owned_by who Nobody = ByNobody
    owned_by First First = ByItself
    owned_by Second Second = ByItself
    owned_by who owner = ByAnother

-- an action that names the owner
abbrev pub names_owner : DirectoryAction → Bool
names_owner action.FwdGetS = true
names_owner action.FwdGetM = true
names_owner action.AddOwner = true
names_owner other = false

abbrev pub any_names_owner : List DirectoryAction → Bool
any_names_owner [] = false
any_names_owner (a ∷ actions) = names_owner a || any_names_owner actions

-- the cache besides the first that a request concerns: the owner, if the actions name it
abbrev pub concerned_by : Bool → List DirectoryAction → Party → Party
concerned_by false actions owner = Nobody
concerned_by true actions First = Nobody
concerned_by true actions owner = if any_names_owner actions then owner else Nobody

-- the requestor's lag where the debt is this in the end
abbrev pub lag_after : Debt → Lag → Option Lag
lag_after Even lag = Some lag
lag_after Announced lag = shifted Ahead lag
lag_after Invalidated lag = shifted Behind lag
lag_after Uneven lag = None

-- the first with this lag, if it is known
abbrev pub lag_settled : Party → Option Lag → Pair → Sight
lag_settled concerned None p = Lost
lag_settled concerned (Some lag) p = looked_at concerned (record p { first = record p.first { lag = lag } })

abbrev pub home_settled : Party → DirectoryState → Scene → Sight
home_settled concerned next s = lag_settled concerned (lag_after s.debt s.pair.first.lag) (home_left next s)

-- an entry of the directory's table
abbrev pub by_home : Bool → Option Bool → DirectoryEntry → Scene → Sight
by_home asked value Stall s = Unmoved
by_home asked value Blank s = Spoilt Nobody
by_home asked value (Act next actions) s = home_settled (concerned_by asked actions s.owner) next (home_acts asked value actions s)

-- an event comes to the home, where a third cache shares or not
abbrev pub at_home : Tables → Bool → Bool → Option Bool → DirectoryEvent → Pair → Sight
at_home tables third_shares asked value e p =
    if thirds_fit third_shares p then
    by_home asked value (directory_table.cell tables.directory p.shared.home e) (record {
      pair = p;
      owner = owner_in p.first.owned p.second.owned;
      third_shares = third_shares;
      debt = Even;
    })
    else Unmoved

-- STEPS

-- the requestor of the head of the first's link: it may name the first itself, or the second
abbrev pub requestor : LinkPlace → Bool → Party
requestor x mark = requestor_of x.kind x.own mark
  where
    requestor_of : ForwardKind → Bool → Bool → Party
    requestor_of forward.PutAck own mark = Nobody
    requestor_of kind true mark = First
    requestor_of kind false true = Second
    requestor_of kind false false = Third

-- the cache besides the first that is concerned
abbrev pub besides : Party → Party
besides First = Nobody
besides other = other

-- one forward less names a cache
abbrev pub unnamed_side : ForwardKind → PairSide → PairSide
unnamed_side forward.FwdGetS s = record s { fwd_gets = s.fwd_gets - 1 }
unnamed_side forward.FwdGetM s = record s { fwd_getm = s.fwd_getm - 1 }
unnamed_side other s = s

abbrev pub unnamed : Party → ForwardKind → Pair → Pair
unnamed First kind p = record p { first = unnamed_side kind p.first }
unnamed Second kind p = record p { second = unnamed_side kind p.second }
unnamed other kind p = p

-- the first's link and what it names, without the head
abbrev pub headless : List LinkPlace → List Bool → Pair → Pair
headless xs marks p = record p { first = record p.first { link = xs }; first_names = marks }

-- the head of the first's link comes to its line
abbrev pub head_seen : Tables → Bool → List LinkPlace → List Bool → Pair → Sight
head_seen tables guess (x ∷ xs) (mark ∷ marks) p =
    let to : Party = requestor x mark in
    at_line tables TakesHead guess to (besides to) (forward_event x.kind) (unnamed to x.kind (headless xs marks p))
head_seen tables guess places marks p = Unmoved

-- the value of a response is the line's from now on
abbrev pub with_data : PairSide → PairSide
with_data s = trimmed (record s { fresh = s.fresh_data })

-- where some number isn't 0
abbrev pub where_some : ℕ → Sight → Sight
where_some n x = if n == 0 then Unmoved else x

-- a request of the first comes to the home, from a pair without it
abbrev pub request_seen : Tables → Bool → Option Bool → DirectoryEvent → Pair → PairSide → Sight
request_seen tables third_shares value e p s = at_home tables third_shares true value e (record p { first = trimmed s })

-- a response to the first comes to its line
abbrev pub response_seen : Tables → Rule → Bool → CacheEvent → Pair → PairSide → Sight
response_seen tables rule guess e p s = at_line tables rule guess Nobody Nobody e (record p { first = s })

-- how many acks a line awaits to whom all are announced: none or more, or fewer if it was sent too many, where that is known
abbrev pub acks_awaited : Lag → Bool → Option Lag
acks_awaited lag owed = shifted (if owed then Ahead else Level) lag

-- Data from the home comes to the line of the first, which then awaits this many
abbrev pub dir_data_seen : Tables → Bool → Option Lag → Pair → PairSide → Sight
dir_data_seen tables guess None p s = Lost
dir_data_seen tables guess (Some lag) p s =
    response_seen tables GetsDirData guess (if is_level lag then event.DataDirZero else event.DataDirMore) p
    (with_data (record s { low = not (is_ahead lag) }))

-- without Data from the home on its way, a line awaits what is owed to it, more or fewer
abbrev pub counts_fit : Lag → Bool → Bool → Bool → Bool
counts_fit Level low last owed = not low && alike last (not owed)
counts_fit Ahead low last owed = not low && not last
counts_fit Behind low last owed = low || owed

-- an Inv-Ack may be the last, and leave something owed or not
abbrev pub ack_fits : PairSide → Bool → Bool → Bool
ack_fits s last owed = s.owed && not (s.low && last) && (not (s.dir_data == 0) || counts_fit s.lag s.low last owed)

abbrev pub is_owner : Owned → Bool
is_owner ByItself = true
is_owner other = false

abbrev pub is_absent : CacheState → Bool
is_absent state.I = true
is_absent other = false

-- what a step of the first cache by this rule makes of a pair. It is guessed whether a third cache shares, where that counts, and of a head whether acks are
-- still owed to the second
abbrev pub sight : Tables → Rule → Bool → Pair → Sight
sight tables AsksLoad t p = at_line tables AsksLoad t Nobody Nobody event.Load p
sight tables AsksStore t p = at_line tables AsksStore t Nobody Nobody event.Store p
sight tables AsksReplacement t p = if is_absent p.first.state then Unmoved else at_line tables AsksReplacement t Nobody Nobody event.Replacement p
sight tables TakesHead t p = head_seen tables t p.first.link p.first_names p
sight tables SentGetS t p = where_some p.first.gets (request_seen tables t None home_event.GetS p (record p.first { gets = p.first.gets - 1 }))
sight tables SentGetM t p = where_some p.first.getm (request_seen tables t None home_event.GetM p (record p.first { getm = p.first.getm - 1 }))
sight tables SentPutS t p =
    where_some p.first.puts (request_seen tables t None (if p.first.shares && not p.first.others then home_event.PutSLast else home_event.PutSNotLast) p
    (record p.first { puts = p.first.puts - 1 }))
sight tables SentPutM t p =
    where_some p.first.putm (request_seen tables t (Some p.first.fresh_putm)
    (if is_owner p.first.owned then home_event.PutMOwner else home_event.PutMNonOwner) p (record p.first { putm = p.first.putm - 1 }))
sight tables GetsDirData t p =
    where_some p.first.dir_data (dir_data_seen tables t (acks_awaited p.first.lag p.first.owed) p (record p.first { dir_data = p.first.dir_data - 1 }))
sight tables GetsOwnerData t p =
    where_some p.first.owner_data (response_seen tables GetsOwnerData t event.DataOwner p
    (with_data (record p.first { owner_data = p.first.owner_data - 1 })))
sight tables GetsExclData t p =
    where_some p.first.excl_data (response_seen tables GetsExclData t event.DataDirExcl p (with_data (record p.first { excl_data = p.first.excl_data - 1 })))
sight tables (GetsInvAck last owed) t p =
    if ack_fits p.first last owed then response_seen tables (GetsInvAck last owed) t (if last then event.LastInvAck else event.InvAck) p
    (record p.first { owed = owed; low = p.first.low || last })
    else Unmoved

-- what Data that comes to the home makes of any pair
abbrev pub home_data_seen : Tables → Bool → Pair → Sight
home_data_seen tables t p =
    where_some p.shared.home_data (at_home tables t false (Some p.shared.fresh_home_data) home_event.Data
    (record p { shared = trimmed_home (record p.shared { home_data = p.shared.home_data - 1 }) }))
