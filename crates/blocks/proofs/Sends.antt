-- What a step sends is on the wires of its block afterwards.
use Rattle.std.proofs.Common.{◌≡◌, ℕ, ◌+◌, ◌<◌, ◌≤◌, List, [], ◌∷◌, ◌++◌, Option, Some, None}
use Rattle.std.proofs.Common.{length, refl, ap, ◌∙◌, arith, inl, inr}
use Rattle.std.proofs.lemmas.Bool.{cases_lt}
use Rattle.std.proofs.lemmas.List.{length-append}
use Rattle.std.proofs.lemmas.List.Sums.{sum_by-set}
use Rattle.base.specs.declared.ids.CacheId.{CacheId}
use Rattle.network.specs.declared.message.Forward.{Forward}
use Rattle.network.specs.declared.message.Message.{Message}
use Rattle.network.specs.declared.message.Message.TheVariants as message
use Rattle.network.specs.Room.{forwards_in, one_if}
use Rattle.network.specs.Traffic.{Traffic, link, sent, all_sent, message_count}
use Rattle.network.proofs.Sending.{forwards_in-append, links-sent}
use Rattle.cache_table.specs.declared.actions.CacheAction.{CacheAction}
use Rattle.cache_table.specs.declared.actions.CacheAction.TheVariants as line_action
use Rattle.directory_table.specs.declared.actions.DirectoryAction.{DirectoryAction}
use Rattle.control.specs.declared.home.Home.{Home}
use Rattle.control.specs.LineEffect.{line_message, line_messages, taken_in, requestor_of}
use Rattle.control.specs.HomeEffect.{home_messages, sender_of, brought_by}
use Rattle.control.specs.Homes.{IsBelow, NamesBelow}
use Rattle.control.proofs.HomeCounts.{eqb-self, forwards-to, no-forwards, nothing-sent}
use Rattle.control.proofs.HomeSends.{names-among}
use Rattle.machine.specs.declared.decision.Decision.{Decision}
use Rattle.machine.specs.declared.decision.Decision.TheVariants.{Refused, AtLine, AtHome}
use Rattle.machine.specs.Block.{BlockState, IsBlockAmong}
use Rattle.machine.specs.Transition.{carried_out, messages_of, without, Fits}
use Rattle.machine.proofs.Whole.{links-without}

-- ---- each message that is sent is counted, where each forward has its link

-- none of these messages goes on a link beyond the first so many
abbrev pub AllLinked : ℕ → List Message → Type 0
AllLinked n ms = (k : ℕ) → n ≤ k → forwards_in k ms ≡ 0

first-linked : (n : ℕ) (to : CacheId) (f : Forward) (ms : List Message) → AllLinked n (message.Forward to f ∷ ms) → to.0 < n
first-linked n to f ms linked =
    elim (cases_lt to.0 n) [
      | inl within ↦ within
      | inr past ↦ absurd (omega (arith, linked to.0 past, ap one_if (eqb-self to.0)))
    ]

rest-linked : (n : ℕ) (m : Message) (ms : List Message) → AllLinked n (m ∷ ms) → AllLinked n ms
rest-linked n (message.Request r) ms linked k past = linked k past
rest-linked n (message.Forward to f) ms linked k past = omega (arith, linked k past)
rest-linked n (message.Response r) ms linked k past = linked k past

count-sent : (m : Message) (ms : List Message) (w : Traffic) → AllLinked (length w.links) (m ∷ ms) →
    message_count (sent m w) ≡ message_count w + 1
count-sent (message.Request r) ms w linked = omega (arith, length-append w.requests (r ∷ []))
count-sent (message.Forward to f) ms w linked =
    let longer = length-append (link w to.0) (f ∷ []) in
    let summed = sum_by-set length w.links to.0 (link w to.0 ++ f ∷ []) [] (first-linked (length w.links) to f ms linked) in
    omega arith
count-sent (message.Response r) ms w linked = omega (arith, length-append w.responses (r ∷ []))

pub count-all_sent : (ms : List Message) (w : Traffic) → AllLinked (length w.links) ms →
    message_count (all_sent ms w) ≡ message_count w + length ms
count-all_sent [] w linked = omega arith
count-all_sent (m ∷ ms) w linked =
    let first = count-sent m ms w linked in
    let same = links-sent m w in
    let rest = count-all_sent ms (sent m w) (λ k past. rest-linked (length w.links) m ms linked k (omega (arith, same))) in
    omega arith

-- ---- each forward has its link

-- a line sends no forwards
line_message-linked : (k : ℕ) (cache : CacheId) (value : ℕ) (to : Option CacheId) (a : CacheAction) → forwards_in k (line_message cache value to a) ≡ 0
line_message-linked k cache value to line_action.GetS = refl
line_message-linked k cache value to line_action.GetM = refl
line_message-linked k cache value to line_action.PutS = refl
line_message-linked k cache value to line_action.PutM = refl
line_message-linked k cache value None line_action.InvAck = refl
line_message-linked k cache value (Some c) line_action.InvAck = refl
line_message-linked k cache value None line_action.DataReq = refl
line_message-linked k cache value (Some c) line_action.DataReq = refl
line_message-linked k cache value to line_action.DataDir = refl

line-linked : (k : ℕ) (cache : CacheId) (value : ℕ) (to : Option CacheId) (actions : List CacheAction) →
    forwards_in k (line_messages cache value to actions) ≡ 0
line-linked k cache value to [] = refl
line-linked k cache value to (a ∷ actions) =
    omega (
      arith,
      forwards_in-append k (line_message cache value to a) (line_messages cache value to actions),
      line_message-linked k cache value to a,
      line-linked k cache value to actions,
    )

-- a home sends them to those that it names, and to the sender
home-linked : (n : ℕ) (from : Option CacheId) (value : Option ℕ) (actions : List DirectoryAction) (home : Home) → NamesBelow n home → IsBelow from n →
    AllLinked n (home_messages from value actions home)
home-linked n None value actions home names below k past = ap (forwards_in k) (nothing-sent value actions home)
home-linked n (Some from) value actions home names below k past =
    forwards-to k from value actions home ∙ no-forwards n k from actions home past names below

-- ---- so whatever is decided, what it sends is among the messages afterwards

pub sends-counted : (d : Decision) (b : BlockState) → IsBlockAmong (length b.lines) b → Fits d b →
    length (messages_of d b) ≤ message_count (carried_out d b).block.traffic
sends-counted (Refused what) b among fits = omega arith
sends-counted (AtLine cache line input next actions from) b among fits =
    omega (
      arith,
      count-all_sent (messages_of (AtLine cache line input next actions from) b) (without from b.traffic)
          (λ k past. line-linked k cache (taken_in input line).value (requestor_of input) actions),
    )
sends-counted (AtHome input next actions from) b among fits =
    let same = links-without from b.traffic in
    omega (
      arith,
      count-all_sent (messages_of (AtHome input next actions from) b) (without from b.traffic)
          (λ k past. home-linked (length b.lines) (sender_of input) (brought_by input) actions b.home
          (names-among (length b.lines) b.home among.home) fits.1 k (omega (arith, same, among.links))),
    )
