-- Lists of pairs, with the order in which the home last served the two caches of each, that no step leaves.
use Rattle.std.specs.Prelude.{◌≡◌, ◌+◌, ℕ, List, [], ◌∷◌, Bool, true, false, not, ◌&&◌, ◌||◌, ◌==◌, if◌then◌else◌, length, IsTrue, Contains}
use Rattle.network.specs.declared.message.ForwardKind.TheVariants.{FwdGetS}
use Rattle.directory_table.specs.declared.state.DirectoryState.{DirectoryState}
use Rattle.directory_table.specs.declared.state.DirectoryState.TheVariants.{SD}
use Rattle.tables.specs.Tables.{Tables}
use Rattle.pairs.specs.declared.link.LinkPlace.{LinkPlace}
use Rattle.pairs.specs.declared.side.PairSide.{PairSide}
use Rattle.pairs.specs.declared.pair.Pair.{Pair}
use Rattle.pairs.specs.Pairs.{swapped, opened_pair, fits, data_to, same_kind}
use Rattle.pairs.specs.declared.steps.Party.{Party}
use Rattle.pairs.specs.declared.steps.Rule.{Rule}
use Rattle.pairs.specs.declared.steps.Rule.TheVariants.{SentGetS, SentGetM, SentPutS, SentPutM}
use Rattle.pairs.specs.declared.steps.Party.TheVariants.{Nobody, Second, Third}
use Rattle.pairs.specs.declared.steps.Sight.TheVariants.{Seen}
use Rattle.pairs.specs.Sights.{sight, home_data_seen}
use Rattle.closing.specs.declared.ranked.Order.{Order}
use Rattle.closing.specs.declared.ranked.Order.TheVariants.{Unknown, Before, After}
use Rattle.closing.specs.declared.ranked.RankedPair.{RankedPair}
use Rattle.closing.specs.Closed.{Meet, glued, AreAlike}

-- the order as the other cache has it
abbrev pub turned : Order → Order
turned Unknown = Unknown
turned Before = After
turned After = Before

-- the same with the caches in the other order
abbrev pub turned_pair : RankedPair → RankedPair
turned_pair r = record { pair = swapped r.pair; order = turned r.order }

-- whether Data, forwards or acks are on their way to a cache
abbrev pub is_busy : PairSide → Bool
is_busy s = not (data_to s == 0) || not (length s.link == 0) || s.owed

-- or forwards that name it
abbrev pub is_open : PairSide → Bool
is_open s = is_busy s || not (s.fwd_gets == 0) || not (s.fwd_getm == 0)

-- an order is kept while both caches are open
abbrev pub ranked : Pair → Order → RankedPair
ranked p order = record { pair = p; order = if is_open p.first && is_open p.second then order else Unknown }

abbrev pub opened_ranked : RankedPair
opened_ranked = record { pair = opened_pair; order = Unknown }

-- a request of the first comes to the home
abbrev pub is_request : Rule → Bool
is_request SentGetS = true
is_request SentGetM = true
is_request SentPutS = true
is_request SentPutM = true
is_request other = false

-- then it is the last that was served
abbrev pub order_after : Rule → Order → Order
order_after rule order = if is_request rule then After else order

-- a step of a pair's first cache by a rule may lead to another pair, and concern this cache besides
abbrev pub Sees : Tables → Rule → Pair → Party → Pair → Type 0
Sees tables rule p concerned q = (t : Bool) × (sight tables rule t p ≡ Seen concerned q)

-- and so may Data that comes to the home
abbrev pub SeesAtHome : Tables → Pair → Party → Pair → Type 0
SeesAtHome tables p concerned q = (t : Bool) × (home_data_seen tables t p ≡ Seen concerned q)

-- what comes of a pair is one of these; where the step concerns a third cache, that cache's own pair is looked at
abbrev pub LeadsTo : List RankedPair → Party → RankedPair → Type 0
LeadsTo list Third r = Unit {0}
LeadsTo list concerned r = Contains list r

-- no step of the pairs' first cache, of a third one or of the home leaves these
pub record Ranked (tables : Tables) (list : List RankedPair) : Type 0 where
  pub opened : Contains list opened_ranked
  pub turned : (r : RankedPair) → Contains list r → Contains list (turned_pair r)
  pub steps : (r : RankedPair) (rule : Rule) (concerned : Party) (q : Pair) → Contains list r → Sees tables rule r.pair concerned q →
      LeadsTo list concerned (ranked q (order_after rule r.order))
  pub home_data : (r : RankedPair) (concerned : Party) (q : Pair) → Contains list r → SeesAtHome tables r.pair concerned q →
      LeadsTo list concerned (ranked q r.order)
  pub unconcerned : (p q r : RankedPair) (rule : Rule) (p2 q2 : Pair) → Contains list p → Contains list q → Contains list r →
      Meet p.pair q.pair r.pair → Sees tables rule p.pair Second p2 → Sees tables rule q.pair Third q2 → p2.shared ≡ q2.shared →
      p2.first ≡ q2.first → Contains list (ranked q2 (order_after rule q.order))
  pub glue : (p q r : RankedPair) (rule : Rule) (one other : Party) (p2 q2 : Pair) → Contains list p → Contains list q → Contains list r →
      Meet p.pair q.pair r.pair → AreAlike one other → Sees tables rule p.pair one p2 → Sees tables rule q.pair other q2 →
      p2.shared ≡ q2.shared → p2.first ≡ q2.first → IsTrue (fits (glued p2 q2 r.pair)) → Contains list (ranked (glued p2 q2 r.pair) r.order)

-- these are the pairs of a list of ranked ones, each at least once
pub record ArePairsOf (list : List RankedPair) (pairs : List Pair) : Type 0 where
  pub all : (r : RankedPair) → Contains list r → Contains pairs r.pair
  pub only : (p : Pair) → Contains pairs p → (r : RankedPair) × Contains list r × (r.pair ≡ p)

-- for how many Data of its last owner a home waits
abbrev pub awaited : DirectoryState → ℕ
awaited SD = 1
awaited other = 0

-- how many Fwd-GetS are on a link
abbrev pub sharings_on : List LinkPlace → ℕ
sharings_on [] = 0
sharings_on (x ∷ xs) = (if same_kind x.kind FwdGetS then 1 else 0) + sharings_on xs

-- each Data for which a home waits is on its way, or a Fwd-GetS that brings it, before a step and after it; of all links such a step changes only that of the
-- first and that of whom it concerns
abbrev pub KeepsBalance : Party → Pair → Pair → Type 0
KeepsBalance Nobody p q =
    (sharings_on q.second.link ≡ sharings_on p.second.link) ×
    (q.shared.home_data + sharings_on q.first.link + awaited p.shared.home ≡ p.shared.home_data + sharings_on p.first.link + awaited q.shared.home)
KeepsBalance Third p q = sharings_on q.second.link ≡ sharings_on p.second.link
KeepsBalance concerned p q =
    q.shared.home_data + sharings_on q.first.link + sharings_on q.second.link + awaited p.shared.home ≡
    p.shared.home_data + sharings_on p.first.link + sharings_on p.second.link + awaited q.shared.home

-- in each step of these pairs
pub record Balanced (tables : Tables) (list : List RankedPair) : Type 0 where
  pub steps : (r : RankedPair) (rule : Rule) (concerned : Party) (q : Pair) → Contains list r → Sees tables rule r.pair concerned q →
      KeepsBalance concerned r.pair q
  pub home_data : (r : RankedPair) (concerned : Party) (q : Pair) → Contains list r → SeesAtHome tables r.pair concerned q → KeepsBalance concerned r.pair q
