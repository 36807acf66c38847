-- A block as two of its caches see it: their lines, what is on its way to and from each, and which places of a link name the other.
use Rattle.std.specs.Prelude.{ℕ, ◌+◌, List, [], ◌∷◌, None, Bool, true, false, not, ◌&&◌, ◌||◌, if◌then◌else◌, ◌==◌, nat_le, length}
use Rattle.network.specs.declared.message.ForwardKind.{ForwardKind}
use Rattle.network.specs.declared.message.ForwardKind.TheVariants.{FwdGetS, FwdGetM, Inv, PutAck}
use Rattle.cache_table.specs.declared.state.CacheState.TheVariants.{I}
use Rattle.directory_table.specs.declared.state.DirectoryState.TheVariants as home
use Rattle.pairs.specs.declared.link.LinkPlace.{LinkPlace}
use Rattle.pairs.specs.declared.side.Owned.{Owned}
use Rattle.pairs.specs.declared.side.Owned.TheVariants.{ByNobody, ByItself, ByAnother}
use Rattle.pairs.specs.declared.side.Lag.TheVariants.{Level}
use Rattle.pairs.specs.declared.side.PairSide.{PairSide}
use Rattle.pairs.specs.declared.pair.Shared.{Shared}
use Rattle.pairs.specs.declared.pair.Pair.{Pair}

-- the same with the caches in the other order
abbrev pub swapped : Pair → Pair
swapped p = record { shared = p.shared; first = p.second; second = p.first; first_names = p.second_names; second_names = p.first_names }

-- a cache that nothing has happened to
abbrev pub opened_side : PairSide
opened_side = record {
  state = I;
  waits = None;
  fresh = false;
  gets = 0;
  getm = 0;
  puts = 0;
  putm = 0;
  fresh_putm = true;
  dir_data = 0;
  owner_data = 0;
  excl_data = 0;
  fresh_data = true;
  low = true;
  owed = false;
  lag = Level;
  fwd_gets = 0;
  fwd_getm = 0;
  link = [];
  shares = false;
  others = false;
  owned = ByNobody;
}

-- any two caches of a block that nothing has happened to
abbrev pub opened_pair : Pair
opened_pair = record {
  shared = record { home = home.I; fresh_memory = true; home_data = 0; fresh_home_data = true };
  first = opened_side;
  second = opened_side;
  first_names = [];
  second_names = [];
}

-- how many Data are on their way to a cache
abbrev pub data_to : PairSide → ℕ
data_to s = s.dir_data + s.owner_data + s.excl_data

-- none of a kind is fresh in whatever sense: so fresh is said of what isn't there
abbrev pub trimmed : PairSide → PairSide
trimmed s = record s { fresh_putm = s.fresh_putm || (s.putm == 0); fresh_data = s.fresh_data || (data_to s == 0) }

abbrev pub trimmed_home : Shared → Shared
trimmed_home g = record g { fresh_home_data = g.fresh_home_data || (g.home_data == 0) }

-- two caches agree on who owns the block
abbrev pub owners_fit : Owned → Owned → Bool
owners_fit ByNobody ByNobody = true
owners_fit ByItself ByAnother = true
owners_fit ByAnother ByItself = true
owners_fit ByAnother ByAnother = true
owners_fit mine theirs = false

-- two tests agree
abbrev pub alike : Bool → Bool → Bool
alike true other = other
alike false other = not other

-- whether a third cache shares may be this
abbrev pub thirds_fit : Bool → Pair → Bool
thirds_fit third p = alike p.first.others (p.second.shares || third) && alike p.second.others (p.first.shares || third)

abbrev pub same_kind : ForwardKind → ForwardKind → Bool
same_kind FwdGetS FwdGetS = true
same_kind FwdGetM FwdGetM = true
same_kind Inv Inv = true
same_kind PutAck PutAck = true
same_kind kind other = false

-- how many forwards of a kind on a link stand where a mark is set
abbrev pub marked : ForwardKind → List LinkPlace → List Bool → ℕ
marked kind [] marks = 0
marked kind (x ∷ xs) [] = 0
marked kind (x ∷ xs) (mark ∷ marks) = (if mark && same_kind x.kind kind then 1 else 0) + marked kind xs marks

-- how many forwards of a kind on a cache's own link name it
abbrev pub own_marked : ForwardKind → List LinkPlace → ℕ
own_marked kind [] = 0
own_marked kind (x ∷ xs) = (if x.own && same_kind x.kind kind then 1 else 0) + own_marked kind xs

-- what a cache's link and the other's name of it is counted in what names it
abbrev pub names_fit : PairSide → PairSide → List Bool → Bool
names_fit s other marks =
    nat_le (own_marked FwdGetS s.link + marked FwdGetS other.link marks) s.fwd_gets
    && nat_le (own_marked FwdGetM s.link + marked FwdGetM other.link marks) s.fwd_getm
    && ((marked Inv other.link marks == 0) || s.owed)

-- what is so of any two caches of any block
abbrev pub fits : Pair → Bool
fits p =
    owners_fit p.first.owned p.second.owned
    && (thirds_fit true p || thirds_fit false p)
    && names_fit p.first p.second p.second_names
    && names_fit p.second p.first p.first_names

-- few enough of each kind: two that ask for the block, two that hand such an ask on, two on the link, and one of each other
abbrev pub is_few_side : PairSide → Bool
is_few_side s =
    nat_le s.gets 2 && nat_le s.getm 2 && nat_le s.puts 1 && nat_le s.putm 1
    && nat_le s.dir_data 1 && nat_le s.owner_data 1 && nat_le s.excl_data 1
    && nat_le s.fwd_gets 2 && nat_le s.fwd_getm 2 && nat_le (length s.link) 2

-- a pair that is followed: more than this many messages of a kind are given up
abbrev pub is_few : Pair → Bool
is_few p = nat_le p.shared.home_data 1 && is_few_side p.first && is_few_side p.second
