-- The pair that two caches of a block are, where some of its values are known to be the last store's.
use Rattle.std.proofs.Common.{◌≡◌, ℕ, ◌+◌, List, ◌==◌, Option, Some, None, Bool, true, not, if◌then◌else◌, map, sum_by, All, nat_le, ◌≤◌, ℤ, pos, ◌+ℤ◌}
use Rattle.std.specs.Int.Signed.{◌<ℤ◌}
use Rattle.base.specs.declared.ids.CacheId.{CacheId}
use Rattle.base.specs.declared.ids.Place.TheVariants.{Dir, Cache}
use Rattle.base.specs.declared.step.Ask.{Ask}
use Rattle.base.specs.declared.step.Ask.TheVariants as ask
use Rattle.network.specs.declared.message.Request.{Request}
use Rattle.network.specs.declared.message.RequestKind.TheVariants as request
use Rattle.network.specs.declared.message.Response.{Response}
use Rattle.network.specs.declared.message.Response.TheVariants.{Data, DataExcl}
use Rattle.network.specs.Traffic.{Traffic, link}
use Rattle.control.specs.declared.line.Line.{Line}
use Rattle.control.specs.declared.home.Home.{Home}
use Rattle.control.specs.Sharing.{shares, others_from}
use Rattle.machine.specs.Block.{BlockState}
use Rattle.pairs.specs.declared.side.Waiting.{Waiting}
use Rattle.pairs.specs.declared.side.Waiting.TheVariants as waiting_for
use Rattle.machine.proofs.Counts.{total}
use Rattle.machine.proofs.Seen.{line_of, late_of, from, names, is_gets, is_getm, is_puts, is_putm, is_fwd_gets, is_fwd_getm, is_inv, dir_data, owner_data}
use Rattle.machine.proofs.Seen.{excl_data, home_data, inv_ack, ack_number}
use Rattle.pairs.specs.declared.side.Owned.{Owned}
use Rattle.pairs.specs.declared.side.Lag.{Lag}
use Rattle.pairs.specs.declared.side.Lag.TheVariants.{Behind, Level, Ahead}
use Rattle.pairs.specs.declared.side.PairSide.{PairSide}
use Rattle.pairs.specs.declared.pair.Shared.{Shared}
use Rattle.pairs.specs.declared.pair.Pair.{Pair}
use Rattle.pairs.specs.declared.side.Owned.TheVariants.{ByNobody, ByItself, ByAnother}
use Rattle.pairs.specs.Pairs.{trimmed, trimmed_home, is_few_side}

-- of each place of a value whether it is known to be the last store's: lines, all Data to a cache, all PutM from it, all Data to the home, and memory. And of
-- each cache what it awaits beside what is owed to it
pub record Tags : Type 0 where
  pub line : ℕ → Bool
  pub data_to : ℕ → Bool
  pub putm : ℕ → Bool
  pub home_data : Bool
  pub memory : Bool
  pub lag : ℕ → Lag

-- the access that waits
abbrev pub waiting_of : Option Ask → Option Waiting
waiting_of None = None
waiting_of (Some ask.Load) = Some waiting_for.Load
waiting_of (Some (ask.Store value)) = Some waiting_for.Store
waiting_of (Some ask.Replace) = None

-- who owns the block, as a cache knows it
abbrev pub owned_in : Option CacheId → ℕ → Owned
owned_in None c = ByNobody
owned_in (Some owner) c = if owner.0 == c then ByItself else ByAnother

-- how many acks are owed to a cache
abbrev pub owed_to : BlockState → ℕ → ℕ
owed_to b c = total (names c is_inv) b.traffic.links + sum_by (inv_ack c) b.traffic.responses

-- which places of a cache's link name another one
abbrev pub names_in : Traffic → ℕ → ℕ → List Bool
names_in w c d = map (λ f. f.requestor.0 == d) (link w c)

abbrev pub names_on : BlockState → ℕ → ℕ → List Bool
names_on b c d = names_in b.traffic c d

-- whether acks are owed to a cache, and what it awaits beside them
pub record Owing : Type 0 where
  pub any : Bool
  pub lag : Lag

-- what a cache shows besides what is on the wires: its line, whether that one's value is fresh, and what is owed to it
pub record Face : Type 0 where
  pub line : Line
  pub fresh : Bool
  pub owed : Owing

-- how many Data are on their way to a cache
abbrev pub data_count : ℕ → List Response → ℕ
data_count c rs = sum_by (dir_data c) rs + sum_by (owner_data c) rs + sum_by (excl_data c) rs

-- a cache with this face, this home and these wires
abbrev pub side_of : Face → Tags → Home → Traffic → ℕ → PairSide
side_of f tags home w c = trimmed (record {
  state = f.line.state;
  waits = waiting_of f.line.pending;
  fresh = f.fresh;
  gets = sum_by (from c is_gets) w.requests;
  getm = sum_by (from c is_getm) w.requests;
  puts = sum_by (from c is_puts) w.requests;
  putm = sum_by (from c is_putm) w.requests;
  fresh_putm = tags.putm c;
  dir_data = sum_by (dir_data c) w.responses;
  owner_data = sum_by (owner_data c) w.responses;
  excl_data = sum_by (excl_data c) w.responses;
  fresh_data = tags.data_to c;
  low = late_of f.line.acks == 0;
  owed = f.owed.any;
  lag = f.owed.lag;
  fwd_gets = total (names c is_fwd_gets) w.links;
  fwd_getm = total (names c is_fwd_getm) w.links;
  link = map (λ f. record { kind = f.kind; own = f.requestor.0 == c }) (link w c);
  shares = shares home.sharers c;
  others = not (others_from 0 c home.sharers == 0);
  owned = owned_in home.owner c;
})

-- what all caches see, with this home and these wires
abbrev pub shared_of : Tags → Home → Traffic → Shared
shared_of tags home w = trimmed_home (record {
  home = home.state;
  fresh_memory = tags.memory;
  home_data = sum_by home_data w.responses;
  fresh_home_data = tags.home_data;
})

-- two caches with these faces, this home and these wires
abbrev pub pair_of : Face → Face → Tags → Home → Traffic → ℕ → ℕ → Pair
pair_of f g tags home w c d = record {
  shared = shared_of tags home w;
  first = side_of f tags home w c;
  second = side_of g tags home w d;
  first_names = names_in w c d;
  second_names = names_in w d c;
}

-- what is owed to a cache of a block
abbrev pub owing : Tags → BlockState → ℕ → Owing
owing tags b c = record { any = not (owed_to b c == 0); lag = tags.lag c }

-- a cache of a block
abbrev pub face : Tags → BlockState → ℕ → Face
face tags b c = record { line = line_of b.lines c; fresh = tags.line c; owed = owing tags b c }

abbrev pub side : Tags → BlockState → ℕ → PairSide
side tags b c = side_of (face tags b c) tags b.home b.traffic c

-- what all caches of a block see
abbrev pub shared : Tags → BlockState → Shared
shared tags b = shared_of tags b.home b.traffic

-- two caches of a block
abbrev pub alpha : Tags → BlockState → ℕ → ℕ → Pair
alpha tags b c d = pair_of (face tags b c) (face tags b d) tags b.home b.traffic c d

-- if a response brings Data to a cache, its value is this
abbrev pub Brings : ℕ → ℕ → Response → Type 0
Brings c value (Data by (Cache to) v acks) = to.0 ≡ c → v ≡ value
Brings c value (DataExcl to v) = to.0 ≡ c → v ≡ value
Brings c value other = Unit {0}

-- likewise to the home
abbrev pub BringsHome : ℕ → Response → Type 0
BringsHome value (Data by Dir v acks) = v ≡ value
BringsHome value other = Unit {0}

-- if a request is a PutM from a cache, its value is this
abbrev pub Puts : ℕ → ℕ → Request → Type 0
Puts c value r = r.from.0 ≡ c → (v : ℕ) → r.kind ≡ request.PutM v → v ≡ value

-- what is known is so
pub record AreTrue (tags : Tags) (b : BlockState) : Type 0 where
  pub line : (c : ℕ) → tags.line c ≡ true → (line_of b.lines c).value ≡ b.latest
  pub data_to : (c : ℕ) → tags.data_to c ≡ true → All (Brings c b.latest) b.traffic.responses
  pub putm : (c : ℕ) → tags.putm c ≡ true → All (Puts c b.latest) b.traffic.requests
  pub home_data : tags.home_data ≡ true → All (BringsHome b.latest) b.traffic.responses
  pub memory : tags.memory ≡ true → b.home.memory ≡ b.latest

-- fewer acks are awaited than are owed, as many, or more. Where not fewer, so few are owed that no count of acks leaves 64 bits
abbrev pub LagIs : Lag → ℤ → ℕ → Type 0
LagIs Behind awaited owed = awaited <ℤ pos owed
LagIs Level awaited owed = (awaited ≡ pos owed) × (owed ≤ 4294967296)
LagIs Ahead awaited owed = (pos owed <ℤ awaited) × (owed ≤ 4294967296)

-- what pairs rest on: tags that are true, and few messages of each kind
pub record Faithful (tags : Tags) (b : BlockState) : Type 0 where
  pub tags_are_true : AreTrue tags b
  pub few : (c : ℕ) → is_few_side (side tags b c) ≡ true
  pub few_home : nat_le (sum_by home_data b.traffic.responses) 1 ≡ true
  pub lags : (c : ℕ) → LagIs (tags.lag c) ((line_of b.lines c).acks +ℤ pos (sum_by (ack_number c) b.traffic.responses)) (owed_to b c)
  pub announced : (c : ℕ) → sum_by (ack_number c) b.traffic.responses ≤ 4294967296
