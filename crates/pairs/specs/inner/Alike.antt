-- Parts of two sides that are the same.
use Rattle.std.specs.Prelude.{◌≡◌}
use Rattle.pairs.specs.declared.side.PairSide.{PairSide}

-- the same requests
abbrev pub AskAlike : PairSide → PairSide → Type 0
AskAlike s t = (s.gets ≡ t.gets) × (s.getm ≡ t.getm) × (s.puts ≡ t.puts) × (s.putm ≡ t.putm) × (s.fresh_putm ≡ t.fresh_putm)

-- the same Data
abbrev pub GetAlike : PairSide → PairSide → Type 0
GetAlike s t = (s.dir_data ≡ t.dir_data) × (s.owner_data ≡ t.owner_data) × (s.excl_data ≡ t.excl_data) × (s.fresh_data ≡ t.fresh_data)

-- the same forwards
abbrev pub AreNamedAlike : PairSide → PairSide → Type 0
AreNamedAlike s t = (s.fwd_gets ≡ t.fwd_gets) × (s.fwd_getm ≡ t.fwd_getm) × (s.link ≡ t.link)

-- the same line
abbrev pub HaveLinesAlike : PairSide → PairSide → Type 0
HaveLinesAlike s t = (s.state ≡ t.state) × (s.waits ≡ t.waits) × (s.fresh ≡ t.fresh) × (s.low ≡ t.low)

-- all else
abbrev pub StandAlike : PairSide → PairSide → Type 0
StandAlike s t = (s.owed ≡ t.owed) × (s.lag ≡ t.lag) × (s.shares ≡ t.shares) × (s.others ≡ t.others) × (s.owned ≡ t.owned)
