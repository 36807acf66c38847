use Rattle.std.proofs.Common.{◌≡◌, ◌<◌, ℕ, length}
use Rattle.lanes.specs.inner.Kept.{IsListed}
use Rattle.lanes.specs.inner.Opening.{IsReset}
use Rattle.lanes.proofs.Counting.{IsRight}
use Rattle.lanes.proofs.lanes.Lanes.list_all.Given as goal

abbrev pub invariant-loop-lane : goal.invariant-loop-lane
invariant-loop-lane g l = record {
  reset : IsReset l.world.tables l.world.state l.self;
  trees : l.self.trees ≡ l.fn.self.trees;
  source : l.self.source ≡ l.fn.self.source;
  stocks : l.self.stocks ≡ l.fn.self.stocks;
  count : length l.self.trees ≡ l.lane-end;
  listed : (at : ℕ) → at < l.lane → IsListed l.self at;
  right : (at : ℕ) → at < l.lane → IsRight l.world.tables l.world.state l.cores l.self at;
}
