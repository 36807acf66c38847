use Rattle.std.proofs.Common.{◌≡◌, All, length}
use Rattle.world.specs.inner.Counts.{none_counted}
use Rattle.floor.proofs.shares.open_shares.Given as goal

abbrev pub invariant-loop : goal.invariant-loop
invariant-loop l = record {
  count : length l.shares.items ≡ l.counter;
  none : All (λ rows. rows ≡ none_counted (length l.setup.opening)) l.shares.items;
}
