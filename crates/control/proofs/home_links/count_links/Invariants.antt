use Rattle.std.proofs.Common.{◌≡◌, ◌≤◌, ◌*◌, length}
use Rattle.control.specs.inner.HomeCounting.{links_below}
use Rattle.control.proofs.home_links.count_links.Given as goal

abbrev pub invariant-loop-number : goal.invariant-loop-number
invariant-loop-number l = record {
  listed : l.count ≡ length (links_below l.number l.from l.actions l.home);
  few : l.count ≤ 8 * l.number;
}
