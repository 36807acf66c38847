use Rattle.std.proofs.Common.{◌≡◌, ◌≤◌, length, vec_capacity}
use Rattle.control.specs.inner.HomeCounting.{links_below, links_of}
use Rattle.control.proofs.home_links.fill.Given as goal

abbrev pub invariant-loop-number : goal.invariant-loop-number
invariant-loop-number l = record {
  listed : l.links.items ≡ links_below l.number l.from l.actions l.home;
  room : length (links_of l.from l.actions l.home) ≤ vec_capacity l.links;
}
