use Rattle.std.proofs.Common.{◌≡◌, false}
use Rattle.std.specs.Prelude.{length}
use Rattle.network.specs.inner.Links.{remarked}
use Rattle.network.proofs.Written.{written}
use Rattle.network.proofs.wire.unmark_each.Given as goal

abbrev pub invariant-loop-found : goal.invariant-loop-found
invariant-loop-found g l = record {
  sent : l.found-items ≡ written (remarked (λ message. false) l.fn.marked.items) l.fn.marked.items l.found-index;
  count : length l.found-items ≡ length l.fn.marked.items;
}
