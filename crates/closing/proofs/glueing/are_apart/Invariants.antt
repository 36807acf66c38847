use Rattle.std.proofs.Common.{◌≡◌, ◌+◌, length}
use Rattle.closing.specs.Closed as closed
use Rattle.closing.proofs.glueing.are_apart.Given as goal

-- what is left of both lists decides
abbrev pub invariant-loop : goal.invariant-loop
invariant-loop l = record {
  left : closed.are_apart l.mine l.theirs ≡ closed.are_apart l.marks l.others;
  few : length l.mine + l.counter ≡ length l.marks;
}
