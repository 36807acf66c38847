use Rattle.std.proofs.Common.{◌≡◌, ◌+◌, ◌++◌, length}
use Rattle.closing.specs.Closed as closed
use Rattle.closing.proofs.glueing.lengthened.Given as goal

-- what is there and what is left make all
abbrev pub invariant-loop : goal.invariant-loop
invariant-loop l = record {
  made : l.all ++ closed.lengthened l.places l.rest ≡ closed.lengthened l.link l.marks;
  count : length l.all ≡ l.counter;
  left : length l.places + l.counter ≡ length l.link;
}
