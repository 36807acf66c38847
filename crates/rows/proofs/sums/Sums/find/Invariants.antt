use Rattle.rows.specs.inner.Tree.{IsOnTheWay}
use Rattle.rows.proofs.sums.Sums.find.Given as goal

abbrev pub invariant-loop : goal.invariant-loop
invariant-loop l = IsOnTheWay l.self-inside.tree.items l.counter l.node l.rest l.k
