use Rattle.std.proofs.Common.{◌<◌, ◌≤◌, ℕ}
use Rattle.closing.specs.inner.Told.{GluesWith}
use Rattle.closing.proofs.glueing.is_glued_beside.Given as goal

abbrev pub invariant-loop-other : goal.invariant-loop-other
invariant-loop-other l =
    (j : ℕ) → j < l.other → l.fn.beside.begin ≤ j → GluesWith l.list l.numbers.seconds.items l.steps l.ranked l.mine l.between j
