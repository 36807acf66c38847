use Rattle.std.proofs.Common.{◌<◌, ℕ}
use Rattle.closing.specs.inner.Told.{GluesAt}
use Rattle.closing.proofs.glueing.are_glued.Given as goal

abbrev pub invariant-loop-place : goal.invariant-loop-place
invariant-loop-place l = (k : ℕ) → k < l.place → GluesAt l.list l.numbers l.steps k
