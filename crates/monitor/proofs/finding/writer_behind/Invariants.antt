use Rattle.std.proofs.Common.{ℕ, ◌<◌}
use Rattle.machine.specs.Coherence.{Writes}
use Rattle.monitor.proofs.finding.writer_behind.Given as goal

abbrev pub invariant-loop-number : goal.invariant-loop-number
invariant-loop-number l = (n : ℕ) → l.first.0 < n → n < l.number → ¬ Writes l.world.state n l.block.0
