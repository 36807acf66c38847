use Rattle.std.proofs.Common.{ℕ, ◌<◌, ◌≢◌}
use Rattle.machine.specs.Coherence.{Reads}
use Rattle.monitor.proofs.finding.reader_beside.Given as goal

abbrev pub invariant-loop-number : goal.invariant-loop-number
invariant-loop-number l = (n : ℕ) → n < l.number → ¬ ((n ≢ l.writer.0) × Reads l.world.state n l.block.0)
