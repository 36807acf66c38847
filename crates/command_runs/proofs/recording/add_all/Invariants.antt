use Rattle.std.proofs.Common.{◌≡◌}
use Rattle.command_runs.proofs.recording.add_all.Given as goal

abbrev pub invariant-loop : goal.invariant-loop
invariant-loop g l = l.recording.seats ≡ 0
