use Rattle.std.proofs.Common.{length}
use Rattle.command_tables.specs.inner.Leading.{HasGoneOn}
use Rattle.command_tables.proofs.jamming.makes_all.Given as goal

abbrev pub invariant-loop-line : goal.invariant-loop-line
invariant-loop-line l = HasGoneOn l.initial.world l.steps l.rest l.world

abbrev pub decreases-loop-line : goal.decreases-loop-line
decreases-loop-line l = length l.rest
