use Rattle.std.proofs.Common.{◌≤◌, ◌+◌, ◌++◌, List, length, vec_capacity, vec_len}
use Rattle.floor.specs.Crews.{ComeBack}
use Rattle.floor.proofs.crews.finish_all.Given as goal

abbrev pub invariant-loop-running : goal.invariant-loop-running
invariant-loop-running g l = ((rest : List _) → ComeBack l.running.items rest → ComeBack l.fn.running.items (l.back.items ++ rest))
    × (length l.back.items + length l.running.items ≤ vec_capacity l.back)

abbrev pub decreases-loop-running : goal.decreases-loop-running
decreases-loop-running g l = vec_len l.running
