use Rattle.std.proofs.Common.{◌≡◌, ◌≤◌, ◌+◌, ◌++◌, map, length, vec_capacity}
use Rattle.floor.proofs.crews.start_all.Given as goal

abbrev pub invariant-loop-flag : goal.invariant-loop-flag
invariant-loop-flag g l = (l.running.items ++ map (λ m. m.0) l.members.items ≡ map (λ m. m.0) l.fn.members.items)
    × (length l.members.items + l.flag-index ≡ length l.flags)
    × (length l.running.items + length l.members.items ≤ vec_capacity l.running)
