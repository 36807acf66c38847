use Rattle.std.proofs.Common.{◌≡◌, ◌≤◌, ◌-◌, take, length}
use Rattle.std.specs.Io.KnownBytes.{Appends}
use Rattle.base.proofs.ends.put_all.Given as goal

abbrev pub invariant-loop-written : goal.invariant-loop-written
invariant-loop-written g l = (l.written ≤ length l.bytes) × Appends (g.S.Sink.taken l.initial.sink) (g.S.Sink.taken l.sink) (take l.written l.bytes)
    × (g.S.Sink.has_failed l.sink ≡ g.S.Sink.has_failed l.initial.sink)

abbrev pub decreases-loop-written : goal.decreases-loop-written
decreases-loop-written g l = length l.bytes - l.written
