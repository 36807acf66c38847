use Rattle.std.proofs.Common.{◌≡◌, ◌≤◌, ◌<◌, ◌*◌, ℕ, take}
use Rattle.record.specs.inner.Pieces.{IsOut, pieces, PieceFits}
use Rattle.record.proofs.Whole.{flat}
use Rattle.record.proofs.recording.Recording.write.Given as goal

abbrev pub invariant-loop-number : goal.invariant-loop-number
invariant-loop-number g l =
    IsOut (g.S.Sink.taken l.initial.sink) (g.S.Sink.taken l.sink) (flat (take l.number (pieces l.self))) 0 l.written
    × (g.S.Sink.has_failed l.sink ≡ g.S.Sink.has_failed l.initial.sink)
    × (l.written ≤ 192 * l.number)
    × ((n : ℕ) → n < l.number → PieceFits l.self n)
