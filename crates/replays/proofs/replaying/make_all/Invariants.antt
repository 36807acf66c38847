use Rattle.std.proofs.Common.{take}
use Rattle.replays.specs.inner.Making.{HasMadeFirst}
use Rattle.replays.proofs.replaying.make_all.Given as goal

abbrev pub invariant-loop-number : goal.invariant-loop-number
invariant-loop-number l = HasMadeFirst l.recording (take l.number l.told) l.run
