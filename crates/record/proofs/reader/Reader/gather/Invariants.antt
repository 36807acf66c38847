use Rattle.std.proofs.Common.{◌+◌, ◌-◌, length}
use Rattle.record_lines.specs.Refused.{limit}
use Rattle.record.specs.inner.Readers.{HasPulled, IsReady}
use Rattle.record_lines.specs.Reading.{pending}
use Rattle.record.proofs.reader.Reader.gather.Given as goal

abbrev pub invariant-loop-self : goal.invariant-loop-self
invariant-loop-self g l = record {
  ready : IsReady g.N.Entries.has_room l.self;
  pulled : HasPulled g.N.Entries.tells (g.S.Source.left l.fn.source) (g.S.Source.left l.source) l.fn.self l.self;
}

abbrev pub decreases-loop-self : goal.decreases-loop-self
decreases-loop-self g l = (limit l.self.due + 1) - length (pending l.self.lines)
