use Rattle.record.specs.inner.Drafts.{lines_left}
use Rattle.record.specs.inner.Readers.{IsReading, IsReady}
use Rattle.record.proofs.reader.Reader.read_all.Given as goal

abbrev pub invariant-loop-self : goal.invariant-loop-self
invariant-loop-self g l = record {
  reading : IsReading g.N.Entries.tells (g.S.Source.left l.fn.source) (g.S.Source.left l.source) l.self;
  ready : IsReady g.N.Entries.has_room l.self;
}

abbrev pub decreases-loop-self : goal.decreases-loop-self
decreases-loop-self g l = lines_left l.self.due
