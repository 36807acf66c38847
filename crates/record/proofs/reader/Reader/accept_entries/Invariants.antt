use Rattle.std.proofs.Common.{◌≤◌}
use Rattle.record_lines.specs.Grammar.{entries_due}
use Rattle.record.specs.inner.Drafts.{lines_left}
use Rattle.record.specs.inner.Readers.{HasReadSome, IsReady, StillReads}
use Rattle.record.proofs.Ahead.{with-due}
use Rattle.record.proofs.reader.Reader.accept_entries.Given as goal

abbrev pub invariant-loop-left : goal.invariant-loop-left
invariant-loop-left g l = record {
  read : HasReadSome g.N.Entries.tells (with-due l.form l.left l.self);
  reads : StillReads g.N.Entries.tells l.fn.self (with-due l.form l.left l.self);
  ready : IsReady g.N.Entries.has_room (with-due l.form l.left l.self);
  fewer : lines_left (entries_due l.form l.left) ≤ lines_left l.fn.self.due;
}

abbrev pub decreases-loop-left : goal.decreases-loop-left
decreases-loop-left g l = l.left
