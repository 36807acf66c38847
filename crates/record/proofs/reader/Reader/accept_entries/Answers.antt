use Rattle.std.proofs.Common.{◌≡◌, ◌<◌, ◌-◌, ◌∷◌, ap, arith, length, length-append, refl, subst, sym, ◌∙◌}
use Rattle.base.specs.Words.{joined}
use Rattle.record_lines.specs.Text.{entry_words}
use Rattle.record_lines.specs.declared.due.Due.{Due}
use Rattle.record.specs.declared.reader.Reader.{Reader}
use Rattle.record.specs.inner.Drafts.{lines_left, recorded}
use Rattle.record.specs.inner.Readers.{HasReadSome, IsReading, IsReady}
use Rattle.record_lines.specs.Reading.{Gathered}
use Rattle.record.proofs.Ahead.{fewer-behind, none-taken, one-left, one-more, still-due, still-ready, with-due}
use Rattle.record.proofs.reader.Reader.accept_entries.Goals as goal
use Rattle.record.proofs.reader.Reader.accept_entries.Goals.{else-loop-left-test, then-loop-left-test+in_default-take_entry}

pub loop-left-init : goal.loop-left-init
loop-left-init g c =
    let form = c.in-EntryLine.form in
    let left = c.in-EntryLine.left in
    let reading = c.requires.read.2 in
    let one = one-left g.N.Entries.tells form left _ _ _ reading.recording c.in-EntryLine.is reading.read in
    let same = none-taken form left c.args.self.now c.in-EntryLine.is one.0 in
    record {
      read = subst (HasReadSome g.N.Entries.tells) same c.requires.read;
      reads = λ before last h. subst (IsReading g.N.Entries.tells before last) same h;
      ready = subst (IsReady g.N.Entries.has_room) same c.requires.ready;
      fewer = omega (arith, ap lines_left (still-due form left one.0 ∙ sym c.in-EntryLine.is));
    }

pub add-requires-clause-few : goal.add-requires-clause-few
add-requires-clause-few g c =
    let reading = c.loop-left.invariant.read.2 in
    let one =
    one-left g.N.Entries.tells c.in-EntryLine.form c.loop-left.left _ _ _ reading.recording
    (still-due c.in-EntryLine.form c.loop-left.left c.loop-left-test.true) reading.read in
    (recorded reading.recording, one.1, one.2)

pub add-requires-clause-room : goal.add-requires-clause-room
add-requires-clause-room g c =
    let behind = c.take_entry.new.self.ahead in
    c.loop-left.invariant.ready.space 1
    (omega (arith, ap length c.in-Some.ensures.ahead, length-append (joined (entry_words c.in-Some.entry)) (10 ∷ behind)))

pub loop-left-preserved : goal.loop-left-preserved
loop-left-preserved g c =
    let form = c.in-EntryLine.form in
    let left = c.loop-left.left in
    let entry = c.in-Some.entry in
    let old = with-due form left c.loop-left.self in
    let new =
    with-due form (left - 1) (record {
      lines = c.take_entry.new.self;
      due = c.loop-left.self.due;
      draft = c.loop-left.self.draft;
      entries = c.add.new.self;
    }) in
    let at = still-due form left c.loop-left-test.true in
    let none : form.seats ≡ 0 = omega (arith, c.if-form-gt0.false) in
    let taken = c.in-Some.ensures in
    let less : lines_left new.due < lines_left old.due = fewer-behind form left old.due new.due entry at none taken.fits refl in
    let more = one-more g.N.Entries.tells form left old new entry at none taken.fits taken refl refl (λ v t. c.add.ensures.told v t) in
    let read = c.loop-left.invariant.read in
    record {
      read = (read.0, read.1, more read.0 read.1 read.2);
      reads = λ before last h. more before last (c.loop-left.invariant.reads before last h);
      ready = still-ready g.N.Entries.has_room old new entry c.loop-left.invariant.ready taken less refl c.add.ensures.room;
      fewer = omega (arith, less, c.loop-left.invariant.fewer);
    }

pub returns-clause-reads : goal.returns-clause-reads
returns-clause-reads g c = λ before last h.
    let stays : c.loop-left.self ≡ c.loop-left-test.self = elim c.loop-left-test.branch [
      | else-loop-left-test w ↦ sym w.self-is
      | then-loop-left-test+in_default-take_entry w ↦
          ap (λ (l : Gathered). record {
            lines = l;
            due = c.loop-left.self.due;
            draft = c.loop-left.self.draft;
            entries = c.loop-left.self.entries;
          }) (sym w.in_default-take_entry.ensures) ∙ sym w.self-is
    ] in
    subst
    (λ (d : Due). IsReading g.N.Entries.tells before last (record {
      lines = c.loop-left-test.self.lines;
      due = d;
      draft = c.loop-left-test.self.draft;
      entries = c.loop-left-test.self.entries;
    })) (sym c.entries-self.ensures)
    (subst (λ (r : Reader _). IsReading g.N.Entries.tells before last (with-due c.in-EntryLine.form c.loop-left.left r)) stays
    (c.loop-left.invariant.reads before last h))
