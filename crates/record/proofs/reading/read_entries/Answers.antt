use Rattle.std.proofs.Common.{Some, subst, sym}
use Rattle.record.specs.inner.Drafts.{recorded}
use Rattle.record.proofs.Telling.{read-recordable, read-versioned}
use Rattle.record.proofs.reading.read_entries.Goals as goal

pub returns-in-Ok : goal.returns-in-Ok
returns-in-Ok g c =
    let whole = c.in-Ok.ensures.text in
    record {
      recording = recorded whole.recording;
      recordable = read-recordable whole.recording whole.read.read;
      read = record { version = whole.recording.version; told = read-versioned whole.recording whole.read.read; read = whole.text };
      told = subst (λ m. g.N.Entries.tells m (Some (recorded whole.recording))) (sym c.entries.ensures) whole.read.told;
    }
