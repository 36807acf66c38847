use Rattle.std.proofs.Common.{subst, sym}
use Rattle.std.specs.Io.KnownBytes.{Consumes}
use Rattle.record.specs.View.{RecordingView}
use Rattle.record.specs.Recordable.{IsRecordable}
use Rattle.record.specs.Text.{text}
use Rattle.record.specs.Versions.{HasTextIn}
use Rattle.record.proofs.Telling.{read-recordable, read-versioned}
use Rattle.record.proofs.Inverses.{read-back, refused-outside}
use Rattle.record.proofs.recording.Recording.read.Goals as goal

pub recording-requires : goal.recording-requires
recording-requires g c = let whole = c.in-Ok.ensures.text in record { read = (whole.recording, whole.read) }

pub returns-in-Ok-clause-read : goal.returns-in-Ok-clause-read
returns-in-Ok-clause-read g c =
    let whole = c.in-Ok.ensures.text in
    let is = c.recording.ensures.recording whole.recording whole.read in
    record {
      text = record {
        version = whole.recording.version;
        told = subst (HasTextIn whole.recording.version) (sym is) (read-versioned whole.recording whole.read.read);
        read =
            subst
            (λ (r : RecordingView). Consumes (g.S.Source.left c.args.source.now) (g.S.Source.left c.read_text.new.source) (text whole.recording.version r))
            (sym is) whole.text;
      };
      whole = c.in-Ok.ensures.whole;
      recordable = subst IsRecordable (sym is) (read-recordable whole.recording whole.read.read);
    }

pub returns-in-Ok-clause-back : goal.returns-in-Ok-clause-back
returns-in-Ok-clause-back g c v r h t is =
    let found = returns-in-Ok-clause-read g c in
    read-back _ _ v found.text.version r c.recording.result h t found.recordable found.text.told is found.text.read

pub returns-in-Err-clause-back : goal.returns-in-Err-clause-back
returns-in-Err-clause-back g c v r h t is = refused-outside _ _ _ c.in-Err.fault.kind v r h t is c.in-Err.ensures.refused.refused
