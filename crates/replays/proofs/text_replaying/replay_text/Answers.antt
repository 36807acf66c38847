use Rattle.record.specs.View.{steps_of}
use Rattle.replays.proofs.text_replaying.replay_text.Goals as goal

pub first_violation-requires : goal.first_violation-requires
first_violation-requires g c = let whole = c.in-Ok.ensures in record { told = (whole.recording, whole.told) }

pub returns-in-Ok-first_violation-clause-ok : goal.returns-in-Ok-first_violation-clause-ok
returns-in-Ok-first_violation-clause-ok g c =
    let whole = c.in-Ok.ensures in
    let r = whole.recording in
    let first = c.in-Ok-first_violation.ensures.violation r whole.told in
    record {
      recording = r;
      recordable = whole.recordable;
      read = whole.read;
      entries = c.count-entries.ensures r whole.told;
      finds = record {
        legal = c.in-Ok-first_violation.ensures.legal r whole.told;
        first = first;
        safe = c.violations_are_what_isnt_safe.ensures.answer r.shape r.tables r.opening (steps_of r) _ first;
        clean = λ restrained.
            c.no_violation_under_restrained_tables.ensures.answer r.shape r.tables r.opening (steps_of r) _ restrained whole.recordable.shape
            whole.recordable.opening.each first;
      };
    }

pub returns-in-Err-first_violation-clause-fault : goal.returns-in-Err-first_violation-clause-fault
returns-in-Err-first_violation-clause-fault g c =
    let whole = c.in-Ok.ensures in
    record {
      recording = whole.recording;
      recordable = whole.recordable;
      read = whole.read;
      refused = c.in-Err-first_violation.ensures.differs whole.recording whole.told;
    }
