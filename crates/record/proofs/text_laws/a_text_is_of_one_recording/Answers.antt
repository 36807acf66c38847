use Rattle.record.proofs.Inverses.{recording-alone, recording-one}
use Rattle.record.proofs.text_laws.a_text_is_of_one_recording.Goals as goal

pub returns-clause-one : goal.returns-clause-one
returns-clause-one c = recording-one

pub returns-clause-alone : goal.returns-clause-alone
returns-clause-alone c = recording-alone
