use Rattle.record.proofs.Completing.{whole-text_of}
use Rattle.record.proofs.text_laws.well_formed_bytes_are_a_text.Goals as goal

pub returns : goal.returns
returns c = whole-text_of
