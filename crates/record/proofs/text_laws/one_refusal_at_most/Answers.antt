use Rattle.record_lines.proofs.Distinct.{one-refusal}
use Rattle.record_lines.proofs.Refusals.{whole-refused}
use Rattle.record.proofs.text_laws.one_refusal_at_most.Goals as goal

pub returns-clause-one : goal.returns-clause-one
returns-clause-one c = one-refusal

pub returns-clause-none : goal.returns-clause-none
returns-clause-none c = whole-refused
