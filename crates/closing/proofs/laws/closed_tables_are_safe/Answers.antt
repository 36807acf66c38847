use Rattle.closing.proofs.Closing.{closed-safe}
use Rattle.closing.proofs.laws.closed_tables_are_safe.Goals as goal

pub returns : goal.returns
returns c = record { safe = λ tables pairs shape opening steps closed within opens. closed-safe tables pairs shape opening steps closed within }
