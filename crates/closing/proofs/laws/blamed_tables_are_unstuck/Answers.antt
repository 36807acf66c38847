use Rattle.closing.proofs.Flowing.{blamed-flowing, blamed-unstuck}
use Rattle.closing.proofs.laws.blamed_tables_are_unstuck.Goals as goal

pub returns-clause-flowing : goal.returns-clause-flowing
returns-clause-flowing c tables pairs list shape opening steps closed blamed within opens =
    blamed-flowing tables pairs list shape opening steps closed blamed within

pub returns-clause-unstuck : goal.returns-clause-unstuck
returns-clause-unstuck c tables pairs list shape opening steps closed blamed serves within opens =
    blamed-unstuck tables pairs list shape opening steps closed blamed serves within
