use Rattle.machine.proofs.Progress.{own-never_stuck, restrained-flowing, never_stuck}
use Rattle.machine.proofs.laws.restrained_tables_are_unstuck.Goals as goal

pub returns-clause-own : goal.returns-clause-own
returns-clause-own c p = own-never_stuck p

pub returns-clause-flowing : goal.returns-clause-flowing
returns-clause-flowing c tables shape opening steps restrains going within opens = restrained-flowing tables shape opening steps restrains going within

pub returns-clause-unstuck : goal.returns-clause-unstuck
returns-clause-unstuck c tables shape opening steps never within opens = never_stuck tables shape opening steps never within
