use Rattle.machine.proofs.Safety.{own-restrained, restrained-never-met, restrained-safe}
use Rattle.machine.proofs.laws.restrained_tables_are_safe.Goals as goal

pub returns-clause-own : goal.returns-clause-own
returns-clause-own c protocol = own-restrained protocol

pub returns-clause-safe : goal.returns-clause-safe
returns-clause-safe c tables shape opening steps restrains within opens = restrained-safe tables shape opening steps restrains within

pub returns-clause-never_met : goal.returns-clause-never_met
returns-clause-never_met c tables shape opening steps step restrains within opens = restrained-never-met tables shape opening steps step restrains within
