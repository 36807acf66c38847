use Rattle.monitor.proofs.safety.no_violation_under_restrained_tables.Goals as goal

pub returns-clause-none : goal.returns-clause-none
returns-clause-none c shape tables opening steps restrained within each =
    (c.violations_are_what_isnt_safe.ensures.none shape tables opening steps).1
    (c.restrained_tables_are_safe.ensures.safe tables shape opening steps restrained within each)

pub returns-clause-answer : goal.returns-clause-answer
returns-clause-answer c shape tables opening steps found restrained within each answers =
    (c.violations_are_what_isnt_safe.ensures.answer shape tables opening steps found answers).1
    (c.restrained_tables_are_safe.ensures.safe tables shape opening steps restrained within each)
