use Rattle.trials.proofs.laws.trials_under_restrained_tables.Goals as goal

pub returns : goal.returns
returns c terms restrained lawful =
    c.trials_of_safe_runs.ensures.safe terms
    (λ steps. c.restrained_tables_are_safe.ensures.safe terms.tables terms.shape terms.opening steps restrained lawful.within lawful.each)
