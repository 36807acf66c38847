use Rattle.trials.proofs.laws.trials_under_tables_that_keep_going.Goals as goal

pub returns : goal.returns
returns c terms never lawful =
    c.trials_of_safe_runs.ensures.sound terms
    (λ steps. c.restrained_tables_are_safe.ensures.safe terms.tables terms.shape terms.opening steps never.restrained lawful.within lawful.each)
    (λ steps. c.restrained_tables_are_unstuck.ensures.unstuck terms.tables terms.shape terms.opening steps never lawful.within lawful.each)
