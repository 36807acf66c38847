use Rattle.certify.specs.Certificates.{SaysSafe, SaysNeverStuck}
use Rattle.certify.specs.declared.certifying.Certificate.{Certificate}
use Rattle.certify.specs.declared.certifying.Certificate.TheVariants.{ClosedPairs, NeverStuck}
use Rattle.closing.specs.declared.deciding.Flow.TheVariants as by_pairs
use Rattle.command_trials.proofs.laws.trials_under_certified_tables.Goals as goal

safe-too : (x : Certificate) → SaysNeverStuck x → SaysSafe x
safe-too NeverStuck h = tt
safe-too (ClosedPairs cell count by_pairs.NeverStuck) h = tt
safe-too other h = absurd h

pub returns-clause-safe : goal.returns-clause-safe
returns-clause-safe c certificate terms certified said lawful =
    c.trials_of_safe_runs.ensures.safe terms
    (λ steps. c.certified_tables_are_safe.ensures.safe terms.tables certificate terms.shape terms.opening steps certified said lawful.within lawful.each)

pub returns-clause-sound : goal.returns-clause-sound
returns-clause-sound c certificate terms certified said lawful =
    c.trials_of_safe_runs.ensures.sound terms
    (λ steps. c.certified_tables_are_safe.ensures.safe terms.tables certificate terms.shape terms.opening steps certified (safe-too certificate said)
    lawful.within lawful.each)
    (λ steps. c.certified_tables_are_safe.ensures.unstuck terms.tables certificate terms.shape terms.opening steps certified said lawful.within lawful.each)
