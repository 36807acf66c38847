use Rattle.std.proofs.Common.{subst}
use Rattle.record.specs.View.{steps_of}
use Rattle.trials.specs.Trial.{IsVerdict}
use Rattle.trials.proofs.Verdicts.{trial-legal, broke-unsafe, broken-by, unsafe-broke}
use Rattle.trials.proofs.laws.trials_break_where_they_arent_safe.Goals as goal

pub returns-clause-legal : goal.returns-clause-legal
returns-clause-legal c = trial-legal

pub returns-clause-broke : goal.returns-clause-broke
returns-clause-broke c terms tree number recording verdict trial = (
  λ broke. let by = broken-by verdict broke in
      broke-unsafe terms (steps_of recording) trial.last by.0
      (λ n. c.violations_are_what_isnt_safe.ensures.behind terms.shape terms.tables terms.opening (steps_of recording) n by.0)
      (subst (IsVerdict terms (steps_of recording) trial.last) by.1 trial.ends),
  unsafe-broke terms (steps_of recording) trial.last verdict
      (c.violations_are_what_isnt_safe.ensures.none terms.shape terms.tables terms.opening (steps_of recording)).0 trial.ends,
)
