-- What the trials of a series are.
use Rattle.scenario.specs.Tree.{plain}
use Rattle.trials.specs.declared.series.Series.{Series}
use Rattle.trials.specs.Terms.{Plan}

-- those of its scenario under its setup
abbrev pub planned : {A : Type 0} → Series A → Plan
planned s = record { terms = s.setup.now; tree = plain s.scenario.now }
