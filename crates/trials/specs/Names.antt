-- How verdicts are spelled.
use Rattle.std.specs.Prelude.{ℕ, List, codes}
use Rattle.trials.specs.declared.verdict.Verdict.{Verdict}
use Rattle.trials.specs.declared.verdict.Verdict.TheVariants.{Quiet, Cut, Stuck, Broke}

-- the word of a verdict
abbrev pub verdict_name : Verdict → List ℕ
verdict_name Quiet = codes "quiet"
verdict_name Cut = codes "cut"
verdict_name Stuck = codes "stuck"
verdict_name (Broke violation) = codes "broke"
