-- What the trials of a desk are.
use Rattle.std.specs.Prelude.{ℕ, []}
use Rattle.tables.specs.Tables.{baseline}
use Rattle.scenario.specs.Tree.{Seq, Nil, plain}
use Rattle.trials.specs.Terms.{Plan}
use Rattle.trials.specs.Trial.{IsResult}
use Rattle.trials.specs.declared.verdict.TrialResult.{TrialResult}
use Rattle.desk.specs.declared.jobs.Job.{Job}

-- the plan of a job
abbrev pub plan_of : Job → Plan
plan_of job = record { terms = job.setup; tree = plain job.scenario }

-- a plan that no job has
abbrev pub no_plan : Plan
no_plan = record {
  terms = record { shape = record { caches = 0; blocks = 0 }; tables = baseline; opening = []; seed = 0; limit = 0 };
  tree = Seq Nil;
}

-- this is the result of the plan's trial of this number
abbrev pub IsResultOf : Plan → ℕ → TrialResult → Type 0
IsResultOf plan number result = IsResult plan.terms plan.tree number result
