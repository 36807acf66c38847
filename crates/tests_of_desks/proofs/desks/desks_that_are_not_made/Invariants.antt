use Rattle.desk.specs.Plans.{plan_of}
use Rattle.tests_of_desks.proofs.desks.desks_that_are_not_made.Given as goal

abbrev pub ghosts-refusal : goal.ghosts-refusal
ghosts-refusal g a = record { plan = plan_of a.job.now }
