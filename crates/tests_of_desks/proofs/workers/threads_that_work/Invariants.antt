use Rattle.desk.specs.Plans.{plan_of}
use Rattle.tests_of_desks.proofs.workers.threads_that_work.Given as goal

abbrev pub ghosts-threads_work : goal.ghosts-threads_work
ghosts-threads_work g a = record { plan = plan_of a.job.now }
