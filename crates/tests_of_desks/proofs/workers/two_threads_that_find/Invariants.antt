use Rattle.desk.specs.Plans.{plan_of}
use Rattle.tests_of_desks.proofs.workers.two_threads_that_find.Given as goal

abbrev pub ghosts-two_find : goal.ghosts-two_find
ghosts-two_find g a = record { plan = plan_of a.job.now }
