use Rattle.desk.specs.Plans.{plan_of}
use Rattle.tests_of_desks.proofs.workers.seats_that_work_in_turn.Given as goal

abbrev pub ghosts-one_after_the_other : goal.ghosts-one_after_the_other
ghosts-one_after_the_other g a = record { plan = plan_of a.job.now }
