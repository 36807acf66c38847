use Rattle.desk.specs.Plans.{plan_of}
use Rattle.tests_of_desks.proofs.desks.a_seat_that_is_missing.Given as goal

abbrev pub ghosts-without_a_seat : goal.ghosts-without_a_seat
ghosts-without_a_seat g a = record { plan = plan_of a.job.now }
