use Rattle.desk.specs.Plans.{plan_of}
use Rattle.tests_of_desks.proofs.desks.three_numbers_and_two_seats.Given as goal

abbrev pub ghosts-two_seats : goal.ghosts-two_seats
ghosts-two_seats g a = record { plan = plan_of a.job.now }
