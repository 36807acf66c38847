use Rattle.floor.specs.FloorId.{floor_id}
use Rattle.tests_of_floors.proofs.crews.seats_that_meet_over_two_caches.Given as goal

abbrev pub ghosts-race : goal.ghosts-race
ghosts-race g a = record { floor = floor_id a.ground a.setup.now a.count 600 }
