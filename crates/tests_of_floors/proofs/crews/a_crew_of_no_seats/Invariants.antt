use Rattle.floor.specs.FloorId.{floor_id}
use Rattle.tests_of_floors.proofs.crews.a_crew_of_no_seats.Given as goal

abbrev pub ghosts-nobody : goal.ghosts-nobody
ghosts-nobody g a = record { floor = floor_id a.ground a.setup.now 2 600 }
