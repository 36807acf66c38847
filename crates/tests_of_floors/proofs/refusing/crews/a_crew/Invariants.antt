use Rattle.floor.specs.FloorId.{floor_id}
use Rattle.tests_of_floors.proofs.refusing.crews.a_crew.Given as goal

abbrev pub ghosts-race : goal.ghosts-race
ghosts-race g a = record { floor = floor_id a.ground a.setup.now 3 600 }
