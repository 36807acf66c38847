use Rattle.floor.specs.FloorId.{floor_id}
use Rattle.tests_of_floors.proofs.refusing.floors.a_floor_and_its_turns.Given as goal

abbrev pub ghosts-tries : goal.ghosts-tries
ghosts-tries g a = record { floor = floor_id a.ground a.setup.now 1 9 }
