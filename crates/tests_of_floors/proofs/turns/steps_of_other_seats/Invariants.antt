use Rattle.floor.specs.FloorId.{floor_id}
use Rattle.tests_of_floors.proofs.turns.steps_of_other_seats.Given as goal

abbrev pub ghosts-foreign_steps : goal.ghosts-foreign_steps
ghosts-foreign_steps g a = record { floor = floor_id a.ground a.setup.now 3 4 }
