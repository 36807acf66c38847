use Rattle.floor.specs.FloorId.{floor_id}
use Rattle.tests_of_floors.proofs.turns.floors_that_are_not_opened.Given as goal

abbrev pub ghosts-refusal : goal.ghosts-refusal
ghosts-refusal g a = record { floor = floor_id a.ground a.setup.now a.seats a.capacity }
