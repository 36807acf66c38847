use Rattle.floor.specs.FloorId.{floor_id}
use Rattle.tests_of_floors.proofs.turns.turns_of_an_only_seat.Given as goal

abbrev pub ghosts-plays : goal.ghosts-plays
ghosts-plays g a = record { floor = floor_id a.ground a.setup.now 1 a.row.now.capacity }
