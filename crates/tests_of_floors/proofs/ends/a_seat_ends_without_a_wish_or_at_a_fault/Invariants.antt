use Rattle.floor.specs.FloorId.{floor_id}
use Rattle.tests_of_floors.proofs.ends.a_seat_ends_without_a_wish_or_at_a_fault.Given as goal

abbrev pub ghosts-plays : goal.ghosts-plays
ghosts-plays g a = record { floor = floor_id a.ground a.setup.now a.row.now.seats a.row.now.capacity }
