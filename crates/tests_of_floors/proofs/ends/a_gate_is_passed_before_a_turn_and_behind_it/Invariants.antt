use Rattle.floor.specs.FloorId.{floor_id}
use Rattle.tests_of_floors.proofs.ends.a_gate_is_passed_before_a_turn_and_behind_it.Given as goal

abbrev pub ghosts-stands_between : goal.ghosts-stands_between
ghosts-stands_between g a = record { floor = floor_id a.ground a.setup.now 2 9 }
