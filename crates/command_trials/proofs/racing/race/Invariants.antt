use Rattle.floor.specs.FloorId.{floor_id}
use Rattle.command_trials.proofs.racing.race.Given as goal

abbrev pub ghosts-recorded : goal.ghosts-recorded
ghosts-recorded g a = record { floor = floor_id a.ground a.setup.now a.seats a.capacity }
