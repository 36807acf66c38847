use Rattle.std.proofs.Common.{◌+◌, ◌*◌, length}
use Rattle.command_trials.proofs.sharing.+fn-work_all-join+arg2+work_all.Given as goal

abbrev pub decreases-join+arg2 : goal.decreases-join+arg2
decreases-join+arg2 g l = 2 * length l.seats.items + 1

abbrev pub decreases-work_all : goal.decreases-work_all
decreases-work_all g l = 2 * length l.seats.items
