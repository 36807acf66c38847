use Rattle.moment.specs.Seen.{IsLike}
use Rattle.trials.proofs.Runs.{HasCome}
use Rattle.trials.proofs.course.Course.run.Given as goal

abbrev pub invariant-loop-made : goal.invariant-loop-made
invariant-loop-made g l =
    HasCome g.N.Notes.tells l.fn.self l.fn.limit l.made l.self
    × IsLike l.fn.self.moment l.self.moment
