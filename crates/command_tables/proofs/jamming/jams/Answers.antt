use Rattle.std.proofs.Common.{ℕ, List, [], Bool, Result, Ok, Err, IfOk, IsTrue}
use Rattle.tables.specs.Tables.{Tables}
use Rattle.machine.specs.Unstuck.{Flowing}
use Rattle.world.specs.View.{View}
use Rattle.command_tables.specs.Jams.{GetsStuck}
use Rattle.command_tables.specs.inner.Leading.{IsFresh, HasGoneOn}
use Rattle.command_tables.proofs.Jammed.{stuck-run}
use Rattle.command_tables.proofs.jamming.jams.Goals as goal

shown : {E : Type 0} (r : Result Bool E) (tables : Tables) (text : List ℕ) (old new : View) → IsFresh tables old →
    IfOk r (λ found. IsTrue found → HasGoneOn old text [] new) → IfOk r (λ found. IsTrue found → ¬ Flowing new.tables new.state) →
    IfOk r (λ found. IsTrue found → GetsStuck tables text)
shown (Ok found) tables text old new fresh gone stuck = λ yes. stuck-run tables text old new fresh (gone yes) (stuck yes)
shown (Err fault) tables text old new fresh gone stuck = tt

pub returns : goal.returns
returns c = shown c.is_jammed_after.result c.args.tables.now c.args.steps.now c.in_ok-world.world c.is_jammed_after.new.world c.in_ok-world.ensures
    c.is_jammed_after.ensures.gone c.is_jammed_after.ensures.stuck
