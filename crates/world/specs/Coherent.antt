-- What holds of each world that runs under the protocol's own tables or restrained ones, whatever it has done.
use Rattle.std.specs.Prelude.{ℕ, List}
use Rattle.base.specs.declared.step.Step.{Step}
use Rattle.machine.specs.Machine.{IsHistory}
use Rattle.machine.specs.Coherence.{Safe}
use Rattle.machine.specs.Going.{AreNeverStuck}
use Rattle.machine.specs.Restraint.{AreRestrained}
use Rattle.machine.specs.Unstuck.{Unstuck}
use Rattle.world.specs.View.{View}

-- under restrained tables, of which the protocol's own are some, each list of steps that may have led to a world was safe
abbrev pub HasBeenSafe : View → Type 0
HasBeenSafe world =
    (opening : List ℕ) (steps : List Step) → AreRestrained world.tables → IsHistory world.shape world.tables opening steps world.state →
    Safe world.shape world.tables opening steps

-- under restrained tables that keep going and serve asks, of which the protocol's own are some, a world that any list of steps has led to
-- isn't stuck
abbrev pub IsUnstuck : View → Type 0
IsUnstuck world =
    (opening : List ℕ) (steps : List Step) → AreNeverStuck world.tables → IsHistory world.shape world.tables opening steps world.state →
    Unstuck world.tables world.state
