-- The headline, carried from the machine's runs to a world's histories.
use Rattle.std.proofs.Common.{ℕ, List}
use Rattle.base.specs.Extent.{Extent, IsWithinLimits}
use Rattle.base.specs.declared.step.Step.{Step}
use Rattle.tables.specs.Tables.{Tables}
use Rattle.machine.specs.Machine.{State, IsHistory}
use Rattle.machine.specs.Coherence.{Safe}
use Rattle.machine.specs.Unstuck.{Unstuck}
use Rattle.machine.specs.Going.{AreNeverStuck}
use Rattle.machine.specs.Restraint.{AreRestrained}
use Rattle.machine.proofs.Safety.{restrained-safe}
use Rattle.machine.proofs.Progress.{never_stuck}

-- each history is one of the machine's runs
pub been-safe : (shape : Extent) (tables : Tables) (state : State) → IsWithinLimits shape →
    (opening : List ℕ) (steps : List Step) → AreRestrained tables → IsHistory shape tables opening steps state → Safe shape tables opening steps
been-safe shape tables state within opening steps restrained history = restrained-safe tables shape opening steps restrained within

pub not-stuck : (shape : Extent) (tables : Tables) (state : State) → IsWithinLimits shape →
    (opening : List ℕ) (steps : List Step) → AreNeverStuck tables → IsHistory shape tables opening steps state → Unstuck tables state
not-stuck shape tables state within opening steps never history = rw (← history.leads) (never_stuck tables shape opening steps never within)
