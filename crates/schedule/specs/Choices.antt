-- What can happen next: an ask that is offered, or a message that is delivered.
use Rattle.std.specs.Prelude.{ℕ, ◌+◌, ◌<◌, length, Bool, not, ◌&&◌, if◌then◌else◌, List, [], ◌∷◌, ◌++◌, map}
use Rattle.base.specs.declared.step.CoreAsk.{CoreAsk}
use Rattle.base.specs.declared.step.Step.{Step}
use Rattle.base.specs.declared.step.Step.TheVariants as step
use Rattle.cores.specs.Cores.{Core, is_free}
use Rattle.machine.specs.Machine.{State, next}
use Rattle.tables.specs.Tables.{Tables}
use Rattle.scenario.specs.Tree.{Tree}
use Rattle.scenario.specs.Taking.{left, offers}
use Rattle.world.specs.Enabled.{enabled_steps}
use Rattle.blocks.specs.Looks.{is_held}
use Rattle.schedule.specs.declared.choosing.Choice.{Choice}
use Rattle.schedule.specs.declared.choosing.Choice.TheVariants.{Offer, Deliver}

-- the step of putting an ask to its core's cache
abbrev pub step_of : CoreAsk → Step
step_of ask = step.Ask ask.core ask.block ask.ask

-- an ask can be put: its core is free, and its step wouldn't be held
abbrev pub can_be_put : Tables → State → List Core → CoreAsk → Bool
can_be_put tables state cores ask = is_free cores ask.core.0 && not (is_held (next tables state (step_of ask)).outcome)

-- the offers that can be put, of those from a number on
abbrev pub offers_from : Tables → State → List Core → ℕ → List CoreAsk → List Choice
offers_from tables state cores i [] = []
offers_from tables state cores i (ask ∷ asks) =
    (if can_be_put tables state cores ask then Offer i ask ∷ [] else []) ++ offers_from tables state cores (i + 1) asks

-- the choices: the offers that can be put, in their order, and then the deliveries that wouldn't be held, in theirs. A broken world has none.
abbrev pub choices_of : Tables → State → List Core → Tree → List Choice
choices_of tables state cores tree =
    if state.broken then [] else (offers_from tables state cores 0 (offers tree) ++ map Deliver (enabled_steps tables state))

-- the step that a choice makes
abbrev pub chosen_step : Choice → Step
chosen_step (Offer i ask) = step_of ask
chosen_step (Deliver s) = s

-- what is left of the scenario: an offer that is chosen is taken
abbrev pub rest_after : Choice → Tree → Tree
rest_after (Offer i ask) tree = left tree i
rest_after (Deliver s) tree = tree

-- an offer is there, where the choice is one
abbrev pub IsOffered : Choice → Tree → Type 0
IsOffered (Offer i ask) tree = i < length (offers tree)
IsOffered (Deliver s) tree = Unit {0}
