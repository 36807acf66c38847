use Rattle.std.proofs.Common.{◌≡◌, ◌++◌, drop, map}
use Rattle.schedule.specs.declared.choosing.Choice.TheVariants.{Deliver}
use Rattle.schedule.proofs.choosing.push_deliveries.Given as goal

abbrev pub invariant-loop-step : goal.invariant-loop-step
invariant-loop-step l = l.choices.items ++ map Deliver (drop l.step-index l.steps) ≡ l.initial.choices.items ++ map Deliver l.steps
