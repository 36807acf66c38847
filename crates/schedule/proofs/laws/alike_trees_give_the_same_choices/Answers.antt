use Rattle.std.proofs.Common.{◌≡◌, [], ◌++◌, if◌then◌else◌, map, Some, ap}
use Rattle.scenario.specs.Alike.{SeenTree, seen}
use Rattle.schedule.specs.Choices.{offers_from}
use Rattle.schedule.specs.declared.choosing.Choice.TheVariants.{Deliver}
use Rattle.world.specs.Enabled.{enabled_steps}
use Rattle.schedule.proofs.laws.alike_trees_give_the_same_choices.Goals as goal

same_seen : (a b : SeenTree) → Some a ≡ Some b → a ≡ b
same_seen a b e = cc e

pub returns : goal.returns
returns c tables state cores s t alike =
    ap (λ (a : SeenTree). if state.broken then [] else (offers_from tables state cores 0 a.offers ++ map Deliver (enabled_steps tables state)))
    (same_seen (seen s) (seen t) (alike []))
