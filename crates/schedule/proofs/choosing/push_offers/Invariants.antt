use Rattle.std.proofs.Common.{◌≡◌, ◌++◌, drop}
use Rattle.schedule.specs.Choices.{offers_from}
use Rattle.schedule.proofs.choosing.push_offers.Given as goal

abbrev pub invariant-loop-number : goal.invariant-loop-number
invariant-loop-number l =
    l.choices.items ++ offers_from l.world.tables l.world.state l.cores l.number
    (drop l.number l.offers) ≡ l.initial.choices.items ++ offers_from l.world.tables l.world.state l.cores 0 l.offers
