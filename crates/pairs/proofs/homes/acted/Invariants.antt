use Rattle.std.proofs.Common.{◌≡◌, true, drop}
use Rattle.pairs.specs.Pairs.{is_few}
use Rattle.pairs.specs.Marking.{IsMarked}
use Rattle.pairs.specs.Sights.{home_acts}
use Rattle.pairs.proofs.homes.acted.Given as goal

abbrev pub invariant-loop-action : goal.invariant-loop-action
invariant-loop-action l = record {
  acts : home_acts l.asked l.value (drop l.action-index l.actions) l.acted ≡ home_acts l.asked l.value l.actions l.fn.scene;
  few : is_few l.acted.pair ≡ true;
  marked : IsMarked l.acted.pair;
}
