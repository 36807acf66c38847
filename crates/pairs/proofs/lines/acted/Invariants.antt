use Rattle.std.proofs.Common.{◌≡◌, true, drop}
use Rattle.pairs.specs.Pairs.{is_few}
use Rattle.pairs.specs.Marking.{IsMarked}
use Rattle.pairs.specs.Sights.{line_acts}
use Rattle.pairs.proofs.lines.acted.Given as goal

abbrev pub invariant-loop-action : goal.invariant-loop-action
invariant-loop-action l = record {
  acts : line_acts l.to l.fresh (drop l.action-index l.actions) l.acted ≡ line_acts l.to l.fresh l.actions l.fn.pair;
  few : is_few l.acted ≡ true;
  marked : IsMarked l.acted;
}
