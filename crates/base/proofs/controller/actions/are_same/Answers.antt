use Rattle.std.proofs.Common.{sym, rules, arith}
use Rattle.base.proofs.Spelled.{same_list-length}
use Rattle.std.proofs.lemmas.Grind.{elements}
use Rattle.base.proofs.controller.actions.are_same.Goals as goal

pub returns-then-mine-others : goal.returns-then-mine-others
returns-then-mine-others g c = sym (same_list-length g.A.Listed.place c.args.mine.now c.args.others.now (search rules))

pub loop-index-init : goal.loop-index-init
loop-index-init g c = grind (arith, elements)

pub offset_bounds-mine-index : goal.offset_bounds-mine-index
offset_bounds-mine-index g c = grind (arith, elements)

pub bounds-mine-index : goal.bounds-mine-index
bounds-mine-index g c = grind (arith, elements)

pub offset_bounds-others-index : goal.offset_bounds-others-index
offset_bounds-others-index g c = grind (arith, elements)

pub bounds-others-index : goal.bounds-others-index
bounds-others-index g c = grind (arith, elements)
