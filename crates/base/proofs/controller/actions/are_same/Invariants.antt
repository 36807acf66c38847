use Rattle.std.proofs.Common.{◌≡◌, drop}
use Rattle.base.specs.Entries.{same_list}
use Rattle.base.proofs.controller.actions.are_same.Given as goal

-- the actions so far are the same
abbrev pub invariant-loop-index : goal.invariant-loop-index
invariant-loop-index g l =
    same_list g.A.Listed.place (drop l.index l.mine) (drop l.index l.others) ≡ same_list g.A.Listed.place l.mine l.others
