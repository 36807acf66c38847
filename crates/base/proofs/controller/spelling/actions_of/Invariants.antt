use Rattle.std.proofs.Common.{◌≡◌, ◌≤◌, ◌-◌, ◌++◌, length, map}
use Rattle.base.specs.Words.{words_behind}
use Rattle.base.proofs.controller.spelling.actions_of.Given as goal

abbrev pub invariant-loop-rest : goal.invariant-loop-rest
invariant-loop-rest g l = (words_behind l.fn.rest ≡ map g.A.Listed.spelling l.actions ++ words_behind l.rest) × (length l.actions ≤ 8)

abbrev pub decreases-loop-rest : goal.decreases-loop-rest
decreases-loop-rest g l = 8 - length l.actions
