use Rattle.std.proofs.Common.{◌≡◌, drop}
use Rattle.pairs.specs.Sights.{any_names_owner}
use Rattle.pairs.proofs.homes.name_the_owner.Given as goal

abbrev pub invariant-loop-action : goal.invariant-loop-action
invariant-loop-action l = any_names_owner (drop l.action-index l.actions) ≡ any_names_owner l.actions
