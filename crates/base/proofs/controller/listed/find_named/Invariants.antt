use Rattle.std.proofs.Common.{◌≡◌, drop}
use Rattle.base.specs.Spelling.{named_in}
use Rattle.base.proofs.controller.listed.find_named.Given as goal

abbrev pub invariant-loop-one : goal.invariant-loop-one
invariant-loop-one g l =
    named_in g.N.Listed.spelling (drop l.one-index l.all) l.name ≡ named_in g.N.Listed.spelling l.all l.name
