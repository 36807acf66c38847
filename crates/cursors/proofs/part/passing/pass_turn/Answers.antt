use Rattle.std.proofs.Common.{◌<◌, ◌∙◌, sym, subst, arith}
use Rattle.cursors.specs.Cursors.{progress}
use Rattle.cursors.specs.Repeats.{Repeats}
use Rattle.cursors.proofs.Passing.{passes-turn, turn-choice}
use Rattle.cursors.proofs.Repeating.{left-turns, repeats-turns}
use Rattle.cursors.proofs.part.passing.pass_turn.Goals as goal

pub returns-clause-repeats : goal.returns-clause-repeats
returns-clause-repeats g c done =
    let at = sym c.place.ensures ∙ c.in-InTimes.is in
    let many : 1 < c.in-InTimes.turns = omega (arith, c.if-turns-le1.false) in
    subst Repeats (sym (left-turns c.args.part.now c.in-InTimes.turns c.in-InTimes.child at (c.first_is_over.ensures c.if-not-first_is_over.false)))
    (repeats-turns _ _ many (turn-choice c.args.part.now c.in-InTimes.turns c.in-InTimes.child at c.requires))

pub returns-clause-passed : goal.returns-clause-passed
returns-clause-passed g c done at low =
    passes-turn c.args.part.now c.in-InTimes.turns c.in-InTimes.child at (progress c.move_to.new.self)
    (sym c.place.ensures ∙ c.in-InTimes.is) (c.first_is_over.ensures c.if-not-first_is_over.false) c.requires low c.move_to.ensures.place
