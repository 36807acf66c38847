use Rattle.std.proofs.Common.{sym, ap, subst, ◌∙◌}
use Rattle.scenario.specs.Tree.{plain}
use Rattle.cursors.specs.inner.Turns.{is_choice}
use Rattle.cursors.specs.Repeats.{Repeats}
use Rattle.cursors.proofs.Repeating.{repeats-Times}
use Rattle.cursors.proofs.part.repeating.tree_repeats.Goals as goal

pub returns-in-Times : goal.returns-in-Times
returns-in-Times g c e =
    subst Repeats (ap plain (sym c.in-Times.is))
    (repeats-Times c.in-Times.turns (plain c.in-Times.child.value) (c.repeats_turns.ensures.turns e)
    (ap (λ u. is_choice (plain u)) (sym c.deref.ensures) ∙ c.repeats_turns.ensures.choice e))
