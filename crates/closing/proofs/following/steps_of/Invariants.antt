use Rattle.std.proofs.Common.{◌<◌, ℕ, Bool, get_or}
use Rattle.pairs.specs.declared.steps.Rule.{Rule}
use Rattle.pairs.specs.Sights as sights
use Rattle.closing.specs.inner.Told.{IsTold}
use Rattle.closing.proofs.following.steps_of.Given as goal

abbrev pub invariant-loop-rule : goal.invariant-loop-rule
invariant-loop-rule l =
    (k : ℕ) → k < l.rule-index → (r : Rule) (t : Bool) → IsTold l.steps.items (get_or l.rule-items k r)
    (sights.sight l.tables (get_or l.rule-items k r) t l.pair)
