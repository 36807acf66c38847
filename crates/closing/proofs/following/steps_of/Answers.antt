use Rattle.std.proofs.Common.{Bool, subst, below_more, get_or, arith}
use Rattle.std.proofs.lemmas.List.{get_or_default}
use Rattle.pairs.specs.declared.steps.Rule.{Rule}
use Rattle.pairs.specs.declared.steps.TheConstants as constants
use Rattle.pairs.specs.Sights as sights
use Rattle.closing.specs.inner.Told.{IsTold}
use Rattle.closing.proofs.Told.{told-still}
use Rattle.closing.proofs.following.steps_of.Goals as goal

pub loop-rule-preserved : goal.loop-rule-preserved
loop-rule-preserved c =
    below_more (λ k. (r : Rule) (t : Bool) → IsTold c.tell_rule.new.steps.items (get_or constants.Rule.ALL k r)
    (sights.sight c.args.tables.now (get_or constants.Rule.ALL k r) t c.args.pair.now))
    _ (λ k low r t. told-still c.loop-rule.steps.items c.tell_rule.new.steps.items c.in_ok-tell_rule.ensures.kept _ _ (c.loop-rule.invariant k low r t))
    (λ r t. subst (λ (x : Rule). IsTold c.tell_rule.new.steps.items x (sights.sight c.args.tables.now x t c.args.pair.now))
    (get_or_default constants.Rule.ALL c.loop-rule.rule-index _ r c.loop-rule-test.true) (c.in_ok-tell_rule.ensures.told t))

pub returns : goal.returns
returns c = λ rule third_shares.
    let at = c.each_rule_is_listed.ensures rule in
    subst (λ (r : Rule). IsTold c.loop-rule.steps.items r (sights.sight c.args.tables.now r third_shares c.args.pair.now)) at.2
    (c.loop-rule.invariant at.0 (omega (arith, at.1, c.loop-rule-test.false)) rule third_shares)
