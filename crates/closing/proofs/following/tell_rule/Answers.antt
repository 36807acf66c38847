use Rattle.std.proofs.Common.{true, false, subst}
use Rattle.pairs.specs.declared.steps.Sight.{Sight}
use Rattle.pairs.specs.Sights as sights
use Rattle.closing.specs.inner.Told.{IsTold}
use Rattle.closing.proofs.Told.{told-still}
use Rattle.closing.proofs.following.tell_rule.Goals as goal

pub returns-clause-told : goal.returns-clause-told
returns-clause-told c = λ third_shares.
    elim third_shares as (λ t. IsTold c.tell-2.new.steps.items c.args.rule (sights.sight c.args.tables.now c.args.rule t c.args.pair.now)) [
      | false ↦ told-still c.tell.new.steps.items c.tell-2.new.steps.items c.in_ok-tell-2.ensures.kept c.args.rule _
          (subst (λ (s : Sight). IsTold c.tell.new.steps.items c.args.rule s) c.sight.ensures.0 c.in_ok-tell.ensures.told)
      | true ↦ subst (λ (s : Sight). IsTold c.tell-2.new.steps.items c.args.rule s) c.sight-2.ensures.0 c.in_ok-tell-2.ensures.told
    ]
