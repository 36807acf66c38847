use Rattle.std.proofs.Common.{true, false, subst}
use Rattle.pairs.specs.declared.steps.Sight.{Sight}
use Rattle.pairs.specs.Sights.{home_data_seen}
use Rattle.closing.specs.inner.Told.{KeepsBalanceIn}
use Rattle.closing.proofs.LineActing.{both-true}
use Rattle.closing.proofs.balancing.home_is_balanced.Goals as goal

pub returns : goal.returns
returns c = λ both. let each = both-true c.sight_is_balanced.result c.sight_is_balanced-2.result both in
    λ t. elim t as (λ t. KeepsBalanceIn c.args.pair.now (home_data_seen c.args.tables.now t c.args.pair.now)) [
      | false ↦ subst (λ (s : Sight). KeepsBalanceIn c.args.pair.now s) c.home_data_seen.ensures.0 (c.sight_is_balanced.ensures each.0)
      | true ↦ subst (λ (s : Sight). KeepsBalanceIn c.args.pair.now s) c.home_data_seen-2.ensures.0 (c.sight_is_balanced-2.ensures each.1)
    ]
