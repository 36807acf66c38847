use Rattle.std.proofs.Common.{true, false, subst}
use Rattle.pairs.specs.declared.steps.Sight.{Sight}
use Rattle.pairs.specs.Sights.{home_data_seen}
use Rattle.closing.specs.inner.Told.{Stays}
use Rattle.closing.proofs.LineActing.{both-true}
use Rattle.closing.proofs.checking.home_stays.Goals as goal

pub returns : goal.returns
returns c = λ both. let each = both-true c.stays.result c.stays-2.result both in
    λ t. elim t as (λ t. Stays c.args.list.now c.args.ranked.now (home_data_seen c.args.tables.now t c.args.ranked.now.pair)) [
      | false ↦ subst (λ (s : Sight). Stays c.args.list.now c.args.ranked.now s) c.home_data_seen.ensures.0 (c.stays.ensures each.0)
      | true ↦ subst (λ (s : Sight). Stays c.args.list.now c.args.ranked.now s) c.home_data_seen-2.ensures.0 (c.stays-2.ensures each.1)
    ]
