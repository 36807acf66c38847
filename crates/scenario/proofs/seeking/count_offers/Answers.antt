use Rattle.std.proofs.Common.{sym, ◌∙◌, arith}
use Rattle.scenario.specs.Taking.{offers}
use Rattle.scenario.proofs.Sought.{sought-ok, sought-err}
use Rattle.scenario.proofs.seeking.count_offers.Goals as goal

pub returns-in-Ok : goal.returns-in-Ok
returns-in-Ok g c = let h = sought-ok (offers (g.S.HasOffers.tree c.args.it.now)) _ _ (sym c.seek.ensures ∙ c.in-Ok.is) in omega (arith, h.0)

pub returns-in-Err : goal.returns-in-Err
returns-in-Err g c = let h = sought-err (offers (g.S.HasOffers.tree c.args.it.now)) _ _ (sym c.seek.ensures ∙ c.in-Err.is) in omega (arith, h.0)
