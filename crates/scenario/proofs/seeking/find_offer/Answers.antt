use Rattle.std.proofs.Common.{ap, ◌∙◌}
use Rattle.std.specs.Result.{result_ok}
use Rattle.scenario.specs.Taking.{offers}
use Rattle.scenario.proofs.Sought.{sought-get}
use Rattle.scenario.proofs.seeking.find_offer.Goals as goal

pub returns : goal.returns
returns g c = c.ok.ensures.value ∙ (ap result_ok c.seek.ensures ∙ sought-get (offers (g.S.HasOffers.tree c.args.it.now)) c.args.at)
