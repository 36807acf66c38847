use Rattle.std.proofs.Common.{refl, sym, ◌∙◌}
use Rattle.cursors.specs.Cursors.{remaining}
use Rattle.scenario.specs.Taking.{offers}
use Rattle.scenario.proofs.Reached.{offer_below}
use Rattle.scenario.proofs.Sought.{none-there}
use Rattle.cursors.proofs.rests.CursorRest.take.Goals as goal

pub returns-in_default-clause-ok : goal.returns-in_default-clause-ok
returns-in_default-clause-ok g c =
    (none-there (offers (remaining c.args.self.now)) c.args.at (sym c.offer_at.ensures ∙ c.in_default.is), refl)

pub pass-requires : goal.pass-requires
pass-requires g c = offer_below (offers (remaining c.args.self.now)) c.args.at c.in-Some.ask (sym c.offer_at.ensures ∙ c.in-Some.is)

pub returns-clause-ok : goal.returns-clause-ok
returns-clause-ok g c = (sym c.offer_at.ensures ∙ c.in-Some.is, c.in_ok-pass.ensures.ok)
