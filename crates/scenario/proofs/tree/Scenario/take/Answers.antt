use Rattle.std.proofs.Common.{Some, arith, refl, sym, ◌∙◌}
use Rattle.std.proofs.lemmas.Grind.{common_steps}
use Rattle.scenario.specs.Taking.{offers}
use Rattle.scenario.specs.Tree.{plain}
use Rattle.scenario.proofs.Flat.{leaves_takes}
use Rattle.scenario.proofs.Sought.{sought-ok, sought-err}
use Rattle.scenario.proofs.tree.Scenario.take.Goals as goal

pub returns-in-Err-clause-ok : goal.returns-in-Err-clause-ok
returns-in-Err-clause-ok g c =
    let h = sought-err (offers (plain c.args.self.now)) c.args.at c.in-Err.field-0 (sym c.seek_in_tree.ensures ∙ c.in-Err.is) in
    (omega (arith, h.0), refl)

pub take_one-requires : goal.take_one-requires
take_one-requires g c = (sought-ok (offers (plain c.args.self.now)) c.args.at c.in_default.field-0 (sym c.seek_in_tree.ensures ∙ c.in_default.is)).0

pub returns-clause-ok : goal.returns-clause-ok
returns-clause-ok g c =
    leaves_takes (plain c.args.self.now) c.args.at (Some c.in_ok-take_one.field-0) (plain c.take_one.new.tree) c.in_ok-take_one.ensures

pub returns-in-Err-clause-err : goal.returns-in-Err-clause-err
returns-in-Err-clause-err g c = grind (arith, common_steps)

pub returns-in_err-take_one-clause-ok : goal.returns-in_err-take_one-clause-ok
returns-in_err-take_one-clause-ok g c = grind (arith, common_steps)

pub returns-in_err-take_one-clause-err : goal.returns-in_err-take_one-clause-err
returns-in_err-take_one-clause-err g c = grind (arith, common_steps)

pub returns-clause-err : goal.returns-clause-err
returns-clause-err g c = grind (arith, common_steps)
