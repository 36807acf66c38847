use Rattle.std.proofs.Common.{◌∙◌, arith}
use Rattle.std.proofs.lemmas.Grind.{common_steps}
use Rattle.cursors.specs.Cursors.{progress, tree_left}
use Rattle.cursors.specs.Stock.{room, wants}
use Rattle.scenario.specs.Taking.{left}
use Rattle.scenario.proofs.Failing.{on_err-always, on_ok-failed}
use Rattle.scenario.proofs.Flat.{alike-flat, flat-rest}
use Rattle.cursors.proofs.Calls.{passes-behind}
use Rattle.cursors.proofs.Stock.{wants-few, within-through}
use Rattle.cursors.proofs.cursor.Cursor.pass_on.Goals as goal

pub returns-then-pass_turn-clause-passes : goal.returns-then-pass_turn-clause-passes
returns-then-pass_turn-clause-passes g c =
    let old = progress c.args.self.now.root in
    let new = progress c.pass_turn.new.part in
    let leads = c.pass_turn.ensures.passed c.if-pass_turn.true c.args.at c.requires in
    record {
      ok = alike-flat (tree_left new) (left (tree_left old) c.args.at) (leads.0 ∙ flat-rest (tree_left old) c.args.at);
      err = tt;
      small = record {
        fits = λ tree fits. record {
          held = rw c.pass_turn.ensures.held fits.held;
          wanted = within-through (wants new) (wants old) (room tree) leads.1 fits.wanted;
        };
        used = wants-few new old leads.1;
      };
    }

pub returns-clause-passes : goal.returns-clause-passes
returns-clause-passes g c =
    let e = passes-behind c.args.self.now _ _ c.args.at _ (grind (arith, common_steps)) (grind (arith, common_steps)) c.in_ok-pass.ensures in
    record { ok = e.ok; err = tt; small = e.small }

pub returns-in_err-pass-clause-passes : goal.returns-in_err-pass-clause-passes
returns-in_err-pass-clause-passes g c =
    let e = passes-behind c.args.self.now _ _ c.args.at _ (grind (arith, common_steps)) (grind (arith, common_steps)) c.in_err-pass.ensures in
    record {
      ok = on_ok-failed _ _ c.from_residual.ensures.0;
      err = on_err-always c.from_residual.result _ e.err;
      small = e.small;
    }
