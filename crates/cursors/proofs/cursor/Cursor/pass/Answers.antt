use Rattle.std.proofs.Common.{ap, arith, sym, subst, ◌∙◌}
use Rattle.cursors.specs.Cursors.{Progress, progress, tree_left}
use Rattle.cursors.specs.Stock.{Within, most_used, room, wants}
use Rattle.cursors.specs.inner.Parts.{MovesTo}
use Rattle.scenario.specs.Taking.{left}
use Rattle.scenario.proofs.Failing.{on_err-always, on_ok-failed}
use Rattle.scenario.proofs.Flat.{alike-flat, flat-rest}
use Rattle.cursors.proofs.Stock.{wants-few, within-through}
use Rattle.cursors.proofs.cursor.Cursor.pass.Goals as goal

pub returns-then-pass_at_once : goal.returns-then-pass_at_once
returns-then-pass_at_once g c =
    let old = progress c.args.self.now.root in
    let new = progress c.pass_at_once.new.part in
    let leads = c.pass_at_once.ensures.passed c.if-pass_at_once.true in
    record {
      ok = alike-flat (tree_left new) (left (tree_left old) c.args.at) (leads.0 ∙ flat-rest (tree_left old) c.args.at);
      err = tt;
      small = record {
        fits = λ tree fits. record {
          held = rw c.pass_at_once.ensures.held fits.held;
          wanted = within-through (wants new) (wants old) (room tree) leads.1 fits.wanted;
        };
        used = wants-few new old leads.1;
      };
    }

pub returns : goal.returns
returns g c =
    let old = progress c.args.self.now.root in
    let new = progress c.take_from.new.part in
    let same = c.pass_at_once.ensures.same c.if-pass_at_once.false in
    let leads = subst (λ (p : Progress). MovesTo (tree_left p) c.args.at (wants p) new) same c.in_ok-take_from.ensures.moves in
    record {
      ok = alike-flat (tree_left new) (left (tree_left old) c.args.at) (leads.0 ∙ flat-rest (tree_left old) c.args.at);
      err = tt;
      small = record {
        fits = λ tree fits. record {
          held = c.take_from.ensures.held (room tree) (rw c.pass_at_once.ensures.held fits.held) (rw same fits.wanted);
          wanted = within-through (wants new) (wants old) (room tree) leads.1 fits.wanted;
        };
        used = wants-few new old leads.1;
      };
    }

pub returns-in_err-take_from : goal.returns-in_err-take_from
returns-in_err-take_from g c =
    let before = c.pass_at_once.ensures.same c.if-pass_at_once.false in
    let same = c.in_err-take_from.ensures.moves ∙ before in
    record {
      ok = on_ok-failed _ _ c.from_residual.ensures.0;
      err = on_err-always c.from_residual.result _ (ap tree_left same);
      small = record {
        fits = λ tree fits. record {
          held = c.take_from.ensures.held (room tree) (rw c.pass_at_once.ensures.held fits.held) (rw before fits.wanted);
          wanted = rw same fits.wanted;
        };
        used = omega (arith, ap most_used same);
      };
    }
