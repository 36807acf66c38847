use Rattle.std.proofs.Common.{subst, take}
use Rattle.base.specs.Extent.{IsWithinLimits}
use Rattle.world.specs.View.{View}
use Rattle.std.proofs.lemmas.Result.{IfErr-weaker, on_ok_weaker}
use Rattle.world.proofs.Histories.{history-append}
use Rattle.world.proofs.Coherence.{been-safe, not-stuck}
use Rattle.world.proofs.worlds.World.run.Goals as goal

-- the shape was within the limits, and is the same
within-after : (c : goal.After-advance_all) → IsWithinLimits c.advance_all.new.self.shape
within-after c = rw c.advance_all.ensures.shape (subst (λ (world : View). IsWithinLimits world.shape) c.self.view_is c.self.invariant.shaped.within)

pub returns-clause-ok : goal.returns-clause-ok
returns-clause-ok c =
    on_ok_weaker c.advance_all.result (λ run. record {
      run = run;
      keeps = c.advance_all.ensures.keeps;
      history = λ opening before h.
          history-append c.args.self.now c.advance_all.new.self opening before c.args.steps.now h run.shape run.tables run.state;
      safe = been-safe _ _ _ (within-after c);
      unstuck = not-stuck _ _ _ (within-after c);
    })
    c.advance_all.ensures.ok

pub returns-clause-err : goal.returns-clause-err
returns-clause-err c =
    IfErr-weaker c.advance_all.result _ _ (λ stop made. record {
      run = made.1;
      done = made.0;
      keeps = c.advance_all.ensures.keeps;
      history = λ opening before h.
          history-append c.args.self.now c.advance_all.new.self opening before (take stop.done c.args.steps.now) h made.1.shape made.1.tables
          made.1.state;
      safe = been-safe _ _ _ (within-after c);
      unstuck = not-stuck _ _ _ (within-after c);
    })
    c.advance_all.ensures.err
