use Rattle.std.proofs.Common.{[], ◌∷◌, subst}
use Rattle.base.specs.Extent.{IsWithinLimits}
use Rattle.machine.proofs.Making.{next-told}
use Rattle.network.proofs.Waits.{on_err}
use Rattle.world.specs.View.{View}
use Rattle.world.proofs.Histories.{history-append}
use Rattle.world.proofs.Coherence.{been-safe, not-stuck}
use Rattle.world.proofs.worlds.World.step.Goals as goal

pub returns-clause-ok : goal.returns-clause-ok
returns-clause-ok c =
    let steps = c.in_ok-made.ensures.ok in
    let within : IsWithinLimits c.make.new.self.shape =
    rw steps.shape (subst (λ (world : View). IsWithinLimits world.shape) c.self.view_is c.self.invariant.shaped.within) in
    record {
      came = next-told c.args.self.now.tables c.args.self.now.state c.args.step c.in_ok-made.made c.make.new.self.state steps.told;
      history = λ opening before h.
          history-append c.args.self.now c.make.new.self opening before (c.args.step ∷ []) h steps.shape steps.tables steps.told.state;
      safe = been-safe _ _ _ within;
      unstuck = not-stuck _ _ _ within;
      shape = steps.shape;
      tables = steps.tables;
      opening = steps.opening;
      tests_what_it_sends = steps.tests_what_it_sends;
      tests_its_block = steps.tests_its_block;
      keeps = steps.keeps;
    }

pub returns-in_err-made-clause-err : goal.returns-in_err-made-clause-err
returns-in_err-made-clause-err c =
    let stays = c.in_err-made.ensures.err in
    let within : IsWithinLimits c.make.new.self.shape =
    rw stays.shape (subst (λ (world : View). IsWithinLimits world.shape) c.self.view_is c.self.invariant.shaped.within) in
    on_err c.from_residual.result (record { as_before = stays; safe = been-safe _ _ _ within; unstuck = not-stuck _ _ _ within })
