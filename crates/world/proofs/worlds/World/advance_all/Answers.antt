use Rattle.std.proofs.Common.{◌++◌, ◌∷◌, [], ◌∙◌, ap, arith, inr, refl}
use Rattle.std.proofs.lemmas.Grind.{common_steps}
use Rattle.std.proofs.lemmas.Option.{slice_get-get_or}
use Rattle.world.proofs.Running.{run-more}
use Rattle.world.proofs.Spaces.{keeps-front, keeps-more}
use Rattle.world.proofs.worlds.World.advance_all.Goals as goal

pub loop-i-preserved : goal.loop-i-preserved
loop-i-preserved c = (
  run-more c.args.self.now c.loop-i.self c.make.new.self c.args.steps.now c.loop-i.i _ _ c.args.outcomes.now.items c.loop-i.outcomes.items
      c.push_reserved.new.self.items c.in-Ok.made (omega arith) refl c.loop-i.invariant.0 c.in-Ok.ensures.ok
      (c.push_reserved.ensures.items ∙ ap (λ xs. xs ++ c.in-Ok.made.outcome ∷ []) c.reserve.ensures.items),
  keeps-more c.args.self.now c.loop-i.self c.make.new.self c.args.steps.now c.loop-i.i _ _ (omega arith) refl
      c.loop-i.invariant.0.state c.loop-i.invariant.0.tables c.loop-i.invariant.1 c.in-Ok.ensures.ok.keeps,
  keeps-front c.args.self.now c.loop-i.self c.make.new.self c.args.steps.now c.loop-i.i _ _ (omega arith) refl
      c.loop-i.invariant.0.state c.loop-i.invariant.0.tables c.loop-i.invariant.2 c.in-Ok.ensures.ok.keeps,
)

pub returns-in_default-make-clause-keeps : goal.returns-in_default-make-clause-keeps
returns-in_default-make-clause-keeps c =
    keeps-more c.args.self.now c.loop-i.self c.make.new.self c.args.steps.now c.loop-i.i _ _ (omega arith) refl
    c.loop-i.invariant.0.state c.loop-i.invariant.0.tables c.loop-i.invariant.1 c.in_default-make.ensures.err.keeps

pub loop-i-init : goal.loop-i-init
loop-i-init c = grind (arith, common_steps)

pub offset_bounds-steps-i : goal.offset_bounds-steps-i
offset_bounds-steps-i c = grind (arith, common_steps)

pub bounds-steps-i : goal.bounds-steps-i
bounds-steps-i c = grind (arith, common_steps)

pub returns-in-Err-clause-ok : goal.returns-in-Err-clause-ok
returns-in-Err-clause-ok c = grind (arith, common_steps)

pub returns-in-Err-clause-err : goal.returns-in-Err-clause-err
returns-in-Err-clause-err c = (grind (arith, common_steps), grind (arith, common_steps))

pub returns-in-Err-clause-shape : goal.returns-in-Err-clause-shape
returns-in-Err-clause-shape c = grind (arith, common_steps)

pub returns-in_default-make-clause-ok : goal.returns-in_default-make-clause-ok
returns-in_default-make-clause-ok c = grind (arith, common_steps)

pub returns-in_default-make-clause-err : goal.returns-in_default-make-clause-err
returns-in_default-make-clause-err c = (grind (arith, common_steps), grind (arith, common_steps))

pub returns-in_default-make-clause-shape : goal.returns-in_default-make-clause-shape
returns-in_default-make-clause-shape c = grind (arith, common_steps)

pub loop-i-smaller : goal.loop-i-smaller
loop-i-smaller c = grind (arith, common_steps)

pub returns-clause-ok : goal.returns-clause-ok
returns-clause-ok c = grind (arith, common_steps)

pub returns-clause-err : goal.returns-clause-err
returns-clause-err c = grind (arith, common_steps)

pub returns-clause-shape : goal.returns-clause-shape
returns-clause-shape c = grind (arith, common_steps)

pub returns-in_default-make-clause-wanted : goal.returns-in_default-make-clause-wanted
returns-in_default-make-clause-wanted c = inr (record {
  world = c.loop-i.self;
  step = _;
  there = slice_get-get_or c.args.steps.now c.loop-i.i _ (omega arith);
  keeps = c.loop-i.invariant.2;
  wants = λ needs. let no = c.in_default-make.ensures.succeeds needs in absurd (cc);
  as_before = c.in_default-make.ensures.err;
})
