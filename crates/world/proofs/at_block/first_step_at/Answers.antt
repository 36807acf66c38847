use Rattle.std.proofs.Common.{◌∙◌, ap}
use Rattle.world.specs.Keeping.{has_line}
use Rattle.world.specs.View.{space_of, state_or}
use Rattle.world.proofs.Visiting.{Kept, stays-or, steps-or}
use Rattle.world.proofs.at_block.first_step_at.Goals as goal
use Rattle.world.proofs.at_block.first_step_at.Goals.{After-made_at}

-- the block that was kept for the step
kept : (c : After-made_at) → Kept c.args.controllers.now c.args.caches c.args.value c.args.number c.args.step.now c.args.blocks.now.items
    c.touch_opened.new.blocks.items c.in-Some-get_mut.block.now
kept c =
    let there = rw c.in-Some-get_mut.is at c.get_mut.follows in
    record {
      below = c.requires.below;
      there = there;
      others = c.touch_opened.ensures.touches.others;
      state = ap (state_or c.args.caches c.args.value) there ∙ c.touch_opened.ensures.touches.state;
      idle = λ none. (rw c.tables.ensures at c.touch_opened.ensures.touches.idle) none;
      lines = λ cache. ap (λ o. has_line (space_of o) cache) there ∙ c.touch_opened.ensures.touches.lines cache;
    }

pub returns-clause-ok : goal.returns-clause-ok
returns-clause-ok c =
    steps-or c.args.controllers.now c.args.caches c.args.value c.args.number c.args.step.now c.args.blocks.now.items c.touch_opened.new.blocks.items _
    c.made_at.new.block c.made_at.result (kept (goal.at.returns-clause-ok c).After-made_at) c.made_at.ensures.ok

pub returns-clause-err : goal.returns-clause-err
returns-clause-err c =
    stays-or c.args.controllers.now c.args.caches c.args.value c.args.number c.args.step.now c.args.blocks.now.items c.touch_opened.new.blocks.items _
    c.made_at.new.block c.made_at.result (kept (goal.at.returns-clause-err c).After-made_at) c.made_at.ensures.err c.made_at.ensures.succeeds
