use Rattle.std.proofs.Common.{◌∙◌, Some, None, ap, subst, sym, arith}
use Rattle.std.proofs.lemmas.Grind.{common_steps}
use Rattle.machine.specs.Block.{BlockState}
use Rattle.world.specs.inner.Holding.{kept_at}
use Rattle.world.specs.inner.Tests.{IsMarked}
use Rattle.world.proofs.QuietMarks.{marks-quiet}
use Rattle.std.proofs.lemmas.List.{get_or-set_same}
use Rattle.world.specs.Keeping.{has_line}
use Rattle.world.specs.View.{space_of}
use Rattle.world.proofs.Touching.{marked-put, none-yet}
use Rattle.world.proofs.at_block.touch_opened.Goals as goal

pub returns-in_err-keep-clause-touches : goal.returns-in_err-keep-clause-touches
returns-in_err-keep-clause-touches c = record {
  others = grind (arith, common_steps);
  state = grind (arith, common_steps);
  marked = grind (arith, common_steps);
  idle = grind (arith, common_steps);
  lines = λ cache. ap (λ ks. has_line (space_of (kept_at ks c.args.number)) cache) c.in_err-keep.ensures.err;
}

pub returns-clause-touches : goal.returns-clause-touches
returns-clause-touches c =
    let block = c.in_ok-block.block in
    let quiet = ap (λ (b : BlockState). b.traffic) c.in_ok-block.ensures.state in
    record {
      others = grind (arith, common_steps);
      state = grind (arith, common_steps);
      marked = λ before.
          subst (λ ks. IsMarked c.args.tables.now (kept_at ks c.args.number)) (sym c.in_ok-keep.ensures.ok)
          (marked-put c.args.tables.now c.args.blocks.now.items c.args.number block c.requires.below
          (c.in_ok-block.ensures.marks ∙ sym (marks-quiet c.args.tables.now block.state c.args.caches quiet)));
      idle = grind (arith, common_steps);
      lines = λ cache.
          ap (λ ks. has_line (space_of (kept_at ks c.args.number)) cache) c.in_ok-keep.ensures.ok
          ∙ ap (λ o. has_line (space_of o) cache) (get_or-set_same c.args.blocks.now.items c.args.number (Some block) None c.requires.below)
          ∙ none-yet c.args.caches block c.in_ok-block.ensures.lines cache ∙ sym (ap (λ o. has_line (space_of o) cache) c.requires.none);
    }
