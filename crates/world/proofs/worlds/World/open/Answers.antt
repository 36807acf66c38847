use Rattle.std.proofs.Common.{◌≡◌, ◌∙◌, ap, arith, refl, false, length, replicate, List, None}
use Rattle.machine.specs.Block.{BlockState}
use Rattle.machine.specs.Machine.{State, opened}
use Rattle.world.specs.View.{states}
use Rattle.world.proofs.Keeping.{states-opened, world-opened}
use Rattle.world.proofs.Coherence.{been-safe, not-stuck}
use Rattle.world.proofs.Spaces.{none-kept}
use Rattle.world.proofs.worlds.World.open.Goals as goal

one_each : (c : goal.After-open-2) → length c.args.opening.items ≡ c.args.shape.blocks
one_each c = omega (arith, c.if-len-blocks.false, c.len.ensures, c.blocks-2.ensures.value)

opened-state : (c : goal.After-open-2)
    → ◌≡◌ {A = State} (record { blocks = states c.args.shape.caches c.args.opening.items c.open-2.result.items; broken = false })
    (opened c.args.shape c.args.opening.items)
opened-state c =
    ap (λ (bs : List BlockState). record { blocks = bs; broken = false })
    (states-opened c.args.shape.caches c.args.opening.items c.open-2.result.items c.blocks-4.result c.open-2.ensures.items)

pub invariant_of-result : goal.invariant_of-result
invariant_of-result c =
    rw c.new.ensures (world-opened c.args.shape c.args.tables c.args.opening.items c.open-2.result.items c.in-Ok.counts c.blocks-2.ensures.within (one_each c)
    (c.open-2.ensures.items ∙ ap (λ n. replicate n None) c.blocks-4.ensures.value)
    (rw c.blocks-3.ensures.value at c.in-Ok.ensures))

pub returns-clause-opened : goal.returns-clause-opened
returns-clause-opened c = record {
  shape = refl;
  tables = c.new.ensures;
  opening = refl;
  state = opened-state c;
  history = rw (opened-state c) (record { opens = one_each c; leads = refl });
  safe = been-safe _ _ _ c.blocks-2.ensures.within;
  unstuck = not-stuck _ _ _ c.blocks-2.ensures.within;
  tested = refl;
  none_kept = none-kept c.open-2.result.items c.args.shape.blocks (c.open-2.ensures.items ∙ ap (λ n. replicate n None) c.blocks-4.ensures.value);
}
