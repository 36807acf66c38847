use Rattle.std.proofs.Common.{◌<◌, length, ◌≡◌, ◌∙◌, List, Some, ap, refl, sym, slice_get, arith}
use Rattle.std.proofs.lemmas.Grind.{common_steps, elements}
use Rattle.std.proofs.lemmas.Result.{IfOk-weaker}
use Rattle.base.specs.Steps.{block_of}
use Rattle.machine.specs.Block.{BlockState}
use Rattle.world.specs.View.{states}
use Rattle.world.proofs.Keeping.{states-stay}
use Rattle.world.proofs.Spaces.{kept-as-is}
use Rattle.world.proofs.Stepping.{below-places, needs-in, outcome-is, room-back, world-stays}
use Rattle.world.proofs.worlds.World.ready.Goals as goal

at : (c : goal.After-ready_at) → Some c.in-Some.value ≡ slice_get c.self.inside.opening.items (block_of c.args.step)
at c = rw (c.as_slice.ensures.value, c.block-number.ensures) at c.in-Some.ensures

below : (c : goal.After-ready_at) → block_of c.args.step < length c.self.inside.blocks.items
below c =
    below-places c.self.inside.shape c.self.inside.controllers c.self.inside.opening.items c.self.inside.blocks.items c.self.inside.counts _
    (block_of c.args.step) c.in-Some.value c.self.invariant (at c)

pub invariant_of-self : goal.invariant_of-self
invariant_of-self c =
    world-stays c.self.inside.shape c.self.inside.controllers c.self.inside.opening.items c.self.inside.blocks.items c.ready_at.new.blocks.items
    c.self.inside.counts (block_of c.args.step) c.in-Some.value c.self.inside.met_blank c.self.invariant (at c)
    (rw c.block-number.ensures at c.ready_at.ensures.kept.others)
    (rw (c.block-number.ensures, c.caches.ensures.value) at c.ready_at.ensures.kept.state)
    ((rw (c.block-number.ensures, c.tables.ensures) at c.ready_at.ensures.kept.marked) (c.self.invariant.marked (block_of c.args.step)))

stay : (c : goal.After-ready_at) → states c.self.inside.shape.caches c.self.inside.opening.items c.ready_at.new.blocks.items
    ≡ states c.self.inside.shape.caches c.self.inside.opening.items c.self.inside.blocks.items
stay c =
    states-stay c.self.inside.shape.caches c.self.inside.opening.items c.self.inside.blocks.items c.ready_at.new.blocks.items (block_of c.args.step)
    c.in-Some.value (at c)
    (below c)
    (rw c.block-number.ensures at c.ready_at.ensures.kept.others)
    (rw (c.block-number.ensures, c.caches.ensures.value) at c.ready_at.ensures.kept.state)

pub returns-clause-ok : goal.returns-clause-ok
returns-clause-ok c =
    let same = rw (c.block-number.ensures, c.caches.ensures.value) at c.ready_at.ensures.kept.state in
    IfOk-weaker c.ready_at.result _ _ (λ what foresees. record {
      outcome =
          foresees.outcome ∙ rw (← c.self.view_is, c.if-self.false) (sym (outcome-is c.self.inside.shape c.self.inside.controllers
          c.self.inside.opening.items c.self.inside.blocks.items c.args.step c.in-Some.value (at c)));
      room =
          room-back c.self.inside.shape c.self.inside.controllers c.self.inside.opening.items c.ready_at.new.blocks.items c.self.inside.met_blank
          c.self.inside.tested c.args.step c.in-Some.value (at c) (rw (← same) at foresees.room);
    })
    (rw (c.block-number.ensures, c.caches.ensures.value, c.tables.ensures) at c.ready_at.ensures.ok)

pub returns-clause-kept : goal.returns-clause-kept
returns-clause-kept c = record {
  state = rw (← c.self.view_is) (ap (λ (bs : List BlockState). record { blocks = bs; broken = c.self.inside.met_blank }) (stay c));
  shape = grind (arith, common_steps);
  tables = grind (arith, common_steps);
  opening = grind (arith, common_steps);
  tested = grind (arith, common_steps);
  keeps =
      rw (← c.self.view_is, c.if-self.false)
      (kept-as-is c.self.inside.shape c.self.inside.controllers c.self.inside.opening.items c.self.inside.blocks.items c.ready_at.new.blocks.items
      c.self.inside.tested c.args.step c.in-Some.value _ (at c)
      (rw c.block-number.ensures at c.ready_at.ensures.kept.others)
      (rw (c.block-number.ensures, c.caches.ensures.value, c.tables.ensures) at c.ready_at.ensures.kept.idle)
      (λ cache apart. (rw c.block-number.ensures at c.ready_at.ensures.kept.lines) cache) refl);
}

pub returns-clause-succeeds : goal.returns-clause-succeeds
returns-clause-succeeds c needs =
    (rw (c.block-number.ensures, c.caches.ensures.value, c.tables.ensures) at c.ready_at.ensures.succeeds)
    (needs-in c.self.inside.shape c.self.inside.controllers c.self.inside.opening.items c.self.inside.blocks.items c.self.inside.tested
    c.args.step c.in-Some.value (at c)
    (rw (← c.self.view_is, c.if-self.false) at needs))

pub ready_at-requires : goal.ready_at-requires
ready_at-requires c = grind (arith, elements)
