use Rattle.std.proofs.Common.{ℕ, arith, sym}
use Rattle.std.proofs.lemmas.Grind.{common_steps, elements}
use Rattle.std.proofs.lemmas.List.{get_or-replicate}
use Rattle.world.specs.Enabled.{enabled_at_block}
use Rattle.floor.proofs.Tallying.{noted}
use Rattle.floor.proofs.shares.tally_of.Goals as goal

pub loop-k-preserved : goal.loop-k-preserved
loop-k-preserved c = record {
  long = grind (arith, common_steps);
  each = noted c.args.seats c.args.world.now.shape.caches c.args.world.now.state
      (enabled_at_block c.args.world.now.tables c.args.kind c.args.world.now.state c.args.block)
      c.loop-k.k c.in-Some.step c.loop-k.tally.each c.note.new.self.each c.loop-k.tally.all c.note.new.self.all
      (sym c.in-Some.ensures) (omega (arith, c.loop-k.invariant.long, c.requires.1)) c.loop-k.invariant.each
      c.owner.result c.owner.ensures c.note.ensures.some c.note.ensures.some_all c.note.ensures.none c.note.ensures.none_all;
}

pub unreachable-requires : goal.unreachable-requires
unreachable-requires c = grind (arith, elements)

pub loop-k-init : goal.loop-k-init
loop-k-init c = record {
  long = grind (arith, common_steps);
  each = λ seat lt.
      let zero = get_or-replicate {A = ℕ} 64 seat 0 0 (omega (arith, lt, c.requires.1)) in
      omega (arith, zero);
}
