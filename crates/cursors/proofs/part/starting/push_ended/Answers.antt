use Rattle.std.proofs.Common.{◌<◌, length, map, sym, arith}
use Rattle.std.proofs.lemmas.Grind.{common_steps}
use Rattle.cursors.specs.Cursors.{progress}
use Rattle.cursors.specs.Stock.{stock}
use Rattle.cursors.proofs.Growing.{grows-none, grows-push}
use Rattle.cursors.proofs.Stock.{adds-push}
use Rattle.cursors.proofs.part.starting.push_ended.Goals as goal

pub loop-init : goal.loop-init
loop-init g c =
    (grows-none (map progress c.reserve_exact.new.self.items), λ most old new. old, grind (arith, common_steps), grind (arith, common_steps))

pub loop-preserved : goal.loop-preserved
loop-preserved g c =
    let low : length c.loop.parts.items < c.args.count = grind (arith, common_steps) in
    let first = c.reserve_exact.new.self.items in (
      rw c.push_reserved.ensures.items
          (grows-push progress (map progress first) c.loop.parts.items c.ended.result c.ended.ensures.ended c.loop.invariant.0),
      rw c.push_reserved.ensures.items
          (adds-push stock first c.loop.parts.items c.ended.result c.args.count c.ended.ensures.held low c.loop.invariant.1),
      grind (arith, common_steps),
      grind (arith, common_steps),
    )

pub returns-in_err-reserve_exact-clause-grown : goal.returns-in_err-reserve_exact-clause-grown
returns-in_err-reserve_exact-clause-grown g c = rw c.reserve_exact.ensures.items (grows-none (map progress c.args.parts.now.items))

pub returns-in_err-reserve_exact-clause-held : goal.returns-in_err-reserve_exact-clause-held
returns-in_err-reserve_exact-clause-held g c = rw c.reserve_exact.ensures.items (λ most old new. old)

pub returns-clause-grown : goal.returns-clause-grown
returns-clause-grown g c = rw (sym c.reserve_exact.ensures.items) c.loop.invariant.0

pub returns-clause-held : goal.returns-clause-held
returns-clause-held g c = rw (sym c.reserve_exact.ensures.items) c.loop.invariant.1
