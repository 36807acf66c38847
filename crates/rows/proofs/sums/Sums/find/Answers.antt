use Rattle.std.proofs.Common.{◌≡◌, ◌<◌, ℕ, arith, subst}
use Rattle.std.specs.List.{sum}
use Rattle.rows.specs.inner.Tree.{IsOnTheWay, numbers_of}
use Rattle.rows.proofs.Tree.{at-root, down, found, way-inside}
use Rattle.rows.proofs.sums.Sums.find.Goals as goal

pub loop-init : goal.loop-init
loop-init c =
    let inside : c.args.k < sum (numbers_of c.self.inside.tree.items c.self.inside.first c.self.inside.count) = rw c.self.view_is c.requires in
    at-root c.self.inside.tree.items c.self.inside.first c.self.inside.levels c.self.inside.count c.args.k c.self.invariant inside

pub fall-next-requires : goal.fall-next-requires
fall-next-requires c =
    let inside = way-inside c.self.inside.tree.items c.self.inside.first c.self.inside.levels c.self.inside.count c.loop.counter c.loop.node c.loop.rest
    c.args.k c.self.invariant c.loop-test.true c.loop.invariant in
    record {
      inside = omega (arith, inside.0, c.self.invariant.long);
      within = inside.1;
    }

pub loop-preserved : goal.loop-preserved
loop-preserved c =
    down c.self.inside.tree.items c.self.inside.first c.self.inside.levels c.self.inside.count c.loop.counter c.loop.node c.loop.rest
    c.fall-next.result.0 c.fall-next.result.1 c.args.k c.self.invariant c.loop-test.true c.loop.invariant c.fall-next.ensures.least c.fall-next.ensures.most
    c.fall-next.ensures.front c.fall-next.ensures.within

pub overflow_cast-result : goal.overflow_cast-result
overflow_cast-result c =
    let levels = c.self.inside.levels in
    let at_end : c.loop.counter ≡ levels = omega arith in
    let way : IsOnTheWay c.self.inside.tree.items levels c.loop.node c.loop.rest c.args.k =
    subst (λ (n : ℕ). IsOnTheWay c.self.inside.tree.items n c.loop.node c.loop.rest c.args.k) at_end c.loop.invariant in
    let small = c.self.invariant.small c.loop.node (omega (arith, way.least, c.self.invariant.begins)) in
    omega (arith, way.within)

pub returns : goal.returns
returns c =
    let levels = c.self.inside.levels in
    let at_end : c.loop.counter ≡ levels = omega arith in
    let way : IsOnTheWay c.self.inside.tree.items levels c.loop.node c.loop.rest c.args.k =
    subst (λ (n : ℕ). IsOnTheWay c.self.inside.tree.items n c.loop.node c.loop.rest c.args.k) at_end c.loop.invariant in
    rw (← c.self.view_is)
    (found c.self.inside.tree.items c.self.inside.first levels c.self.inside.count c.loop.node c.loop.rest c.args.k c.self.invariant way)
