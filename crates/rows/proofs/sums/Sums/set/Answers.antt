use Rattle.std.proofs.Common.{◌≡◌, ◌<◌, ◌≤◌, ◌+◌, ◌-◌, ◌*◌, ◌/◌, ◌^◌, ℕ, List, ap, arith, get_or, length, refl, slice_index}
use Rattle.std.proofs.Common.{subst, ◌∙◌}
use Rattle.std.proofs.lemmas.List.{get_or_default, length-set}
use Rattle.rows.specs.inner.Tree.{IsRising, IsSummed}
use Rattle.rows.proofs.Rising.{IsStep, IsWritten, other, rising-end, rising-start, rising-step, written}
use Rattle.rows.proofs.Tree.{numbers-length}
use Rattle.rows.proofs.sums.Sums.set.Goals as goal

-- what is read over a node, and what it comes to
read-over : (tree : List ℕ) (first node before value read : ℕ) → IsRising tree first node before value → 0 < node → node < 4 * first + 1 →
    4 * first + 1 ≤ length tree → value < 2 ^ 32 → read ≡ get_or tree ((node - 1) / 4) read →
    (read ≡ slice_index tree ((node - 1) / 4)) × IsStep tree first node before value
read-over tree first node before value read rising some inside long small is =
    (is ∙ get_or_default tree ((node - 1) / 4) read 0 (omega (arith, inside, long)), rising-step tree first node before value rising some inside long small)

pub loop-node-init : goal.loop-node-init
loop-node-init c =
    let tree = c.self.inside.tree.items in
    let first = c.self.inside.first in
    let levels = c.self.inside.levels in
    let count = c.self.inside.count in
    let asked : c.args.at < length c.args.self.now = c.requires in
    let inside : c.args.at < count = omega (arith, asked, ap length c.self.view_is, numbers-length tree first levels count c.self.invariant) in
    let read : c.index-before.result.now ≡ slice_index tree (first + c.args.at) =
    c.index-before.ensures ∙ get_or_default tree (first + c.args.at) c.index-before.result.now 0
    (omega (arith, c.self.invariant.long, c.self.invariant.wide)) in
    record {
      first = refl;
      levels = refl;
      count = refl;
      inside = omega (arith, c.self.invariant.wide);
      long = refl;
      leaves = λ i h. refl;
      rising = rising-start tree first levels count c.args.at c.index-before.result.now c.args.value c.self.invariant inside read;
    }

pub overflow_sub-index : goal.overflow_sub-index
overflow_sub-index c =
    let over = read-over c.loop-node.self-inside.tree.items c.loop-node.self-inside.first c.loop-node.node c.index-before.result.now c.args.value
    c.index.result.now c.loop-node.invariant.rising (omega (arith, c.loop-node-test.true)) c.loop-node.invariant.inside
    (let long = c.loop-node.invariant.long ∙ length-set c.self.inside.tree.items (c.self.inside.first + c.args.at) c.args.value in
    omega (arith, long, c.self.invariant.long, c.loop-node.invariant.first)) c.ranges.value.fits c.index.ensures in
    omega (arith, over.0, over.1.less)

pub overflow_add-index : goal.overflow_add-index
overflow_add-index c =
    let over = read-over c.loop-node.self-inside.tree.items c.loop-node.self-inside.first c.loop-node.node c.index-before.result.now c.args.value
    c.index.result.now c.loop-node.invariant.rising (omega (arith, c.loop-node-test.true)) c.loop-node.invariant.inside
    (let long = c.loop-node.invariant.long ∙ length-set c.self.inside.tree.items (c.self.inside.first + c.args.at) c.args.value in
    omega (arith, long, c.self.invariant.long, c.loop-node.invariant.first)) c.ranges.value.fits c.index.ensures in
    omega (arith, over.0, over.1.fits)

pub loop-node-preserved : goal.loop-node-preserved
loop-node-preserved c =
    let tree = c.loop-node.self-inside.tree.items in
    let over = read-over tree c.loop-node.self-inside.first c.loop-node.node c.index-before.result.now c.args.value
    c.index.result.now c.loop-node.invariant.rising (omega (arith, c.loop-node-test.true)) c.loop-node.invariant.inside
    (let long = c.loop-node.invariant.long ∙ length-set c.self.inside.tree.items (c.self.inside.first + c.args.at) c.args.value in
    omega (arith, long, c.self.invariant.long, c.loop-node.invariant.first)) c.ranges.value.fits c.index.ensures in
    rw over.0
    (record {
      first = c.loop-node.invariant.first;
      levels = c.loop-node.invariant.levels;
      count = c.loop-node.invariant.count;
      inside = omega (arith, c.loop-node.invariant.inside);
      long = length-set tree ((c.loop-node.node - 1) / 4) _ ∙ c.loop-node.invariant.long;
      leaves = λ i h. other tree ((c.loop-node.node - 1) / 4) _ i (λ e. absurd (omega (arith, e, h, c.loop-node.invariant.inside, c.loop-node-test.true)))
          ∙ c.loop-node.invariant.leaves i h;
      rising = over.1.next;
    })

set-whole : (c : goal.After-loop-node) →
    IsWritten c.self.inside.tree.items c.loop-node.self-inside.tree.items c.self.inside.first c.self.inside.levels c.self.inside.count c.args.at c.args.value
set-whole c =
    let tree = c.self.inside.tree.items in
    let first = c.self.inside.first in
    let levels = c.self.inside.levels in
    let count = c.self.inside.count in
    let asked : c.args.at < length c.args.self.now = c.requires in
    let inside : c.args.at < count = omega (arith, asked, ap length c.self.view_is, numbers-length tree first levels count c.self.invariant) in
    let new = c.loop-node.self-inside.tree.items in
    let same = c.loop-node.invariant.first in
    let summed : IsSummed new c.loop-node.self-inside.first =
    rising-end new c.loop-node.self-inside.first c.loop-node.node c.index-before.result.now c.args.value c.loop-node.invariant.rising
    (omega (arith, c.loop-node-test.false)) in
    written tree new first levels count c.args.at c.args.value c.self.invariant inside c.ranges.value.fits
    (c.loop-node.invariant.long ∙ length-set tree _ c.args.value)
    (λ i h. c.loop-node.invariant.leaves i (rw same h))
    (subst (λ n. IsSummed new n) same summed)

pub invariant_of-self : goal.invariant_of-self
invariant_of-self c = rw (c.loop-node.invariant.first, c.loop-node.invariant.levels, c.loop-node.invariant.count) (set-whole c).kept

pub returns : goal.returns
returns c = rw (← c.self.view_is) (rw (c.loop-node.invariant.first, c.loop-node.invariant.count) (set-whole c).numbers)
