use Rattle.std.proofs.Common.{◌≡◌, ◌<◌, ◌≤◌, ◌*◌, ◌+◌, ℕ, length, slice_index}
use Rattle.rows.specs.inner.Tree.{IsRising}
use Rattle.rows.proofs.sums.Sums.set.Given as goal

abbrev pub invariant-loop-node : goal.invariant-loop-node
invariant-loop-node l = record {
  first : l.self-inside.first ≡ l.initial.self-inside.first;
  levels : l.self-inside.levels ≡ l.initial.self-inside.levels;
  count : l.self-inside.count ≡ l.initial.self-inside.count;
  inside : l.node < 4 * l.self-inside.first + 1;
  long : length l.self-inside.tree.items ≡ length l.initial.self-inside.tree.items;
  leaves : (i : ℕ) → l.self-inside.first ≤ i → slice_index l.self-inside.tree.items i ≡ slice_index l.initial.self-inside.tree.items i;
  rising : IsRising l.self-inside.tree.items l.self-inside.first l.node l.before l.after;
}

abbrev pub decreases-loop-node : goal.decreases-loop-node
decreases-loop-node l = l.node
