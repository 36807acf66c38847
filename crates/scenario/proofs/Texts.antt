-- The text of a tree reads back.
use Rattle.std.proofs.Common.{◌≡◌, ◌≤◌, ◌*◌, false, refl, arith}
use Rattle.std.proofs.lemmas.Str.{IsUtf8-string_bytes}
use Rattle.serde_json.specs.Data as json
use Rattle.serde_json.specs.Written.{has_float, items_have_float, members_have_float}
use Rattle.base.specs.declared.step.Ask.{Ask}
use Rattle.base.specs.declared.step.Ask.TheVariants.{Load, Store, Replace}
use Rattle.scenario.specs.Tree.{Tree, Trees, One, Seq, Any, Times, Both, Nil, Cons}
use Rattle.scenario.specs.Shown.{shown, shown_all, shown_asked}
use Rattle.scenario.specs.Limits.{depth, deepest}

asked_whole : (ask : Ask) → members_have_float (shown_asked ask) ≡ false
asked_whole Load = refl
asked_whole (Store value) = refl
asked_whole Replace = refl

mutual
  -- all numbers of a tree are whole
  pub tree_whole : (t : Tree) → has_float (shown t) ≡ false
  tree_whole (One ask) = asked_whole ask.ask
  tree_whole (Seq ts) = rw (trees_whole ts) refl
  tree_whole (Any ts) = rw (trees_whole ts) refl
  tree_whole (Times n t) = rw (tree_whole t) refl
  tree_whole (Both ts) = rw (trees_whole ts) refl

  trees_whole : (ts : Trees) → items_have_float (shown_all ts) ≡ false
  trees_whole Nil = refl
  trees_whole (Cons t ts) = rw (tree_whole t) (trees_whole ts)

asked_flat : (ask : Ask) → json.members_depth (shown_asked ask) ≤ 0
asked_flat Load = omega arith
asked_flat (Store value) = omega arith
asked_flat Replace = omega arith

mutual
  -- a level of a tree is an object and an array
  tree_nests : (t : Tree) → json.depth (shown t) ≤ 2 * depth t
  tree_nests (One ask) = omega (arith, asked_flat ask.ask)
  tree_nests (Seq ts) = omega (arith, trees_nest ts)
  tree_nests (Any ts) = omega (arith, trees_nest ts)
  tree_nests (Times n t) = omega (arith, tree_nests t)
  tree_nests (Both ts) = omega (arith, trees_nest ts)

  trees_nest : (ts : Trees) → json.items_depth (shown_all ts) ≤ 2 * deepest ts
  trees_nest Nil = omega arith
  trees_nest (Cons t ts) = omega (arith, tree_nests t, trees_nest ts)

-- a tree of 48 levels is no deeper than what JSON is read
pub tree_flat : (t : Tree) → depth t ≤ 48 → json.depth (shown t) ≤ 127
tree_flat t low = omega (arith, tree_nests t, low)

pub ruleset texts = (tree_whole, tree_flat, IsUtf8-string_bytes)
