-- The JSON value that a tree is written as.
use Rattle.std.specs.Prelude.{ℕ, List, codes}
use Rattle.serde_json.specs.Data.{Data, number, string, array, object, unsigned, Items, no_items, item, Members, no_members, member}
use Rattle.base.specs.declared.step.Ask.{Ask}
use Rattle.base.specs.declared.step.Ask.TheVariants.{Load, Store, Replace}
use Rattle.base.specs.declared.step.CoreAsk.{CoreAsk}
use Rattle.scenario.specs.Tree.{Tree, Trees, One, Seq, Any, Times, Both, Nil, Cons}

-- a whole number
abbrev pub shown_number : ℕ → Data
shown_number n = number (unsigned n)

-- what is asked: the last members of an ask
abbrev pub shown_asked : Ask → Members
shown_asked Load = member (codes "op") (string (codes "load")) no_members
shown_asked (Store value) = member (codes "op") (string (codes "store")) (member (codes "value") (shown_number value) no_members)
shown_asked Replace = member (codes "op") (string (codes "replace")) no_members

-- an object of an ask's core and block, and of what is asked, with its keys in rising order
abbrev pub with_core_and_block : CoreAsk → Members → Data
with_core_and_block ask asked = object (member (codes "block") (shown_number ask.block.0) (member (codes "core") (shown_number ask.core.0) asked))

-- an ask
abbrev pub shown_ask : CoreAsk → Data
shown_ask ask = with_core_and_block ask (shown_asked ask.ask)

-- an object of one key
abbrev pub shown_under : List ℕ → Data → Data
shown_under key d = object (member key d no_members)

-- a child so many times
abbrev pub shown_times : ℕ → Data → Data
shown_times n d = object (member (codes "of") d (member (codes "times") (shown_number n) no_members))

abbrev mutual
  -- the JSON value of a tree
  pub shown : Tree → Data
  shown (One ask) = shown_ask ask
  shown (Seq ts) = shown_under (codes "seq") (array (shown_all ts))
  shown (Any ts) = shown_under (codes "any") (array (shown_all ts))
  shown (Times n t) = shown_times n (shown t)
  shown (Both ts) = shown_under (codes "both") (array (shown_all ts))

  pub shown_all : Trees → Items
  shown_all Nil = no_items
  shown_all (Cons t ts) = item (shown t) (shown_all ts)
