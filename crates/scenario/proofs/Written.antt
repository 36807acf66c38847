-- The value that a tree is written as says the tree.
use Rattle.std.proofs.Common.{◌≡◌, ◌<◌, ◌^◌, ℕ, true, nat_lt, List, Some, refl, arith}
use Rattle.serde_json.specs.Data.{Data}
use Rattle.base.specs.Spelling.{FitsAsk}
use Rattle.base.specs.declared.step.Ask.{Ask}
use Rattle.base.specs.declared.step.Ask.TheVariants.{Load, Store, Replace}
use Rattle.base.specs.declared.step.CoreAsk.{CoreAsk}
use Rattle.scenario.specs.Tree.{Tree, Trees, One, Seq, Any, Times, Both, Nil, Cons}
use Rattle.scenario.specs.Shown.{shown, shown_all, shown_ask, shown_times}
use Rattle.scenario.specs.Limits.{FitsTypes, InEach, Throughout}
use Rattle.scenario.specs.Nodes.{one, times, node_of}
use Rattle.scenario.specs.Says.{IsJson, IsTextOf, Says, SayEach}

is-less : (n bound : ℕ) → n < bound → nat_lt n bound ≡ true
is-less n bound few = grind (arith)

abbrev numbered : ℕ → ℕ → Ask → CoreAsk
numbered core block ask = record { core = record { 0 = core }; block = record { 0 = block }; ask = ask }

ask-node : (core block : ℕ) (ask : Ask) → core < 2 ^ 32 → block < 2 ^ 32 → FitsAsk ask
    → node_of (shown_ask (numbered core block ask)) ≡ Some (one (numbered core block ask))
ask-node core block Load x y z = rw (is-less core (2 ^ 32) x, is-less block (2 ^ 32) y) refl
ask-node core block (Store value) x y z = rw (is-less core (2 ^ 32) x, is-less block (2 ^ 32) y, is-less value (2 ^ 64) z) refl
ask-node core block Replace x y z = rw (is-less core (2 ^ 32) x, is-less block (2 ^ 32) y) refl

times-node : (n : ℕ) (d : Data) → n < 2 ^ 32 → node_of (shown_times n d) ≡ Some (times n d)
times-node n d few = rw (is-less n (2 ^ 32) few) refl

mutual
  pub shown-says : (t : Tree) → Throughout FitsTypes t → Says (shown t) t
  shown-says (One ask) fits = ask-node ask.core.0 ask.block.0 ask.ask fits.0 fits.1 fits.2
  shown-says (Seq ts) fits = (shown_all ts, refl, shown-say-each ts fits.1)
  shown-says (Any ts) fits = (shown_all ts, refl, shown-say-each ts fits.1)
  shown-says (Times n t) fits = (shown t, times-node n (shown t) fits.0, shown-says t fits.1)
  shown-says (Both ts) fits = (shown_all ts, refl, shown-say-each ts fits.1)

  shown-say-each : (ts : Trees) → InEach FitsTypes ts → SayEach (shown_all ts) ts
  shown-say-each Nil fits = tt
  shown-say-each (Cons t ts) fits = (shown-says t fits.0, shown-say-each ts fits.1)

-- so JSON of this value is the tree's text
pub shown-text : (bytes : List ℕ) (t : Tree) → Throughout FitsTypes t → IsJson bytes (shown t) → IsTextOf bytes t
shown-text bytes t fits json = (shown t, json, shown-says t fits)
