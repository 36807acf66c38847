-- How lanes are kept, and what holds of all of them.
use Rattle.std.specs.Prelude.{◌≡◌, ◌<◌, ◌≤◌, ◌^◌, ◌-◌, ℕ, min, false, true, List, [], Some, length, map, slice_get, slice_index, slice_index_or}
use Rattle.std.specs.Borrow.{Bor}
use Rattle.std.specs.List.{Contains}
use Rattle.base.specs.declared.step.CoreAsk.{CoreAsk}
use Rattle.scenario.specs.Tree.{Tree, Seq, Nil, plain}
use Rattle.scenario.specs.Taking.{offers}
use Rattle.scenario.specs.declared.tree.Scenario.{Scenario}
use Rattle.cursors.specs.Cursors.{remaining, standing}
use Rattle.cursors.specs.Stock.{stock, wants}
use Rattle.cursors.specs.declared.cursor.Cursor.{Cursor}
use Rattle.schedule.specs.Listed.{Listed}
use Rattle.lanes.specs.Lanes.{Laned, Stocked, offers_at, source_at}
use Rattle.lanes.specs.declared.lanes.Lane.{Lane}
use Rattle.lanes.specs.declared.lanes.Lanes.TheInside.{Inside}

-- the parts of a cursor, and those that it may want
abbrev pub stocked : {A B : Type 0} → Cursor A B → Stocked
stocked c = record { held = stock c.root; wanted = wants (standing c) }

-- of each lane the tree that is left, the parts of its cursor, and what it offers
abbrev pub trees_in : {A B : Type 0} → List (Lane A B) → List Tree
trees_in lanes = map (λ lane. remaining lane.rest) lanes

abbrev pub stocks_in : {A B : Type 0} → List (Lane A B) → List Stocked
stocks_in lanes = map (λ lane. stocked lane.rest) lanes

abbrev pub listed_in : {A B : Type 0} → List (Lane A B) → List Listed
listed_in lanes = map (λ lane. lane.asks) lanes

-- the trees that are borrowed
abbrev pub plain_each : {A : Type 0} → List (Bor (Scenario A)) → List Tree
plain_each sources = map (λ s. plain s.now) sources

-- lanes, as contracts see them
abbrev pub laned : {A B : Type 0} → Inside A B → Laned
laned l = record {
  source = record { trees = plain_each l.sources.items; marks = l.marks.items };
  as_opened = l.as_opened.items;
  trees = trees_in l.lanes.items;
  stocks = stocks_in l.lanes.items;
  listed = listed_in l.lanes.items;
  lengths = l.lengths;
  ready = l.ready;
  reached = map (λ of. of.items) l.reached.items;
  usable = l.usable;
}

-- the tree of a lane
abbrev pub tree_of_lane : Laned → ℕ → Tree
tree_of_lane l lane = slice_index_or l.trees lane (Seq Nil)

-- the row of a core among those of the cores; cores that have no row of their own share the last one
abbrev pub row_of_core : List (List ℕ) → ℕ → ℕ
row_of_core reached core = min core (length reached - 1)

-- the lanes that may offer an ask of a core
abbrev pub lanes_of : List (List ℕ) → ℕ → List ℕ
lanes_of reached core = slice_index_or reached (row_of_core reached core) []

-- what is kept of a lane's offers is what a tree offers, and the lane is among those of each core that has an ask there
pub record IsListedAs (tree : Tree) (l : Laned) (lane : ℕ) : Type 0 where
  pub offered : offers_at l lane ≡ offers tree
  pub count : slice_index l.lengths lane ≡ length (offers_at l lane)
  pub short : length (offers_at l lane) < 2 ^ 32
  pub reached : (at : ℕ) (ask : CoreAsk) → slice_get (offers_at l lane) at ≡ Some ask → Contains (lanes_of l.reached ask.core.0) lane

-- the tree is what is left of the lane
abbrev pub IsListed : Laned → ℕ → Type 0
IsListed l lane = IsListedAs (tree_of_lane l lane) l lane

-- so it is of each lane
abbrev pub AreListed : Laned → Type 0
AreListed l = (lane : ℕ) → lane < length l.trees → IsListed l lane

-- of a lane that is said to be listed as it was opened the tree is that of the source
abbrev pub AreAsOpened : Laned → Type 0
AreAsOpened l = (lane : ℕ) → slice_index_or l.as_opened lane false ≡ true → IsListedAs (source_at l lane) l lane

-- as much is kept of each lane, and there are at most 2^31; there is a row for cores
pub record IsLevel (l : Laned) : Type 0 where
  pub sources : length l.source.trees ≡ length l.trees
  pub opened : length l.as_opened ≡ length l.trees
  pub listed : length l.listed ≡ length l.trees
  pub lengths : length l.lengths ≡ length l.trees
  pub ready : length l.ready ≡ length l.trees
  pub few : length l.trees ≤ 2 ^ 31
  pub rows : 1 ≤ length l.reached

-- what holds of all lanes: they are level, what is said to be listed is, and where they aren't spoilt, what is kept of each is right
pub record AreSound {A B : Type 0} (l : Inside A B) : Type 0 where
  pub level : IsLevel (laned l)
  pub opened : AreAsOpened (laned l)
  pub listed : l.usable ≡ true → AreListed (laned l)
