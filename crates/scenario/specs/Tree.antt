-- A scenario as a tree, without the place where it lies.
use Rattle.std.specs.Prelude.{ℕ, List, [], ◌∷◌, map}
use Rattle.base.specs.declared.step.CoreAsk.{CoreAsk}
use Rattle.scenario.specs.declared.tree.Scenario.{Scenario}
use Rattle.scenario.specs.declared.tree.Scenario as scenario

mutual
  -- one ask; one child behind the other; one of the children; the child so many times; the children at once
  pub data Tree : Type 0 where
    One : CoreAsk → Tree
    Seq : Trees → Tree
    Any : Trees → Tree
    Times : ℕ → Tree → Tree
    Both : Trees → Tree

  pub data Trees : Type 0 where
    Nil : Trees
    Cons : Tree → Trees → Trees

-- these children, in order
abbrev pub trees_of : List Tree → Trees
trees_of [] = Nil
trees_of (t ∷ ts) = Cons t (trees_of ts)

abbrev mutual
  -- the tree that a scenario is, wherever it lies
  pub plain : {A : Type 0} → Scenario A → Tree
  plain (scenario.One ask) = One ask
  plain (scenario.Seq' shape row) = Seq (plain_row row)
  plain (scenario.Any' shape row) = Any (plain_row row)
  plain (scenario.Times' n at child) = Times n (plain child)
  plain (scenario.Both' shape row) = Both (plain_row row)

  pub plain_row : {A : Type 0} {n : _} → scenario.Row_of-Scenario A n → Trees
  plain_row scenario.end_of-Scenario = Nil
  plain_row (scenario.more_of-Scenario s more) = Cons (plain s) (plain_row more)

-- the trees that several scenarios are
abbrev pub plain_all : {A : Type 0} → List (Scenario A) → Trees
plain_all children = trees_of (map plain children)
