use Rattle.std.proofs.Common.{◌≡◌, ◌<◌, ◌≤◌, ◌∙◌, ◌^◌, ap, arith, length, sym}
use Rattle.std.specs.declared.vec.Vec.{Vec}
use Rattle.std.proofs.lemmas.List.{length-map}
use Rattle.std.proofs.lemmas.Result.{IfOk-weaker}
use Rattle.scenario.specs.Tree.{Tree, Both, Cons, Nil, plain, plain_all, trees_of}
use Rattle.scenario.specs.declared.tree.Scenario.{Scenario}
use Rattle.scenario.specs.declared.tree.Scenario.TheVariants as made
use Rattle.scenario.proofs.Children.{plain-Both}
use Rattle.lanes.specs.Fitting.{how_many, lane_trees}
use Rattle.lanes.proofs.Fitting.{alone-lanes, few-lanes, many-all, many-lanes}
use Rattle.lanes.proofs.lanes.making.sources_of.Goals as goal

-- the row that a scenario is
row-is : {A : Type 0} (s : Scenario A) (children : Vec (Scenario A) A) → s ≡ made.Both children → plain s ≡ Both (plain_all children.items)
row-is s children is = ap plain is ∙ plain-Both children

pub returns-then-len-gt-MOST_LANES-clause-trees : goal.returns-then-len-gt-MOST_LANES-clause-trees
returns-then-len-gt-MOST_LANES-clause-trees g c =
    let row = row-is c.args.scenario.now c.in-Both.children c.in-Both.is in
    let all = many-all c.in-Both.children.items in
    let most : 2 ^ 31 < how_many (plain_all c.in-Both.children.items) = omega (arith, c.if-len-gt-MOST_LANES.true, c.len.ensures, all) in
    let one = ap lane_trees row ∙ many-lanes (plain_all c.in-Both.children.items) most ∙ ap (λ (t : Tree). Cons t Nil) (sym row) in
    IfOk-weaker c.only.result _ _ (λ sources e. ap trees_of e ∙ sym one) c.only.ensures

pub returns-else-len-gt-MOST_LANES-clause-trees : goal.returns-else-len-gt-MOST_LANES-clause-trees
returns-else-len-gt-MOST_LANES-clause-trees g c =
    let row = row-is c.args.scenario.now c.in-Both.children c.in-Both.is
    ∙ ap (λ us. Both (plain_all us)) (sym c.as_slice.ensures.value) in
    let all = many-all c.as_slice.result.now in
    let children = ap length c.as_slice.ensures.value in
    let few : how_many (plain_all c.as_slice.result.now) ≤ 2 ^ 31 =
    omega (arith, all, children, c.if-len-gt-MOST_LANES.false, c.len.ensures) in
    let each = ap lane_trees row ∙ few-lanes (plain_all c.as_slice.result.now) few in
    IfOk-weaker c.each_of.result _ _ (λ sources e. ap trees_of e ∙ sym each) c.each_of.ensures

pub returns-in_default : goal.returns-in_default
returns-in_default g c = record {
  few = IfOk-weaker c.only-in_default.result _ _ (λ sources e.
      let one = ap length e in
      let all = length-map sources.items (λ s. plain s.now) in
      omega (arith, one, all)) c.only-in_default.ensures;
  trees = IfOk-weaker c.only-in_default.result _ _
      (λ sources e. ap trees_of e ∙ sym (alone-lanes c.args.scenario.now c.in_default.not-Both)) c.only-in_default.ensures;
}
