use Rattle.std.proofs.Common.{◌≡◌, ◌∙◌, ◌∷◌, ◌++◌, ◌+◌, [], List, ap, arith, subst, sym, take}
use Rattle.std.proofs.lemmas.List.{map-append}
use Rattle.std.proofs.lemmas.Grind.{common_steps}
use Rattle.std.proofs.lemmas.List.{take_all, take_more}
use Rattle.scenario.specs.Tree.{Tree, plain, trees_of}
use Rattle.lanes.specs.Fitting.{EachFits}
use Rattle.lanes.specs.declared.lanes.Lane.{Lane}
use Rattle.lanes.specs.inner.Kept.{plain_each, stocks_in}
use Rattle.lanes.proofs.Fitting.{fits-push}
use Rattle.lanes.proofs.lanes.making.lanes_of.Goals as goal

pub loop-tree-init : goal.loop-tree-init
loop-tree-init g c = grind (arith, common_steps)

pub loop-tree-smaller : goal.loop-tree-smaller
loop-tree-smaller g c = grind (arith, common_steps)

pub loop-tree-preserved : goal.loop-tree-preserved
loop-tree-preserved g c =
    let index = c.loop-tree.tree-index in
    let sources = c.args.sources.now in
    let taken : plain_each (take (index + 1) sources) ≡ plain_each (take index sources) ++ plain c.tree-item.result.now ∷ [] =
    ap plain_each (take_more sources index c.tree-item.result c.loop-tree-test.true
    ∙ ap (λ s. take index sources ++ s ∷ []) (sym c.tree-item.is))
    ∙ map-append (λ s. plain s.now) (take index sources) (c.tree-item.result ∷ []) in (
      grind (arith, common_steps),
      subst (λ (ts : List Tree). EachFits (stocks_in c.push.new.self.items) (trees_of ts)) (sym taken)
          (subst (λ (ls : List (Lane g.row.A.Denot g.row.B.Denot)). EachFits (stocks_in ls)
          (trees_of (plain_each (take index sources) ++ plain c.tree-item.result.now ∷ [])))
          (sym c.in_ok-push.ensures.items)
          (fits-push c.loop-tree.lanes.items (plain_each (take index sources)) c.in_ok-lane.lane (plain c.tree-item.result.now)
          c.loop-tree.invariant.1 c.in_ok-lane.ensures.fits)),
    )

pub returns-clause-rest : goal.returns-clause-rest
returns-clause-rest g c = grind (arith, common_steps)

pub returns-clause-fits : goal.returns-clause-fits
returns-clause-fits g c =
    subst (λ ss. EachFits (stocks_in c.loop-tree.lanes.items) (trees_of (plain_each ss)))
    (take_all c.loop-tree.tree-index c.args.sources.now c.loop-tree-test.false) c.loop-tree.invariant.1
