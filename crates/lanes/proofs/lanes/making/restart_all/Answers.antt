use Rattle.std.proofs.Common.{◌∙◌, ap, arith, refl, rules, sym}
use Rattle.std.proofs.Math.Seq.{map-set_same}
use Rattle.std.proofs.lemmas.Grind.{common_steps}
use Rattle.std.proofs.lemmas.List.{get_or-map}
use Rattle.scenario.specs.Tree.{plain}
use Rattle.lanes.specs.inner.Kept.{plain_each}
use Rattle.lanes.proofs.Fitting.{fits-put}
use Rattle.lanes.proofs.lanes.making.restart_all.Goals as goal

pub loop-number-init : goal.loop-number-init
loop-number-init g c = record { count = grind (arith, common_steps); done = grind (arith, common_steps); same = refl; fits = search rules }

pub index_mut-requires : goal.index_mut-requires
index_mut-requires g c = grind (arith, common_steps)

pub loop-number-smaller : goal.loop-number-smaller
loop-number-smaller g c = grind (arith, common_steps)

pub loop-number-preserved : goal.loop-number-preserved
loop-number-preserved g c = record {
  count = grind (arith, common_steps);
  done = grind (arith, common_steps);
  same = map-set_same (λ l. l.asks) c.loop-number.lanes.items c.loop-number.number
      (record { rest = c.restart.new.self; asks = c.index_mut.result.now.asks }) c.index_mut.result.now
      (ap (λ l. l.asks) c.index_mut.ensures.value) ∙ c.loop-number.invariant.same;
  fits = λ h. fits-put c.loop-number.lanes.items (plain_each c.args.sources.now) c.loop-number.number c.index_mut.result.now
      (record { rest = c.restart.new.self; asks = c.index_mut.result.now.asks }) (plain c.index-sources-number.result.now) c.index_mut.ensures.value
      (ap (λ s. plain s.now) c.index-sources-number.is
      ∙ sym (get_or-map (λ s. plain s.now) c.args.sources.now c.loop-number.number c.index-sources-number.result (plain c.index-sources-number.result.now)
      c.loop-number-test.true))
      c.restart.ensures.fits (c.loop-number.invariant.fits h);
}

pub returns-clause-rest : goal.returns-clause-rest
returns-clause-rest g c = grind (arith, common_steps)

pub returns-clause-same : goal.returns-clause-same
returns-clause-same g c = c.loop-number.invariant.same

pub returns-clause-fits : goal.returns-clause-fits
returns-clause-fits g c = c.loop-number.invariant.fits
