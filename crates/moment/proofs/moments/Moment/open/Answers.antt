use Rattle.std.proofs.lemmas.Grind.{common_steps}
use Rattle.std.proofs.Common.{◌∙◌, ap, arith, refl, subst, sym}
use Rattle.base.specs.Extent.{Extent}
use Rattle.scenario.specs.Alike.{Alike}
use Rattle.scenario.specs.Tree.{Both, plain, trees_of}
use Rattle.lanes.specs.Lanes.{IsSourceIn, whole}
use Rattle.moment.proofs.Holding.{tracked-opened}
use Rattle.moment.proofs.moments.Moment.open.Goals as goal

pub invariant_of-result : goal.invariant_of-result
invariant_of-result g c = record {
  source = subst (λ state. IsSourceIn c.args.world.tables state c.in_ok-lanes.lanes) c.requires c.in_ok-lanes.ensures.opened.source;
  holds = λ usable. record {
    ready = c.in_ok-lanes.ensures.opened.again.ready;
    tracked =
        tracked-opened c.args.world.shape c.args.world.opening _ _ _ c.requires c.in_ok-cores.ensures
        (c.caches-caches.ensures.value ∙ ap (λ (x : Extent). x.caches) c.shape.ensures);
  };
}

pub returns : goal.returns
returns g c =
    let opened = c.in_ok-lanes.ensures.opened in
    record {
      world = record { shape = refl; tables = refl; opening = refl; state = rw (opened.again.usable) refl };
      at = record { rest = whole c.in_ok-lanes.lanes; now = grind (arith, common_steps); alike = subst (λ ts. Alike (Both (trees_of ts)) (plain c.args.scenario.now)) (sym opened.again.whole) opened.alike };
      scenario = opened.alike;
    }
