use Rattle.std.proofs.Common.{◌≡◌, ◌∙◌, ap, false, sym, true}
use Rattle.base.specs.Extent.{Extent}
use Rattle.lanes.specs.Lanes.{Laned}
use Rattle.moment.proofs.Behind.{ready-again, source-behind}
use Rattle.moment.proofs.Holding.{tracked-opened}
use Rattle.moment.proofs.moments.Moment.restart.Goals as goal

pub invariant_of-self-2 : goal.invariant_of-self-2
invariant_of-self-2 g c = record {
  source = source-behind c.self.inside.world c.restart.new.self c.self.inside.lanes c.restart-2.new.self (record {
    shape = c.restart.ensures.shape;
    tables = c.restart.ensures.tables;
    opening = c.restart.ensures.opening;
    source = c.restart-2.ensures.stays.source ∙ ap (λ (l : Laned). l.source) c.spoil.ensures;
  }) c.self.invariant.source;
  holds = λ usable. record {
    ready = ready-again c.restart-2.result c.restart.new.self c.reset.new.self c.restart-2.new.self c.restart-2.ensures.again usable;
    tracked =
        tracked-opened c.self.inside.world.shape c.self.inside.world.opening _ _ _ c.restart.ensures.state c.in_ok-reset.ensures.ok
        (c.caches-caches.ensures.value ∙ ap (λ (x : Extent). x.caches) c.shape.ensures);
  };
}

pub invariant_of-self : goal.invariant_of-self
invariant_of-self g c = record {
  source = source-behind c.self.inside.world c.restart.new.self c.self.inside.lanes c.spoil.new.self (record {
    shape = c.restart.ensures.shape;
    tables = c.restart.ensures.tables;
    opening = c.restart.ensures.opening;
    source = ap (λ (l : Laned). l.source) c.spoil.ensures;
  }) c.self.invariant.source;
  holds = λ usable. let both : true ≡ false = sym usable ∙ ap (λ (l : Laned). l.usable) c.spoil.ensures in absurd (cc both);
}
