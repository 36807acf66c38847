use Rattle.std.proofs.Common.{ap, refl, subst, sym, ◌∙◌}
use Rattle.lanes.specs.Lanes.{IsSourceIn}
use Rattle.lanes.specs.inner.Kept.{plain_each}
use Rattle.lanes.proofs.lanes.Lanes.restart.Goals as goal

pub list_all-requires : goal.list_all-requires
list_all-requires g c = record {
  spoilt = refl;
  whole = c.restart_all.ensures.rest ∙ ap plain_each c.as_slice.ensures.value;
  source = subst (IsSourceIn c.args.world.now.tables c.args.world.now.state) (sym c.self.view_is) c.requires;
}
