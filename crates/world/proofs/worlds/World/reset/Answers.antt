use Rattle.std.proofs.Common.{◌∙◌, ap, length, sym}
use Rattle.world.specs.View.{View}
use Rattle.world.proofs.Openings.{world-valued}
use Rattle.world.proofs.worlds.World.reset.Goals as goal

pub invariant_of-self : goal.invariant_of-self
invariant_of-self c =
    world-valued c.self.inside.shape c.self.inside.controllers c.self.inside.opening.items c.copy_from_slice.new.self.items c.self.inside.blocks.items
    c.self.inside.counts c.self.inside.met_blank c.self.invariant
    (ap length c.copy_from_slice.ensures.items ∙ c.requires ∙ ap (λ (w : View). w.shape.blocks) (sym c.self.view_is) ∙ sym c.self.invariant.opening)

pub returns : goal.returns
returns c =
    let again = rw c.copy_from_slice.ensures.items at c.restart.ensures in
    rw (← c.self.view_is)
    (record {
      shape = again.shape;
      tables = again.tables;
      opening = again.opening;
      state = again.state;
      history = again.history;
      safe = again.safe;
      unstuck = again.unstuck;
      tested = again.tested;
      kept = again.kept;
      lines = again.lines;
    })
