use Rattle.std.proofs.Common.{◌≡◌, ◌<◌, length, refl, subst, sym}
use Rattle.std.specs.Vec.{with_item}
use Rattle.lanes.specs.declared.lanes.Lane.{Lane}
use Rattle.lanes.specs.declared.lanes.Lanes.TheInside.{Inside}
use Rattle.lanes.specs.Lanes.{Laned}
use Rattle.lanes.specs.inner.Changes.{marked_in}
use Rattle.lanes.specs.inner.Kept.{AreAsOpened, AreListed, IsLevel, laned}
use Rattle.lanes.proofs.Counting.{level-marked, marked-already, marked-listed, marked-opened}
use Rattle.lanes.proofs.Listing.{lane-low, lane-marked}
use Rattle.lanes.proofs.lanes.Lanes.mark_lane.Given as given
use Rattle.lanes.proofs.lanes.Lanes.mark_lane.Goals as goal

-- the lane behind it, and the lanes with it
abbrev marked : (g : given.Over) → goal.After-self-1 g → Lane g.row.A.Denot g.row.B.Denot
marked g c = record { rest = c.index_mut.result.now.rest; asks = c.mark_all.new.self }

abbrev made : (g : given.Over) → goal.After-self-1 g → Inside g.row.A.Denot g.row.B.Denot
made g c = record {
  sources = c.self.inside.sources;
  marks = c.self.inside.marks;
  as_opened = c.self.inside.as_opened;
  lanes = with_item c.self.inside.lanes c.args.lane (marked g c);
  lengths = c.self.inside.lengths;
  ready = c.self.inside.ready;
  reached = c.self.inside.reached;
  usable = c.self.inside.usable;
}

there : (g : given.Over) (c : goal.After-self-1 g) → c.args.lane < length (laned c.self.inside).trees
there g c = subst (λ (l : Laned). c.args.lane < length l.trees) (sym c.self.view_is) c.requires.there

is : (g : given.Over) (c : goal.After-self-1 g) →
    laned (made g c) ≡ marked_in c.args.world.now.tables c.args.world.now.state c.args.lane (laned c.self.inside)
is g c =
    lane-marked c.args.world.now.tables c.args.world.now.state c.self.inside (made g c) c.args.lane c.index_mut.result.now (marked g c) refl refl
    (lane-low c.self.inside c.args.lane (there g c)) c.index_mut.ensures.value refl refl c.mark_all.ensures refl refl refl refl

pub returns : goal.returns
returns g c = rw (← c.self.view_is) (is g c)

pub returns-then-is_marked : goal.returns-then-is_marked
returns-then-is_marked g c =
    marked-already c.args.world.now.tables c.args.world.now.state c.args.lane c.args.self.now (c.requires.marked c.if-is_marked.true)

pub invariant_of-self : goal.invariant_of-self
invariant_of-self g c = record {
  level = subst IsLevel (sym (is g c))
      (level-marked c.args.world.now.tables c.args.world.now.state c.args.lane (laned c.self.inside) c.self.invariant.level);
  opened = subst AreAsOpened (sym (is g c))
      (marked-opened c.args.world.now.tables c.args.world.now.state c.args.lane (laned c.self.inside) c.self.invariant.level (there g c)
      c.self.invariant.opened);
  listed = λ usable. subst AreListed (sym (is g c))
      (marked-listed c.args.world.now.tables c.args.world.now.state c.args.lane (laned c.self.inside) c.self.invariant.level (there g c)
      (c.self.invariant.listed usable));
}
