use Rattle.std.proofs.Common.{ℕ, ◌≡◌, ◌∙◌, ◌<◌, refl, subst, arith, length}
use Rattle.std.proofs.lemmas.List.{length-map}
use Rattle.lanes.specs.Lanes.{listed_at}
use Rattle.lanes.specs.declared.lanes.Lanes.TheInside.{Inside}
use Rattle.lanes.specs.declared.lanes.Lane.{Lane}
use Rattle.lanes.specs.inner.Changes.{IsMarkedIn, ChangesMarks}
use Rattle.lanes.specs.inner.Kept.{laned, lanes_of}
use Rattle.lanes.proofs.Counting.{level-marks, listed-marks, opened-marks, marks-only}
use Rattle.lanes.proofs.Listing.{lane-low}
use Rattle.lanes.proofs.Reached.{row-items, rows_in}
use Rattle.lanes.proofs.lanes.Lanes.mark_core.Given as given
use Rattle.lanes.proofs.lanes.Lanes.mark_core.Goals as goal

-- the lanes behind it
abbrev made : (g : given.Over) → goal.After-mark_each g → Inside g.row.A.Denot g.row.B.Denot
made g c = record {
  sources = c.self.inside.sources;
  marks = c.self.inside.marks;
  as_opened = c.self.inside.as_opened;
  lanes = c.mark_each.new.lanes;
  lengths = c.self.inside.lengths;
  ready = c.self.inside.ready;
  reached = c.self.inside.reached;
  usable = c.self.inside.usable;
}

which : (g : given.Over) (c : goal.After-mark_each g) → c.as_slice.result.now ≡ lanes_of (rows_in c.self.inside.reached.items) c.args.core.0
which g c =
    let some = c.self.invariant.level.rows in
    let many = length-map c.self.inside.reached.items (λ of. of.items) in
    let row = c.row_of-row.ensures in
    let there : c.row_of-row.result < length c.self.inside.reached.items = grind arith in
    c.as_slice.ensures.value ∙ row-items c.self.inside.reached.items c.row_of-row.result c.args.core.0 c.index.result.now there c.index.ensures row

each : (g : given.Over) (c : goal.After-mark_each g) (lane : ℕ) → lane < length (laned c.self.inside).trees →
    IsMarkedIn c.args.held c.args.core c.args.block (lanes_of (rows_in c.self.inside.reached.items) c.args.core.0) c.args.done
    (listed_at (laned c.self.inside) lane) (listed_at (laned (made g c)) lane) lane
each g c lane low =
    subst (λ ws. IsMarkedIn c.args.held c.args.core c.args.block ws c.args.done (listed_at (laned c.self.inside) lane)
    (listed_at (laned (made g c)) lane) lane) (which g c) (c.mark_each.ensures.each lane (lane-low c.self.inside lane low))

marks : (g : given.Over) (c : goal.After-mark_each g) → ChangesMarks (laned c.self.inside) (laned (made g c))
marks g c =
    let count = c.mark_each.ensures.count in
    let new = length-map c.mark_each.new.lanes.items (λ (l : Lane g.row.A.Denot g.row.B.Denot). l.asks) in
    let old = length-map c.self.inside.lanes.items (λ (l : Lane g.row.A.Denot g.row.B.Denot). l.asks) in
    marks-only c.args.held c.args.core c.args.block (lanes_of (rows_in c.self.inside.reached.items) c.args.core.0) c.args.done
    (laned c.self.inside) (laned (made g c)) refl refl c.mark_each.ensures.trees c.mark_each.ensures.stocks refl refl refl refl
    (omega (arith, count, new, old)) c.self.invariant.level.listed (each g c)

pub returns-clause-same : goal.returns-clause-same
returns-clause-same g c = rw (← c.self.view_is) (marks g c)

pub returns-clause-each : goal.returns-clause-each
returns-clause-each g c = rw (← c.self.view_is) (each g c)

pub invariant_of-self : goal.invariant_of-self
invariant_of-self g c = record {
  level = level-marks (laned c.self.inside) (laned (made g c)) (marks g c) c.self.invariant.level;
  opened = opened-marks (laned c.self.inside) (laned (made g c)) (marks g c) c.self.invariant.opened;
  listed = λ usable. listed-marks (laned c.self.inside) (laned (made g c)) (marks g c) (c.self.invariant.listed usable);
}
