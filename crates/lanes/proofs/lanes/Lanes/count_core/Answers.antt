use Rattle.std.proofs.Common.{◌≡◌, ◌∙◌, ◌<◌, ℕ, List, sym, subst, arith, length, refl}
use Rattle.std.proofs.lemmas.Grind.{common_steps}
use Rattle.std.proofs.lemmas.List.{length-map}
use Rattle.lanes.specs.declared.lanes.Lane.{Lane}
use Rattle.lanes.specs.declared.lanes.Lanes.TheInside.{Inside}
use Rattle.lanes.specs.inner.Changes.{ChangesCounts, IsCountedIn}
use Rattle.lanes.specs.inner.Kept.{laned, lanes_of, listed_in}
use Rattle.lanes.proofs.Counting.{level-counts, listed-counts, opened-counts}
use Rattle.lanes.proofs.Listing.{lane-low}
use Rattle.lanes.proofs.Reached.{row-items, rows_in}
use Rattle.lanes.proofs.lanes.Lanes.count_core.Given as given
use Rattle.lanes.proofs.lanes.Lanes.count_core.Goals as goal

-- the lanes behind it
abbrev made : (g : given.Over) → goal.After-count_each g → Inside g.row.A.Denot g.row.B.Denot
made g c = record {
  sources = c.self.inside.sources;
  marks = c.self.inside.marks;
  as_opened = c.self.inside.as_opened;
  lanes = c.self.inside.lanes;
  lengths = c.self.inside.lengths;
  ready = c.count_each.new.ready;
  reached = c.self.inside.reached;
  usable = c.self.inside.usable;
}

counts : (g : given.Over) (c : goal.After-count_each g) → ChangesCounts (laned c.self.inside) (laned (made g c))
counts g c = record { same = refl; long = c.count_each.ensures.long }

each : (g : given.Over) (c : goal.After-count_each g) (lane : ℕ) → lane < length (laned c.self.inside).trees →
    IsCountedIn c.args.cores.now (laned c.self.inside).listed (lanes_of (laned c.self.inside).reached c.args.core.0) c.self.inside.ready
    c.count_each.new.ready lane
each g c lane low =
    let some = c.self.invariant.level.rows in
    let many = length-map c.self.inside.reached.items (λ of. of.items) in
    let row = c.row_of-row.ensures in
    let there : c.row_of-row.result < length c.self.inside.reached.items = grind arith in
    let which : c.as_slice-2.result.now ≡ lanes_of (rows_in c.self.inside.reached.items) c.args.core.0 =
    c.as_slice-2.ensures.value ∙ row-items c.self.inside.reached.items c.row_of-row.result c.args.core.0 c.index.result.now there c.index.ensures row in
    subst (λ ws. IsCountedIn c.args.cores.now (laned c.self.inside).listed ws c.self.inside.ready c.count_each.new.ready lane) which
    (subst (λ (ls : List (Lane g.row.A.Denot g.row.B.Denot)). IsCountedIn c.args.cores.now (listed_in ls) c.as_slice-2.result.now
    c.self.inside.ready c.count_each.new.ready lane) c.as_slice.ensures.value
    (c.count_each.ensures.each lane (subst (λ (ls : List (Lane g.row.A.Denot g.row.B.Denot)). lane < length ls) (sym c.as_slice.ensures.value)
    (lane-low c.self.inside lane low))))

pub returns-clause-each : goal.returns-clause-each
returns-clause-each g c = rw (← c.self.view_is) (each g c)

pub returns-clause-counts : goal.returns-clause-counts
returns-clause-counts g c = rw (← c.self.view_is) (counts g c)

pub invariant_of-self : goal.invariant_of-self
invariant_of-self g c = record {
  level = level-counts (laned c.self.inside) (laned (made g c)) (counts g c) c.self.invariant.level;
  opened = opened-counts (laned c.self.inside) (laned (made g c)) (counts g c) c.self.invariant.opened;
  listed = λ usable. listed-counts (laned c.self.inside) (laned (made g c)) (counts g c) (c.self.invariant.listed usable);
}

pub row_of-row-requires : goal.row_of-row-requires
row_of-row-requires g c =
    let some = c.self.invariant.level.rows in
    let many = length-map c.self.inside.reached.items (λ of. of.items) in
    omega (arith, some, many)

pub index-requires : goal.index-requires
index-requires g c = grind (arith, common_steps)

pub count_each-requires : goal.count_each-requires
count_each-requires g c = grind (arith, common_steps)
