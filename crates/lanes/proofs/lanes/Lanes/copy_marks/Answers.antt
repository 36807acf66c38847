use Rattle.std.proofs.Common.{◌≡◌, ◌∙◌, ◌<◌, List, Bool, ap, arith, false, get_or, length, refl, subst, sym, true}
use Rattle.std.specs.Vec.{with_item}
use Rattle.std.proofs.lemmas.Grind.{common_steps}
use Rattle.std.proofs.lemmas.List.{length-map}
use Rattle.tables.specs.Tables.{Tables}
use Rattle.machine.specs.Machine.{State}
use Rattle.schedule.specs.Listed.{Listed, is_unheld}
use Rattle.lanes.specs.Lanes.{Laned}
use Rattle.lanes.specs.declared.lanes.Lanes.TheInside.{Inside}
use Rattle.lanes.specs.inner.Changes.{marked_in}
use Rattle.lanes.specs.inner.Kept.{IsLevel, laned}
use Rattle.lanes.specs.inner.Opening.{IsReset}
use Rattle.lanes.proofs.Listing.{lane-low, lane-marked}
use Rattle.lanes.proofs.Opening.{copied-listed, copied-right, marked-sound}
use Rattle.lanes.proofs.lanes.Lanes.copy_marks.Given as given
use Rattle.lanes.proofs.lanes.Lanes.copy_marks.Goals as goal

-- the lanes behind it
abbrev made : (g : given.Over) → goal.After-self-1 g → Inside g.row.A.Denot g.row.B.Denot
made g c = record {
  sources = c.self.inside.sources;
  marks = c.self.inside.marks;
  as_opened = c.self.inside.as_opened;
  lanes = with_item c.self.inside.lanes c.args.lane (record { rest = c.index_mut.result.now.rest; asks = c.put_marks.new.self });
  lengths = c.self.inside.lengths;
  ready = c.self.inside.ready;
  reached = c.self.inside.reached;
  usable = c.self.inside.usable;
}

opened : (g : given.Over) (c : goal.After-self-1 g) → get_or c.self.inside.as_opened.items c.args.lane false ≡ true
opened g c = grind (arith, common_steps)

low : (g : given.Over) (c : goal.After-self-1 g) → c.args.lane < length (laned c.self.inside).trees
low g c = subst (λ (l : Laned). c.args.lane < length l.trees) (sym c.self.view_is) c.requires.there

is : (g : given.Over) (c : goal.After-self-1 g) (tables : Tables) (state : State) → IsReset tables state c.args.self.now →
    laned (made g c) ≡ marked_in tables state c.args.lane (laned c.self.inside)
is g c tables state reset =
    let within : c.args.lane < length c.self.inside.marks.items = grind (arith, common_steps) in
    let right = copied-right tables state c.self.inside c.args.self.now c.args.lane c.index_mut.result.now c.self.invariant c.self.view_is reset
    c.requires.there (opened g c) c.index_mut.ensures.value c.in-Some.marks.now within
    (c.in-Some.ensures.lookup.1 ∙ ap (λ ms. get_or ms c.args.lane c.in-Some.marks.now) c.deref.ensures.value) in
    lane-marked tables state c.self.inside (made g c) c.args.lane c.index_mut.result.now
    (record { rest = c.index_mut.result.now.rest; asks = c.put_marks.new.self }) refl refl (lane-low c.self.inside c.args.lane (low g c))
    c.index_mut.ensures.value refl refl
    (c.put_marks.ensures ∙ ap (λ (ms : List Bool). let l : Listed = record { asks = c.index_mut.result.now.asks.asks; unheld = ms } in l) right)
    refl refl refl refl

pub put_marks-requires : goal.put_marks-requires
put_marks-requires g c =
    let reset = c.requires.reset in
    let said : get_or c.self.inside.as_opened.items c.args.lane false ≡ true = grind (arith, common_steps) in
    let within : c.args.lane < length c.self.inside.marks.items = grind (arith, common_steps) in
    let right = copied-right reset.0 reset.1 c.self.inside c.args.self.now c.args.lane c.index_mut.result.now c.self.invariant c.self.view_is reset.2
    c.requires.there said c.index_mut.ensures.value c.in-Some.marks.now within
    (c.in-Some.ensures.lookup.1 ∙ ap (λ ms. get_or ms c.args.lane c.in-Some.marks.now) c.deref.ensures.value) in
    ap length right ∙ length-map c.index_mut.result.now.asks.asks (is_unheld reset.0 reset.1)

pub invariant_of-self : goal.invariant_of-self
invariant_of-self g c =
    let reset = c.requires.reset in
    marked-sound reset.0 reset.1 c.self.inside (made g c) c.args.lane c.self.invariant (low g c) refl (is g c reset.0 reset.1 reset.2)

pub returns : goal.returns
returns g c = record {
  level = subst IsLevel c.self.view_is c.self.invariant.level;
  listed = λ done. let reset = c.requires.reset in
      copied-listed reset.0 reset.1 c.self.inside c.args.self.now c.args.lane c.index_mut.result.now c.self.invariant c.self.view_is reset.2
      c.requires.there (opened g c) c.index_mut.ensures.value;
  marks = λ tables state reset. is g c tables state reset ∙ ap (marked_in tables state c.args.lane) c.self.view_is;
}
