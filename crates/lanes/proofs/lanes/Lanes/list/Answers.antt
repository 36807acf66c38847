use Rattle.std.proofs.Common.{false, ℕ, List, get_or, set, ◌≡◌, ◌∙◌, ◌<◌, ap, sym, refl, subst, length, slice_get}
use Rattle.std.specs.Vec.{with_item}
use Rattle.std.proofs.lemmas.List.{get_or-set_other, get_or-set_same, length-set}
use Rattle.std.proofs.Math.Seq.{map-set_same}
use Rattle.lanes.specs.declared.lanes.Lane.{Lane}
use Rattle.lanes.specs.declared.lanes.Lanes.TheInside.{Inside}
use Rattle.lanes.specs.Lanes.{Laned, listed_at}
use Rattle.lanes.specs.inner.Kept.{laned, stocked, stocks_in}
use Rattle.schedule.specs.Listed.{Listed}
use Rattle.schedule.specs.Owned.{IsMarkedIf}
use Rattle.lanes.proofs.Kept.{lane-listed}
use Rattle.lanes.proofs.Listing.{Relists, lane-is, lane-low, lane-relists, others-kept, relisted, sound-relisted}
use Rattle.lanes.proofs.lanes.Lanes.list.Given as given
use Rattle.lanes.proofs.lanes.Lanes.list.Goals as goal
use Rattle.lanes.proofs.lanes.Lanes.list.Goals.{Start}

-- the lanes behind it
abbrev made : (g : given.Over) → goal.In_ok-reach g → Inside g.row.A.Denot g.row.B.Denot
made g c = record {
  sources = c.self.inside.sources;
  marks = c.self.inside.marks;
  as_opened = with_item c.self.inside.as_opened c.args.lane false;
  lanes = with_item c.self.inside.lanes c.args.lane c.list.new.self;
  lengths = c.set.new.self;
  ready = c.self.inside.ready;
  reached = c.reach.new.reached;
  usable = c.self.inside.usable;
}

there : (g : given.Over) (c : goal.In_ok-reach g) → c.args.lane < length (laned c.self.inside).trees
there g c = subst (λ (l : Laned). c.args.lane < length l.trees) (sym c.self.view_is) c.requires.there

relists : (g : given.Over) (c : goal.In_ok-reach g) → Relists c.args.lane c.list.new.self.asks (laned c.self.inside) (laned (made g c))
relists g c =
    let low = lane-low c.self.inside c.args.lane (there g c) in
    let listed : c.asks-offers.result.now ≡ c.list.new.self.asks.asks =
    c.asks-offers.ensures.value
    ∙ ap (λ (x : Lane g.row.A.Denot g.row.B.Denot). x.asks.asks)
    (c.index.ensures ∙ get_or-set_same c.self.inside.lanes.items c.args.lane c.list.new.self c.index.result.now low) in
    lane-relists c.self.inside (made g c) c.args.lane (length c.asks-offers.result.now) c.index_mut-2.result.now c.list.new.self low
    c.index_mut-2.ensures.value refl
    c.list.ensures.rest c.in_ok-anew.ensures.asks c.set.ensures (ap length listed)
    (subst (λ xs. length xs < 4294967296) (sym c.asks-offers.ensures.value) c.asks-offers.ensures.short) refl
    c.reach.ensures.more (λ at ask e. c.in_ok-reach.ensures.ok at ask (ap (λ xs. slice_get xs at) listed ∙ e))

pub returns-clause-trees : goal.returns-clause-trees
returns-clause-trees g c = rw (← c.self.view_is) (relists g c).trees

-- where one lane's cursor has the same parts, all have
stocks-stay : {A B : Type 0} (lanes : List (Lane A B)) (n : ℕ) (old new : Lane A B) → old ≡ get_or lanes n old → stocked new.rest ≡ stocked old.rest →
    stocks_in (set lanes n new) ≡ stocks_in lanes
stocks-stay lanes n old new is same = map-set_same (λ l. stocked l.rest) lanes n new old (same ∙ ap (λ l. stocked l.rest) is)

pub returns-clause-stocks : goal.returns-clause-stocks
returns-clause-stocks g c =
    rw (← c.self.view_is)
    (stocks-stay c.self.inside.lanes.items c.args.lane c.index_mut-2.result.now c.list.new.self c.index_mut-2.ensures.value c.list.ensures.stock)

pub returns-in_err-anew-clause-stocks : goal.returns-in_err-anew-clause-stocks
returns-in_err-anew-clause-stocks g c =
    rw (← c.self.view_is)
    (stocks-stay c.self.inside.lanes.items c.args.lane c.index_mut-2.result.now c.list.new.self c.index_mut-2.ensures.value c.list.ensures.stock)

pub returns-in_err-reach-clause-stocks : goal.returns-in_err-reach-clause-stocks
returns-in_err-reach-clause-stocks g c =
    rw (← c.self.view_is)
    (stocks-stay c.self.inside.lanes.items c.args.lane c.index_mut-2.result.now c.list.new.self c.index_mut-2.ensures.value c.list.ensures.stock)

pub returns-clause-listed : goal.returns-clause-listed
returns-clause-listed g c =
    relisted c.args.lane c.list.new.self.asks (laned c.self.inside) (laned (made g c)) (relists g c) c.self.invariant.level (there g c)

pub returns-clause-others : goal.returns-clause-others
returns-clause-others g c =
    rw (← c.self.view_is) (others-kept c.args.lane c.list.new.self.asks (laned c.self.inside) (laned (made g c)) (relists g c))

pub returns-clause-marks : goal.returns-clause-marks
returns-clause-marks g c =
    let low = lane-low c.self.inside c.args.lane (there g c) in
    let before = lane-listed c.self.inside.lanes.items c.args.lane c.index_mut-2.result.now low c.index_mut-2.ensures.value in
    let behind = lane-is c.self.inside (made g c) c.args.lane c.list.new.self low refl in
    rw (← c.self.view_is)
    (subst (λ (l : Listed). IsMarkedIf c.args.world.now.tables c.args.world.now.state c.in_ok-anew.anew l (listed_at (laned (made g c)) c.args.lane)) before
    (subst (IsMarkedIf c.args.world.now.tables c.args.world.now.state c.in_ok-anew.anew c.index_mut-2.result.now.asks) (sym behind) c.in_ok-anew.ensures.marks))

pub invariant_of-self : goal.invariant_of-self
invariant_of-self g c =
    sound-relisted c.self.inside _ c.args.self.now c.args.lane c.list.new.self c.self.invariant c.self.view_is c.requires.there c.requires.spoilt refl refl
    refl refl refl (λ other ne. refl) refl refl (λ core other h. h)

pub invariant_of-self-in_err-reach : goal.invariant_of-self-in_err-reach
invariant_of-self-in_err-reach g c =
    sound-relisted c.self.inside _ c.args.self.now c.args.lane c.list.new.self c.self.invariant c.self.view_is c.requires.there c.requires.spoilt refl refl
    refl refl (ap length c.set.ensures ∙ length-set c.self.inside.lengths c.args.lane _)
    (λ other ne. ap (λ ns. get_or ns other 0) c.set.ensures ∙ get_or-set_other c.self.inside.lengths c.args.lane other _ 0 ne) refl c.reach.ensures.count
    c.reach.ensures.more

pub invariant_of-self-2 : goal.invariant_of-self-2
invariant_of-self-2 g c =
    sound-relisted c.self.inside _ c.args.self.now c.args.lane c.list.new.self c.self.invariant c.self.view_is c.requires.there c.requires.spoilt refl refl
    refl refl (ap length c.set.ensures ∙ length-set c.self.inside.lengths c.args.lane _)
    (λ other ne. ap (λ ns. get_or ns other 0) c.set.ensures ∙ get_or-set_other c.self.inside.lengths c.args.lane other _ 0 ne) refl c.reach.ensures.count
    c.reach.ensures.more
