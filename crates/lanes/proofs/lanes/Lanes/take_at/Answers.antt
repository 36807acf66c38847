use Rattle.std.proofs.Common.{◌∙◌, ◌<◌, ◌+◌, ap, get_or, length, refl, subst, sym, take, true, false}
use Rattle.std.specs.List.{sum}
use Rattle.std.specs.Vec.{with_item}
use Rattle.scenario.specs.Alike.{Alike}
use Rattle.cursors.specs.Cursors.{remaining}
use Rattle.cursors.specs.Repeats.{Repeats}
use Rattle.scenario.specs.Taking.{left, offers}
use Rattle.lanes.specs.declared.lanes.Lanes.TheInside.{Inside}
use Rattle.lanes.specs.Lanes.{Laned, listed_at, offers_at}
use Rattle.lanes.specs.inner.Kept.{laned, tree_of_lane}
use Rattle.schedule.specs.Listed.{Listed, nothing_listed}
use Rattle.schedule.specs.Owned.{IsMarkedIf}
use Rattle.lanes.proofs.Fitting.{keeps-step}
use Rattle.lanes.proofs.Kept.{AreLanesKept, kept-inside, lane-finds, lane-tree, level-said, listed-said, opened-said}
use Rattle.lanes.proofs.Listing.{Steps, Took, found-offered, lane-low, lane-steps, opened-still, others-said, sound-taken, takes-again, takes-from}
use Rattle.lanes.proofs.lanes.Lanes.take_at.Given as given
use Rattle.lanes.proofs.lanes.Lanes.take_at.Goals as goal
use Rattle.lanes.proofs.lanes.Lanes.take_at.Goals.{In_ok-anew, Then-repeats}

pub pass_on-requires : goal.pass_on-requires
pass_on-requires g c =
    let lane = c.args.lane in
    let kept = kept-inside c.self.inside c.args.self.now c.self.invariant c.self.view_is c.requires.usable in
    let there = subst (λ (l : Laned). lane < length l.trees) (sym c.self.view_is) c.requires.there in
    let offered = subst (λ (l : Laned). c.args.place < length (offers_at l lane)) (sym c.self.view_is) c.requires.offered in
    subst (λ t. c.args.place < length (offers t))
    (sym (lane-tree c.self.inside.lanes.items lane c.index_mut.result.now (lane-low c.self.inside lane there) c.index_mut.ensures.value))
    (found-offered lane (sum (take lane c.self.inside.lengths) + c.args.place) c.args.place (laned c.self.inside) kept
    (lane-finds (laned c.self.inside) lane c.args.place kept there offered))

-- ---- a lane that offers the same again, which isn't listed

abbrev again : (g : given.Over) → Then-repeats g → Inside g.row.A.Denot g.row.B.Denot
again g c = record {
  sources = c.self.inside.sources;
  marks = c.self.inside.marks;
  as_opened = c.self.inside.as_opened;
  lanes = with_item c.self.inside.lanes c.args.lane (record { rest = c.pass_on.new.self; asks = c.index_mut.result.now.asks });
  lengths = c.self.inside.lengths;
  ready = c.self.inside.ready;
  reached = c.self.inside.reached;
  usable = true;
}

again-steps : (g : given.Over) (c : Then-repeats g) → Steps c.args.lane (remaining c.pass_on.new.self) (laned c.self.inside) (laned (again g c))
again-steps g c =
    lane-steps c.self.inside (again g c) c.args.lane c.index_mut.result.now (record { rest = c.pass_on.new.self; asks = c.index_mut.result.now.asks })
    refl refl c.index_mut.ensures.value refl refl refl refl refl

took-again : (g : given.Over) (c : Then-repeats g) →
    Took c.args.lane (sum (take c.args.lane c.self.inside.lengths) + c.args.place) (laned c.self.inside) (laned (again g c))
took-again g c =
    let lane = c.args.lane in
    let kept = kept-inside c.self.inside c.args.self.now c.self.invariant c.self.view_is c.requires.usable in
    let there = subst (λ (l : Laned). lane < length l.trees) (sym c.self.view_is) c.requires.there in
    let offered = subst (λ (l : Laned). c.args.place < length (offers_at l lane)) (sym c.self.view_is) c.requires.offered in
    let tree = lane-tree c.self.inside.lanes.items lane c.index_mut.result.now (lane-low c.self.inside lane there) c.index_mut.ensures.value in
    takes-again lane (sum (take lane c.self.inside.lengths) + c.args.place) c.args.place (remaining c.pass_on.new.self) (laned c.self.inside)
    (laned (again g c)) kept (lane-finds (laned c.self.inside) lane c.args.place kept there offered)
    (subst (λ t. Alike (remaining c.pass_on.new.self) (left t c.args.place)) tree c.in_ok-repeats.ensures.passes.ok)
    (subst Repeats tree (c.in_ok-repeats.ensures.repeats c.if-repeats.true)) (again-steps g c) refl

pub invariant_of-self-then-repeats : goal.invariant_of-self-then-repeats
invariant_of-self-then-repeats g c =
    let kept = (took-again g (goal.at.invariant_of-self-then-repeats g c).Then-repeats).kept in
    record {
      level = kept.level;
      opened = opened-still c.args.lane _ (laned c.self.inside) (laned (again g (goal.at.invariant_of-self-then-repeats g c).Then-repeats))
          (again-steps g (goal.at.invariant_of-self-then-repeats g c).Then-repeats) c.self.invariant.opened;
      listed = λ usable. kept.listed;
    }

pub returns-then-repeats-clause-takes : goal.returns-then-repeats-clause-takes
returns-then-repeats-clause-takes g c =
    rw (← c.self.view_is) (took-again g (goal.at.returns-then-repeats-clause-takes g c).Then-repeats).takes

pub returns-then-repeats-clause-marks : goal.returns-then-repeats-clause-marks
returns-then-repeats-clause-marks g c =
    rw (← c.self.view_is)
    (ap (λ ls. get_or ls c.args.lane nothing_listed) (again-steps g (goal.at.returns-then-repeats-clause-marks g c).Then-repeats).listed)

-- ---- a lane that is listed anew

-- the lanes before that, while they are spoilt
abbrev mid : (g : given.Over) → In_ok-anew g → Inside g.row.A.Denot g.row.B.Denot
mid g c = record {
  sources = c.self.inside.sources;
  marks = c.self.inside.marks;
  as_opened = c.self.inside.as_opened;
  lanes = with_item c.self.inside.lanes c.args.lane (record { rest = c.pass_on.new.self; asks = c.index_mut.result.now.asks });
  lengths = c.self.inside.lengths;
  ready = c.self.inside.ready;
  reached = c.self.inside.reached;
  usable = false;
}

-- another tree is left of that lane, and nothing else has changed
steps : (g : given.Over) (c : In_ok-anew g) → Steps c.args.lane (remaining c.pass_on.new.self) (laned c.self.inside) (laned (mid g c))
steps g c =
    lane-steps c.self.inside (mid g c) c.args.lane c.index_mut.result.now (record { rest = c.pass_on.new.self; asks = c.index_mut.result.now.asks })
    refl refl c.index_mut.ensures.value refl refl refl refl refl

-- they are spoilt no longer
took : (g : given.Over) (c : In_ok-anew g) →
    Took c.args.lane (sum (take c.args.lane c.self.inside.lengths) + c.args.place) (laned c.self.inside) (record c.list.new.self { usable = true })
took g c =
    let lane = c.args.lane in
    let kept = kept-inside c.self.inside c.args.self.now c.self.invariant c.self.view_is c.requires.usable in
    let there = subst (λ (l : Laned). lane < length l.trees) (sym c.self.view_is) c.requires.there in
    let offered = subst (λ (l : Laned). c.args.place < length (offers_at l lane)) (sym c.self.view_is) c.requires.offered in
    let tree = lane-tree c.self.inside.lanes.items lane c.index_mut.result.now (lane-low c.self.inside lane there) c.index_mut.ensures.value in
    takes-from lane (sum (take lane c.self.inside.lengths) + c.args.place) c.args.place (remaining c.pass_on.new.self) (laned c.self.inside)
    (laned (mid g c)) (record c.list.new.self { usable = true }) kept (lane-finds (laned c.self.inside) lane c.args.place kept there offered)
    (subst (λ t. Alike (remaining c.pass_on.new.self) (left t c.args.place)) tree c.in_ok-repeats.ensures.passes.ok)
    (steps g c) c.in_ok-anew.ensures.trees (level-said c.list.new.self true c.in_ok-anew.ensures.level)
    (listed-said c.list.new.self true (tree_of_lane c.list.new.self lane) lane c.in_ok-anew.ensures.listed)
    (others-said lane (laned (mid g c)) c.list.new.self true c.in_ok-anew.ensures.others) refl

pub invariant_of-self-2 : goal.invariant_of-self-2
invariant_of-self-2 g c =
    let kept = subst (λ (l : Laned). AreLanesKept (record l { usable = true })) (sym c.self-2.view_is)
    (took g (goal.at.invariant_of-self-2 g c).In_ok-anew).kept in
    record { level = kept.level; opened = opened-said (laned c.self-2.inside) true c.self-2.invariant.opened; listed = λ usable. kept.listed }

pub returns-clause-takes : goal.returns-clause-takes
returns-clause-takes g c =
    rw (← c.self.view_is)
    (subst (λ (l : Laned). Took c.args.lane (sum (take c.args.lane c.self.inside.lengths) + c.args.place) (laned c.self.inside) (record l { usable = true }))
    (sym c.self-2.view_is) (took g (goal.at.returns-clause-takes g c).In_ok-anew)).takes

pub returns-clause-marks : goal.returns-clause-marks
returns-clause-marks g c =
    rw (← c.self.view_is)
    (subst (λ (l : Laned). IsMarkedIf c.args.world.now.tables c.args.world.now.state c.in_ok-anew.anew (listed_at (laned c.self.inside) c.args.lane)
    (listed_at l c.args.lane)) (sym c.self-2.view_is)
    (subst (λ (l : Listed). IsMarkedIf c.args.world.now.tables c.args.world.now.state c.in_ok-anew.anew l (listed_at c.list.new.self c.args.lane))
    (ap (λ ls. get_or ls c.args.lane nothing_listed) (steps g (goal.at.returns-clause-marks g c).In_ok-anew).listed) c.in_ok-anew.ensures.marks))

-- ---- what fits still does, and the source stays

pub returns-in_err-repeats-clause-stays : goal.returns-in_err-repeats-clause-stays
returns-in_err-repeats-clause-stays g c =
    keeps-step c.self.inside c.args.self.now _ c.args.lane c.index_mut.result.now (record { rest = c.pass_on.new.self; asks = c.index_mut.result.now.asks })
    c.self.view_is refl refl c.index_mut.ensures.value c.pass_on.ensures.passes.small.fits

pub returns-then-repeats-clause-stays : goal.returns-then-repeats-clause-stays
returns-then-repeats-clause-stays g c =
    keeps-step c.self.inside c.args.self.now _ c.args.lane c.index_mut.result.now (record { rest = c.pass_on.new.self; asks = c.index_mut.result.now.asks })
    c.self.view_is refl refl c.index_mut.ensures.value c.pass_on.ensures.passes.small.fits

pub returns-in_err-anew-clause-stays : goal.returns-in_err-anew-clause-stays
returns-in_err-anew-clause-stays g c =
    keeps-step c.self.inside c.args.self.now c.list.new.self c.args.lane c.index_mut.result.now
    (record { rest = c.pass_on.new.self; asks = c.index_mut.result.now.asks })
    c.self.view_is c.list.ensures.source c.list.ensures.stocks c.index_mut.ensures.value c.pass_on.ensures.passes.small.fits

pub returns-clause-stays : goal.returns-clause-stays
returns-clause-stays g c =
    keeps-step c.self.inside c.args.self.now _ c.args.lane c.index_mut.result.now (record { rest = c.pass_on.new.self; asks = c.index_mut.result.now.asks })
    c.self.view_is (ap (λ (l : Laned). l.source) c.self-2.view_is ∙ c.list.ensures.source)
    (ap (λ (l : Laned). l.stocks) c.self-2.view_is ∙ c.list.ensures.stocks) c.index_mut.ensures.value c.pass_on.ensures.passes.small.fits

-- ---- lanes that are spoilt hold together

pub invariant_of-self : goal.invariant_of-self
invariant_of-self g c =
    sound-taken c.self.inside _ c.args.lane c.index_mut.result.now (record { rest = c.pass_on.new.self; asks = c.index_mut.result.now.asks }) c.self.invariant
    refl refl c.index_mut.ensures.value refl refl refl refl refl refl

pub invariant_of-self-else-repeats : goal.invariant_of-self-else-repeats
invariant_of-self-else-repeats g c =
    sound-taken c.self.inside _ c.args.lane c.index_mut.result.now (record { rest = c.pass_on.new.self; asks = c.index_mut.result.now.asks }) c.self.invariant
    refl refl c.index_mut.ensures.value refl refl refl refl refl refl
