use Rattle.std.proofs.Common.{◌≡◌, ◌∙◌, ◌<◌, ap, sym, subst, arith, length, slice_get}
use Rattle.std.proofs.lemmas.List.{length-map}
use Rattle.std.specs.List.{sum}
use Rattle.std.specs.Option.{option_map}
use Rattle.std.proofs.Common.{take}
use Rattle.schedule.specs.declared.choosing.Choice.TheVariants.{Deliver}
use Rattle.lanes.specs.declared.lanes.Lane.{Lane}
use Rattle.cursors.specs.Cursors.{remaining}
use Rattle.lanes.specs.Lanes.{AreReadyIn, Laned, choices_by, listed_at}
use Rattle.lanes.specs.inner.Kept.{laned}
use Rattle.schedule.specs.Listed.{Listed}
use Rattle.lanes.specs.Picks.{choice_of}
use Rattle.schedule.specs.Marks.{offers_by}
use Rattle.lanes.proofs.Kept.{AreLanesKept, choice-delivered, choice-marked, choices-usable, kept-inside, lane-listed, lane-there}
use Rattle.lanes.proofs.lanes.Lanes.pick.Given as given
use Rattle.lanes.proofs.lanes.Lanes.pick.Goals as goal
use Rattle.lanes.proofs.lanes.Lanes.pick.Goals.{After-find}

kept : (g : given.Over) (c : After-find g) → AreLanesKept (laned c.self.inside)
kept g c = kept-inside c.self.inside c.args.self.now c.self.invariant c.self.view_is c.requires.usable

there : (g : given.Over) (c : After-find g) → c.find-found.result.place < length (laned c.self.inside).trees
there g c = lane-there (laned c.self.inside) c.args.k c.find-found.result.place c.find-found.result.rest (kept g c) c.find-found.ensures

-- the offers of the lane that was found
listed-there : (g : given.Over) (c : After-find g) → c.index.result.now.asks ≡ listed_at (laned c.self.inside) c.find-found.result.place
listed-there g c =
    let low = there g c in
    let many = length-map c.self.inside.lanes.items (λ (l : Lane g.row.A.Denot g.row.B.Denot). remaining l.rest) in
    lane-listed c.self.inside.lanes.items c.find-found.result.place c.index.result.now (omega (arith, low, many)) c.index.ensures

-- the k-th choice is the one of them that was sought there
found-there : (g : given.Over) (c : After-find g) →
    slice_get (offers_by c.args.cores.now (sum (take c.find-found.result.place c.self.inside.lengths)) c.index.result.now.asks.asks
    c.index.result.now.asks.unheld) c.find-found.result.rest ≡ slice_get (choices_by c.args.world.now c.args.cores.now (laned c.self.inside)) c.args.k
found-there g c =
    let all = c.total-offers.ensures.total in
    let low = c.if-k-offers.true in
    ap (λ (l : Listed). slice_get (offers_by c.args.cores.now (sum (take c.find-found.result.place c.self.inside.lengths)) l.asks l.unheld)
    c.find-found.result.rest) (listed-there g c)
    ∙ choice-marked c.args.world.now.tables c.args.world.now.state c.args.cores.now (laned c.self.inside) c.args.k c.find-found.result.place
    c.find-found.result.rest (kept g c) (subst (AreReadyIn c.args.world.now c.args.cores.now) (sym c.self.view_is) c.requires.ready)
    (sym c.broken.ensures ∙ c.if-broken.false) c.find-found.ensures (omega (arith, all, low))
    ∙ ap (λ cs. slice_get cs c.args.k) (choices-usable c.args.world.now c.args.cores.now (laned c.self.inside)
    (ap (λ (l : Laned). l.usable) c.self.view_is ∙ c.requires.usable))

pub returns-in_err-place-clause-choice : goal.returns-in_err-place-clause-choice
returns-in_err-place-clause-choice g c =
    rw (← c.self.view_is)
    (ap (option_map (choice_of (laned c.self.inside))) c.from_residual.ensures
    ∙ c.in_err-place.ensures.kth (sum (take c.find-found.result.place c.self.inside.lengths))
    ∙ found-there g (goal.at.returns-in_err-place-clause-choice g c).After-find)

pub returns-then-k-offers-clause-choice : goal.returns-then-k-offers-clause-choice
returns-then-k-offers-clause-choice g c =
    rw (← c.self.view_is)
    (c.in_ok-place.ensures.kth (sum (take c.find-found.result.place c.self.inside.lengths))
    ∙ found-there g (goal.at.returns-then-k-offers-clause-choice g c).After-find)

pub returns-then-k-offers-clause-there : goal.returns-then-k-offers-clause-there
returns-then-k-offers-clause-there g c =
    let at = (goal.at.returns-then-k-offers-clause-there g c).After-find in
    rw (← c.self.view_is) (record {
      usable = ap (λ (l : Laned). l.usable) c.self.view_is ∙ c.requires.usable;
      picked = (there g at, subst (λ (l : Listed). c.in_ok-place.place < length l.asks) (listed-there g at) c.in_ok-place.ensures.there);
    })

pub returns-in_err-step-clause-choice : goal.returns-in_err-step-clause-choice
returns-in_err-step-clause-choice g c =
    let usable = ap (λ (l : Laned). l.usable) c.self.view_is ∙ c.requires.usable in
    rw (← c.self.view_is)
    (ap (option_map (choice_of (laned c.self.inside))) c.from_residual-in_err-step.ensures ∙ ap (option_map Deliver) c.in_err-step.ensures
    ∙ choice-delivered c.args.world.now.tables c.args.world.now.state c.args.cores.now (laned c.self.inside) c.args.k c.total-offers.result
    (kept-inside c.self.inside c.args.self.now c.self.invariant c.self.view_is c.requires.usable)
    (subst (AreReadyIn c.args.world.now c.args.cores.now) (sym c.self.view_is) c.requires.ready) (sym c.broken.ensures ∙ c.if-broken.false)
    c.total-offers.ensures.total c.if-k-offers.false
    ∙ ap (λ cs. slice_get cs c.args.k) (choices-usable c.args.world.now c.args.cores.now (laned c.self.inside) usable))

pub returns-clause-choice : goal.returns-clause-choice
returns-clause-choice g c =
    let usable = ap (λ (l : Laned). l.usable) c.self.view_is ∙ c.requires.usable in
    rw (← c.self.view_is)
    (ap (option_map Deliver) c.in_ok-step.ensures
    ∙ choice-delivered c.args.world.now.tables c.args.world.now.state c.args.cores.now (laned c.self.inside) c.args.k c.total-offers.result
    (kept-inside c.self.inside c.args.self.now c.self.invariant c.self.view_is c.requires.usable)
    (subst (AreReadyIn c.args.world.now c.args.cores.now) (sym c.self.view_is) c.requires.ready) (sym c.broken.ensures ∙ c.if-broken.false)
    c.total-offers.ensures.total c.if-k-offers.false
    ∙ ap (λ cs. slice_get cs c.args.k) (choices-usable c.args.world.now c.args.cores.now (laned c.self.inside) usable))
