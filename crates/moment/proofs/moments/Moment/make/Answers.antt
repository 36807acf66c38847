use Rattle.lanes.specs.Lanes.{whole}
use Rattle.lanes.specs.Picks.{choice_of}
use Rattle.schedule.specs.Choices.{choices_of}
use Rattle.moment.proofs.Behind.{choice-made, holds-behind, like-behind, source-behind}
use Rattle.moment.proofs.Holding.{pick-taken}
use Rattle.moment.proofs.moments.Moment.make.Goals as goal

pub invariant_of-self : goal.invariant_of-self
invariant_of-self g c = record {
  source = source-behind _ _ _ _ c.go_on.ensures.under c.self.invariant.source;
  holds = holds-behind c.go_on.result _ _ _ _ _ _ _ c.go_on.ensures.made;
}

pub returns-clause-like : goal.returns-clause-like
returns-clause-like g c = rw (← c.self.view_is) (like-behind _ _ c.self.inside.cores _ _ _ c.go_on.ensures.under)

pub returns-clause-made : goal.returns-clause-made
returns-clause-made g c =
    let w = c.self.inside.world in
    let cores = c.self.inside.cores in
    let lanes = c.self.inside.lanes in
    let usable = c.in-Some.ensures.there.usable in
    let choices = choices_of w.tables w.state cores (whole lanes) in
    let taken = pick-taken lanes.usable choices c.args.k (choice_of lanes c.in-Some.pick) usable c.in-Some.ensures.choice in
    rw (← c.self.view_is) (choice-made c.go_on.result _ _ _ _ _ _ _ c.go_on.ensures.made c.args.k usable taken)
