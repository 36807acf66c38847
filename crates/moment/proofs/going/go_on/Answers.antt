use Rattle.std.proofs.Common.{sym, subst}
use Rattle.base.specs.declared.step.Step.{Step}
use Rattle.tables.specs.Tables.{Tables}
use Rattle.lanes.specs.Lanes.{AreReady, FollowsStep, whole}
use Rattle.lanes.specs.Picks.{choice_of}
use Rattle.moment.proofs.Counted.{follows-noted}
use Rattle.moment.proofs.Making.{can-be-noted, now-made, stays-tracked}
use Rattle.moment.proofs.going.go_on.Goals as goal

pub note-turned-requires : goal.note-turned-requires
note-turned-requires g c =
    let w = c.args.world.now in
    let lanes = c.args.lanes.now in
    let next = c.requires in
    can-be-noted w.tables w.state c.args.cores.now (whole lanes) next.choice.0 (choice_of lanes c.args.pick) c.step-step.result c.in-Ok.made
    c.make.new.self.state next.holds.tracked next.choice.1 (c.step-step.ensures lanes) c.in-Ok.ensures.ok.told

pub returns-clause-made : goal.returns-clause-made
returns-clause-made g c =
    let w = c.args.world.now in
    let cores = c.args.cores.now in
    let lanes = c.args.lanes.now in
    let next = c.requires in
    let choice = choice_of lanes c.args.pick in
    let new = c.make.new.self in
    let steps = c.in-Ok.ensures.ok in
    let follows = c.in-Ok-follow.ensures.made in
    let is = c.step-step.ensures lanes in
    record {
      step_is = is;
      told = steps.told.told;
      leads = record {
        rest = whole c.follow.new.self;
        now = now-made w.tables w.state cores (whole lanes) next.choice.0 choice c.step-step.result c.in-Ok.made new.state next.holds.tracked
            next.choice.1 is steps.told c.note-turned.new.cores (whole c.follow.new.self) c.follow.new.self.usable c.note-turned.ensures.noted
            follows.left.usable;
        alike = follows.left.alike;
      };
      holds = record {
        ready =
            follows.ready w.state cores (subst (λ (t : Tables). AreReady t w.state cores lanes) (sym steps.tables) next.holds.ready)
            (subst (λ (s : Step). FollowsStep new.tables s c.in-Ok.made w.state new.state cores c.note-turned.new.cores) is
            (subst (λ (t : Tables). FollowsStep t c.step-step.result c.in-Ok.made w.state new.state cores c.note-turned.new.cores) (sym steps.tables)
            (follows-noted w.tables c.step-step.result c.in-Ok.made w.state new.state cores c.note-turned.new.cores steps.told c.note-turned.ensures.noted)))
            c.note-turned.ensures.turned;
        tracked =
            stays-tracked w.tables w.state cores (whole lanes) next.choice.0 choice c.step-step.result c.in-Ok.made new.state next.holds.tracked
            next.choice.1 is steps.told c.note-turned.new.cores c.note-turned.ensures.noted;
      };
    }
