use Rattle.std.proofs.Common.{None, arith, refl}
use Rattle.trials.specs.inner.Going.{blank, parts_of}
use Rattle.trials.proofs.Likes.{like-both, like-itself, like-same}
use Rattle.trials.proofs.Runs.{cuts, ends-without, room-left, step-goes}
use Rattle.trials.proofs.course.Course.run.Goals as goal

pub loop-made-init : goal.loop-made-init
loop-made-init g c = (
  λ terms tree number same begins.
      (blank terms, begins.told, refl, c.trials_go_on.ensures.start terms tree number (parts_of (blank terms) c.args.self.now) begins.starts),
  like-itself c.args.self.now.moment,
)

pub returns-in_default-clause-ends : goal.returns-in_default-clause-ends
returns-in_default-clause-ends g c =
    let low = c.loop-made-test.true in
    ends-without c.trials_go_on.ensures.at_rest g.N.Notes.tells c.args.self.now c.loop-made.self c.choose.new.self c.args.limit _ _ _
    c.loop-made.invariant.0 (omega (arith, low)) c.choose.ensures.chooses
    c.in_default.is c.choose.ensures.notes c.verdict_at_rest.ensures

pub make-requires-clause-room : goal.make-requires-clause-room
make-requires-clause-room g c =
    room-left g.N.Notes.tells c.args.self.now c.loop-made.self c.choose.new.self c.args.limit _ c.requires c.loop-made.invariant.0 c.loop-made-test.true
    c.choose.ensures.notes

pub returns-in-Some-2-clause-ends : goal.returns-in-Some-2-clause-ends
returns-in-Some-2-clause-ends g c terms tree number same begins =
    let ended =
    step-goes c.trials_go_on.ensures.goes_on g.N.Notes.tells c.args.self.now c.loop-made.self c.choose.new.self c.make.new.self c.args.limit _ _
    c.in-Some.k _ _ c.loop-made.invariant.0 c.loop-made-test.true c.choose.ensures.chooses
    c.in-Some.is c.choose.ensures.notes
    c.in_ok-violation.ensures.makes c.in-Some-2.is terms tree number same begins in
    (ended.0, ended.1, ended.3)

pub loop-made-preserved : goal.loop-made-preserved
loop-made-preserved g c = (
  step-goes c.trials_go_on.ensures.goes_on g.N.Notes.tells c.args.self.now c.loop-made.self c.choose.new.self c.make.new.self c.args.limit _ _
      c.in-Some.k _ None c.loop-made.invariant.0 c.loop-made-test.true c.choose.ensures.chooses
      c.in-Some.is c.choose.ensures.notes
      c.in_ok-violation.ensures.makes c.in_default-2.is,
  like-both c.args.self.now.moment c.choose.new.self.moment c.make.new.self.moment
      (like-same c.args.self.now.moment c.loop-made.self.moment c.choose.new.self.moment c.choose.ensures.moment c.loop-made.invariant.1)
      c.make.ensures.alike,
)

pub returns-in-Some-choose-clause-ends : goal.returns-in-Some-choose-clause-ends
returns-in-Some-choose-clause-ends g c =
    let high = c.loop-made-test.false in
    let end = c.loop-made.auto.made-end in
    cuts c.trials_go_on.ensures.cut g.N.Notes.tells c.args.self.now c.loop-made.self c.choose-2.new.self c.args.limit _ _ _
    c.loop-made.invariant.0 (omega (arith, high, end)) c.choose-2.ensures.chooses
    c.in-Some-choose.is c.choose-2.ensures.notes

pub returns-in-None-clause-ends : goal.returns-in-None-clause-ends
returns-in-None-clause-ends g c =
    let end = c.loop-made.auto.made-end in
    ends-without c.trials_go_on.ensures.at_rest g.N.Notes.tells c.args.self.now c.loop-made.self c.choose-2.new.self c.args.limit _ _ _
    c.loop-made.invariant.0 (omega (arith, end)) c.choose-2.ensures.chooses
    c.in-None.is c.choose-2.ensures.notes c.verdict_at_rest-in-None.ensures

pub returns-in_default-clause-alike : goal.returns-in_default-clause-alike
returns-in_default-clause-alike g c =
    like-same c.args.self.now.moment c.loop-made.self.moment c.choose.new.self.moment c.choose.ensures.moment c.loop-made.invariant.1

pub returns-in-Some-2-clause-alike : goal.returns-in-Some-2-clause-alike
returns-in-Some-2-clause-alike g c =
    like-both c.args.self.now.moment c.choose.new.self.moment c.make.new.self.moment
    (like-same c.args.self.now.moment c.loop-made.self.moment c.choose.new.self.moment c.choose.ensures.moment c.loop-made.invariant.1) c.make.ensures.alike

pub returns-in_err-violation-clause-alike : goal.returns-in_err-violation-clause-alike
returns-in_err-violation-clause-alike g c =
    like-both c.args.self.now.moment c.choose.new.self.moment c.make.new.self.moment
    (like-same c.args.self.now.moment c.loop-made.self.moment c.choose.new.self.moment c.choose.ensures.moment c.loop-made.invariant.1) c.make.ensures.alike

pub returns-in-Some-choose-clause-alike : goal.returns-in-Some-choose-clause-alike
returns-in-Some-choose-clause-alike g c =
    like-same c.args.self.now.moment c.loop-made.self.moment c.choose-2.new.self.moment c.choose-2.ensures.moment c.loop-made.invariant.1

pub returns-in-None-clause-alike : goal.returns-in-None-clause-alike
returns-in-None-clause-alike g c =
    like-same c.args.self.now.moment c.loop-made.self.moment c.choose-2.new.self.moment c.choose-2.ensures.moment c.loop-made.invariant.1
