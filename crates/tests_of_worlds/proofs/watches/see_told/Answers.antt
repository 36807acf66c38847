use Rattle.world.specs.OneStep.{Steps}
use Rattle.tests_of_worlds.proofs.Unwrapping.{holds-of}
use Rattle.tests_of_worlds.proofs.watches.see_told.Goals as goal

pub see_made-found-requires : goal.see_made-found-requires
see_made-found-requires g c =
    let old = c.args.world.now in
    let steps = holds-of (λ m. Steps old c.step_of-step.result m c.make.new.self) c.make.result c.expect-told.result c.expect-told.ensures c.make.ensures.ok in
    (old.state, rw steps.tables steps.told)

pub violation_after-requires : goal.violation_after-requires
violation_after-requires g c =
    let old = c.args.world.now in
    let steps = holds-of (λ m. Steps old c.step_of-step.result m c.make.new.self) c.make.result c.expect-told.result c.expect-told.ensures c.make.ensures.ok in
    (old.state, rw steps.tables steps.told)
