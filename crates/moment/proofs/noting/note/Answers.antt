use Rattle.std.proofs.Common.{◌≡◌, ◌∙◌, ap, arith}
use Rattle.std.proofs.lemmas.Bool.Decides.{nat_tests}
use Rattle.cores.specs.Cores.{is_free}
use Rattle.machine.specs.Completions.{completed_by}
use Rattle.moment.specs.Moments.{put_by, with_finished}
use Rattle.moment.specs.inner.Noting.{cores_in}
use Rattle.moment.proofs.Counted.{hit-turned}
use Rattle.moment.proofs.noting.note.Goals as goal

pub returns-in-Some-Some-clause-turned : goal.returns-in-Some-Some-clause-turned
returns-in-Some-Some-clause-turned c left core =
    let same : c.in-Some-Some.issued.0 ≡ c.in-Some-Some.finished.0 = grind (arith, nat_tests) in
    let done = completed_by c.args.step c.args.outcome in
    ap (λ cores. is_free cores core) (c.finish-finished.ensures.noted ∙ ap (with_finished done) c.issue-issued.ensures.noted)
    ∙ hit-turned c.args.cores.now (put_by c.args.step c.args.outcome) done c.in-Some-Some.issued c.in-Some-Some.finished c.requires.asks
    (c.issue-issued.ensures.who ∙ ap cores_in c.in-Some-Some.is-0) (c.finish-finished.ensures.who ∙ ap cores_in c.in-Some-Some.is-1) same core
