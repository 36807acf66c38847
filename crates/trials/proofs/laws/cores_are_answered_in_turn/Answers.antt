use Rattle.std.proofs.Common.{[], refl, subst, sym}
use Rattle.trials.specs.Moments.{first_moment}
use Rattle.moment.specs.inner.Tracked.{outstanding}
use Rattle.moment.proofs.CoreSteps.{idle-free}
use Rattle.moment.proofs.Tracking.{tracked-first}
use Rattle.trials.proofs.Walks.{path-walks, path-last}
use Rattle.trials.proofs.Turns.{Left, left-few, walk-turns}
use Rattle.trials.proofs.laws.cores_are_answered_in_turn.Goals as goal

pub returns : goal.returns
returns c terms tree number moments entries path core =
    let last = path-last terms tree number moments entries path in
    let turns =
    walk-turns terms.tables _ (first_moment terms tree) last.0 entries core [] (path-walks terms tree number moments entries last.0 path last.1)
    (tracked-first terms.shape.caches terms.shape.blocks terms.opening)
    (subst (λ o. Left (first_moment terms tree).state core o []) (sym (idle-free terms.shape.caches core)) refl) in
    (turns.0, turns.2, left-few last.0.state core (outstanding last.0.cores core) turns.0 turns.1)
