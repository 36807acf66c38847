use Rattle.std.proofs.Common.{None, Some}
use Rattle.rows.proofs.Hints.{missing}
use Rattle.rows.proofs.sparse.hinted_index.Goals as goal

pub returns-else-held-at-clause-none : goal.returns-else-held-at-clause-none
returns-else-held-at-clause-none g c =
    λ hinted. missing c.args.held.now.entries c.args.hints.now c.args.at c.hint_of-hint.result hinted c.hint_of-hint.ensures
    (Some (c.in-Some.held.now, c.in-Some.field-0-1.now)) c.in-Some.ensures.entry c.if-held-at.false

pub returns-in-None-clause-none : goal.returns-in-None-clause-none
returns-in-None-clause-none g c =
    λ hinted. missing c.args.held.now.entries c.args.hints.now c.args.at c.hint_of-hint.result hinted c.hint_of-hint.ensures None c.in-None.ensures.entry tt
