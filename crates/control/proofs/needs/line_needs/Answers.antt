use Rattle.std.proofs.Common.{◌∙◌, ap, sym, Option}
use Rattle.base.specs.declared.ids.CacheId.{CacheId}
use Rattle.control.specs.LineEffect.{taken_in, requestor_of}
use Rattle.control.specs.inner.LineCounting.{requests_by, responses_by}
use Rattle.control.proofs.LineSends.{requests-by, responses-by, forwards-by}
use Rattle.control.proofs.needs.line_needs.Goals as goal

pub returns-clause-requests : goal.returns-clause-requests
returns-clause-requests c cache line =
    requests-by cache (taken_in c.args.input line).value (requestor_of c.args.input) c.args.actions
    ∙ sym (c.count.ensures.requests ∙ ap requests_by c.as_slice.ensures.actions)

pub returns-clause-links : goal.returns-clause-links
returns-clause-links c cache line k = forwards-by k cache (taken_in c.args.input line).value (requestor_of c.args.input) c.args.actions

pub returns-clause-responses : goal.returns-clause-responses
returns-clause-responses c cache line =
    responses-by cache (taken_in c.args.input line).value (requestor_of c.args.input) c.args.actions
    ∙ sym (c.count.ensures.responses
    ∙ ap (λ (to : Option CacheId). responses_by to c.as_slice.result.now) c.requestor.ensures
    ∙ ap (responses_by (requestor_of c.args.input)) c.as_slice.ensures.actions)
