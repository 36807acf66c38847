use Rattle.std.proofs.Common.{[], ap, map, ◌∙◌}
use Rattle.network.specs.inner.Links.{marks_in, messages_in}
use Rattle.network.proofs.Parts.{none-on}
use Rattle.network.proofs.wires.Wires.open.Goals as goal

pub returns-clause-traffic : goal.returns-clause-traffic
returns-clause-traffic c =
    let links = ap (map messages_in) c.in_ok-links.ensures ∙ none-on messages_in [] c.args.caches in
    λ i. record { requests = ap messages_in c.open-2.ensures i; links = links i; responses = ap messages_in c.open-3.ensures i }

pub returns-clause-marks : goal.returns-clause-marks
returns-clause-marks c =
    let links = ap (map marks_in) c.in_ok-links.ensures ∙ none-on marks_in [] c.args.caches in
    λ i. record { requests = ap marks_in c.open-2.ensures i; links = links i; responses = ap marks_in c.open-3.ensures i }
