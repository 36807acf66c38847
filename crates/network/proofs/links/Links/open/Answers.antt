use Rattle.std.proofs.Common.{ap, map, ◌∙◌}
use Rattle.network.specs.inner.Links.{on_link}
use Rattle.network.proofs.Linked.{linked-none, linked-same, parts-none}
use Rattle.network.proofs.links.Links.open.Goals as goal

pub invariant_of-result : goal.invariant_of-result
invariant_of-result c =
    rw (c.in_ok-waiting.ensures, c.in_ok-free.ensures)
    (linked-same _ _ _ _ 0 (ap (map on_link) c.open-3.ensures.items ∙ parts-none on_link c.args.caches) (linked-none c.args.caches))

pub returns : goal.returns
returns c = ap (map on_link) c.open-3.ensures.items ∙ parts-none on_link c.args.caches
