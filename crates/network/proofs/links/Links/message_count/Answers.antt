use Rattle.std.proofs.Common.{arith, map}
use Rattle.std.proofs.lemmas.List.{length-map}
use Rattle.network.specs.inner.Links.{on_link}
use Rattle.network.proofs.Linked.{few-there}
use Rattle.network.proofs.links.Links.message_count.Goals as goal

pub returns-clause-few : goal.returns-clause-few
returns-clause-few c =
    omega (
      arith,
      few-there (map on_link c.self.inside.links.items) c.self.invariant.few,
      c.self.invariant.count,
      length-map c.self.inside.links.items on_link,
      c.places-links.ensures,
      c.places-links.type_inv,
    )
