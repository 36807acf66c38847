use Rattle.std.proofs.Common.{refl}
use Rattle.network.proofs.Waits.{if_none-to, if_some-to, next-found, none-found}
use Rattle.network.proofs.wires.Wires.next_waiting.Goals as goal

pub returns-clause-some : goal.returns-clause-some
returns-clause-some c =
    rw (← c.self.view_is)
    (if_some-to c.next_waiting.result (λ cache found. next-found _ c.self.inside.links.sent refl c.args.from cache.0 found) c.next_waiting.ensures.some)

pub returns-clause-none : goal.returns-clause-none
returns-clause-none c =
    rw (← c.self.view_is) (if_none-to c.next_waiting.result (λ found. none-found _ c.self.inside.links.sent refl c.args.from found) c.next_waiting.ensures.none)
