use Rattle.std.proofs.Common.{refl, sym, ◌∙◌}
use Rattle.network.proofs.Counted.{all-free, counted-none}
use Rattle.network.proofs.wire.Wire.unmark.Goals as goal

pub returns-then-self-eq0 : goal.returns-then-self-eq0
returns-then-self-eq0 g c =
    rw (← c.self.view_is) (record { sent = all-free c.self.inside.marked.items (sym c.self.invariant.count ∙ c.if-self-eq0.true); room = refl })

pub invariant_of-self : goal.invariant_of-self
invariant_of-self g c = counted-none c.self.inside.marked.items _ _ c.self.invariant c.unmark_each.ensures.sent
