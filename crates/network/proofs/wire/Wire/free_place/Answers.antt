use Rattle.std.proofs.Common.{Some, ap, arith, sym, zero-add, ◌∙◌}
use Rattle.network.proofs.Counted.{kth-of-all}
use Rattle.network.proofs.wire.Wire.free_place.Goals as goal

pub returns-then-k-len : goal.returns-then-k-len
returns-then-k-len g c =
    rw (← c.self.view_is)
    (ap Some (sym (zero-add c.args.k))
    ∙ sym (kth-of-all c.self.inside.marked.items 0 c.args.k (sym c.self.invariant.count ∙ c.if-self-eq0.true)
    (omega (arith, c.if-k-len.true, c.len.ensures, c.self.inside.marked.ok.0))))
