use Rattle.std.proofs.Common.{◌∙◌, ap, false, length, replicate, sym}
use Rattle.rows.proofs.Words.{flags-length, flags-none, no_bit, whole-none}
use Rattle.rows.proofs.bits.Bits.clear.Goals as goal

pub invariant_of-self : goal.invariant_of-self
invariant_of-self c =
    rw (c.wipe.ensures.words, c.wipe.ensures.ones)
    (whole-none (length c.self.inside.words.items) c.self.inside.places c.self.invariant.long c.self.invariant.few)

pub returns : goal.returns
returns c =
    rw (c.wipe.ensures.words, ← c.self.view_is)
    (flags-none (replicate (length c.self.inside.words.items) 0) c.self.inside.places (no_bit (length c.self.inside.words.items))
    ∙ ap (λ n. replicate n false) (sym (flags-length c.self.inside.words.items c.self.inside.places)))
