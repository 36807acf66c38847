use Rattle.std.proofs.Common.{◌+◌, ◌/◌, arith, replicate}
use Rattle.rows.proofs.Words.{flags-none, no_bit, whole-none}
use Rattle.rows.proofs.bits.Bits.open.Goals as goal

pub invariant_of-result : goal.invariant_of-result
invariant_of-result c =
    rw (c.in_ok-words.ensures.items_if_clones_equal (λ y e. e)) (whole-none (c.args.places / 64 + 1) c.args.places (omega arith) c.ranges.places.fits)

pub returns : goal.returns
returns c =
    rw (c.in_ok-words.ensures.items_if_clones_equal (λ y e. e)) (flags-none (replicate (c.args.places / 64 + 1) 0) c.args.places (no_bit
    (c.args.places / 64 + 1)))
