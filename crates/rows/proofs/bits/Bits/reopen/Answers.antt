use Rattle.std.proofs.Common.{◌≤◌, ◌*◌, arith, length}
use Rattle.rows.proofs.Words.{flags-none, no_bit, whole-none}
use Rattle.rows.proofs.bits.Bits.reopen.Goals as goal

pub invariant_of-self-2 : goal.invariant_of-self-2
invariant_of-self-2 c =
    let count = length c.self.inside.words.items in
    let long : c.args.places ≤ 64 * count = omega (arith, c.len.ensures, c.if-len-places.false) in
    rw (c.wipe.ensures.words, c.wipe.ensures.ones) (whole-none count c.args.places long c.ranges.places.fits)

pub returns : goal.returns
returns c =
    let count = length c.self.inside.words.items in
    rw (c.wipe.ensures.words)
    (record { ok = flags-none _ c.args.places (no_bit count); err = tt })
