use Rattle.std.proofs.Common.{◌≤◌, ◌<◌, get_or, length, arith}
use Rattle.std.proofs.lemmas.Int.Digits.{digits_more, digits_value_more}
use Rattle.std.proofs.lemmas.Str.{digit_value_digit}
use Rattle.base.proofs.words.digits_in_front.Goals as goal

pub loop-end-preserved : goal.loop-end-preserved
loop-end-preserved c =
    let text = c.args.text.now in
    let end = c.loop-end.end in
    let inv = c.loop-end.invariant in
    let below_most = c.loop-end-test.true in
    let low : end < length text = omega (arith, below_most, inv.most) in
    let byte = get_or text end 0 in
    let small = c.if-digit-gt9.false in
    let kept = c.type_inv.text end in
    let above : 48 ≤ byte = omega (arith, small, kept) in
    let below : byte ≤ 57 = omega (arith, small, kept, above) in
    let value = digit_value_digit byte (above, below) in
    let added = c.from.ensures in
    let more = digits_value_more 10 text end (omega (arith, low)) in
    let so_far = inv.value in
    record {
      within = omega (arith, low);
      few = omega (arith, below_most, inv.bound);
      most = inv.most;
      bound = inv.bound;
      digits = digits_more 10 text end (omega (arith, low)) inv.digits (omega (arith, value, above, below));
      value = omega (arith, value, added, small, above, below, more, so_far);
    }
