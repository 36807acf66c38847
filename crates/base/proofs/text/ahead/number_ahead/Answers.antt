use Rattle.std.proofs.Common.{rules}
use Rattle.base.proofs.Fronts.{digit-ahead}
use Rattle.base.proofs.text.ahead.number_ahead.Goals as goal

pub returns-in_ok-digit_of-in-len2-up : goal.returns-in_ok-digit_of-in-len2-up
returns-in_ok-digit_of-in-len2-up c =
    let told = c.in_ok-digit_of-in-len2-up.ensures.some in
    digit-ahead c.args.bytes.now c.in_ok-digit_of-in-len2-up.field-0 c.args.end c.in-len2-up.len_at_least (search rules) told.0 told.1
