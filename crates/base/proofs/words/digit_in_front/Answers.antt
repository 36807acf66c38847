use Rattle.std.proofs.Common.{rules}
use Rattle.base.proofs.Fronts.{digit-alone, digit-then}
use Rattle.base.proofs.words.digit_in_front.Goals as goal

pub returns-in_ok-digit_of-in-len1-clause-word : goal.returns-in_ok-digit_of-in-len1-clause-word
returns-in_ok-digit_of-in-len1-clause-word c =
    let told = c.in_ok-digit_of-in-len1.ensures.some in
    digit-alone c.args.line.now c.in_ok-digit_of-in-len1.field-0 c.in-len1.len_at_least c.in-len1.len_below told.0 told.1

pub returns-in_ok-digit_of-in-32-clause-word : goal.returns-in_ok-digit_of-in-32-clause-word
returns-in_ok-digit_of-in-32-clause-word c =
    let told = c.in_ok-digit_of-in-32.ensures.some in
    digit-then c.args.line.now c.in_ok-digit_of-in-32.field-0 c.in-32.len_at_least (search rules) told.0 told.1
