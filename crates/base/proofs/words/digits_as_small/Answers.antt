use Rattle.std.proofs.Common.{rules}
use Rattle.base.specs.Words.{words}
use Rattle.base.specs.Words.{words_behind}
use Rattle.base.proofs.Fronts.{too-high}
use Rattle.base.proofs.words.digits_as_small.Goals as goal

pub returns-in-Err : goal.returns-in-Err
returns-in-Err c =
    too-high (words c.args.line.now) (words_behind c.in_ok-number.rest) c.in_ok-number.number c.in_ok-number.ensures (search rules) c.in-Err.ensures
