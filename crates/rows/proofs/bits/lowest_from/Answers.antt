use Rattle.std.proofs.Common.{arith}
use Rattle.rows.proofs.Words.{lowest, masked, none_masked}
use Rattle.rows.proofs.bits.lowest_from.Goals as goal

pub returns-then-rest-eq0-clause-none : goal.returns-then-rest-eq0-clause-none
returns-then-rest-eq0-clause-none c =
    none_masked c.args.word c.args.from _ (masked c.args.word c.args.from c.requires c.ranges.word.fits) c.if-rest-eq0.true

pub returns-clause-behind : goal.returns-clause-behind
returns-clause-behind c =
    let lo = lowest c.args.word c.args.from _ (masked c.args.word c.args.from c.requires c.ranges.word.fits) (omega (arith, c.if-rest-eq0.false)) in
    lo.behind

pub returns-clause-set : goal.returns-clause-set
returns-clause-set c =
    let lo = lowest c.args.word c.args.from _ (masked c.args.word c.args.from c.requires c.ranges.word.fits) (omega (arith, c.if-rest-eq0.false)) in
    lo.set

pub returns-clause-first : goal.returns-clause-first
returns-clause-first c =
    let lo = lowest c.args.word c.args.from _ (masked c.args.word c.args.from c.requires c.ranges.word.fits) (omega (arith, c.if-rest-eq0.false)) in
    lo.first
