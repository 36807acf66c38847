use Rattle.std.proofs.Common.{rules}
use Rattle.base.specs.Words.{words}
use Rattle.record_lines.proofs.Splitting.{bad-outcome}
use Rattle.record_lines.proofs.parsing.entry_of.Goals as goal

pub returns-in-None-clause-err : goal.returns-in-None-clause-err
returns-in-None-clause-err c = bad-outcome (words c.args.line.now) c.in-Some.step c.in-Some.rest.now (search rules) (search rules) (search rules)
