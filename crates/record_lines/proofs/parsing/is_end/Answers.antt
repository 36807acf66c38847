use Rattle.std.proofs.Common.{◌≡◌, codes, ap, rules}
use Rattle.base.specs.Words.{words}
use Rattle.record_lines.specs.Text.{end_words}
use Rattle.record_lines.proofs.Words.{spelled-text}
use Rattle.record_lines.proofs.parsing.is_end.Goals as goal

pub returns : goal.returns
returns c = (
  λ yes. (let is : c.args.line.now ≡ codes "end" = search rules in ap words is),
  λ spelled. (let is : c.args.line.now ≡ codes "end" = spelled-text c.args.line.now end_words spelled in search rules),
)
