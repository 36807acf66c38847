use Rattle.std.proofs.Common.{◌≡◌, codes, ap, rules}
use Rattle.base.specs.Words.{words}
use Rattle.record_lines.specs.Text.{header_words}
use Rattle.record_lines.specs.declared.version.Version.TheVariants.{Two}
use Rattle.record_lines.proofs.Words.{spelled-text}
use Rattle.record_lines.proofs.parsing.is_second_header.Goals as goal

pub returns : goal.returns
returns c = (
  λ yes. (let is : c.args.line.now ≡ codes "msi-recording 2" = search rules in ap words is),
  λ spelled. (let is : c.args.line.now ≡ codes "msi-recording 2" = spelled-text c.args.line.now (header_words Two) spelled in search rules),
)
