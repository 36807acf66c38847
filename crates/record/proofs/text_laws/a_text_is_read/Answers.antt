use Rattle.record.specs.Text.{text}
use Rattle.record.proofs.Following.{lines-short, text-whole}
use Rattle.record_lines.proofs.Refusals.{whole-refused}
use Rattle.record.proofs.text_laws.a_text_is_read.Goals as goal

pub returns-clause-whole : goal.returns-clause-whole
returns-clause-whole c = text-whole

pub returns-clause-short : goal.returns-clause-short
returns-clause-short c = lines-short

pub returns-clause-refused : goal.returns-clause-refused
returns-clause-refused c v r end line kind h t = whole-refused (text v r) _ end line kind (text-whole v r h t)
