use Rattle.std.proofs.Common.{sym, ◌∙◌}
use Rattle.base.proofs.Spellings.{same_step}
use Rattle.base.proofs.text.steps.spells_one_step.Goals as goal

pub returns : goal.returns
returns c = λ line s t fits also is same. same_step s t fits also (sym is ∙ same)
