use Rattle.std.proofs.Common.{None, Some, refl}
use Rattle.monitor.proofs.FirstViolations.{first-push}
use Rattle.monitor.proofs.safety.one_step_more_may_have_the_first.Goals as goal

pub returns-clause-none : goal.returns-clause-none
returns-clause-none c shape tables opening steps step none last = first-push shape tables opening steps step _ None None refl none last

pub returns-clause-first : goal.returns-clause-first
returns-clause-first c shape tables opening steps step violation none last = first-push shape tables opening steps step _ None (Some violation) refl none last
