use Rattle.rand_pcg.specs.Pcg.{multiplier_64}
use Rattle.schedule.specs.Words.{dice}
use Rattle.schedule.proofs.Steps.{advance_more, advance_none}
use Rattle.schedule.proofs.laws.draws_follow_the_words.Goals as goal

pub returns-clause-first : goal.returns-clause-first
returns-clause-first c seed stream = advance_none 64 multiplier_64 (dice seed stream)

pub returns-clause-next : goal.returns-clause-next
returns-clause-next c seed stream k = advance_more 64 multiplier_64 k (dice seed stream)
