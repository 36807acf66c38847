use Rattle.std.proofs.Common.{refl}
use Rattle.rand_pcg.specs.Lcg.{state_after}
use Rattle.schedule.proofs.laws.first_words.Goals as goal

pub returns : goal.returns
unfolding state_after
returns c = (refl, refl, refl, refl, refl, refl)
