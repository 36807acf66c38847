-- What a batch promises of refusals, from its contract and that of a spread one.
use Rattle.std.proofs.Common.{ℕ, ◌<◌, ◌≤◌, Result, Ok, Err, refl, arith}
use Rattle.std.specs.Prelude.{◌↔◌, IfErr, IfOk, IsErrOf}
use Rattle.trials.specs.Making.{IsBatchFault}
use Rattle.trials.specs.declared.batches.BatchFault.{BatchFault}
use Rattle.trials.specs.declared.batches.BatchFault.TheVariants.{TooMany, NoMemory}

-- it is refused `TooMany` exactly where there are over 1,000,000 trials
pub too-many : {A : Type 0} (n : ℕ) (r : Result A BatchFault) → IfOk r (λ _. n ≤ 1000000) → IfErr r (IsBatchFault n) → IsErrOf r TooMany ↔ (1000000 < n)
too-many n (Ok results) few refused = (λ e. absurd (cc e), λ many. absurd (omega (arith, few, many)))
too-many n (Err TooMany) few refused = (λ e. refused, λ many. refl)
too-many n (Err NoMemory) few refused = (λ e. absurd (cc e), λ many. absurd (omega (arith, refused, many)))
