use Rattle.std.proofs.Common.{ap}
use Rattle.std.specs.Map.{keys_of}
use Rattle.rows.proofs.Held.{items-empty, within-empty}
use Rattle.rows.proofs.Hints.{hinted-none}
use Rattle.rows.proofs.sparse.Sparse.open.Goals as goal

pub invariant_of-result : goal.invariant_of-result
invariant_of-result g c = record {
  within = within-empty c.new.result.entries c.args.places c.new.ensures.empty;
  hinted = λ e. hinted-none (keys_of c.new.result.entries) _ (ap keys_of c.new.ensures.empty);
}

pub returns-clause-items : goal.returns-clause-items
returns-clause-items g c = items-empty c.new.result.entries c.args.places c.new.ensures.empty
