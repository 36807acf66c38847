use Rattle.scenario.proofs.Refusing.{tree-of-none}
use Rattle.scenario.proofs.laws.json_without_fault_is_a_tree.Goals as goal

pub returns : goal.returns
returns c = tree-of-none
