use Rattle.std.proofs.Common.{arith}
use Rattle.std.proofs.lemmas.Grind.{elements}
use Rattle.base.proofs.controller.entry.CellEntry.four.Goals as goal

pub returns : goal.returns
returns g c = grind (arith, elements)
