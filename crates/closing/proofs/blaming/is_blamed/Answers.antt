use Rattle.closing.proofs.Balances.{checked-balanced}
use Rattle.closing.proofs.Explaining.{explained-blamed}
use Rattle.closing.proofs.blaming.is_blamed.Goals as goal

pub returns-then-are_balanced : goal.returns-then-are_balanced
returns-then-are_balanced c = λ all.
    explained-blamed c.args.tables.now c.args.list.now c.requires.ranked
    (checked-balanced c.args.tables.now c.args.list.now c.args.steps.now c.requires.told (c.are_balanced.ensures c.if-are_balanced.true))
    (c.are_explained.ensures all)
