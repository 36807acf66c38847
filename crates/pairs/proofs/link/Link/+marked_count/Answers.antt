use Rattle.std.proofs.Common.{ap, arith, length}
use Rattle.pairs.proofs.Parting.{length-behind}
use Rattle.pairs.proofs.link.Link.+marked_count.Goals as goal

pub returns-in-Some-Some-clause-within : goal.returns-in-Some-Some-clause-within
returns-in-Some-Some-clause-within t c =
    omega (arith, length-behind c.args.self.now c.in-Some-Some.place c.in-Some-Some.ensures, ap length c.behind.ensures.rest)

pub returns-in-Some-Some-clause-few : goal.returns-in-Some-Some-clause-few
returns-in-Some-Some-clause-few t c =
    omega (arith, length-behind c.args.self.now c.in-Some-Some.place c.in-Some-Some.ensures, ap length c.behind.ensures.rest)
