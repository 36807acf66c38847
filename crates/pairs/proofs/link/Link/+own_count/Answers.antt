use Rattle.std.proofs.Common.{ap, arith, length}
use Rattle.pairs.proofs.Parting.{length-behind}
use Rattle.pairs.proofs.link.Link.+own_count.Goals as goal

pub returns-in-Some-clause-within : goal.returns-in-Some-clause-within
returns-in-Some-clause-within t c = omega (arith, length-behind c.args.self.now c.in-Some.place c.in-Some.ensures, ap length c.behind.ensures.rest)

pub returns-in-Some-clause-few : goal.returns-in-Some-clause-few
returns-in-Some-clause-few t c = omega (arith, length-behind c.args.self.now c.in-Some.place c.in-Some.ensures, ap length c.behind.ensures.rest)
