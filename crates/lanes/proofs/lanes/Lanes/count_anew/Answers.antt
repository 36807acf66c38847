use Rattle.std.proofs.Common.{◌<◌, ℕ, IfSome, Option, length, subst, arith}
use Rattle.std.proofs.lemmas.Grind.{common_steps}
use Rattle.lanes.proofs.Counting.{counted-already}
use Rattle.lanes.proofs.lanes.Lanes.count_anew.Goals as goal

pub returns-then-is_reached-clause-each : goal.returns-then-is_reached-clause-each
returns-then-is_reached-clause-each g c lane low =
    let by = c.is_reached.ensures c.if-is_reached.true in
    let there = subst (λ (o : Option ℕ). IfSome o (λ l. l < length c.args.self.now.trees)) c.in-Some.is c.requires.there in
    counted-already c.args.cores.now c.in-Some.lane lane c.args.anew c.args.self.now c.in-Some.is
    (c.requires.counted by.0 c.in-Some.lane by.1 there by.2)

pub returns-in_default-clause-counts : goal.returns-in_default-clause-counts
returns-in_default-clause-counts g c = grind (arith, common_steps)

pub returns-in_default-clause-each : goal.returns-in_default-clause-each
returns-in_default-clause-each g c = grind (arith, common_steps)

pub is_reached-requires : goal.is_reached-requires
is_reached-requires g c = grind (arith, common_steps)

pub returns-then-is_reached-clause-counts : goal.returns-then-is_reached-clause-counts
returns-then-is_reached-clause-counts g c = grind (arith, common_steps)

pub count_lane-requires : goal.count_lane-requires
count_lane-requires g c = grind (arith, common_steps)

pub returns-clause-counts : goal.returns-clause-counts
returns-clause-counts g c = grind (arith, common_steps)

pub returns-clause-each : goal.returns-clause-each
returns-clause-each g c = grind (arith, common_steps)
