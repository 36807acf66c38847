use Rattle.std.proofs.Common.{arith, rules}
use Rattle.monitor.specs.Scenes.{IsLookedAt, Scene, scene_in}
use Rattle.monitor.proofs.Findings.{first-violation, first-then, none-then, last-answer}
use Rattle.monitor.proofs.finding.find.Goals as goal

pub returns-in-Some : goal.returns-in-Some
returns-in-Some c = first-violation _ 1 _ (c.in-Some.ensures c.args.due)

pub returns-in-Some-find_shared : goal.returns-in-Some-find_shared
returns-in-Some-find_shared c =
    let looked_at : IsLookedAt c.args.outcome = search rules in
    first-violation _ 3 _
    (first-then _ 0 1 3 _ (omega arith) (c.in_default.ensures c.args.due) (c.in-Some-find_shared.ensures c.args.outcome c.args.due looked_at))

pub returns : goal.returns
returns c =
    let scene : Scene = scene_in c.args.world.now.state c.args.step c.args.outcome c.args.due in
    let looked_at : IsLookedAt c.args.outcome = search rules in
    last-answer scene c.find_stale.result
    (none-then scene 0 1 3 (c.in_default.ensures c.args.due) (c.in_default-find_shared.ensures c.args.outcome c.args.due looked_at))
    (c.find_stale.ensures c.args.world.now.state)
