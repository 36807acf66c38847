use Rattle.std.proofs.Common.{◌∙◌, ap, subst}
use Rattle.world.specs.Looks.{latest_at}
use Rattle.monitor.specs.Scenes.{Answers, scene_in}
use Rattle.monitor.proofs.after.find_any.Goals as goal

pub returns : goal.returns
returns c =
    subst (λ o. Answers (scene_in c.args.world.now.state c.args.step c.args.outcome o) c.find.result)
    (c.latest.ensures.latest ∙ ap (latest_at c.args.world.now.state) c.block.ensures) c.find.ensures
