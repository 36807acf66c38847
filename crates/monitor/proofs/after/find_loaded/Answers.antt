use Rattle.std.proofs.Common.{◌≡◌, ◌∙◌, ap, subst}
use Rattle.base.specs.Steps.{block_of}
use Rattle.world.specs.Looks.{latest_at}
use Rattle.monitor.specs.Scenes.{scene_in}
use Rattle.monitor.specs.Finding.{AnswersWithin}
use Rattle.monitor.proofs.Findings.{last-answer, none-answer, none-then}
use Rattle.monitor.proofs.Uncrowded.{none-loaded, none-uncrowded, not-loaded}
use Rattle.monitor.proofs.after.find_loaded.Goals as goal

pub returns-in-Load : goal.returns-in-Load
returns-in-Load c =
    let state = c.args.world.now.state in
    let scene = scene_in state c.args.step c.args.outcome (latest_at state (block_of c.args.step)) in
    let due : c.latest.result ≡ latest_at state (block_of c.args.step) = c.latest.ensures.latest ∙ ap (latest_at state) c.block.ensures in
    last-answer scene c.find_stale.result (none-uncrowded scene c.requires.met c.requires.uncrowded)
    (subst (λ o. AnswersWithin (scene_in state c.args.step c.args.outcome o) 3 4 c.find_stale.result) due (c.find_stale.ensures state))

pub returns-in_default : goal.returns-in_default
returns-in_default c =
    let state = c.args.world.now.state in
    let scene = scene_in state c.args.step c.args.outcome (latest_at state (block_of c.args.step)) in
    none-answer scene
    (none-then scene 0 3 4 (none-uncrowded scene c.requires.met c.requires.uncrowded)
    (none-loaded scene (not-loaded c.args.outcome c.in_default.not-Load)))
