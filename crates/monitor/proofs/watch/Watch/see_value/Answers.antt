use Rattle.std.proofs.Common.{◌≡◌, ◌∙◌, ap, slice_get, subst, sym}
use Rattle.base.specs.Steps.{block_of}
use Rattle.monitor.specs.Scenes.{IsLoadOf, scene_in}
use Rattle.monitor.specs.Finding.{AnswersWithin}
use Rattle.monitor.proofs.Findings.{last-answer, none-answer, none-then}
use Rattle.monitor.proofs.Uncrowded.{none-loaded, none-uncrowded, not-loaded, not-stored}
use Rattle.monitor.proofs.watch.Watch.see_value.Goals as goal

pub returns-in-Load-clause-violation : goal.returns-in-Load-clause-violation
returns-in-Load-clause-violation c state uncrowded =
    let scene = scene_in state c.args.step c.args.outcome (slice_get c.args.self.now (block_of c.args.step)) in
    let due : c.due-due.result ≡ slice_get c.args.self.now (block_of c.args.step) = c.due-due.ensures ∙ ap (slice_get c.args.self.now) c.block.ensures in
    last-answer scene c.find_stale.result (none-uncrowded scene c.requires uncrowded)
    (subst (λ o. AnswersWithin (scene_in state c.args.step c.args.outcome o) 3 4 c.find_stale.result) due (c.find_stale.ensures state))

pub returns-in-Store-clause-violation : goal.returns-in-Store-clause-violation
returns-in-Store-clause-violation c state uncrowded =
    let scene = scene_in state c.args.step c.args.outcome (slice_get c.args.self.now (block_of c.args.step)) in
    none-answer scene
    (none-then scene 0 3 4 (none-uncrowded scene c.requires uncrowded) (none-loaded scene (λ value loaded. subst (IsLoadOf value) c.in-Store.is loaded)))

pub returns-in_default-clause-noted : goal.returns-in_default-clause-noted
returns-in_default-clause-noted c = sym (not-stored c.args.self.now (block_of c.args.step) c.args.outcome c.in_default.not-Store)

pub returns-in_default-clause-violation : goal.returns-in_default-clause-violation
returns-in_default-clause-violation c state uncrowded =
    let scene = scene_in state c.args.step c.args.outcome (slice_get c.args.self.now (block_of c.args.step)) in
    none-answer scene
    (none-then scene 0 3 4 (none-uncrowded scene c.requires uncrowded) (none-loaded scene (not-loaded c.args.outcome c.in_default.not-Load)))
