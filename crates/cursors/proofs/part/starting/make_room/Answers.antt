use Rattle.std.proofs.Common.{[], map, arith, rules}
use Rattle.std.proofs.lemmas.Grind.{common_steps}
use Rattle.std.proofs.lemmas.List.{length-map}
use Rattle.cursors.specs.Cursors.{progress}
use Rattle.cursors.specs.Stock.{Within, stock}
use Rattle.cursors.specs.inner.Parts.{holding}
use Rattle.cursors.proofs.Cursors.{parts, parts-row}
use Rattle.scenario.proofs.Failing.{on_ok-failed}
use Rattle.cursors.proofs.Growing.{grown-same, progress-same}
use Rattle.cursors.proofs.part.starting.make_room.Goals as goal

pub returns-in-Begun-clause-place : goal.returns-in-Begun-clause-place
returns-in-Begun-clause-place g c = search (rules, parts)

pub returns-in-Begun-clause-grown : goal.returns-in-Begun-clause-grown
returns-in-Begun-clause-grown g c = grind (arith, common_steps, parts)

pub returns-in-Begun-clause-same : goal.returns-in-Begun-clause-same
returns-in-Begun-clause-same g c = grown-same c.args.part.now _ (returns-in-Begun-clause-place g c) (returns-in-Begun-clause-grown g c)

pub returns-in-Begun-clause-room : goal.returns-in-Begun-clause-room
returns-in-Begun-clause-room g c = grind (arith, common_steps, parts, length-map)

pub returns-in_ok-push_ended-in-Fresh-clause-place : goal.returns-in_ok-push_ended-in-Fresh-clause-place
returns-in_ok-push_ended-in-Fresh-clause-place g c = grind (arith, common_steps, parts)

pub returns-in_ok-push_ended-in-Fresh-clause-grown : goal.returns-in_ok-push_ended-in-Fresh-clause-grown
returns-in_ok-push_ended-in-Fresh-clause-grown g c = grind (arith, common_steps, parts)

pub returns-in_ok-push_ended-in-Fresh-clause-same : goal.returns-in_ok-push_ended-in-Fresh-clause-same
returns-in_ok-push_ended-in-Fresh-clause-same g c =
    let same = progress-same c.in-Fresh.place [] (map progress c.push_ended-in-Fresh.new.parts.items) (search rules) in
    grind (arith, common_steps, parts-row, same)

pub returns-in_ok-push_ended-in-Fresh-clause-room : goal.returns-in_ok-push_ended-in-Fresh-clause-room
returns-in_ok-push_ended-in-Fresh-clause-room g c = grind (arith, common_steps, parts, length-map)

pub returns-in_err-clone-in-Fresh-clause-place : goal.returns-in_err-clone-in-Fresh-clause-place
returns-in_err-clone-in-Fresh-clause-place g c = grind (arith, common_steps, parts)

pub returns-in_err-clone-in-Fresh-clause-grown : goal.returns-in_err-clone-in-Fresh-clause-grown
returns-in_err-clone-in-Fresh-clause-grown g c = grind (arith, common_steps, parts)

pub returns-in_err-clone-in-Fresh-clause-same : goal.returns-in_err-clone-in-Fresh-clause-same
returns-in_err-clone-in-Fresh-clause-same g c = grind (arith, common_steps, parts)

pub returns-in_err-clone-in-Fresh-clause-room : goal.returns-in_err-clone-in-Fresh-clause-room
returns-in_err-clone-in-Fresh-clause-room g c = on_ok-failed _ _ c.from_residual.ensures.0

pub returns-in_err-push_ended-in-Fresh-clause-place : goal.returns-in_err-push_ended-in-Fresh-clause-place
returns-in_err-push_ended-in-Fresh-clause-place g c = grind (arith, common_steps, parts)

pub returns-in_err-push_ended-in-Fresh-clause-grown : goal.returns-in_err-push_ended-in-Fresh-clause-grown
returns-in_err-push_ended-in-Fresh-clause-grown g c = grind (arith, common_steps, parts)

pub returns-in_err-push_ended-in-Fresh-clause-same : goal.returns-in_err-push_ended-in-Fresh-clause-same
returns-in_err-push_ended-in-Fresh-clause-same g c = grind (arith, common_steps, parts)

pub returns-in_err-push_ended-in-Fresh-clause-room : goal.returns-in_err-push_ended-in-Fresh-clause-room
returns-in_err-push_ended-in-Fresh-clause-room g c = on_ok-failed _ _ c.from_residual-in_err-push_ended-in-Fresh.ensures.0

pub returns-in-Begun-clause-held : goal.returns-in-Begun-clause-held
returns-in-Begun-clause-held g c most was bare =
    let all = c.push_ended.ensures.held most (grind (arith, common_steps, parts, was)) bare in
    grind (arith, common_steps, parts, all)

pub returns-in_ok-push_ended-in-Fresh-clause-held : goal.returns-in_ok-push_ended-in-Fresh-clause-held
returns-in_ok-push_ended-in-Fresh-clause-held g c most was bare =
    let before : Within (holding (map stock c.new-parts.result.items)) most = rw c.new-parts.ensures.items tt in
    let all = c.push_ended-in-Fresh.ensures.held most before bare in
    grind (arith, common_steps, parts, all)
