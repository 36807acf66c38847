use Rattle.std.proofs.Common.{◌≤◌, ℕ, arith, inl, inr, subst}
use Rattle.std.proofs.lemmas.Grind.{common_steps}
use Rattle.monitor.specs.Scenes.{scene_in}
use Rattle.world.specs.Looks.{readers_of}
use Rattle.machine.specs.Coherence.{Writes}
use Rattle.monitor.specs.Finding.{HoldsForNoneFrom}
use Rattle.monitor.proofs.Looking.{none-shared, none-writes}
use Rattle.monitor.proofs.finding.find_shared.Goals as goal

pub returns-in_err-first : goal.returns-in_err-first
returns-in_err-first c = λ outcome due looked.
    let scene = scene_in c.args.world.now.state c.args.step outcome due in
    rw c.from_residual.ensures
    (elim c.in_err-first.ensures.none [
      | inl few ↦ none-shared scene (subst (λ (b : ℕ). readers_of c.args.world.now.state b ≤ 1) c.block-block.ensures few)
      | inr none ↦ none-writes scene (subst (λ (b : ℕ). HoldsForNoneFrom (λ n. Writes c.args.world.now.state n b) 0) c.block-block.ensures none)
    ])

pub returns-in-Some : goal.returns-in-Some
returns-in-Some c = grind (arith, common_steps)

pub returns-in_err-reader : goal.returns-in_err-reader
returns-in_err-reader c = grind (arith, common_steps)

pub returns : goal.returns
returns c = grind (arith, common_steps)
