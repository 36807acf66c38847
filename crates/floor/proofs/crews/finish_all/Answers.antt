use Rattle.std.proofs.Common.{◌≡◌, List, [], subst, sym, append-nil, length, refl, arith, ◌∷◌, rules}
use Rattle.std.proofs.lemmas.Grind.{common_steps}
use Rattle.floor.specs.Turning.{SeatView}
use Rattle.floor.specs.Crews.{ComeBack}
use Rattle.floor.proofs.crews.finish_all.Goals as goal

no_items : {X : Type 0} (xs : List X) → length xs ≡ 0 → xs ≡ []
no_items [] e = refl
no_items (x ∷ xs) e = absurd (omega (arith, e))

pub returns : goal.returns
returns g c =
    let i = c.loop-running.invariant in
    let empty : c.loop-running.running.items ≡ [] = no_items c.loop-running.running.items (search rules) in
    subst (λ rs. ComeBack c.args.running.items rs) (append-nil c.loop-running.back.items)
    (i.0 [] (subst (λ (xs : List SeatView). ComeBack xs []) (sym empty) tt))

pub loop-running-init : goal.loop-running-init
loop-running-init g c = grind (arith, common_steps)

pub loop-running-smaller : goal.loop-running-smaller
loop-running-smaller g c = grind (arith, common_steps)

pub loop-running-preserved : goal.loop-running-preserved
loop-running-preserved g c = grind (arith, common_steps)
