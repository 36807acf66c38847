use Rattle.std.proofs.Common.{◌≡◌, All, [], ◌∷◌, arith, subst, sym}
use Rattle.std.proofs.lemmas.Grind.{common_steps}
use Rattle.std.proofs.lemmas.List.Elements.{All-append}
use Rattle.command_trials.proofs.sharing.+fn-work_all-join+arg2+work_all.Goals as goal

pub join+arg2-returns : goal.join+arg2-returns
join+arg2-returns g t c = grind (arith, common_steps)

pub returns-in_default : goal.returns-in_default
returns-in_default g t c = grind (arith, common_steps)

pub returns-in_err-back : goal.returns-in_err-back
returns-in_err-back g t c = grind (arith, common_steps)

pub returns-in_err-own : goal.returns-in_err-own
returns-in_err-own g t c = grind (arith, common_steps)

pub returns-in_err-push : goal.returns-in_err-push
returns-in_err-push g t c = grind (arith, common_steps)

pub returns : goal.returns
returns g t c =
    let others : All (λ seat. seat.desk ≡ c.args.desk.now.id) c.in_ok-back.back.items = grind (arith, common_steps) in
    let own : All (λ seat. seat.desk ≡ c.args.desk.now.id) (c.in_ok-own.field-0 ∷ []) = grind (arith, common_steps) in
    subst (All (λ seat. seat.desk ≡ c.args.desk.now.id)) (sym c.in_ok-push.ensures.items)
    (All-append (λ seat. seat.desk ≡ c.args.desk.now.id) c.in_ok-back.back.items (c.in_ok-own.field-0 ∷ []) others own)
