use Rattle.std.proofs.Common.{◌≡◌, ◌≢◌, ◌<◌, ◌^◌, ℕ, List, Result, Ok, Err, arith, sym, ◌∙◌, rules}
use Rattle.std.proofs.lemmas.Fmt.{decimal_injective}
use Rattle.std.specs.Fmt.{decimal}
use Rattle.std.specs.Option.{IfNone}
use Rattle.std.specs.Result.{OkIff, result_ok}
use Rattle.base.proofs.words.small_number_of.Goals as goal

-- what spells a number that is too large spells none below 2 ^ 32
none_small : {E : Type 0} (text : List ℕ) (r : Result ℕ E) (n : ℕ) → OkIff r (n < 2 ^ 32) n → n < 2 ^ 64 → text ≡ decimal n →
    IfNone (result_ok r) ((m : ℕ) → m < 2 ^ 32 → text ≢ decimal m)
none_small text (Ok x) n fits small is = tt
none_small text (Err e) n large small is = λ m low same.
    let equal = decimal_injective m n (omega (arith, low)) small (sym same ∙ is) in
    large (omega (arith, equal, low))

pub returns-clause-none : goal.returns-clause-none
returns-clause-none c =
    rw c.ok.ensures.value (none_small c.args.text.now c.try_from.result c.in_ok-n.n c.try_from.ensures (search rules) c.in_ok-n.ensures.some)
