use Rattle.std.proofs.Common.{◌≡◌, ◌+◌, ◌∙◌, ℕ, List, [], ◌∷◌, ap, arith, length, refl, replicate, sym}
use Rattle.std.specs.List.{sum}
use Rattle.std.proofs.lemmas.List.{length-set}
use Rattle.std.proofs.lemmas.List.Sums.{sum_by-cons}
use Rattle.rows.proofs.sums.Sums.clear_few.Goals as goal

-- numbers that sum up to 0 are all 0
all-zero : (numbers : List ℕ) → sum numbers ≡ 0 → numbers ≡ replicate (length numbers) 0
all-zero [] none = refl
all-zero (n ∷ numbers) none =
    let both : n + sum numbers ≡ 0 = sym (sum_by-cons (λ x. x) n numbers) ∙ none in
    let here : n ≡ 0 = omega (arith, both) in
    let there : sum numbers ≡ 0 = omega (arith, both) in
    ap (λ m. m ∷ numbers) here ∙ ap (λ ms. 0 ∷ ms) (all-zero numbers there)

pub loop-init : goal.loop-init
loop-init c = refl

pub returns-then-total-eq0-clause-count : goal.returns-then-total-eq0-clause-count
returns-then-total-eq0-clause-count c = c.loop.invariant

pub returns-then-total-eq0-clause-none : goal.returns-then-total-eq0-clause-none
returns-then-total-eq0-clause-none c done =
    all-zero c.loop.self (sym c.total.ensures.total ∙ c.if-total-eq0.true) ∙ ap (λ n. replicate n 0) c.loop.invariant

pub loop-preserved : goal.loop-preserved
loop-preserved c = ap length c.set.ensures ∙ length-set c.loop.self c.find-first.result.place 0 ∙ c.loop.invariant

pub returns-clause-count : goal.returns-clause-count
returns-clause-count c = c.loop.invariant
