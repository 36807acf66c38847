use Rattle.std.proofs.Common.{◌≡◌, ◌-◌, ◌∙◌, ap, IfOk, arith}
use Rattle.std.specs.List.{range_with_len}
use Rattle.rayon.specs.Numbers.{nat_range}
use Rattle.rayon.proofs.ListFacts.{IfOk-then}
use Rattle.scenario.specs.Tree.{plain}
use Rattle.trials.specs.Trial.{IsResult}
use Rattle.trials.proofs.Gathering.{are_made, AreMade}
use Rattle.trials.proofs.spreading.all_results.Given as given
use Rattle.trials.proofs.spreading.all_results.Goals as goal

all_made : (g : given.Over) (c : goal.In_ok-made g) → IfOk c.in_ok-made.made (λ v.
    AreMade (λ number made. IsResult c.args.setup.now (plain c.args.scenario.now) number made) c.args.n v.items)
all_made g c =
    let ends = c.into_par_iter.ensures in
    let whole : c.args.n - 0 ≡ c.args.n = omega arith in
    let h = c.in_ok-made.ensures in
    let chain = rw (c.map.ensures.base, c.with_min_len.ensures.base, c.map.ensures.f) at h.1 in
    let places = chain.1 ∙ (λ i. nat_range (ends.0 i) (ends.1 i)) ∙ ap (range_with_len 0) whole in
    are_made (λ number made. IsResult c.args.setup.now (plain c.args.scenario.now) number made)
    c.args.n chain.0 h.0 c.in_ok-made.made places chain.2 h.2

pub returns : goal.returns
returns g c = IfOk-then c.in_ok-made.made _ _ (all_made g c) (λ v made. record { count = made.count; each = λ number result at. made.each number result at })
