use Rattle.std.proofs.Common.{arith, ◌≤◌, ◌<◌}
use Rattle.std.proofs.lemmas.Result.{err_from_is_err_and}
use Rattle.serde_json.specs.View.{view}
use Rattle.scenario.specs.Tree.{plain}
use Rattle.scenario.specs.Limits.{longest}
use Rattle.scenario.proofs.Answering.{refused, text-of, too_long, within}
use Rattle.scenario.proofs.reading.scenario_of.Goals as goal

-- the walk came to a fault
pub returns-in_err-scenario-clause-fault : goal.returns-in_err-scenario-clause-fault
returns-in_err-scenario-clause-fault g c =
    let same = err_from_is_err_and c.from_residual.result c.from_residual.ensures.1 in
    rw (same.1, same.2) (λ bytes json.
    refused (plain {A = g.row.A.Denot}) c.args.shape bytes (view c.args.value.now) c.in_err-scenario.field-0.0 json c.in_err-scenario.ensures)

-- only its words are too long
pub returns-then-longest_word-from-clause-fault : goal.returns-then-longest_word-from-clause-fault
returns-then-longest_word-from-clause-fault g c = λ bytes json.
    let t = plain c.in_ok-scenario.scenario in
    let long : 1000000 < longest t = omega (arith, c.longest_word.ensures, c.if-longest_word-from.true, c.from.ensures) in
    too_long c.args.shape bytes (view c.args.value.now) t json c.in_ok-scenario.ensures long

pub returns-clause-tree : goal.returns-clause-tree
returns-clause-tree g c = λ bytes json.
    text-of c.args.shape bytes (view c.args.value.now) (plain c.in_ok-scenario.scenario) json c.in_ok-scenario.ensures

pub returns-clause-within : goal.returns-clause-within
returns-clause-within g c =
    let t = plain c.in_ok-scenario.scenario in
    let few : longest t ≤ 1000000 = omega (arith, c.longest_word.ensures, c.if-longest_word-from.false, c.from.ensures) in
    within c.args.shape (view c.args.value.now) t c.in_ok-scenario.ensures few c.read_numbers.ensures

pub returns-then-longest_word-from-clause-tree : goal.returns-then-longest_word-from-clause-tree
returns-then-longest_word-from-clause-tree g c = λ bytes json. tt

pub returns-then-longest_word-from-clause-within : goal.returns-then-longest_word-from-clause-within
returns-then-longest_word-from-clause-within g c = tt

pub returns-clause-fault : goal.returns-clause-fault
returns-clause-fault g c = λ bytes json. tt
