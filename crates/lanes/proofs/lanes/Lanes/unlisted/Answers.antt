use Rattle.std.proofs.Common.{ap, arith, length, sym, true≢false}
use Rattle.std.proofs.lemmas.Grind.{common_steps}
use Rattle.std.proofs.lemmas.List.{length-map}
use Rattle.cursors.specs.Cursors.{remaining}
use Rattle.scenario.specs.Tree.{plain}
use Rattle.lanes.proofs.Opening.{none-opened}
use Rattle.lanes.proofs.lanes.Lanes.unlisted.Goals as goal

pub overflow_cast-len : goal.overflow_cast-len
overflow_cast-len g c =
    let few = c.in_ok-sources.ensures.few in
    let same = ap length c.in_ok-lanes.ensures.rest in
    let trees = length-map c.in_ok-lanes.lanes.items (λ l. remaining l.rest) in
    let sources = length-map c.as_slice.result.now (λ s. plain s.now) in
    let all = ap length c.as_slice.ensures.value in
    omega (arith, few, same, trees, sources, all, c.len-2.ensures)

pub invariant_of-result : goal.invariant_of-result
invariant_of-result g c =
    let trees = length-map c.in_ok-lanes.lanes.items (λ l. remaining l.rest) in
    record {
      level = record {
        sources = grind (arith, common_steps);
        opened = grind (arith, common_steps);
        listed = grind (arith, common_steps);
        lengths = grind (arith, common_steps);
        ready = grind (arith, common_steps);
        few = grind (arith, common_steps);
        rows = grind (arith, common_steps);
      };
      opened = none-opened _ c.len.result (grind (arith, common_steps));
      listed = λ usable. absurd (true≢false (sym usable));
    }
