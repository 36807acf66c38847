use Rattle.std.proofs.Common.{◌==◌, ◌∙◌, ap, bit_or, if◌then◌else◌}
use Rattle.std.specs.Int.{bit_at}
use Rattle.schedule.proofs.Grouping.{held-bits}
use Rattle.schedule.proofs.groups.Groups.held.Goals as goal

pub returns : goal.returns
returns c asks kinds n ask e =
    let g = c.args.self.now in
    let held = c.args.held in
    ap (λ b. bit_at (bit_or (bit_or b c.bits_if-2.result) c.bits_if-3.result) n == 1) c.bits_if.ensures
    ∙ ap (λ b. bit_at (bit_or (bit_or (if held.load then g.loads else 0) b) c.bits_if-3.result) n == 1) c.bits_if-2.ensures
    ∙ ap (λ b. bit_at (bit_or (bit_or (if held.load then g.loads else 0) (if held.store then g.stores else 0)) b) n == 1) c.bits_if-3.ensures
    ∙ held-bits held g.loads g.stores g.replaces n asks ask kinds e
