use Rattle.std.proofs.Common.{ap, ◌∙◌, ◌==◌}
use Rattle.network.proofs.Parts.{quiet-count}
use Rattle.network.proofs.wires.Wires.is_quiet.Goals as goal

pub returns : goal.returns
returns c = ap (λ n. n == 0) c.message_count.ensures ∙ quiet-count c.args.self.now.traffic
