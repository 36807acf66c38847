use Rattle.std.proofs.Common.{ap, ◌∙◌, arith}
use Rattle.std.proofs.lemmas.Grind.{common_steps}
use Rattle.machine.specs.Completions.{noted}
use Rattle.monitor.proofs.Histories.{seen-more}
use Rattle.monitor.proofs.watch.Watch.see.Goals as goal

pub returns : goal.returns
returns c =
    let same = c.note.ensures ∙ ap (λ b. noted c.args.self.now b c.args.outcome) c.block-block.ensures in
    record {
      noted = same;
      violation = grind (arith, common_steps);
      history = grind (arith, common_steps);
      seen = λ opening before seen leads.
          seen-more c.args.world.now opening c.args.self.now c.note.new.self before c.args.step c.args.outcome same seen leads;
    }
