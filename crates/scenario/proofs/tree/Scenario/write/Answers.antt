use Rattle.std.proofs.Common.{subst, arith}
use Rattle.std.proofs.lemmas.Grind.{common_steps}
use Rattle.scenario.specs.Tree.{plain}
use Rattle.scenario.specs.Shown.{shown}
use Rattle.scenario.specs.Says.{IsJson}
use Rattle.scenario.proofs.Written.{shown-text}
use Rattle.scenario.proofs.tree.Scenario.write.Goals as goal

pub returns-in-Ok-put_all-clause-reads_back : goal.returns-in-Ok-put_all-clause-reads_back
returns-in-Ok-put_all-clause-reads_back g c low =
    let t = plain c.args.self.now in
    let json = subst (λ bytes. IsJson bytes (shown t)) c.in-Ok.ensures.text (c.in-Ok.ensures.reads_back low) in
    shown-text _ t c.read_numbers.ensures json

pub returns-clause-reads_back : goal.returns-clause-reads_back
returns-clause-reads_back g c low =
    let t = plain c.args.self.now in
    let json = subst (λ bytes. IsJson bytes (shown t)) c.in-Ok.ensures.text (c.in-Ok.ensures.reads_back low) in
    shown-text _ t c.read_numbers.ensures json

pub returns-clause-fits : goal.returns-clause-fits
returns-clause-fits g c = c.read_numbers.ensures

pub returns-in-Ok-put_all-clause-fits : goal.returns-in-Ok-put_all-clause-fits
returns-in-Ok-put_all-clause-fits g c = c.read_numbers.ensures

pub returns-in_default-clause-fits : goal.returns-in_default-clause-fits
returns-in_default-clause-fits g c = c.read_numbers.ensures

pub returns-clause-mark : goal.returns-clause-mark
returns-clause-mark g c = grind (arith, common_steps)

pub returns-clause-text : goal.returns-clause-text
returns-clause-text g c = grind (arith, common_steps)

pub returns-in-Ok-put_all-clause-mark : goal.returns-in-Ok-put_all-clause-mark
returns-in-Ok-put_all-clause-mark g c = grind (arith, common_steps)

pub returns-in-Ok-put_all-clause-text : goal.returns-in-Ok-put_all-clause-text
returns-in-Ok-put_all-clause-text g c = grind (arith, common_steps)

pub returns-in_default-clause-mark : goal.returns-in_default-clause-mark
returns-in_default-clause-mark g c = grind (arith, common_steps)

pub returns-in_default-clause-reads_back : goal.returns-in_default-clause-reads_back
returns-in_default-clause-reads_back g c = grind (arith, common_steps)

pub returns-in_default-clause-text : goal.returns-in_default-clause-text
returns-in_default-clause-text g c = grind (arith, common_steps)
