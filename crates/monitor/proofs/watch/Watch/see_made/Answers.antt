use Rattle.monitor.proofs.Histories.{answers-next, seen-more}
use Rattle.monitor.proofs.Told.{unsuspected}
use Rattle.monitor.proofs.watch.Watch.see_made.Goals as goal

pub see_value-requires : goal.see_value-requires
see_value-requires c =
    (unsuspected c.args.world.now.tables c.args.step c.args.made.now c.args.world.now.state c.requires (rw c.is_suspect.ensures at c.if-is_suspect.false)).0

pub returns : goal.returns
returns c =
    let told = c.args.made.now in
    let uncrowded =
    (unsuspected c.args.world.now.tables c.args.step told c.args.world.now.state c.requires (rw c.is_suspect.ensures at c.if-is_suspect.false)).1 in
    let violation = c.see_value.ensures.violation c.args.world.now.state uncrowded in
    record {
      noted = c.see_value.ensures.noted;
      violation = violation;
      history = answers-next c.args.world.now c.args.self.now c.args.step told.outcome c.see_value.result violation;
      seen = λ opening before seen leads.
          seen-more c.args.world.now opening c.args.self.now c.see_value.new.self before c.args.step told.outcome c.see_value.ensures.noted seen leads;
    }
