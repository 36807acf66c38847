use Rattle.std.proofs.Common.{subst, arith}
use Rattle.std.proofs.lemmas.Grind.{common_steps}
use Rattle.floor.specs.Closing.{AllThere}
use Rattle.floor.proofs.Owned.{all_stand, all_received}
use Rattle.floor.proofs.floors.Floor.close.Goals as goal

pub returns-clause-closed : goal.returns-clause-closed
returns-clause-closed g c =
    let row = c.args.seats.items in
    let told = c.close.ensures in
    let entries = c.close.result.recording.entries in
    let owners = c.close.result.owners.items in
    let there : AllThere g.F.Naming.floor.seats row =
    subst (λ n. AllThere n row) c.args.self.seats_is (subst (λ row. AllThere c.args.self.seats row) c.deref.ensures.value c.if-not-all_there.ensures) in
    record {
      there = there;
      told = told;
      stand = all_stand entries owners row told.histories;
      received = all_received g.F.Naming.floor entries owners row told.owners there told.histories;
    }

pub returns-then-not-all_there-clause-back : goal.returns-then-not-all_there-clause-back
returns-then-not-all_there-clause-back g c = grind (arith, common_steps)
