use Rattle.std.proofs.Common.{◌∙◌, ap}
use Rattle.schedule.specs.Marks.{marks_by}
use Rattle.schedule.proofs.Marking.{still-kept}
use Rattle.schedule.proofs.asks.Asks.mark.Goals as goal
use Rattle.schedule.proofs.asks.Asks.mark.Goals.{in-All, in-Groups, in-Places}

pub invariant_of-self : goal.invariant_of-self
invariant_of-self c =
    let told = ap (λ asks. marks_by c.args.held c.args.core c.args.block asks c.self.inside.unheld) c.as_slice-asks.ensures.value in
    elim c.match-self.branch [
      | in-All w ↦ rw w.self-inside-is (
        still-kept c.args.held c.args.core c.args.block c.self.inside.asks.items c.self.inside.unheld w.mark_at.new.unheld c.self.inside.core
            (w.mark_at.ensures ∙ told) c.self.invariant.0,
        c.self.invariant.1,
      )
      | in-Groups w ↦ rw w.self-inside-is (
        still-kept c.args.held c.args.core c.args.block c.self.inside.asks.items c.self.inside.unheld w.mark.new.unheld c.self.inside.core
            (w.mark.ensures ∙ told) c.self.invariant.0,
        c.self.invariant.1,
      )
      | in-Places w ↦ rw w.self-inside-is (
        still-kept c.args.held c.args.core c.args.block c.self.inside.asks.items c.self.inside.unheld w.mark-in-Places.new.unheld c.self.inside.core
            (w.mark-in-Places.ensures ∙ told) c.self.invariant.0,
        c.self.invariant.1,
      )
    ]
