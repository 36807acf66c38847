use Rattle.std.proofs.Common.{◌≡◌, true, subst, sym}
use Rattle.base.proofs.Cells.{HasSize-set, replaced-other}
use Rattle.directory_table.specs.Baseline.{all_states, all_events}
use Rattle.directory_table.specs.Table.{DirectoryTableView, state_number, event_number, has_entry}
use Rattle.directory_table.specs.inner.Standing.{state_stands, event_stands}
use Rattle.directory_table.proofs.Keeping.{keeps-replaced}
use Rattle.directory_table.proofs.table.DirectoryTable.replaced.Goals as goal

pub invariant_of-result : goal.invariant_of-result
invariant_of-result c =
    let known = subst (λ (t : DirectoryTableView). has_entry t.protocol c.args.entry ≡ true) (sym c.self.view_is) c.requires in
    record {
      whole = HasSize-set 4 7 c.self.inside.cells c.number.result c.number-2.result c.args.entry c.self.invariant.whole c.number.ensures.small;
      keeps =
          rw (c.number.ensures.number, c.number-2.ensures.number)
          (keeps-replaced c.self.inside.protocol c.self.inside.cells c.args.state c.args.event c.args.entry c.self.invariant known);
    }

pub returns-clause-others : goal.returns-clause-others
returns-clause-others c = λ s e other.
    rw (← c.self.view_is, c.number.ensures.number, c.number-2.ensures.number)
    (replaced-other all_states all_events state_number event_number (record { states_stand = state_stands; events_stand = event_stands })
    c.self.inside.cells c.args.state c.args.event c.args.entry s e c.self.invariant.whole other)
