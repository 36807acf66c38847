use Rattle.std.proofs.Common.{◌≡◌, ◌∙◌, ap, sym}
use Rattle.base.specs.declared.controller.entry.CellEntry.TheVariants.{Blank, Stall, Act}
use Rattle.directory_table.specs.Table.{DirectoryEntry, cell}
use Rattle.tables.specs.Tables.{Tables, baseline_of}
use Rattle.machine.specs.Going.{MayWaitAtHome}
use Rattle.certify.proofs.OwnEntries.{jams, no-blank, no-stall}
use Rattle.certify.proofs.going.is_home_jam.Goals as goal

pub returns-in-Stall-Act : goal.returns-in-Stall-Act
returns-in-Stall-Act c =
    let t : Tables = c.args.tables.now in
    let entry : DirectoryEntry = cell t.directory c.args.state c.args.event in
    let own : DirectoryEntry = cell (baseline_of t.protocol).directory c.args.state c.args.event in
    let held : entry ≡ Stall =
    ap (λ (u : Tables). cell u.directory c.args.state c.args.event) (sym c.tables.view_is) ∙ sym c.entry.ensures.entry ∙ c.in-Stall-Act.is-0 in
    let acts : own ≡ Act c.in-Stall-Act.next-1 c.in-Stall-Act.actions-1 =
    ap (λ (u : Tables). cell u.directory c.args.state c.args.event) (sym c.requires ∙ sym c.own.view_is) ∙ sym c.entry-2.ensures.entry ∙ c.in-Stall-Act.is-1 in
    jams (MayWaitAtHome c.args.state c.args.event) entry own Stall Blank c.may_wait_at_home.result held
    (no-stall own c.in-Stall-Act.next-1 c.in-Stall-Act.actions-1 acts) (no-blank own c.in-Stall-Act.next-1 c.in-Stall-Act.actions-1 acts)
    c.may_wait_at_home.ensures
