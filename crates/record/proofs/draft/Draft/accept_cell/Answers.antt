use Rattle.std.proofs.Common.{◌≡◌, ap, subst, ◌∙◌, ◌+◌, ◌-◌, true}
use Rattle.tables.specs.CellPlaces.{place_number}
use Rattle.record_lines.specs.Cells.{is_known}
use Rattle.record_lines.specs.Grammar.{cells_due}
use Rattle.record.specs.inner.Drafts.{kept}
use Rattle.record.proofs.Drafting.{cell-taken}
use Rattle.record.proofs.draft.Draft.accept_cell.Goals as goal

pub returns-clause-ok : goal.returns-clause-ok
returns-clause-ok c =
    cell-taken c.args.form (kept c.args.self.now) _ c.args.left c.args.from c.in-Some.cell _ _ c.requires.read c.in-Some.ensures.0 c.in-Some.ensures.1
    (c.with_cell-self.ensures.whole c.requires.read.tables c.in-Some.ensures.0.fits) c.with_cell-self.ensures.protocol c.with_cell-self.ensures.here
    c.with_cell-self.ensures.others
    (c.cells.ensures ∙ ap (λ n. cells_due c.args.form (c.args.left - 1) (n + 1)) (c.number.ensures.number ∙ ap place_number c.place.ensures))

pub with_cell-self-requires : goal.with_cell-self-requires
with_cell-self-requires c = subst (λ p. is_known p c.in-Some.cell ≡ true) c.requires.read.head.0.1 c.in-Some.ensures.0.known
