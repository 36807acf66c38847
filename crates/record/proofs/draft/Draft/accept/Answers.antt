use Rattle.std.proofs.Common.{arith}
use Rattle.std.proofs.lemmas.Grind.{common_steps}
use Rattle.std.proofs.lemmas.Result.{IfOk-weaker}
use Rattle.base.specs.Words.{words}
use Rattle.record_lines.specs.declared.due.Due.TheVariants.{Header, ProtocolLine, ShapeLine, SeatsLine, OpeningLine, CellCount, CellLine, EntryCount}
use Rattle.record.specs.inner.Drafts.{kept}
use Rattle.record.proofs.Drafting.{at-cell_count}
use Rattle.record.proofs.Telling.{none-yet, read-in_front, same-or-less, same-room, taken-end, taken-entry, taken-entry_count, taken-in_front}
use Rattle.record.proofs.draft.Draft.accept.Goals as goal

pub accept_header-requires : goal.accept_header-requires
accept_header-requires g c =
    let at = Header in
    record { read = read-in_front g.N.Entries.tells c.args.due at c.args.self.now c.args.entries.now c.requires.read.0 c.in-Header.is tt c.requires.read.1 }

pub returns-in-Header-clause-ok : goal.returns-in-Header-clause-ok
returns-in-Header-clause-ok g c r =
    let at = Header in
    taken-in_front g.N.Entries.tells c.args.due at c.args.self.now c.accept_header.new.self c.args.entries.now r (words c.args.line.now) _ c.in-Header.is tt
    c.accept_header.ensures.ok

pub accept_protocol-requires : goal.accept_protocol-requires
accept_protocol-requires g c =
    let at = ProtocolLine in
    record {
      read = read-in_front g.N.Entries.tells c.args.due at c.args.self.now c.args.entries.now c.requires.read.0 c.in-ProtocolLine.is tt c.requires.read.1;
    }

pub returns-in-ProtocolLine-clause-ok : goal.returns-in-ProtocolLine-clause-ok
returns-in-ProtocolLine-clause-ok g c r =
    let at = ProtocolLine in
    taken-in_front g.N.Entries.tells c.args.due at c.args.self.now c.accept_protocol.new.self c.args.entries.now r
    (words c.args.line.now) _ c.in-ProtocolLine.is tt
    c.accept_protocol.ensures.ok

pub accept_shape-requires : goal.accept_shape-requires
accept_shape-requires g c =
    let at = ShapeLine c.in-ShapeLine.form in
    record { read = read-in_front g.N.Entries.tells c.args.due at c.args.self.now c.args.entries.now c.requires.read.0 c.in-ShapeLine.is tt c.requires.read.1 }

pub returns-in-ShapeLine-clause-ok : goal.returns-in-ShapeLine-clause-ok
returns-in-ShapeLine-clause-ok g c r =
    let at = ShapeLine c.in-ShapeLine.form in
    taken-in_front g.N.Entries.tells c.args.due at c.args.self.now c.accept_shape.new.self c.args.entries.now r (words c.args.line.now) _ c.in-ShapeLine.is tt
    c.accept_shape.ensures.ok

pub accept_seats-requires : goal.accept_seats-requires
accept_seats-requires g c =
    let at = SeatsLine c.in-SeatsLine.form c.in-SeatsLine.shape in
    record { read = read-in_front g.N.Entries.tells c.args.due at c.args.self.now c.args.entries.now c.requires.read.0 c.in-SeatsLine.is tt c.requires.read.1 }

pub returns-in-SeatsLine-clause-ok : goal.returns-in-SeatsLine-clause-ok
returns-in-SeatsLine-clause-ok g c r =
    let at = SeatsLine c.in-SeatsLine.form c.in-SeatsLine.shape in
    taken-in_front g.N.Entries.tells c.args.due at c.args.self.now c.accept_seats.new.self c.args.entries.now r (words c.args.line.now) _ c.in-SeatsLine.is tt
    c.accept_seats.ensures.ok

pub accept_opening-requires-clause-read : goal.accept_opening-requires-clause-read
accept_opening-requires-clause-read g c =
    let at = OpeningLine c.in-OpeningLine.form c.in-OpeningLine.shape in
    read-in_front g.N.Entries.tells c.args.due at c.args.self.now c.args.entries.now c.requires.read.0 c.in-OpeningLine.is tt c.requires.read.1

pub returns-in-OpeningLine-clause-ok : goal.returns-in-OpeningLine-clause-ok
returns-in-OpeningLine-clause-ok g c r =
    let at = OpeningLine c.in-OpeningLine.form c.in-OpeningLine.shape in
    taken-in_front g.N.Entries.tells c.args.due at c.args.self.now c.accept_opening.new.self c.args.entries.now r
    (words c.args.line.now) _ c.in-OpeningLine.is tt
    c.accept_opening.ensures.ok

pub accept_cell-requires : goal.accept_cell-requires
accept_cell-requires g c =
    let at = CellLine c.in-CellLine.form c.in-CellLine.left c.in-CellLine.from in
    record { read = read-in_front g.N.Entries.tells c.args.due at c.args.self.now c.args.entries.now c.requires.read.0 c.in-CellLine.is tt c.requires.read.1 }

pub returns-in-CellLine-clause-ok : goal.returns-in-CellLine-clause-ok
returns-in-CellLine-clause-ok g c r =
    let at = CellLine c.in-CellLine.form c.in-CellLine.left c.in-CellLine.from in
    taken-in_front g.N.Entries.tells c.args.due at c.args.self.now c.accept_cell.new.self c.args.entries.now r (words c.args.line.now) _ c.in-CellLine.is tt
    c.accept_cell.ensures.ok

pub returns-in-CellCount-clause-ok : goal.returns-in-CellCount-clause-ok
returns-in-CellCount-clause-ok g c r h =
    let at = CellCount c.in-CellCount.form in
    let read = read-in_front g.N.Entries.tells c.args.due at c.args.self.now c.args.entries.now r c.in-CellCount.is tt h in
    taken-in_front g.N.Entries.tells c.args.due at c.args.self.now c.args.self.now c.args.entries.now r (words c.args.line.now) _ c.in-CellCount.is tt
    (IfOk-weaker c.cell_count_due.result _ _ (λ next leads. at-cell_count c.in-CellCount.form (kept c.args.self.now) (words c.args.line.now) next read leads)
    c.cell_count_due.ensures.ok) h

pub accept_entry_count-requires-clause-read : goal.accept_entry_count-requires-clause-read
accept_entry_count-requires-clause-read g c =
    read-in_front g.N.Entries.tells c.args.due (EntryCount c.in-EntryCount.form) c.args.self.now c.args.entries.now c.requires.read.0 c.in-EntryCount.is tt
    c.requires.read.1

pub accept_entry_count-requires-clause-none : goal.accept_entry_count-requires-clause-none
accept_entry_count-requires-clause-none g c =
    none-yet g.N.Entries.tells c.args.due (EntryCount c.in-EntryCount.form) c.args.self.now c.args.entries.now c.requires.read.0 c.in-EntryCount.is tt
    c.requires.read.1

pub returns-in-EntryCount-clause-ok : goal.returns-in-EntryCount-clause-ok
returns-in-EntryCount-clause-ok g c r =
    taken-entry_count g.N.Entries.tells c.args.due c.in-EntryCount.form c.args.self.now c.args.entries.now c.accept_entry_count.new.entries r
    (words c.args.line.now) _ c.in-EntryCount.is c.accept_entry_count.ensures.ok c.accept_entry_count.ensures.told

pub returns-in-EntryCount-clause-space : goal.returns-in-EntryCount-clause-space
returns-in-EntryCount-clause-space g c n =
    same-or-less g.N.Entries.has_room c.args.entries.now c.accept_entry_count.new.entries n c.accept_entry_count.ensures.space

pub returns-in-EntryLine-clause-ok : goal.returns-in-EntryLine-clause-ok
returns-in-EntryLine-clause-ok g c r =
    taken-entry g.N.Entries.tells c.args.due c.in-EntryLine.form c.in-EntryLine.left c.args.self.now c.args.entries.now c.accept_entry.new.entries r
    (words c.args.line.now) _ c.in-EntryLine.is (c.accept_entry.ensures.ok r)

pub returns-in-EndLine-clause-ok : goal.returns-in-EndLine-clause-ok
returns-in-EndLine-clause-ok g c r =
    taken-end g.N.Entries.tells c.args.due c.in-EndLine.form c.args.self.now c.args.entries.now r (words c.args.line.now) _ c.in-EndLine.is
    c.end_due.ensures.ok

pub returns-in-Nothing-clause-ok : goal.returns-in-Nothing-clause-ok
returns-in-Nothing-clause-ok g c r h = tt

pub returns-in-Header-clause-space : goal.returns-in-Header-clause-space
returns-in-Header-clause-space g c n = same-room g.N.Entries.has_room c.args.entries.now n

pub returns-in-ProtocolLine-clause-space : goal.returns-in-ProtocolLine-clause-space
returns-in-ProtocolLine-clause-space g c n = same-room g.N.Entries.has_room c.args.entries.now n

pub returns-in-ShapeLine-clause-space : goal.returns-in-ShapeLine-clause-space
returns-in-ShapeLine-clause-space g c n = same-room g.N.Entries.has_room c.args.entries.now n

pub returns-in-SeatsLine-clause-space : goal.returns-in-SeatsLine-clause-space
returns-in-SeatsLine-clause-space g c n = same-room g.N.Entries.has_room c.args.entries.now n

pub returns-in-OpeningLine-clause-space : goal.returns-in-OpeningLine-clause-space
returns-in-OpeningLine-clause-space g c n = same-room g.N.Entries.has_room c.args.entries.now n

pub returns-in-CellCount-clause-space : goal.returns-in-CellCount-clause-space
returns-in-CellCount-clause-space g c n = same-room g.N.Entries.has_room c.args.entries.now n

pub returns-in-CellLine-clause-space : goal.returns-in-CellLine-clause-space
returns-in-CellLine-clause-space g c n = same-room g.N.Entries.has_room c.args.entries.now n

pub returns-in-EndLine-clause-space : goal.returns-in-EndLine-clause-space
returns-in-EndLine-clause-space g c n = same-room g.N.Entries.has_room c.args.entries.now n

pub returns-in-Nothing-clause-space : goal.returns-in-Nothing-clause-space
returns-in-Nothing-clause-space g c n = same-room g.N.Entries.has_room c.args.entries.now n

pub returns-in-Header-clause-err : goal.returns-in-Header-clause-err
returns-in-Header-clause-err g c = grind (arith, common_steps)

pub returns-in-Header-clause-room : goal.returns-in-Header-clause-room
returns-in-Header-clause-room g c = grind (arith, common_steps)

pub returns-in-ProtocolLine-clause-err : goal.returns-in-ProtocolLine-clause-err
returns-in-ProtocolLine-clause-err g c = grind (arith, common_steps)

pub returns-in-ProtocolLine-clause-room : goal.returns-in-ProtocolLine-clause-room
returns-in-ProtocolLine-clause-room g c = grind (arith, common_steps)

pub returns-in-ShapeLine-clause-err : goal.returns-in-ShapeLine-clause-err
returns-in-ShapeLine-clause-err g c = grind (arith, common_steps)

pub returns-in-ShapeLine-clause-room : goal.returns-in-ShapeLine-clause-room
returns-in-ShapeLine-clause-room g c = grind (arith, common_steps)

pub returns-in-SeatsLine-clause-err : goal.returns-in-SeatsLine-clause-err
returns-in-SeatsLine-clause-err g c = grind (arith, common_steps)

pub returns-in-SeatsLine-clause-room : goal.returns-in-SeatsLine-clause-room
returns-in-SeatsLine-clause-room g c = grind (arith, common_steps)

pub returns-in-OpeningLine-clause-err : goal.returns-in-OpeningLine-clause-err
returns-in-OpeningLine-clause-err g c = grind (arith, common_steps)

pub returns-in-OpeningLine-clause-room : goal.returns-in-OpeningLine-clause-room
returns-in-OpeningLine-clause-room g c = grind (arith, common_steps)

pub returns-in-CellCount-clause-err : goal.returns-in-CellCount-clause-err
returns-in-CellCount-clause-err g c = grind (arith, common_steps)

pub returns-in-CellCount-clause-room : goal.returns-in-CellCount-clause-room
returns-in-CellCount-clause-room g c = grind (arith, common_steps)

pub returns-in-CellLine-clause-err : goal.returns-in-CellLine-clause-err
returns-in-CellLine-clause-err g c = grind (arith, common_steps)

pub returns-in-CellLine-clause-room : goal.returns-in-CellLine-clause-room
returns-in-CellLine-clause-room g c = grind (arith, common_steps)

pub returns-in-EntryCount-clause-err : goal.returns-in-EntryCount-clause-err
returns-in-EntryCount-clause-err g c = grind (arith, common_steps)

pub returns-in-EntryCount-clause-room : goal.returns-in-EntryCount-clause-room
returns-in-EntryCount-clause-room g c = grind (arith, common_steps)

pub returns-in-EntryLine-clause-err : goal.returns-in-EntryLine-clause-err
returns-in-EntryLine-clause-err g c = grind (arith, common_steps)

pub returns-in-EntryLine-clause-room : goal.returns-in-EntryLine-clause-room
returns-in-EntryLine-clause-room g c = grind (arith, common_steps)

pub returns-in-EndLine-clause-err : goal.returns-in-EndLine-clause-err
returns-in-EndLine-clause-err g c = grind (arith, common_steps)

pub returns-in-EndLine-clause-room : goal.returns-in-EndLine-clause-room
returns-in-EndLine-clause-room g c = grind (arith, common_steps)

pub returns-in-Nothing-clause-err : goal.returns-in-Nothing-clause-err
returns-in-Nothing-clause-err g c = grind (arith, common_steps)

pub returns-in-Nothing-clause-room : goal.returns-in-Nothing-clause-room
returns-in-Nothing-clause-room g c = grind (arith, common_steps)
