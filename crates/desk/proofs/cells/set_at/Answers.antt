use Rattle.std.proofs.Common.{◌<◌, ap, sym, ◌∙◌, arith, length, map, None, slice_set}
use Rattle.std.proofs.lemmas.Grind.{common_steps}
use Rattle.once_cell.specs.Once.{cell_name}
use Rattle.std.proofs.lemmas.List.{map-set, set-set}
use Rattle.desk.proofs.Lists.{cells_meet, seen_at, map_set_same, as_long, ok_of}
use Rattle.desk.proofs.cells.set_at.Goals as goal

pub set_as-requires : goal.set_as-requires
set_as-requires g c =
    ap (λ n. n.cell) c.again-note.ensures.1
    ∙ cells_meet (λ n. n.cell) cell_name c.args.notes.now.items c.args.cells.now.items c.args.place c.index_mut.result.now c.index.result.now
    c.requires.same c.requires.within c.index_mut.ensures.value c.index.ensures

pub returns-clause-cells : goal.returns-clause-cells
returns-clause-cells g c =
    let long = as_long (λ n. n.cell) cell_name c.args.notes.now.items c.args.cells.now.items c.requires.same in
    ap (λ l. map (λ n. n.cell) l) (set-set c.args.notes.now.items c.args.place c.again-note.new.self c.set_as.new.note)
    ∙ map_set_same (λ n. n.cell) c.args.notes.now.items c.args.place c.set_as.new.note c.index_mut.result.now (omega (arith, long, c.requires.within))
    c.index_mut.ensures.value
    (c.set_as.ensures.cell ∙ ap (λ n. n.cell) c.again-note.ensures.1)

pub returns-clause-set : goal.returns-clause-set
returns-clause-set g c = λ _.
    let done = (ok_of _ _ c.set_as.result (sym c.is_err.ensures.value ∙ c.if-is_err.false) c.set_as.ensures.value).1 in
    ap (λ l. map (λ n. n.known) l) (set-set c.args.notes.now.items c.args.place c.again-note.new.self c.set_as.new.note)
    ∙ (map-set (λ n. n.known) c.args.notes.now.items c.args.place c.set_as.new.note ∙ ap
    (λ y. slice_set (map (λ n. n.known) c.args.notes.now.items) c.args.place y) done.0)

pub returns-clause-first : goal.returns-clause-first
returns-clause-first g c = λ _.
    let long = as_long (λ n. n.cell) cell_name c.args.notes.now.items c.args.cells.now.items c.requires.same in
    let within : c.args.place < length c.args.notes.now.items = omega (arith, long, c.requires.within) in
    let was = seen_at (λ n. n.known) c.args.notes.now.items c.args.place c.index_mut.result.now None within c.index_mut.ensures.value in
    let done = (ok_of _ _ c.set_as.result (sym c.is_err.ensures.value ∙ c.if-is_err.false) c.set_as.ensures.value).1 in was ∙
    (sym (ap (λ n. n.known) c.again-note.ensures.1) ∙ done.1)

pub returns-then-is_err-clause-cells : goal.returns-then-is_err-clause-cells
returns-then-is_err-clause-cells g c = grind (arith, common_steps)

pub returns-then-is_err-clause-set : goal.returns-then-is_err-clause-set
returns-then-is_err-clause-set g c = grind (arith, common_steps)

pub returns-then-is_err-clause-first : goal.returns-then-is_err-clause-first
returns-then-is_err-clause-first g c = grind (arith, common_steps)

pub returns-then-is_err-clause-not_set : goal.returns-then-is_err-clause-not_set
returns-then-is_err-clause-not_set g c = grind (arith, common_steps)

pub returns-clause-not_set : goal.returns-clause-not_set
returns-clause-not_set g c = grind (arith, common_steps)
