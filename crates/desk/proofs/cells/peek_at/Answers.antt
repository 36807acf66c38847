use Rattle.std.proofs.Common.{◌<◌, ap, sym, ◌∙◌, arith, length, None, subst}
use Rattle.once_cell.specs.Once.{cell_name, Agrees}
use Rattle.desk.proofs.Lists.{cells_meet, seen_at, map_set_same, as_long, match_map}
use Rattle.desk.proofs.cells.peek_at.Goals as goal

pub get_as-requires : goal.get_as-requires
get_as-requires g c =
    ap (λ n. n.cell) c.again-note.ensures.1
    ∙ cells_meet (λ n. n.cell) cell_name c.args.notes.now.items c.args.cells.now.items c.args.place c.index_mut.result.now c.index.result.now
    c.requires.same c.requires.within c.index_mut.ensures.value c.index.ensures

pub returns-clause-notes : goal.returns-clause-notes
returns-clause-notes g c =
    let long = as_long (λ n. n.cell) cell_name c.args.notes.now.items c.args.cells.now.items c.requires.same in
    let within : c.args.place < length c.args.notes.now.items = omega (arith, long, c.requires.within) in (
      map_set_same (λ n. n.cell) c.args.notes.now.items c.args.place c.again-note.new.self c.index_mut.result.now within c.index_mut.ensures.value
          (ap (λ n. n.cell) c.again-note.ensures.0),
      map_set_same (λ n. n.known) c.args.notes.now.items c.args.place c.again-note.new.self c.index_mut.result.now within c.index_mut.ensures.value
          (ap (λ n. n.known) c.again-note.ensures.0),
    )

pub returns-clause-value : goal.returns-clause-value
returns-clause-value g c =
    let long = as_long (λ n. n.cell) cell_name c.args.notes.now.items c.args.cells.now.items c.requires.same in
    let within : c.args.place < length c.args.notes.now.items = omega (arith, long, c.requires.within) in
    let was = seen_at (λ n. n.known) c.args.notes.now.items c.args.place c.index_mut.result.now None within c.index_mut.ensures.value in
    let again = ap (λ n. n.known) c.again-note.ensures.1 in
    match_map c.get_as.result
    (λ p. was ∙ (sym again ∙ p.0))
    (λ r q. subst (λ o. Agrees o r.now) (again ∙ sym was) q.1)
    c.get_as.ensures.value
