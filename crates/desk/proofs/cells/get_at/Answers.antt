use Rattle.std.proofs.Common.{◌<◌, ap, sym, ◌∙◌, arith, length, map, None, subst, slice_set}
use Rattle.once_cell.specs.Once.{cell_name, Agrees}
use Rattle.std.proofs.lemmas.List.{map-set}
use Rattle.desk.proofs.Lists.{cells_meet, seen_at, map_set_same, as_long, match_map}
use Rattle.desk.proofs.cells.get_at.Goals as goal

pub get_as-requires : goal.get_as-requires
get_as-requires g c =
    cells_meet (λ n. n.cell) cell_name c.args.notes.now.items c.args.cells.now.items c.args.place c.index_mut.result.now c.index.result.now
    c.requires.same c.requires.within c.index_mut.ensures.value c.index.ensures

pub returns-clause-cells : goal.returns-clause-cells
returns-clause-cells g c =
    let long = as_long (λ n. n.cell) cell_name c.args.notes.now.items c.args.cells.now.items c.requires.same in
    map_set_same (λ n. n.cell) c.args.notes.now.items c.args.place c.get_as.new.note c.index_mut.result.now (omega (arith, long, c.requires.within))
    c.index_mut.ensures.value c.get_as.ensures.cell

pub returns-clause-value : goal.returns-clause-value
returns-clause-value g c =
    let long = as_long (λ n. n.cell) cell_name c.args.notes.now.items c.args.cells.now.items c.requires.same in
    let within : c.args.place < length c.args.notes.now.items = omega (arith, long, c.requires.within) in
    let was = seen_at (λ n. n.known) c.args.notes.now.items c.args.place c.index_mut.result.now None within c.index_mut.ensures.value in
    match_map c.get_as.result
    (λ p. (
      was ∙ p.0,
      map_set_same (λ n. n.known) c.args.notes.now.items c.args.place c.get_as.new.note c.index_mut.result.now within
          c.index_mut.ensures.value (p.1 ∙ sym p.0),
    ))
    (λ r q. (
      map-set (λ n. n.known) c.args.notes.now.items c.args.place c.get_as.new.note ∙ ap
          (λ y. slice_set (map (λ n. n.known) c.args.notes.now.items) c.args.place y) q.0,
      subst (λ o. Agrees o r.now) (sym was) q.1,
    ))
    c.get_as.ensures.value
