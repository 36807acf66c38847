use Rattle.std.proofs.Common.{◌≡◌, ap, ◌∙◌, sym, subst, arith, length, map, replicate, None, false}
use Rattle.std.proofs.lemmas.List.{length-map}
use Rattle.once_cell.specs.Once.{cell_name}
use Rattle.desk.specs.declared.seats.NumberStage.TheVariants.{Free}
use Rattle.desk.specs.inner.Keeping.{IsDeskSeat, is_claimed, is_posted}
use Rattle.desk.proofs.Lists.{as_long}
use Rattle.desk.proofs.Seating.{new_kept, new_seen}
use Rattle.desk.proofs.desks.make_seat.Goals as goal

pub invariant_of-result : goal.invariant_of-result
invariant_of-result g c =
    let notes = c.in_ok-notes.notes.items in
    let stages = c.in_ok-stages.stages.items in
    let cells = c.args.cells.now in
    let count : c.len.result ≡ length cells.items = omega (arith, c.len.ensures, cells.ok.0) in
    let long : length notes ≡ length cells.items = as_long (λ n. n.cell) cell_name notes cells.items c.in_ok-notes.ensures.cells in
    subst (λ n. IsDeskSeat c.args.token.me n false (map is_claimed stages) (map is_posted stages) (map (λ n. n.known) notes)) (sym long)
    (new_kept c.args.token.me (length cells.items) stages (map (λ n. n.known) notes) c.requires
    (c.in_ok-stages.ensures ∙ ap (λ n. replicate n Free) count) c.in_ok-notes.ensures.known)

pub returns : goal.returns
returns g c =
    let notes = c.in_ok-notes.notes.items in
    let cells = c.args.cells.now in
    let long : length (map cell_name cells.items) ≡ length cells.items = length-map cells.items cell_name in
    let count : c.len.result ≡ length (map cell_name cells.items) = omega (arith, c.len.ensures, cells.ok.0, long) in
    new_seen c.args.token.table_id (map cell_name cells.items) (map (λ n. n.cell) notes) c.args.token.me.0.drawn c.in_ok-stages.stages.items
    (map (λ n. n.known) notes) (ap (λ m. m.0.drawn) c.requires)
    c.in_ok-notes.ensures.cells
    (c.in_ok-stages.ensures ∙ ap (λ n. replicate n Free) count)
    (c.in_ok-notes.ensures.known ∙ ap (λ n. replicate n None) (sym long))
