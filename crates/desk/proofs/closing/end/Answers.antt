use Rattle.std.proofs.lemmas.Grind.{common_steps}
use Rattle.std.proofs.Common.{◌≡◌, ap, sym, ◌∙◌, subst, arith, None, length, get_or, rules}
use Rattle.std.proofs.lemmas.List.Elements.{All-same, All-weaker}
use Rattle.once_cell.specs.Once.{cell_name}
use Rattle.desk.specs.Seats.{DeskSeatView, numbers_of}
use Rattle.desk.specs.Closing.{AreClaimed, IsPlace}
use Rattle.desk.proofs.Lists.{long_as, restored, item_at, put_back_same}
use Rattle.desk.proofs.Collecting.{place_more, place_all}
use Rattle.desk.proofs.Filled.{batched, filled, placed}
use Rattle.desk.proofs.closing.end.Goals as goal

pub loop-seat-preserved : goal.loop-seat-preserved
loop-seat-preserved g c =
    let i = c.loop-seat.invariant in
    let cells = long_as cell_name c.desk.inside.cells.items c.args.desk.id.cells (ap (λ d. d.id.cells) c.desk.view_is) in
    let s : DeskSeatView = get_or c.loop-seat.seat-items c.loop-seat.seat-index c.seat-item.result in
    let at = item_at c.loop-seat.seat-items c.deref_mut-seat-items.result.now c.loop-seat.seat-index c.seat-item.result i.seats (search rules) in
    record {
      seats = put_back_same c.loop-seat.seat-items c.deref_mut-seat-items.result.now c.loop-seat.seat-index c.seat-item.result c.collect.new.seat
          i.seats c.collect.ensures.seat;
      long = c.collect.ensures.long ∙ i.long;
      places = λ k lt. place_more g.D.Planned.plan c.deref_mut-seat-items.result.now c.loop-seat.seat-index k s
          (get_or c.loop-seat.places.items k None) (get_or c.collect.new.places.items k None) at (i.places k lt)
          (c.collect.ensures.places k (omega (arith, lt, cells)));
    }

pub settle-requires-clause-these : goal.settle-requires-clause-these
settle-requires-clause-these g c =
    let d = c.desk.inside in
    let cells = long_as cell_name d.cells.items c.args.desk.id.cells (ap (λ x. x.id.cells) c.desk.view_is) in
    let back = restored c.loop-seat.seat-items c.args.seats.items c.args.seats.len
    (c.loop-seat.invariant.seats ∙ c.deref_mut-seat-items.ensures.value) (omega (arith, c.args.seats.ok.0)) in
    All-same (λ (s : DeskSeatView). (s.desk.table ≡ d.word.shared.table_id) × (length s.desk.cells ≡ d.word.shared.key.count)) _ c.args.seats.items back
    (All-weaker (λ (s : DeskSeatView). s.desk ≡ c.args.desk.id) (λ (s : DeskSeatView). (s.desk.table ≡ d.word.shared.table_id) ×
    (length s.desk.cells ≡ d.word.shared.key.count))
    (λ s e. (
      ap (λ x. x.table) e ∙ sym (ap (λ x. x.id.table) c.desk.view_is),
      ap (λ x. length x.cells) e ∙ (sym cells ∙ sym (ap (λ k. k.count) c.desk.invariant.key_is)),
    ))
    c.args.seats.items c.requires.seats)

pub returns : goal.returns
returns g c =
    let i = c.loop-seat.invariant in
    let plan = g.D.Planned.plan in
    let n = numbers_of c.args.desk.id in
    let row = c.args.seats.items in
    let list = c.loop-seat.places.items in
    let claims : AreClaimed n row = grind (arith, common_steps) in
    let stand = placed plan n row list i.long (λ k lt.
    subst (λ ss. IsPlace plan ss k (get_or list k None)) c.deref_mut-seat-items.ensures.value
    (place_all plan c.deref_mut-seat-items.result.now c.loop-seat.seat-index k (get_or list k None)
    (let far = ap (λ l. length l) i.seats in omega (arith, c.loop-seat-test.false, far)) (i.places k lt))) in
    record {
      there = c.requires.enough;
      claims = claims;
      stand = stand;
      filled = filled plan n row list claims stand;
      batch = batched plan n row list stand;
    }

pub deref_mut-seat-items-requires : goal.deref_mut-seat-items-requires
deref_mut-seat-items-requires g c κs = search rules

pub loop-seat-init : goal.loop-seat-init
loop-seat-init g c = grind (arith, common_steps)

pub offset_bounds-seat-items-seat-index : goal.offset_bounds-seat-items-seat-index
offset_bounds-seat-items-seat-index g c = grind (arith, common_steps)

pub bounds-seat-items-seat-index : goal.bounds-seat-items-seat-index
bounds-seat-items-seat-index g c = grind (arith, common_steps)

pub collect-requires-clause-same : goal.collect-requires-clause-same
collect-requires-clause-same g c = grind (arith, common_steps)

pub collect-requires-clause-long : goal.collect-requires-clause-long
collect-requires-clause-long g c = grind (arith, common_steps)

pub loop-seat-smaller : goal.loop-seat-smaller
loop-seat-smaller g c = grind (arith, common_steps)

pub settle-requires-clause-one : goal.settle-requires-clause-one
settle-requires-clause-one g c = grind (arith, common_steps)

pub settle-requires-clause-enough : goal.settle-requires-clause-enough
settle-requires-clause-enough g c = grind (arith, common_steps)

pub drop-desk-inside-requires : goal.drop-desk-inside-requires
drop-desk-inside-requires g c κs = search rules

pub drop-desk-inside-requires-2 : goal.drop-desk-inside-requires-2
drop-desk-inside-requires-2 g c κs = search rules
