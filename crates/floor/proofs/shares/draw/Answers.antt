use Rattle.std.proofs.Common.{◌∙◌, refl, sym}
use Rattle.std.proofs.lemmas.List.{nil_from_length}
use Rattle.std.proofs.lemmas.Option.{slice_get_read}
use Rattle.floor.specs.Belonging.{ready_for}
use Rattle.floor.proofs.Sharing.{ready-count}
use Rattle.floor.proofs.Tallying.{drawn_at, get_some, get_none}
use Rattle.floor.proofs.shares.draw.Goals as goal

pub returns-then-total-eq0-clause-none : goal.returns-then-total-eq0-clause-none
returns-then-total-eq0-clause-none c =
    let world = c.args.world.now in
    let at = slice_get_read c.args.shares.now c.args.seats c.args.seat c.index-shares-seat.result (sym c.requires.shared.count) c.requires.within
    c.index-shares-seat.is in
    nil_from_length (ready_for c.args.seats world.shape.caches world.tables world.state c.args.seat)
    (ready-count c.args.seats world.shape.caches world.tables world.state c.args.seat c.index-shares-seat.result
    (sym c.broken.ensures ∙ c.if-broken.false) (c.requires.shared.each c.args.seat c.index-shares-seat.result at)
    ∙ sym c.total-total.ensures.total ∙ c.if-total-eq0.true)

pub returns-clause-none : goal.returns-clause-none
returns-clause-none c =
    let world = c.args.world.now in
    let at = slice_get_read c.args.shares.now c.args.seats c.args.seat c.index-shares-seat.result (sym c.requires.shared.count) c.requires.within
    c.index-shares-seat.is in
    let drawn = drawn_at c.args.seats world c.args.seat c.args.word c.total-total.result c.from.result c.args.shares.now c.index-shares-seat.result
    c.in-Some.spot c.nth_of.result (sym c.broken.ensures ∙ c.if-broken.false) c.requires.shared at c.total-total.ensures.total c.if-total-eq0.false
    c.from.ensures c.in-Some.ensures.some c.nth_of.ensures in
    get_none (ready_for c.args.seats world.shape.caches world.tables world.state c.args.seat) _ _ c.nth_of.result refl drawn.0 drawn.1

pub returns-clause-some : goal.returns-clause-some
returns-clause-some c =
    let world = c.args.world.now in
    let at = slice_get_read c.args.shares.now c.args.seats c.args.seat c.index-shares-seat.result (sym c.requires.shared.count) c.requires.within
    c.index-shares-seat.is in
    let drawn = drawn_at c.args.seats world c.args.seat c.args.word c.total-total.result c.from.result c.args.shares.now c.index-shares-seat.result
    c.in-Some.spot c.nth_of.result (sym c.broken.ensures ∙ c.if-broken.false) c.requires.shared at c.total-total.ensures.total c.if-total-eq0.false
    c.from.ensures c.in-Some.ensures.some c.nth_of.ensures in
    get_some (ready_for c.args.seats world.shape.caches world.tables world.state c.args.seat) _ _ c.nth_of.result refl drawn.0 drawn.1
