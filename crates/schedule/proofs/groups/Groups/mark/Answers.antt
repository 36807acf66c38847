use Rattle.std.proofs.Common.{◌==◌, ◌∙◌, ap, get_or, slice_index, sym, arith}
use Rattle.std.specs.Int.{bit_at}
use Rattle.schedule.specs.declared.groups.Row.TheVariants.{Empty}
use Rattle.schedule.proofs.Grouping.{at-places, below-length, not-held, put-marks}
use Rattle.schedule.proofs.groups.Groups.mark.Goals as goal

pub returns-in-One : goal.returns-in-One
returns-in-One c =
    let g = c.args.self.now in
    let asks = c.args.asks.now in
    put-marks c.args.held c.args.core c.args.block asks c.args.unheld.now c.put.new.self _ _ c.requires.long (c.put.ensures.long ∙ c.requires.long)
    c.put.ensures.each
    (λ k ask e. ap (λ r. bit_at (slice_index g.places r) k == 1) c.row_of-row.ensures
    ∙ at-places g.rows g.places asks c.args.core c.in-One.of c.args.block c.in-One.about
    (ap (λ r. get_or g.rows r Empty) (sym c.row_of-row.ensures) ∙ c.in-One.is) c.if-of-core.true c.if-about-block.true c.requires.cover.rows
    c.requires.cover.stands k ask e)
    (λ k ask e. not-held c.args.held c.held.result k ask c.held.type_inv (let low = below-length asks k ask e in omega (arith, low, c.requires.cover.few))
    (c.held.ensures asks c.requires.cover.kinds k ask e))
