use Rattle.std.proofs.Common.{◌≡◌, ◌∙◌, ap, arith, slice_set}
use Rattle.network.specs.Room.{Wiring}
use Rattle.network.specs.Traffic.{IsNextWaiting, link}
use Rattle.blocks.specs.inner.Lined.{lines_of}
use Rattle.blocks.specs.Marking.{link_stalls}
use Rattle.blocks.proofs.TestedMarks.{links-end, links-none, links-step}
use Rattle.blocks.proofs.block.testing.mark_links.Goals as goal

pub returns-in_default-clause-marks : goal.returns-in_default-clause-marks
returns-in_default-clause-marks c =
    links-none c.args.controllers.now.cache (lines_of c.args.lines.now.items) c.args.wires.now.traffic c.args.wires.now.marks
    c.link_count-links.ensures.as_many c.link_count-links.ensures.each c.loop-from.wires.marks c.loop-from.from
    (rw c.loop-from.invariant.traffic at c.in_default.ensures.none) c.loop-from.invariant.marks

pub loop-from-preserved : goal.loop-from-preserved
loop-from-preserved c =
    let old = c.args.wires.now in
    let cache = c.in-Some.cache.0 in
    let next : IsNextWaiting old.traffic c.loop-from.from cache = rw c.loop-from.invariant.traffic at c.in-Some.ensures.some in
    let marks : c.mark_link.new.wires.marks ≡ record c.loop-from.wires.marks {
      links = slice_set c.loop-from.wires.marks.links cache (link_stalls c.args.controllers.now.cache (lines_of c.args.lines.now.items) cache
          (link c.loop-from.wires.traffic cache));
    } = ap (λ (w : Wiring). w.marks) c.mark_link.ensures in
    record {
      traffic = ap (λ (w : Wiring). w.traffic) c.mark_link.ensures ∙ c.loop-from.invariant.traffic;
      room = ap (λ (w : Wiring). w.room) c.mark_link.ensures ∙ c.loop-from.invariant.room;
      marks =
          links-step c.args.controllers.now.cache (lines_of c.args.lines.now.items) old.traffic old.marks c.link_count-links.ensures.as_many
          c.link_count-links.ensures.each c.loop-from.wires.marks c.mark_link.new.wires.marks c.loop-from.from cache next c.loop-from.invariant.marks
          (rw c.loop-from.invariant.traffic at marks);
    }

pub returns-clause-marks : goal.returns-clause-marks
returns-clause-marks c =
    links-end c.args.controllers.now.cache (lines_of c.args.lines.now.items) c.args.wires.now.traffic c.args.wires.now.marks
    c.link_count-links.ensures.as_many c.link_count-links.ensures.each c.loop-from.wires.marks c.loop-from.from
    (omega (arith, c.link_count-links.ensures.count, c.loop-from-test.false)) c.loop-from.invariant.marks
