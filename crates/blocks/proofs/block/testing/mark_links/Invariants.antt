use Rattle.std.proofs.Common.{◌≡◌, ◌-◌}
use Rattle.blocks.specs.Marking.{links_stall}
use Rattle.blocks.specs.inner.Lined.{lines_of}
use Rattle.network.proofs.Written.{written}
use Rattle.blocks.proofs.block.testing.mark_links.Given as goal

abbrev pub invariant-loop-from : goal.invariant-loop-from
invariant-loop-from l = record {
  traffic : l.wires.traffic ≡ l.fn.wires.traffic;
  room : l.wires.room ≡ l.fn.wires.room;
  marks : l.wires.marks ≡ record l.fn.wires.marks {
    links = written (links_stall l.controllers.cache (lines_of l.lines.items) 0 l.fn.wires.traffic.links) l.fn.wires.marks.links l.from;
  };
}

abbrev pub decreases-loop-from : goal.decreases-loop-from
decreases-loop-from l = l.links - l.from
