use Rattle.std.proofs.Common.{◌∙◌, arith, ap, length}
use Rattle.network.specs.Traffic.{Traffic}
use Rattle.network.proofs.Listed.{AllBelow-get_or, room-more}
use Rattle.network.proofs.wires.Wires.reserve.Goals as goal

pub reserve_link-requires : goal.reserve_link-requires
reserve_link-requires c =
    rw (ap (λ (w : Traffic). length w.links) c.loop-link.invariant.traffic)
    (AllBelow-get_or _ c.args.links.now c.loop-link.link-index _ c.requires (omega arith))

pub loop-link-preserved : goal.loop-link-preserved
loop-link-preserved c = record {
  traffic = c.reserve_link.ensures.traffic ∙ c.loop-link.invariant.traffic;
  marks = c.reserve_link.ensures.marks ∙ c.loop-link.invariant.marks;
  requests = omega (arith, c.reserve_link.ensures.room.requests, c.loop-link.invariant.requests);
  responses = omega (arith, c.reserve_link.ensures.room.responses, c.loop-link.invariant.responses);
  room = record {
    requests = omega (arith, c.reserve_link.ensures.room.requests, c.loop-link.invariant.room.requests);
    links = λ k. omega (arith, c.reserve_link.ensures.room.links k, c.loop-link.invariant.room.links k);
    responses = omega (arith, c.reserve_link.ensures.room.responses, c.loop-link.invariant.room.responses);
  };
  links =
      room-more c.args.links.now c.loop-link.link-index (record { 0 = 0 }) c.loop-link.self.room c.reserve_link.new.self.room
      (omega arith) c.loop-link.invariant.links c.reserve_link.ensures.room
      (omega (arith, c.times_listed.ensures.count, c.in_ok-reserve_link.ensures.ok));
}
