use Rattle.std.proofs.Common.{◌<◌, None, Some, ap, arith, length, map, subst, sym}
use Rattle.std.proofs.lemmas.Grind.{common_steps}
use Rattle.network.specs.inner.Links.{Linked, on_link}
use Rattle.network.proofs.Linked.{below_messages, linked-same, parts-set_same, room-kept, room-same, room-set}
use Rattle.network.proofs.links.Links.reserve.Goals.{in-Ok, in-Err}
use Rattle.network.proofs.links.Links.reserve.Goals as goal

pub invariant_of-self : goal.invariant_of-self
invariant_of-self c =
    linked-same _ _ _ _ _
    (parts-set_same on_link c.self.inside.links.items c.args.cache.0 (Some c.in-Some.link.now) c.reserve.new.self c.in-Some.ensures.item
    c.reserve.ensures.kept.sent) c.self.invariant

pub returns-in_err-reserve : goal.returns-in_err-reserve
returns-in_err-reserve c =
    let items = c.self.inside.links.items in
    let i = c.args.cache.0 in
    let below = below_messages _ _ (subst (λ (l : Linked). i < length l.sent) (sym c.self.view_is) c.requires) in
    record {
      kept =
          rw (← c.self.view_is)
          (record {
            sent = parts-set_same on_link items i (Some c.in-Some.link.now) c.reserve.new.self c.in-Some.ensures.item c.reserve.ensures.kept.sent;
            room = room-kept items i (Some c.in-Some.link.now) c.reserve.new.self below c.in-Some.ensures.item c.reserve.ensures.kept.room;
          });
      ok = grind (arith, common_steps);
      succeeds = grind (arith, common_steps);
    }

pub invariant_of-self-in-Some : goal.invariant_of-self-in-Some
invariant_of-self-in-Some c =
    linked-same _ _ _ _ _
    (parts-set_same on_link c.self.inside.links.items c.args.cache.0 (Some c.in-Some.link.now) c.reserve.new.self c.in-Some.ensures.item
    c.reserve.ensures.kept.sent) c.self.invariant

pub returns-in-Some : goal.returns-in-Some
returns-in-Some c =
    let items = c.self.inside.links.items in
    let i = c.args.cache.0 in
    let below = below_messages _ _ (subst (λ (l : Linked). i < length l.sent) (sym c.self.view_is) c.requires) in
    record {
      kept =
          rw (← c.self.view_is)
          (record {
            sent = parts-set_same on_link items i (Some c.in-Some.link.now) c.reserve.new.self c.in-Some.ensures.item c.reserve.ensures.kept.sent;
            room = room-kept items i (Some c.in-Some.link.now) c.reserve.new.self below c.in-Some.ensures.item c.reserve.ensures.kept.room;
          });
      ok = rw (room-set items i c.reserve.new.self below) c.in_ok-reserve.ensures.ok;
      succeeds = grind (arith, common_steps);
    }

pub invariant_of-self-2 : goal.invariant_of-self-2
invariant_of-self-2 c =
    linked-same _ _ _ _ _
    (elim c.match-put.branch [
      | in-Ok w ↦ rw w.in-Ok.ensures.ok (parts-set_same on_link c.self.inside.links.items c.args.cache.0 None c.in_ok-link.link
          c.in_default.ensures.item c.in_ok-link.ensures.sent)
      | in-Err w ↦ ap (map on_link) w.in-Err.ensures.err
    ]) c.self.invariant

pub returns : goal.returns
returns c =
    let items = c.self.inside.links.items in
    let i = c.args.cache.0 in
    let below = below_messages _ _ (subst (λ (l : Linked). i < length l.sent) (sym c.self.view_is) c.requires) in
    record {
      kept =
          rw (← c.self.view_is)
          (elim c.match-put.branch [
            | in-Ok w ↦
                rw w.in-Ok.ensures.ok
                (record {
                  sent = parts-set_same on_link items i None c.in_ok-link.link c.in_default.ensures.item c.in_ok-link.ensures.sent;
                  room = room-kept items i None c.in_ok-link.link below c.in_default.ensures.item (omega arith);
                })
            | in-Err w ↦ record { sent = ap (map on_link) w.in-Err.ensures.err; room = room-same items c.put.new.self.items w.in-Err.ensures.err }
          ]);
      ok =
          elim c.match-put.branch [
            | in-Ok w ↦ rw (w.result-is, w.in-Ok.ensures.ok, room-set items i c.in_ok-link.link below) c.in_ok-link.ensures.room
            | in-Err w ↦ rw w.result-is tt
          ];
      succeeds = grind (arith, common_steps);
    }
