use Rattle.std.proofs.Common.{◌≡◌, ℕ, ap, append_assoc, arith, length, Option}
use Rattle.std.proofs.lemmas.List.{length-append}
use Rattle.base.specs.declared.ids.CacheId.{CacheId}
use Rattle.control.specs.inner.HomeCounting.{links_below, links_to_any}
use Rattle.control.proofs.HomeLinks.{below-more, below-within, length-links_of}
use Rattle.control.proofs.home_links.fill.Goals as goal

pub loop-number-init : goal.loop-number-init
loop-number-init c = record { listed = c.requires.empty; room = c.requires.room }

pub list_times-requires : goal.list_times-requires
list_times-requires c =
    omega (
      arith,
      c.loop-number.links.ok.0,
      ap length c.loop-number.invariant.listed,
      c.forwards_to.ensures.count,
      below-within c.loop-number.number (length c.args.home.now.sharers) c.args.from c.args.actions.now c.args.home.now (omega arith),
      length-links_of c.args.from c.args.actions.now c.args.home.now,
    )

pub loop-number-preserved : goal.loop-number-preserved
loop-number-preserved c = record {
  listed =
      let more = below-more c.loop-number.number c.args.from c.args.actions.now c.args.home.now in
      cc (c.list_times.ensures.items, c.loop-number.invariant.listed, c.forwards_to.ensures.count, more);
  room = omega (arith, c.list_times.ensures.capacity, c.loop-number.invariant.room);
}

pub list_any-requires : goal.list_any-requires
list_any-requires c =
    let all : c.loop-number.number ≡ length c.args.home.now.sharers = omega arith in
    record {
      few = c.requires.few;
      room =
          omega (
            arith,
            c.loop-number.links.ok.0,
            ap length c.loop-number.invariant.listed,
            ap (λ (n : ℕ). length (links_below n c.args.from c.args.actions.now c.args.home.now)) all,
            ap (λ (o : Option CacheId). length (links_to_any o c.args.from c.args.actions.now c.args.home.now)) c.unflagged_owner.ensures,
            length-links_of c.args.from c.args.actions.now c.args.home.now,
            c.loop-number.invariant.room,
          );
    }

pub list_any-requires-2 : goal.list_any-requires-2
list_any-requires-2 c =
    let all : c.loop-number.number ≡ length c.args.home.now.sharers = omega arith in
    let count = λ (o : Option CacheId). length (links_to_any o c.args.from c.args.actions.now c.args.home.now) in
    record {
      few = c.requires.few;
      room =
          omega (
            arith,
            c.list_any.new.links.ok.0,
            ap length c.list_any.ensures.items,
            length-append c.loop-number.links.items (links_to_any c.unflagged_owner.result c.args.from c.args.actions.now c.args.home.now),
            ap length c.loop-number.invariant.listed,
            ap (λ (n : ℕ). length (links_below n c.args.from c.args.actions.now c.args.home.now)) all,
            ap count c.unflagged_owner.ensures,
            ap count c.unflagged_sender.ensures,
            length-links_of c.args.from c.args.actions.now c.args.home.now,
            c.list_any.ensures.capacity,
            c.loop-number.invariant.room,
          );
    }

pub returns : goal.returns
returns c =
    let all : c.loop-number.number ≡ length c.args.home.now.sharers = omega arith in
    rw (
      c.list_any-2.ensures.items,
      c.list_any.ensures.items,
      c.loop-number.invariant.listed,
      all,
      c.unflagged_owner.ensures,
      c.unflagged_sender.ensures,
      append_assoc,
    )
