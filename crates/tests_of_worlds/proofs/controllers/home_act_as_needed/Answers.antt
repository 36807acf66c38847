use Rattle.std.proofs.Common.{◌∙◌, ap, length, subst, sym}
use Rattle.network.specs.Traffic.{Traffic}
use Rattle.control.specs.Acts.{HasFlagsAndLinks}
use Rattle.control.specs.HomeEffect.{sender_of}
use Rattle.control.specs.Homes.{IsBelow, NamesBelow}
use Rattle.tests_of_worlds.proofs.Promises.{as-many-flags, as-many-links, named-again}
use Rattle.tests_of_worlds.proofs.controllers.home_act_as_needed.Goals as goal

pub returns-clause-flags : goal.returns-clause-flags
returns-clause-flags g c =
    let home = c.args.home.now in
    let places : HasFlagsAndLinks (sender_of c.args.input) home c.reserve.new.self = record {
      flags = c.requires.flags;
      links = subst (λ (t : Traffic). NamesBelow (length t.links) home) (sym c.reserve.ensures.traffic) c.requires.links;
      sender_flag = c.requires.sender_flag;
      sender_link = subst (λ (t : Traffic). IsBelow (sender_of c.args.input) (length t.links)) (sym c.reserve.ensures.traffic) c.requires.sender_link;
    } in
    (named-again c.args.input c.args.next c.args.actions home c.home_act.new.home c.reserve.new.self c.home_act.new.wires places
    c.in_default.ensures.acted).flags

pub returns-clause-links : goal.returns-clause-links
returns-clause-links g c =
    let home = c.args.home.now in
    let places : HasFlagsAndLinks (sender_of c.args.input) home c.reserve.new.self = record {
      flags = c.requires.flags;
      links = subst (λ (t : Traffic). NamesBelow (length t.links) home) (sym c.reserve.ensures.traffic) c.requires.links;
      sender_flag = c.requires.sender_flag;
      sender_link = subst (λ (t : Traffic). IsBelow (sender_of c.args.input) (length t.links)) (sym c.reserve.ensures.traffic) c.requires.sender_link;
    } in
    (named-again c.args.input c.args.next c.args.actions home c.home_act.new.home c.reserve.new.self c.home_act.new.wires places
    c.in_default.ensures.acted).links

pub returns-clause-flag_count : goal.returns-clause-flag_count
returns-clause-flag_count g c =
    as-many-flags c.args.input c.args.next c.args.actions c.args.home.now c.home_act.new.home c.reserve.new.self c.home_act.new.wires
    c.in_default.ensures.acted

pub returns-clause-link_count : goal.returns-clause-link_count
returns-clause-link_count g c =
    as-many-links c.args.input c.args.next c.args.actions c.args.home.now c.home_act.new.home c.reserve.new.self c.home_act.new.wires
    c.in_default.ensures.acted
    ∙ ap (λ (t : Traffic). length t.links) c.reserve.ensures.traffic
