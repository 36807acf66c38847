use Rattle.std.proofs.Common.{◌≡◌, ◌∙◌, ap, arith, sym, subst, length, refl, take}
use Rattle.std.proofs.Math.Seq.{take-length}
use Rattle.std.proofs.lemmas.Grind.{common_steps}
use Rattle.network.specs.Marks.{Marks}
use Rattle.network.specs.Traffic.{Traffic, all_sent}
use Rattle.network.proofs.Sending.{requests-stay}
use Rattle.blocks.proofs.Relinking.{messages-links, messages-marks}
use Rattle.control.specs.LineEffect.{is_reader, is_writer, line_after, line_sends, requestor_of}
use Rattle.control.specs.HomeEffect.{home_sends, sender_of}
use Rattle.control.specs.Homes.{IsBelow}
use Rattle.machine.specs.Block.{BlockState}
use Rattle.blocks.specs.View.{BlockView}
use Rattle.blocks.specs.inner.Lined.{IsHeld, kept_lines, lines_of}
use Rattle.blocks.specs.inner.Named.{IsKeptIf}
use Rattle.blocks.proofs.Access.{can-recount}
use Rattle.blocks.proofs.Acting.{held-at_line, held-at_home}
use Rattle.blocks.proofs.Performed.{after-state, kept-put, lines-put}
use Rattle.blocks.proofs.block.Block.carry_out.Goals as goal

pub follow-requires-clause-readers : goal.follow-requires-clause-readers
follow-requires-clause-readers c =
    can-recount is_reader (lines_of c.self.inside.lines.items) c.in-AtLine.cache.0 c.in-AtLine.line c.in-AtLine.next c.self.inside.access.readers
    c.self.invariant.readers (rw (c.in-AtLine.is, sym c.self.view_is) at c.requires.line) c.self.invariant.few

pub follow-requires-clause-writers : goal.follow-requires-clause-writers
follow-requires-clause-writers c =
    can-recount is_writer (lines_of c.self.inside.lines.items) c.in-AtLine.cache.0 c.in-AtLine.line c.in-AtLine.next c.self.inside.access.writers
    c.self.invariant.writers (rw (c.in-AtLine.is, sym c.self.view_is) at c.requires.line) c.self.invariant.few

pub invariant_of-self : goal.invariant_of-self
invariant_of-self c =
    let old : BlockState =
    record { lines = lines_of c.self.inside.lines.items; home = c.self.inside.home; traffic = c.self.inside.wires.traffic; latest = c.self.inside.latest } in
    let new : BlockState =
    record {
      lines = lines_of c.perform-done.new.lines.items;
      home = c.self.inside.home;
      traffic = c.perform-done.new.wires.traffic;
      latest = c.latest_value-self-inside.result;
    } in
    let named : IsKeptIf c.args.self.now.space.lines (requestor_of c.in-AtLine.input) = (rw c.in-AtLine.is at c.requires.names).0 in
    let requestor : IsKeptIf (kept_lines c.self.inside.lines.items) (requestor_of c.in-AtLine.input) =
    subst (λ (k : BlockView). IsKeptIf k.space.lines (requestor_of c.in-AtLine.input)) (sym c.self.view_is) named in
    let after = line_after c.in-AtLine.input c.in-AtLine.next c.in-AtLine.line in
    subst (λ is. IsHeld new is c.follow.new.self.readers c.follow.new.self.writers)
    (sym c.perform-done.ensures.items)
    (held-at_line c.self.inside.lines.items c.in-AtLine.cache c.in-AtLine.line after c.in-AtLine.input c.in-AtLine.next c.in-AtLine.actions
    c.in-AtLine.origin old new c.self.inside.access.readers c.self.inside.access.writers c.follow.new.self.readers c.follow.new.self.writers
    c.self.invariant (rw (c.in-AtLine.is, sym c.self.view_is) at c.requires.line) requestor (ap lines_of c.perform-done.ensures.items) refl
    (c.perform-done.ensures.sent.traffic ∙ ap
    (all_sent (line_sends c.in-AtLine.cache c.in-AtLine.input c.in-AtLine.actions c.in-AtLine.line)) c.take.ensures.traffic)
    (after-state c.in-AtLine.input c.in-AtLine.next c.in-AtLine.line) c.follow.ensures.readers c.follow.ensures.writers)

pub invariant_of-self-in-AtHome : goal.invariant_of-self-in-AtHome
invariant_of-self-in-AtHome c =
    let old : BlockState =
    record { lines = lines_of c.self.inside.lines.items; home = c.self.inside.home; traffic = c.self.inside.wires.traffic; latest = c.self.inside.latest } in
    let new : BlockState =
    record {
      lines = lines_of c.self.inside.lines.items;
      home = c.home_perform.new.home;
      traffic = c.home_perform.new.wires.traffic;
      latest = c.self.inside.latest;
    } in
    let fits : IsBelow (sender_of c.in-AtHome.input) (length c.args.self.now.state.lines) = (rw c.in-AtHome.is at c.requires.fits).1 in
    let below : IsBelow (sender_of c.in-AtHome.input) (length old.lines) =
    subst (λ (k : BlockView). IsBelow (sender_of c.in-AtHome.input) (length k.state.lines)) (sym c.self.view_is) fits in
    let named : IsKeptIf c.args.self.now.space.lines (sender_of c.in-AtHome.input) = rw c.in-AtHome.is at c.requires.names in
    let sender : IsKeptIf (kept_lines c.self.inside.lines.items) (sender_of c.in-AtHome.input) =
    subst (λ (k : BlockView). IsKeptIf k.space.lines (sender_of c.in-AtHome.input)) (sym c.self.view_is) named in
    held-at_home c.self.inside.lines.items c.in-AtHome.input c.in-AtHome.next c.in-AtHome.actions c.in-AtHome.origin old new
    c.self.inside.access.readers c.self.inside.access.writers c.self.invariant below sender refl c.home_perform.ensures.home
    (c.home_perform.ensures.sent.traffic ∙ ap (all_sent (home_sends c.in-AtHome.input c.in-AtHome.actions c.self.inside.home)) c.take-in-AtHome.ensures.traffic)

pub returns-in-AtLine-clause-links : goal.returns-in-AtLine-clause-links
returns-in-AtLine-clause-links c own at =
    let here = rw c.in-AtLine.is at at in
    let links : c.perform-done.new.wires.traffic.links ≡ c.take.new.wires.traffic.links =
    ap (λ (t : Traffic). t.links) c.perform-done.ensures.sent.traffic ∙ messages-links c.in-AtLine.cache _ _ c.in-AtLine.actions c.take.new.wires.traffic in
    let marks : c.perform-done.new.wires.marks.links ≡ c.take.new.wires.marks.links =
    ap (λ (m : Marks). m.links) c.perform-done.ensures.sent.marks ∙ messages-marks c.in-AtLine.cache _ _ c.in-AtLine.actions c.take.new.wires.marks in
    rw (← c.self.view_is, marks, links) (c.take.ensures.links own here.1)

pub returns-in-AtLine-clause-requests : goal.returns-in-AtLine-clause-requests
returns-in-AtLine-clause-requests c own at =
    let here = rw c.in-AtLine.is at at in
    let same = c.take.ensures.requests own here.1 in
    rw (← c.self.view_is, ← same)
    (ap (λ (m : Marks). take (length c.take.new.wires.marks.requests) m.requests) c.perform-done.ensures.sent.marks
    ∙ requests-stay (line_sends c.in-AtLine.cache c.in-AtLine.input c.in-AtLine.actions c.in-AtLine.line) c.take.new.wires.marks
    (length c.take.new.wires.marks.requests) (omega arith)
    ∙ take-length c.take.new.wires.marks.requests)

pub returns-in-AtLine-clause-done : goal.returns-in-AtLine-clause-done
returns-in-AtLine-clause-done c =
    let lines = ap lines_of c.perform-done.ensures.items ∙ lines-put c.self.inside.lines.items c.in-AtLine.cache.0 _ in
    grind (arith, common_steps, lines)

pub returns-in-AtLine-clause-lines : goal.returns-in-AtLine-clause-lines
returns-in-AtLine-clause-lines c =
    let kept = ap kept_lines c.perform-done.ensures.items ∙ kept-put c.self.inside.lines.items c.in-AtLine.cache.0 _ in
    grind (arith, common_steps, kept)
