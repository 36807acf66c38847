use Rattle.std.proofs.Common.{ap, ◌∙◌, arith, refl, subst, sym}
use Rattle.std.proofs.lemmas.Grind.{common_steps}
use Rattle.floor.specs.inner.Sharing.{AreShared}
use Rattle.floor.proofs.Calling.{refuses_draw}
use Rattle.floor.proofs.Drawing.{drawn, ready-its}
use Rattle.floor.proofs.halls.Hall.turn_any.Goals as goal

pub draw-requires-clause-within : goal.draw-requires-clause-within
draw-requires-clause-within g c = grind (arith, common_steps, c.seat.invariant.within, c.self.invariant.1.seats_is)

pub draw-requires-clause-shared : goal.draw-requires-clause-shared
draw-requires-clause-shared g c =
    subst (λ shares. AreShared c.self.inside.seats c.self.inside.world shares) (sym c.as_slice-shares.ensures.value)
    (subst (λ n. AreShared n c.self.inside.world c.self.inside.shares.items) (sym c.self.invariant.1.seats_is) c.self.invariant.1.shared)

pub enter-requires-clause-yours : goal.enter-requires-clause-yours
enter-requires-clause-yours g c =
    let i = c.self.inside in
    (drawn g.F.Naming.floor c.args.self.now.entries c.args.seat.now.number c.args.word _ c.in-Some.step
    (ready-its g.F.Naming.floor i.world i.watch i.recording i.owners.items i.violation i.seats c.args.self.now.entries c.seat.inside.number
    c.args.seat.now.number c.self.invariant.0 (ap (λ s. s.entries) c.self.view_is) (ap (λ s. s.number) c.seat.view_is) c.self.invariant.1.seats_is)
    c.in-Some.ensures.some).1

pub returns-then-entries-self-clause-err : goal.returns-then-entries-self-clause-err
returns-then-entries-self-clause-err g c = record { leaves = c.compare.ensures; reason = (refl, grind (arith, common_steps)) }

pub returns-in_default-clause-ok : goal.returns-in_default-clause-ok
returns-in_default-clause-ok g c =
    let i = c.self.inside in record {
      leaves = c.compare-in_default.ensures;
      room = grind (arith, common_steps);
      none = sym (ready-its g.F.Naming.floor i.world i.watch i.recording i.owners.items i.violation i.seats c.args.self.now.entries
          c.seat.inside.number c.args.seat.now.number c.self.invariant.0 (ap (λ s. s.entries) c.self.view_is) (ap (λ s. s.number) c.seat.view_is)
          c.self.invariant.1.seats_is) ∙ c.in_default.ensures.none;
    }

pub returns-in-Ok-clause-ok : goal.returns-in-Ok-clause-ok
returns-in-Ok-clause-ok g c =
    let i = c.self.inside in
    let draws = drawn g.F.Naming.floor c.args.self.now.entries c.args.seat.now.number c.args.word _ c.in-Some.step
    (ready-its g.F.Naming.floor i.world i.watch i.recording i.owners.items i.violation i.seats c.args.self.now.entries c.seat.inside.number
    c.args.seat.now.number c.self.invariant.0 (ap (λ s. s.entries) c.self.view_is) (ap (λ s. s.number) c.seat.view_is) c.self.invariant.1.seats_is)
    c.in-Some.ensures.some in
    (c.in-Some.step, draws.0, c.in-Ok.ensures.ok)

pub returns-in-Err-clause-err : goal.returns-in-Err-clause-err
returns-in-Err-clause-err g c =
    let e = c.in-Err.ensures in
    refuses_draw g.F.Naming.floor c.args.self.now c.enter.new.self c.args.seat.now c.enter.new.seat c.in-Err.fault
    e.moment (grind (arith, common_steps)) e.else_memory e.err
