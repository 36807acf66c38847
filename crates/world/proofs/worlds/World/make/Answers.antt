use Rattle.std.proofs.Common.{◌∙◌, ◌<◌, ◌≤◌, ◌+◌, ◌-◌, ◌^◌, List, None, length, subst, ◌≡◌, Some, ap, refl, sym, slice_get, false, true≢false, arith}
use Rattle.std.proofs.lemmas.Grind.{common_steps}
use Rattle.base.specs.Steps.{block_of}
use Rattle.blocks.specs.View.{moved_to}
use Rattle.machine.specs.Block.{BlockState}
use Rattle.std.proofs.Math.Nat.{min-le_left}
use Rattle.machine.specs.Machine.{Next, next_at, sent_at}
use Rattle.machine.specs.Made.{made_in}
use Rattle.network.proofs.Waits.{on_err}
use Rattle.world.specs.Messages.{raised}
use Rattle.machine.specs.Transition.{transition}
use Rattle.world.specs.View.{state_or}
use Rattle.world.specs.inner.Holding.{kept_at}
use Rattle.world.proofs.Keeping.{found-none, states-stay}
use Rattle.world.proofs.Spaces.{kept-as-is}
use Rattle.world.proofs.Stepping.{below-places, came-to, made-is, needs-in, next-is, state_of, tests-block, tests-sent, world-stays, world-stepped}
use Rattle.world.proofs.worlds.World.make.Goals as goal
use Rattle.world.proofs.worlds.World.make.Goals.{After-result-1}

at : (c : goal.After-from_residual) → Some c.in-Some.value ≡ slice_get c.self.inside.opening.items (block_of c.args.step)
at c = rw (c.as_slice.ensures.value, c.block-number.ensures) at c.in-Some.ensures

at-2 : (c : After-result-1) → Some c.in-Some.value ≡ slice_get c.self.inside.opening.items (block_of c.args.step)
at-2 c = rw (c.as_slice.ensures.value, c.block-number.ensures) at c.in-Some.ensures

below : (c : goal.After-from_residual) → block_of c.args.step < length c.self.inside.blocks.items
below c =
    below-places c.self.inside.shape c.self.inside.controllers c.self.inside.opening.items c.self.inside.blocks.items c.self.inside.counts _
    (block_of c.args.step) c.in-Some.value c.self.invariant (at c)

below-2 : (c : After-result-1) → block_of c.args.step < length c.self.inside.blocks.items
below-2 c =
    below-places c.self.inside.shape c.self.inside.controllers c.self.inside.opening.items c.self.inside.blocks.items c.self.inside.counts _
    (block_of c.args.step) c.in-Some.value c.self.invariant (at-2 c)

pub invariant_of-self : goal.invariant_of-self
invariant_of-self c =
    world-stays c.self.inside.shape c.self.inside.controllers c.self.inside.opening.items c.self.inside.blocks.items c.step_at.new.blocks.items
    c.self.inside.counts (block_of c.args.step) c.in-Some.value c.self.inside.met_blank c.self.invariant (at c)
    (rw c.block-number.ensures at c.in_err-visit.ensures.err.visited.others)
    (rw (c.block-number.ensures, c.caches.ensures.value) at c.in_err-visit.ensures.err.state)
    (rw c.block-number.ensures at c.in_err-visit.ensures.err.visited.marked)

pub returns-in_err-visit-clause-err : goal.returns-in_err-visit-clause-err
returns-in_err-visit-clause-err c = on_err c.from_residual.result (record {
  state =
      rw (← c.self.view_is)
      (ap (λ (bs : List BlockState). record { blocks = bs; broken = c.self.inside.met_blank })
      (states-stay c.self.inside.shape.caches c.self.inside.opening.items c.self.inside.blocks.items c.step_at.new.blocks.items (block_of c.args.step)
      c.in-Some.value (at c)
      (below c)
      (rw c.block-number.ensures at c.in_err-visit.ensures.err.visited.others)
      (rw (c.block-number.ensures, c.caches.ensures.value) at c.in_err-visit.ensures.err.state)));
  shape = grind (arith, common_steps);
  tables = grind (arith, common_steps);
  opening = grind (arith, common_steps);
  tested = grind (arith, common_steps);
  keeps =
      rw (← c.self.view_is, c.if-self.false)
      (kept-as-is c.self.inside.shape c.self.inside.controllers c.self.inside.opening.items c.self.inside.blocks.items c.step_at.new.blocks.items
      c.self.inside.tested c.args.step c.in-Some.value _ (at c)
      (rw c.block-number.ensures at c.in_err-visit.ensures.err.visited.others)
      (rw (c.block-number.ensures, c.caches.ensures.value) at c.in_err-visit.ensures.err.visited.idle)
      (rw (c.block-number.ensures, c.caches.ensures.value) at c.in_err-visit.ensures.err.visited.lines) refl);
})

pub returns-in_err-visit-clause-succeeds : goal.returns-in_err-visit-clause-succeeds
returns-in_err-visit-clause-succeeds c needs =
    absurd (true≢false (sym ((rw (c.block-number.ensures, c.caches.ensures.value) at c.in_err-visit.ensures.succeeds)
    (needs-in c.self.inside.shape c.self.inside.controllers c.self.inside.opening.items c.self.inside.blocks.items c.self.inside.tested
    c.args.step c.in-Some.value (at c)
    (rw (← c.self.view_is, c.if-self.false) at needs)))))

moved : (c : After-result-1) →
    transition c.self.inside.controllers c.args.step (state_or c.self.inside.shape.caches c.in-Some.value
    (kept_at c.self.inside.blocks.items (block_of c.args.step)))
    ≡ moved_to (state_or c.self.inside.shape.caches c.in-Some.value
    (kept_at c.step_at.new.blocks.items (block_of c.args.step))) c.in_ok-visit.visit.made.outcome
moved c =
    came-to c.self.inside.controllers c.args.step _ _ c.in_ok-visit.visit.made
    (rw (c.block-number.ensures, c.caches.ensures.value) at c.in_ok-visit.ensures.ok.made)
    (rw (c.block-number.ensures, c.caches.ensures.value) at c.in_ok-visit.ensures.ok.state)

pub invariant_of-self-2 : goal.invariant_of-self-2
invariant_of-self-2 c =
    rw (c.note-self-inside.ensures.counts, c.block-number.ensures)
    (world-stepped c.self.inside.shape c.self.inside.controllers c.self.inside.opening.items c.self.inside.blocks.items c.step_at.new.blocks.items
    c.self.inside.counts c.args.step c.in-Some.value c.in_ok-visit.visit.made.outcome c.in_ok-visit.visit.tested c.self.inside.met_blank
    c.breaks-self-inside.result c.self.invariant (at-2 c)
    (rw c.block-number.ensures at c.in_ok-visit.ensures.ok.visited.others)
    (moved c)
    (rw c.block-number.ensures at c.in_ok-visit.ensures.ok.visited.marked)
    (rw (c.block-number.ensures, c.caches.ensures.value) at c.in_ok-visit.ensures.ok.tested))

pub returns-clause-ok : goal.returns-clause-ok
returns-clause-ok c = record {
  told = record {
    told =
        rw (← c.self.view_is, c.if-self.false)
        (made-is c.self.inside.shape c.self.inside.controllers c.self.inside.opening.items c.self.inside.blocks.items c.args.step c.in-Some.value
        c.in_ok-visit.visit.made (at-2 c) (rw (c.block-number.ensures, c.caches.ensures.value) at c.in_ok-visit.ensures.ok.made));
    state =
        rw (← c.self.view_is, c.if-self.false, c.breaks-self-inside.ensures)
        (ap (λ (n : Next). n.state)
        (sym (next-is c.self.inside.shape c.self.inside.controllers c.self.inside.opening.items c.self.inside.blocks.items c.step_at.new.blocks.items
        c.args.step c.in-Some.value c.in_ok-visit.visit.made.outcome (at-2 c) (below-2 c)
        (rw c.block-number.ensures at c.in_ok-visit.ensures.ok.visited.others) (moved c))));
  };
  shape = grind (arith, common_steps);
  tables = grind (arith, common_steps);
  opening = grind (arith, common_steps);
  tests_what_it_sends =
      rw (c.note-self-inside.ensures.tested, ← c.self.view_is, c.if-self.false)
      (tests-sent c.self.inside.shape c.self.inside.controllers c.self.inside.opening.items c.self.inside.blocks.items c.args.step c.in-Some.value
      c.self.inside.tested _ (at-2 c)
      (rw (c.block-number.ensures, c.caches.ensures.value) at c.in_ok-visit.ensures.ok.sent));
  tests_its_block =
      rw (c.note-self-inside.ensures.tested, ← c.self.view_is)
      (tests-block c.self.inside.shape c.self.inside.controllers c.self.inside.opening.items c.step_at.new.blocks.items c.breaks-self-inside.result
      (block_of c.args.step) c.in-Some.value c.self.inside.tested _ c.in_ok-visit.visit.tested (at-2 c)
      (rw (c.block-number.ensures, c.caches.ensures.value) at c.in_ok-visit.ensures.ok.tested));
  keeps =
      rw (← c.self.view_is, c.if-self.false)
      (kept-as-is c.self.inside.shape c.self.inside.controllers c.self.inside.opening.items c.self.inside.blocks.items c.step_at.new.blocks.items
      c.self.inside.tested c.args.step c.in-Some.value _ (at-2 c)
      (rw c.block-number.ensures at c.in_ok-visit.ensures.ok.visited.others)
      (rw (c.block-number.ensures, c.caches.ensures.value) at c.in_ok-visit.ensures.ok.visited.idle)
      (rw (c.block-number.ensures, c.caches.ensures.value) at c.in_ok-visit.ensures.ok.visited.lines) refl);
}

pub returns-then-self-clause-ok : goal.returns-then-self-clause-ok
returns-then-self-clause-ok c = record {
  told = record { told = grind (arith, common_steps); state = grind (arith, common_steps) };
  shape = refl;
  tables = refl;
  opening = refl;
  tests_what_it_sends = grind (arith, common_steps);
  tests_its_block = grind (arith, common_steps);
  keeps = record { others = λ block apart. refl; idle = λ none. refl; lines = λ cache none. refl };
}

pub returns-in_default-clause-ok : goal.returns-in_default-clause-ok
returns-in_default-clause-ok c =
    let tables = c.self.inside.controllers in
    let state = state_of c.self.inside.shape c.self.inside.opening.items c.self.inside.blocks.items false in
    let tested = c.self.inside.tested in
    let none : None ≡ slice_get state.blocks (block_of c.args.step) =
    found-none c.self.inside.shape.caches c.self.inside.opening.items c.self.inside.blocks.items (block_of c.args.step)
    (rw (c.as_slice.ensures.value, c.block-number.ensures) at c.in_default.ensures) in
    record {
      told = record {
        told = rw (← c.self.view_is, c.if-self.false) (c.refused-in_default.ensures ∙ ap (made_in tables c.args.step) none);
        state = rw (← c.self.view_is, c.if-self.false) (ap (λ b. (next_at tables state c.args.step b).state) none);
      };
      shape = refl;
      tables = refl;
      opening = refl;
      tests_what_it_sends =
          rw (← c.self.view_is, c.if-self.false)
          (subst (λ b. raised tested (length (sent_at tables c.args.step b)) ≤ tested) none (omega (arith, min-le_left (tested + 0) (2 ^ 64 - 1))));
      tests_its_block = grind (arith, common_steps);
      keeps = record { others = λ block apart. refl; idle = λ none. refl; lines = λ cache none. refl };
    }
