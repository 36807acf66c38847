use Rattle.std.proofs.Common.{◌≡◌, ◌∙◌, Some, ap, sym, arith, slice_get, refl, ◌<◌}
use Rattle.std.proofs.lemmas.Grind.{common_steps}
use Rattle.std.proofs.lemmas.Option.{slice_get_within}
use Rattle.world.proofs.Keeping.{found-kept, found-opened}
use Rattle.world.proofs.worlds.World.find.Goals as goal

at : (c : goal.In-Some) → Some c.in_ok-value.value ≡ slice_get c.self.inside.opening.items c.args.number
at c = sym c.in_ok-value.was ∙ c.opening_value.ensures ∙ ap (λ vs. slice_get vs c.args.number) c.as_slice.ensures.value

at-2 : (c : goal.In-None) → Some c.in_ok-value.value ≡ slice_get c.self.inside.opening.items c.args.number
at-2 c = sym c.in_ok-value.was ∙ c.opening_value.ensures ∙ ap (λ vs. slice_get vs c.args.number) c.as_slice.ensures.value

pub returns-in-Some-clause-state : goal.returns-in-Some-clause-state
returns-in-Some-clause-state c =
    rw (← c.self.view_is)
    (found-kept c.self.inside.shape.caches c.self.inside.opening.items c.self.inside.blocks.items c.args.number c.in_ok-value.value c.in-Some.block.now
    (at c) (rw c.in-Some.is at c.get.ensures))

pub returns-in-None-clause-state : goal.returns-in-None-clause-state
returns-in-None-clause-state c =
    rw (← c.self.view_is)
    (found-opened c.self.inside.shape.caches c.self.inside.opening.items c.self.inside.blocks.items c.args.number c.in_ok-value.value
    (at-2 c) (rw c.in-None.is at c.get.ensures))

pub returns-in-None-clause-there : goal.returns-in-None-clause-there
returns-in-None-clause-there c =
    let below : c.args.number < c.self.inside.shape.blocks =
    omega (arith, c.self.invariant.opening, slice_get_within c.self.inside.opening.items c.args.number c.in_ok-value.value (sym (at-2 c))) in
    rw (← c.self.view_is) ((λ e. below), (λ lt. refl))

pub returns-in-Some-clause-there : goal.returns-in-Some-clause-there
returns-in-Some-clause-there c = grind (arith, common_steps)
