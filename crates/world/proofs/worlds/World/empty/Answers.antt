use Rattle.std.proofs.Common.{◌≡◌, ◌∙◌, Some, arith, inl, inr, slice_get, subst, sym}
use Rattle.std.proofs.lemmas.Bool.{cases_lt}
use Rattle.world.proofs.Quieting.{all-kept-quiet, kept-not-quiet}
use Rattle.world.proofs.worlds.World.empty.Goals as goal

pub loop-index-init : goal.loop-index-init
loop-index-init c j at lt = absurd (omega (arith, lt))

pub loop-index-preserved : goal.loop-index-preserved
loop-index-preserved c j at lt e =
    elim (cases_lt j c.loop-index.index) [
      | inl before ↦ c.loop-index.invariant j at before e
      | inr here ↦
          let same : j ≡ c.loop-index.index = omega (arith, lt, here) in
          sym (c.if-not-is_quiet_nth.ensures at (subst (λ i. slice_get c.self.inside.blocks.keys i ≡ Some at) same e))
    ]

pub returns-then-not-is_quiet_nth : goal.returns-then-not-is_quiet_nth
returns-then-not-is_quiet_nth c =
    rw (← c.self.view_is)
    (kept-not-quiet c.self.inside.shape.caches c.self.inside.opening.items c.self.inside.blocks.keys c.self.inside.blocks.items c.loop-index.index
    (c.self.invariant.places ∙ sym c.self.invariant.opening) (omega (arith, c.loop-index-test.true, c.held-index-end.ensures.count))
    (λ i at e. (c.held-index-end.ensures.touched.there i at e).0) c.if-not-is_quiet_nth.ensures)

pub returns : goal.returns
returns c =
    rw (← c.self.view_is)
    (all-kept-quiet c.self.inside.shape.caches c.self.inside.opening.items c.self.inside.blocks.keys c.self.inside.blocks.items c.loop-index.index
    (omega (arith, c.loop-index-test.false, c.held-index-end.ensures.count)) c.held-index-end.ensures.touched.all c.loop-index.invariant)
