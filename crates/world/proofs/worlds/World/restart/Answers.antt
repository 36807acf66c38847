use Rattle.std.proofs.Common.{◌≡◌, ◌∙◌, ℕ, List, Some, ap, false, length, refl, slice_get, sym}
use Rattle.std.proofs.lemmas.List.{length-map}
use Rattle.machine.specs.Block.{BlockState}
use Rattle.machine.specs.Machine.{State, opened}
use Rattle.world.specs.View.{states}
use Rattle.world.specs.inner.Holding.{AreLined, IsOpened, kept_at}
use Rattle.world.proofs.Coherence.{been-safe, not-stuck}
use Rattle.world.specs.Keeping.{has_line}
use Rattle.world.proofs.Keeping.{space-at}
use Rattle.world.specs.inner.Counts.{none_counted}
use Rattle.world.proofs.Openings.{lined, lines-reset, states-reset, world-reset}
use Rattle.world.proofs.Spaces.{keeps-no-other}
use Rattle.world.proofs.worlds.World.restart.Goals as goal
use Rattle.world.proofs.worlds.World.restart.Goals.{After-self-2-1}

each-lined : (c : After-self-2-1) → AreLined c.self.inside.shape.caches c.self.inside.blocks.items
each-lined c =
    lined c.self.inside.shape.caches c.self.inside.opening.items c.self.inside.blocks.items (c.self.invariant.places ∙ sym c.self.invariant.opening)
    c.self.invariant.shaped.lines

again : (c : After-self-2-1) → (i v : ℕ) → slice_get c.self.inside.opening.items i ≡ Some v →
    IsOpened c.self.inside.shape.caches v (kept_at c.reset_all.new.blocks.items i)
again c i v e =
    c.reset_all.ensures.opened c.self.inside.shape.caches (each-lined c) i v (ap (λ vs. slice_get vs i) c.as_slice.ensures.value ∙ e)

opened-state : (c : After-self-2-1)
    → ◌≡◌ {A = State} (record { blocks = states c.self.inside.shape.caches c.self.inside.opening.items c.reset_all.new.blocks.items; broken = false })
    (opened c.self.inside.shape c.self.inside.opening.items)
opened-state c =
    ap (λ (bs : List BlockState). record { blocks = bs; broken = false })
    (states-reset c.self.inside.shape.caches c.self.inside.opening.items c.reset_all.new.blocks.items (again c))

counted : (c : After-self-2-1) → length c.self.inside.counts.requests ≡ c.self.inside.shape.blocks
counted c = ap length c.self.invariant.counted.of_requests ∙ length-map _ _ ∙ c.self.invariant.shaped.blocks

pub invariant_of-self : goal.invariant_of-self
invariant_of-self c =
    world-reset c.self.inside.shape c.self.inside.controllers c.self.inside.opening.items c.reset_all.new.blocks.items c.clear.new.self
    c.self.invariant.shaped.within c.self.invariant.opening (c.reset_all.ensures.count ∙ c.self.invariant.places) (again c)
    (c.clear.ensures ∙ ap none_counted (counted c))

pub returns : goal.returns
returns c =
    let items = c.reset_all.new.blocks.items in
    let places = c.reset_all.ensures.count ∙ c.self.invariant.places ∙ sym c.self.invariant.opening in
    rw (← c.self.view_is)
    (record {
      shape = refl;
      tables = refl;
      opening = refl;
      state = opened-state c;
      history = rw (opened-state c) (record { opens = c.self.invariant.opening; leads = refl });
      safe = been-safe _ _ _ c.self.invariant.shaped.within;
      unstuck = not-stuck _ _ _ c.self.invariant.shaped.within;
      tested = refl;
      kept = λ block before. keeps-no-other c.self.inside.blocks.items items block c.reset_all.ensures.none before;
      lines = λ block cache.
          ap (λ o. has_line o cache) (space-at items block)
          ∙ lines-reset c.self.inside.opening.items c.self.inside.shape.caches items places (again c) block cache;
    })
