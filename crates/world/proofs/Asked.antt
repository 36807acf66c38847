-- Where an ask goes: to its cache, where cache and block are there.
use Rattle.std.proofs.Common.{◌≡◌, ◌<◌, refl, sym, ◌∙◌, Option, None, Some, IsSome, slice_get}
use Rattle.std.specs.Option.{option_and_then}
use Rattle.base.specs.Extent.{Extent}
use Rattle.base.specs.declared.ids.BlockId.{BlockId}
use Rattle.base.specs.declared.ids.CacheId.{CacheId}
use Rattle.base.specs.declared.ids.Place.TheVariants.{Cache}
use Rattle.base.specs.declared.step.Ask.{Ask}
use Rattle.base.specs.declared.step.Step.TheVariants as step
use Rattle.control.specs.declared.line.Line.{Line}
use Rattle.machine.specs.Block.{BlockState}
use Rattle.machine.specs.Coherence.{line_at}
use Rattle.machine.specs.Machine.{State}
use Rattle.blocks.specs.Looks.{cache_place}
use Rattle.world.specs.Looks.{place_at}
use Rattle.world.specs.View.{IsShaped}
use Rattle.world.proofs.Keeping.{line-there-iff}

by-line : (cache : CacheId) (found : Option BlockState) →
    option_and_then (λ (b : BlockState). cache_place cache (slice_get b.lines cache.0)) found
    ≡ cache_place cache (option_and_then (λ (b : BlockState). slice_get b.lines cache.0) found)
by-line cache None = refl
by-line cache (Some b) = refl

at-line : (cache : CacheId) (found : Option Line) → IsSome found → cache_place cache found ≡ Some (Cache cache)
at-line cache None some = absurd (cc some)
at-line cache (Some line) some = refl

at-none : (cache : CacheId) (found : Option Line) → ¬ (IsSome found) → cache_place cache found ≡ None
at-none cache None none = refl
at-none cache (Some line) none = absurd (none refl)

pub ask-there : (shape : Extent) (state : State) (cache : CacheId) (block : BlockId) (a : Ask) → IsShaped shape state → cache.0 < shape.caches →
    block.0 < shape.blocks → Some (Cache cache) ≡ place_at state (step.Ask cache block a)
ask-there shape state cache block a shaped low within =
    sym (by-line cache (slice_get state.blocks block.0)
    ∙ at-line cache (line_at state cache.0 block.0) ((line-there-iff shape state cache.0 block.0 shaped).1 (low, within)))

pub ask-nowhere : (shape : Extent) (state : State) (cache : CacheId) (block : BlockId) (a : Ask) → IsShaped shape state →
    ¬ ((cache.0 < shape.caches) × (block.0 < shape.blocks)) → None ≡ place_at state (step.Ask cache block a)
ask-nowhere shape state cache block a shaped none =
    sym (by-line cache (slice_get state.blocks block.0)
    ∙ at-none cache (line_at state cache.0 block.0) (λ some. none ((line-there-iff shape state cache.0 block.0 shaped).0 some)))
