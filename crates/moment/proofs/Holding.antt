-- What a moment holds where a run starts, and who has choices.
use Rattle.std.proofs.Common.{◌≡◌, ◌<◌, ℕ, List, [], Bool, true, false, Some, None, length, replicate, slice_get, refl, sym, ap, ◌∙◌, subst, arith}
use Rattle.std.specs.Prelude.{if◌then◌else◌}
use Rattle.std.specs.Option.{option_map_or}
use Rattle.base.specs.Extent.{Extent}
use Rattle.tables.specs.Tables.{Tables}
use Rattle.machine.specs.Machine.{State, opened}
use Rattle.cores.specs.Cores.{Core, idle}
use Rattle.schedule.specs.declared.choosing.Choice.{Choice}
use Rattle.moment.specs.Moments.{Moment, choices_at}
use Rattle.moment.specs.inner.Tracked.{IsTracked}
use Rattle.moment.proofs.Tracking.{tracked-first}

-- only a moment that isn't spoilt has choices
pub usable-told : (usable : Bool) (tables : Tables) (m : Moment) (k : ℕ) →
    k < length (option_map_or (choices_at tables) (if usable then Some m else None) []) → usable ≡ true
usable-told true tables m k low = refl
usable-told false tables m k low = absurd (omega (arith, low))

-- its choices are those of its lanes
pub choices-seen : (usable : Bool) (tables : Tables) (m : Moment) →
    option_map_or (choices_at tables) (if usable then Some m else None) [] ≡ (if usable then choices_at tables m else [])
choices-seen true tables m = refl
choices-seen false tables m = refl

-- what its lanes pick is a choice
pub pick-taken : (usable : Bool) (choices : List Choice) (k : ℕ) (choice : Choice) → usable ≡ true →
    Some choice ≡ slice_get (if usable then choices else []) k → slice_get choices k ≡ Some choice
pick-taken usable choices k choice is e = sym (e ∙ ap (λ t. slice_get (if t then choices else []) k) is)

-- the cores of an opened world are tracked
pub tracked-opened : (shape : Extent) (opening : List ℕ) (caches : ℕ) (state : State) (cores : List Core) → state ≡ opened shape opening →
    cores ≡ replicate caches idle → caches ≡ shape.caches → IsTracked state cores
tracked-opened shape opening caches state cores is idles same =
    subst (λ (s : State). IsTracked s cores) (sym is)
    (subst (IsTracked (opened shape opening)) (sym (idles ∙ ap (λ n. replicate n idle) same)) (tracked-first shape.caches shape.blocks opening))
