-- Heads of links as the pairs of their receiver see them.
use Rattle.std.proofs.Common.{◌≡◌, ℕ, ◌≤◌, Option, Some, None}
use Rattle.std.proofs.Common.{refl, slice_get}
use Rattle.base.specs.declared.ids.BlockId.{BlockId}
use Rattle.base.specs.declared.ids.CacheId.{CacheId}
use Rattle.base.specs.declared.step.Step.TheVariants as step
use Rattle.base.specs.declared.step.Outcome.TheVariants as outcome
use Rattle.tables.specs.Tables.{Tables}
use Rattle.machine.specs.Block.{BlockState, IsBlockAmong}
use Rattle.machine.specs.declared.decision.Origin.TheVariants as origin
use Rattle.control.specs.declared.line.LineInput.TheVariants as line_input
use Rattle.network.specs.declared.message.Forward.{Forward}
use Rattle.network.specs.Traffic.{link}
use Rattle.machine.specs.Transition.{carried_out, at_forward}
use Rattle.closing.proofs.Alpha.{Tags, Faithful}
use Rattle.closing.proofs.ForwardActs.{forward-blank, forward-acted}
use Rattle.closing.proofs.Simulation.{SimulatedBy, Simulated, still, line-simulated}

forward-found : (tables : Tables) (caches : ℕ) (tags : Tags) (b : BlockState) (cache : CacheId) (found : Option Forward) → caches ≤ 4294967296 →
    IsBlockAmong caches b → Faithful tags b → found ≡ slice_get (link b.traffic cache.0) 0 →
    SimulatedBy tables tags b (carried_out (at_forward tables.cache cache b.lines found) b)
forward-found tables caches tags b cache None few whole faithful e = still tables tags b outcome.Absent (λ none. absurd (cc)) refl
forward-found tables caches tags b cache (Some f) few whole faithful e =
    line-simulated tables tags b cache (line_input.Forward f) (origin.Head cache) (slice_get b.lines cache.0) refl
    (forward-blank tables caches tags b cache f whole faithful e) (forward-acted tables caches tags b cache f whole faithful e)

pub forward-simulated : (tables : Tables) (caches : ℕ) (tags : Tags) (b : BlockState) (block : BlockId) (cache : CacheId) → caches ≤ 4294967296 →
    IsBlockAmong caches b → Faithful tags b → Simulated tables tags b (step.Forward block cache)
forward-simulated tables caches tags b block cache few whole faithful =
    forward-found tables caches tags b cache (slice_get (link b.traffic cache.0) 0) few whole faithful refl
