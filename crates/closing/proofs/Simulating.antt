-- Each step of a block is a step of all its pairs.
use Rattle.std.proofs.Common.{ℕ, ◌≤◌}
use Rattle.base.specs.declared.step.Step.{Step}
use Rattle.base.specs.declared.step.Step.TheVariants as step
use Rattle.tables.specs.Tables.{Tables}
use Rattle.machine.specs.Block.{BlockState, IsBlockAmong}
use Rattle.closing.proofs.Alpha.{Tags, Faithful}
use Rattle.closing.proofs.Simulation.{Simulated}
use Rattle.closing.proofs.AskSteps.{ask-simulated}
use Rattle.closing.proofs.RequestSteps.{request-simulated}
use Rattle.closing.proofs.ForwardSteps.{forward-simulated}
use Rattle.closing.proofs.ResponseSteps.{response-simulated}

-- so each step
pub simulated : (tables : Tables) (caches : ℕ) (tags : Tags) (b : BlockState) (s : Step) → caches ≤ 4294967296 → IsBlockAmong caches b → Faithful tags b →
    Simulated tables tags b s
simulated tables caches tags b (step.Ask cache block a) few whole faithful = ask-simulated tables caches tags b cache block a few whole faithful
simulated tables caches tags b (step.Request block index) few whole faithful = request-simulated tables caches tags b block index few whole faithful
simulated tables caches tags b (step.Forward block cache) few whole faithful = forward-simulated tables caches tags b block cache few whole faithful
simulated tables caches tags b (step.Response block index) few whole faithful = response-simulated tables caches tags b block index few whole faithful
