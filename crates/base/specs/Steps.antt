use Rattle.std.specs.Prelude.{ℕ}
use Rattle.base.specs.declared.step.Step.{Step}
use Rattle.base.specs.declared.step.Step.TheVariants.{Ask, Request, Forward, Response}

-- the number of the block that a step is about
abbrev pub block_of : Step → ℕ
block_of (Ask cache block ask) = block.0
block_of (Request block index) = block.0
block_of (Forward block cache) = block.0
block_of (Response block index) = block.0
