use Rattle.std.specs.Prelude.{◌≡◌, ℕ, ◌<◌, ◌≤◌}
use Rattle.base.specs.declared.shape.ShapeFault.{ShapeFault}
use Rattle.base.specs.declared.shape.ShapeFault.TheVariants.{NoCaches, NoBlocks, TooManyCaches, TooManyBlocks}

-- how many caches and blocks there are
pub record Extent : Type 0 where
  pub caches : ℕ
  pub blocks : ℕ

-- 1 to 4,096 caches and 1 to 65,536 blocks
pub record IsWithinLimits (extent : Extent) : Type 0 where
  pub some_caches : 1 ≤ extent.caches
  pub few_caches : extent.caches ≤ 4096
  pub some_blocks : 1 ≤ extent.blocks
  pub few_blocks : extent.blocks ≤ 65536

-- this is the first fault of so many caches and blocks
abbrev pub IsFaultOf : ℕ → ℕ → ShapeFault → Type 0
IsFaultOf caches blocks NoCaches = caches ≡ 0
IsFaultOf caches blocks NoBlocks = (1 ≤ caches) × (blocks ≡ 0)
IsFaultOf caches blocks TooManyCaches = (1 ≤ blocks) × (4096 < caches)
IsFaultOf caches blocks TooManyBlocks = (1 ≤ caches) × (caches ≤ 4096) × (65536 < blocks)
