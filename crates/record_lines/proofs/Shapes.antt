-- Numbers that are no shape.
use Rattle.std.proofs.Common.{◌≡◌, ◌≤◌, ℕ, List, arith, sym, ◌∙◌}
use Rattle.std.proofs.lemmas.Fmt.{decimal_injective}
use Rattle.std.specs.Fmt.{decimal}
use Rattle.base.specs.Extent.{Extent, IsWithinLimits, IsFaultOf}
use Rattle.base.specs.declared.shape.ShapeFault.{ShapeFault}
use Rattle.base.specs.declared.shape.ShapeFault.TheVariants.{NoCaches, NoBlocks, TooManyCaches, TooManyBlocks}

outside : (c b : ℕ) (fault : ShapeFault) → IsFaultOf c b fault → c ≤ 4096 → b ≤ 65536 → (shape : Extent) → IsWithinLimits shape → shape.caches ≡ c →
    shape.blocks ≡ b → ⊥
outside c b NoCaches h few_c few_b shape within same_c same_b = absurd (omega (arith, within.some_caches, same_c, h))
outside c b NoBlocks h few_c few_b shape within same_c same_b = absurd (omega (arith, within.some_blocks, same_b, h.1))
outside c b TooManyCaches h few_c few_b shape within same_c same_b = absurd (omega (arith, h.1, few_c))
outside c b TooManyBlocks h few_c few_b shape within same_c same_b = absurd (omega (arith, h.2, few_b))

-- numbers with a fault spell no shape
pub no-shape : (c b : ℕ) (fault : ShapeFault) (caches blocks : List ℕ) → IsFaultOf c b fault → c ≤ 4096 → b ≤ 65536 → caches ≡ decimal c →
    blocks ≡ decimal b → (shape : Extent) → IsWithinLimits shape → caches ≡ decimal shape.caches → blocks ≡ decimal shape.blocks → ⊥
no-shape c b fault caches blocks h few_c few_b is_c is_b shape within same_c same_b =
    outside c b fault h few_c few_b shape within
    (decimal_injective shape.caches c (omega (arith, within.few_caches)) (omega (arith, few_c)) (sym same_c ∙ is_c))
    (decimal_injective shape.blocks b (omega (arith, within.few_blocks)) (omega (arith, few_b)) (sym same_b ∙ is_b))
