-- A list and what is behind its head.
use Rattle.std.proofs.Common.{◌≡◌, ◌+◌, List, [], ◌∷◌, Some, length, arith}
use Rattle.pairs.specs.inner.Short.{behind, head_of}

-- behind its head a list is one shorter
pub length-behind : {A : Type 0} (xs : List A) (x : A) → Some x ≡ head_of xs → length xs ≡ length (behind xs) + 1
length-behind [] x e = cc
length-behind (z ∷ zs) x e = omega arith
