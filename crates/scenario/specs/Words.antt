-- The words of a tree: the lists of asks that it stands for.
use Rattle.std.specs.Prelude.{◌≡◌, ℕ, zero, suc, ◌⊎◌, List, [], ◌∷◌, ◌++◌}
use Rattle.base.specs.declared.step.CoreAsk.{CoreAsk}
use Rattle.scenario.specs.Tree.{Tree, Trees, One, Seq, Any, Times, Both, Nil, Cons}

-- a list is an interleaving of two others: each keeps its order
abbrev pub Interleaves : List CoreAsk → List CoreAsk → List CoreAsk → Type 0
Interleaves u v [] = (u ≡ []) × (v ≡ [])
Interleaves u v (ask ∷ w) = ((more : List CoreAsk) × (u ≡ ask ∷ more) × Interleaves more v w)
    ⊎ ((more : List CoreAsk) × (v ≡ ask ∷ more) × Interleaves u more w)

-- a list is so many lists of a kind, one behind the other
abbrev pub IsRepeated : ℕ → (List CoreAsk → Type 0) → List CoreAsk → Type 0
IsRepeated zero Is w = w ≡ []
IsRepeated (suc n) Is w = (u v : List CoreAsk) × (w ≡ u ++ v) × Is u × IsRepeated n Is v

abbrev mutual
  -- the list is a word of the tree
  pub IsWord : Tree → List CoreAsk → Type 0
  IsWord (One ask) w = w ≡ ask ∷ []
  IsWord (Seq ts) w = IsJoined ts w
  IsWord (Any ts) w = IsWordOfOne ts w
  IsWord (Times n t) w = IsRepeated n (IsWord t) w
  IsWord (Both ts) w = IsInterleaved ts w

  -- one word of each child, one behind the other
  pub IsJoined : Trees → List CoreAsk → Type 0
  IsJoined Nil w = w ≡ []
  IsJoined (Cons t ts) w = (u v : List CoreAsk) × (w ≡ u ++ v) × IsWord t u × IsJoined ts v

  -- a word of one of the children
  pub IsWordOfOne : Trees → List CoreAsk → Type 0
  IsWordOfOne Nil w = ⊥
  IsWordOfOne (Cons t ts) w = IsWord t w ⊎ IsWordOfOne ts w

  -- an interleaving of one word of each child
  pub IsInterleaved : Trees → List CoreAsk → Type 0
  IsInterleaved Nil w = w ≡ []
  IsInterleaved (Cons t ts) w = (u v : List CoreAsk) × IsWord t u × IsInterleaved ts v × Interleaves u v w
