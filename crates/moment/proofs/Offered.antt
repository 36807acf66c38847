-- The offers among the choices are there.
use Rattle.std.proofs.Common.{◌≡◌, ◌<◌, ◌≤◌, ◌+◌, ℕ, zero, suc, List, [], ◌∷◌, ◌++◌, length, map, Some, Bool, true, false, slice_get, subst, arith}
use Rattle.std.specs.Prelude.{if◌then◌else◌}
use Rattle.base.specs.declared.step.CoreAsk.{CoreAsk}
use Rattle.base.specs.declared.step.Step.{Step}
use Rattle.tables.specs.Tables.{Tables}
use Rattle.machine.specs.Machine.{State}
use Rattle.world.specs.Enabled.{enabled_steps}
use Rattle.cores.specs.Cores.{Core}
use Rattle.scenario.specs.Tree.{Tree}
use Rattle.scenario.specs.Taking.{offers}
use Rattle.schedule.specs.Choices.{IsOffered, can_be_put, choices_of, offers_from}
use Rattle.schedule.specs.declared.choosing.Choice.{Choice}
use Rattle.schedule.specs.declared.choosing.Choice.TheVariants.{Offer, Deliver}
use Rattle.moment.proofs.Places.{same-some}

-- an offer has a number below this
abbrev IsBelow : ℕ → Choice → Type 0
IsBelow n (Offer i ask) = i < n
IsBelow n (Deliver s) = Unit {0}

abbrev AreBelow : ℕ → List Choice → Type 0
AreBelow n [] = Unit {0}
AreBelow n (c ∷ cs) = IsBelow n c × AreBelow n cs

below-both : (n : ℕ) (xs ys : List Choice) → AreBelow n xs → AreBelow n ys → AreBelow n (xs ++ ys)
below-both n [] ys h k = k
below-both n (x ∷ xs) ys h k = (h.0, below-both n xs ys h.1 k)

below-deliveries : (n : ℕ) (ss : List Step) → AreBelow n (map Deliver ss)
below-deliveries n [] = tt
below-deliveries n (s ∷ ss) = (tt, below-deliveries n ss)

below-offer : (n i : ℕ) (ask : CoreAsk) (t : Bool) → i < n → AreBelow n (if t then Offer i ask ∷ [] else [])
below-offer n i ask true low = (low, tt)
below-offer n i ask false low = tt

below-offers : (tables : Tables) (state : State) (cores : List Core) (n i : ℕ) (asks : List CoreAsk) → i + length asks ≤ n →
    AreBelow n (offers_from tables state cores i asks)
below-offers tables state cores n i [] low = tt
below-offers tables state cores n i (ask ∷ asks) low =
    below-both n (if can_be_put tables state cores ask then Offer i ask ∷ [] else []) (offers_from tables state cores (i + 1) asks)
    (below-offer n i ask (can_be_put tables state cores ask) (omega (arith, low))) (below-offers tables state cores n (i + 1) asks (omega (arith, low)))

below-choices : (tables : Tables) (state : State) (cores : List Core) (tree : Tree) → AreBelow (length (offers tree)) (choices_of tables state cores tree)
below-choices tables state cores tree =
    elim state.broken as
    (λ t. AreBelow (length (offers tree))
    (if t then [] else (offers_from tables state cores 0 (offers tree) ++ map Deliver (enabled_steps tables state)))) [
      | true ↦ tt
      | false ↦ below-both (length (offers tree)) (offers_from tables state cores 0 (offers tree)) (map Deliver (enabled_steps tables state))
          (below-offers tables state cores (length (offers tree)) 0 (offers tree) (omega arith))
          (below-deliveries (length (offers tree)) (enabled_steps tables state))
    ]

below-at : (n : ℕ) (xs : List Choice) (k : ℕ) (c : Choice) → AreBelow n xs → slice_get xs k ≡ Some c → IsBelow n c
below-at n [] k c h e = absurd (cc e)
below-at n (x ∷ xs) zero c h e = subst (IsBelow n) (same-some x c e) h.0
below-at n (x ∷ xs) (suc k) c h e = below-at n xs k c h.1 e

-- a choice that is an offer is one of the tree's
pub choice-offered : (tables : Tables) (state : State) (cores : List Core) (tree : Tree) (k : ℕ) (c : Choice) →
    slice_get (choices_of tables state cores tree) k ≡ Some c → IsOffered c tree
choice-offered tables state cores tree k (Offer i ask) e =
    below-at (length (offers tree)) (choices_of tables state cores tree) k (Offer i ask) (below-choices tables state cores tree) e
choice-offered tables state cores tree k (Deliver s) e = tt
