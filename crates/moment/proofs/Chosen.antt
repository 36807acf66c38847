-- What can be chosen: offers of free cores, and deliveries.
use Rattle.std.proofs.Common.{◌≡◌, ◌+◌, ℕ, zero, suc, List, [], ◌∷◌, ◌++◌, map, Some, Bool, true, false, ◌&&◌, not, slice_get, refl, sym}
use Rattle.std.proofs.Common.{◌∙◌, subst}
use Rattle.std.specs.Prelude.{if◌then◌else◌}
use Rattle.base.specs.declared.ids.BlockId.{BlockId}
use Rattle.base.specs.declared.step.CoreAsk.{CoreAsk}
use Rattle.base.specs.declared.step.Step.{Step}
use Rattle.base.specs.declared.step.Step.TheVariants as step
use Rattle.network.specs.declared.message.Request.{Request}
use Rattle.network.specs.declared.message.Forward.{Forward}
use Rattle.network.specs.declared.message.Response.{Response}
use Rattle.machine.specs.Block.{BlockState}
use Rattle.tables.specs.Tables.{Tables}
use Rattle.machine.specs.Machine.{State, next}
use Rattle.machine.specs.Unstuck.{IsDelivery}
use Rattle.blocks.specs.Looks.{is_held}
use Rattle.world.specs.Enabled.{enabled_steps, unless_held, requests_from, head_from, heads_from, responses_from, requests_enabled, heads_in}
use Rattle.blocks.specs.Looks.{held_in}
use Rattle.world.specs.Enabled.{responses_enabled, of_each, all_enabled}
use Rattle.cores.specs.Cores.{Core, is_free}
use Rattle.scenario.specs.Tree.{Tree}
use Rattle.scenario.specs.Taking.{offers}
use Rattle.schedule.specs.Choices.{can_be_put, choices_of, chosen_step, offers_from, step_of}
use Rattle.schedule.specs.declared.choosing.Choice.{Choice}
use Rattle.schedule.specs.declared.choosing.Choice.TheVariants.{Offer, Deliver}
use Rattle.moment.proofs.Places.{same-some}
use Rattle.moment.proofs.Tracking.{PutsWhereFree, put-by-core}
use Rattle.moment.proofs.Effects.{delivery-puts-none}

-- each of these is a delivery
abbrev AllDeliver : List Step → Type 0
AllDeliver [] = Unit {0}
AllDeliver (s ∷ ss) = IsDelivery s × AllDeliver ss

deliver-both : (xs ys : List Step) → AllDeliver xs → AllDeliver ys → AllDeliver (xs ++ ys)
deliver-both [] ys h k = k
deliver-both (x ∷ xs) ys h k = (h.0, deliver-both xs ys h.1 k)

deliver-unless : (tables : Tables) (s : Step) (b : BlockState) → IsDelivery s → AllDeliver (unless_held tables s b)
deliver-unless tables s b d = elim (held_in tables s b) as (λ t. AllDeliver (if t then [] else (s ∷ []))) [
  | true ↦ tt
  | false ↦ (d, tt)
]

deliver-requests : (tables : Tables) (block : BlockId) (b : BlockState) (i : ℕ) (rs : List Request) → AllDeliver (requests_from tables block b i rs)
deliver-requests tables block b i [] = tt
deliver-requests tables block b i (r ∷ rs) =
    deliver-both (unless_held tables (step.Request block i) b) (requests_from tables block b (i + 1) rs)
    (deliver-unless tables (step.Request block i) b tt) (deliver-requests tables block b (i + 1) rs)

deliver-head : (tables : Tables) (block : BlockId) (b : BlockState) (cache : ℕ) (fs : List Forward) → AllDeliver (head_from tables block b cache fs)
deliver-head tables block b cache [] = tt
deliver-head tables block b cache (f ∷ fs) = deliver-unless tables (step.Forward block (record { 0 = cache })) b tt

deliver-heads : (tables : Tables) (block : BlockId) (b : BlockState) (cache : ℕ) (ls : List (List Forward)) → AllDeliver (heads_from tables block b cache ls)
deliver-heads tables block b cache [] = tt
deliver-heads tables block b cache (l ∷ ls) =
    deliver-both (head_from tables block b cache l) (heads_from tables block b (cache + 1) ls) (deliver-head tables block b cache l)
    (deliver-heads tables block b (cache + 1) ls)

deliver-responses : (tables : Tables) (block : BlockId) (b : BlockState) (i : ℕ) (rs : List Response) → AllDeliver (responses_from tables block b i rs)
deliver-responses tables block b i [] = tt
deliver-responses tables block b i (r ∷ rs) =
    deliver-both (unless_held tables (step.Response block i) b) (responses_from tables block b (i + 1) rs)
    (deliver-unless tables (step.Response block i) b tt) (deliver-responses tables block b (i + 1) rs)

deliver-each : (f : BlockId → BlockState → List Step) → ((block : BlockId) (b : BlockState) → AllDeliver (f block b)) →
    (i : ℕ) (bs : List BlockState) → AllDeliver (of_each f i bs)
deliver-each f h i [] = tt
deliver-each f h i (b ∷ bs) = deliver-both (f (record { 0 = i }) b) (of_each f (i + 1) bs) (h (record { 0 = i }) b) (deliver-each f h (i + 1) bs)

deliver-blocks : (tables : Tables) (bs : List BlockState) → AllDeliver (all_enabled tables bs)
deliver-blocks tables bs =
    deliver-both (of_each (requests_enabled tables) 0 bs ++ of_each (heads_in tables) 0 bs) (of_each (responses_enabled tables) 0 bs)
    (deliver-both (of_each (requests_enabled tables) 0 bs) (of_each (heads_in tables) 0 bs)
    (deliver-each (requests_enabled tables) (λ block b. deliver-requests tables block b 0 b.traffic.requests) 0 bs)
    (deliver-each (heads_in tables) (λ block b. deliver-heads tables block b 0 b.traffic.links) 0 bs))
    (deliver-each (responses_enabled tables) (λ block b. deliver-responses tables block b 0 b.traffic.responses) 0 bs)

deliver-enabled : (tables : Tables) (state : State) → AllDeliver (enabled_steps tables state)
deliver-enabled tables state = elim state.broken as (λ t. AllDeliver (if t then [] else all_enabled tables state.blocks)) [
  | true ↦ tt
  | false ↦ deliver-blocks tables state.blocks
]

-- ---- choices

-- an offer that can be put, or a delivery
abbrev pub IsFair : Tables → State → List Core → Choice → Type 0
IsFair tables state cores (Offer i ask) = can_be_put tables state cores ask ≡ true
IsFair tables state cores (Deliver s) = IsDelivery s

abbrev AreFair : Tables → State → List Core → List Choice → Type 0
AreFair tables state cores [] = Unit {0}
AreFair tables state cores (c ∷ cs) = IsFair tables state cores c × AreFair tables state cores cs

fair-both : (tables : Tables) (state : State) (cores : List Core) (xs ys : List Choice) → AreFair tables state cores xs →
    AreFair tables state cores ys → AreFair tables state cores (xs ++ ys)
fair-both tables state cores [] ys h k = k
fair-both tables state cores (x ∷ xs) ys h k = (h.0, fair-both tables state cores xs ys h.1 k)

fair-deliveries : (tables : Tables) (state : State) (cores : List Core) (ss : List Step) → AllDeliver ss → AreFair tables state cores (map Deliver ss)
fair-deliveries tables state cores [] h = tt
fair-deliveries tables state cores (s ∷ ss) h = (h.0, fair-deliveries tables state cores ss h.1)

fair-offer : (tables : Tables) (state : State) (cores : List Core) (i : ℕ) (ask : CoreAsk) (t : Bool) → can_be_put tables state cores ask ≡ t →
    AreFair tables state cores (if t then Offer i ask ∷ [] else [])
fair-offer tables state cores i ask true e = (e, tt)
fair-offer tables state cores i ask false e = tt

fair-offers : (tables : Tables) (state : State) (cores : List Core) (i : ℕ) (asks : List CoreAsk) →
    AreFair tables state cores (offers_from tables state cores i asks)
fair-offers tables state cores i [] = tt
fair-offers tables state cores i (ask ∷ asks) =
    fair-both tables state cores (if can_be_put tables state cores ask then Offer i ask ∷ [] else []) (offers_from tables state cores (i + 1) asks)
    (fair-offer tables state cores i ask (can_be_put tables state cores ask) refl) (fair-offers tables state cores (i + 1) asks)

fair-choices : (tables : Tables) (state : State) (cores : List Core) (tree : Tree) → AreFair tables state cores (choices_of tables state cores tree)
fair-choices tables state cores tree =
    elim state.broken as
    (λ t. AreFair tables state cores (if t then [] else (offers_from tables state cores 0 (offers tree) ++ map Deliver (enabled_steps tables state)))) [
      | true ↦ tt
      | false ↦ fair-both tables state cores (offers_from tables state cores 0 (offers tree)) (map Deliver (enabled_steps tables state))
          (fair-offers tables state cores 0 (offers tree)) (fair-deliveries tables state cores (enabled_steps tables state) (deliver-enabled tables state))
    ]

fair-at : (tables : Tables) (state : State) (cores : List Core) (xs : List Choice) (k : ℕ) (c : Choice) → AreFair tables state cores xs →
    slice_get xs k ≡ Some c → IsFair tables state cores c
fair-at tables state cores [] k c h e = absurd (cc e)
fair-at tables state cores (x ∷ xs) zero c h e = subst (IsFair tables state cores) (same-some x c e) h.0
fair-at tables state cores (x ∷ xs) (suc k) c h e = fair-at tables state cores xs k c h.1 e

-- what is chosen can be put, or is a delivery
pub choice-fair : (tables : Tables) (state : State) (cores : List Core) (tree : Tree) (k : ℕ) (c : Choice) →
    slice_get (choices_of tables state cores tree) k ≡ Some c → IsFair tables state cores c
choice-fair tables state cores tree k c = fair-at tables state cores (choices_of tables state cores tree) k c (fair-choices tables state cores tree)

left-true : (a b : Bool) → (a && b) ≡ true → a ≡ true
left-true true b e = refl
left-true false b e = absurd (cc e)

pub put-free : (tables : Tables) (state : State) (cores : List Core) (ask : CoreAsk) → can_be_put tables state cores ask ≡ true →
    is_free cores ask.core.0 ≡ true
put-free tables state cores ask e = left-true (is_free cores ask.core.0) (not (is_held (next tables state (step_of ask)).outcome)) e

-- what is chosen puts something only where the core is free
pub fair-puts : (tables : Tables) (state : State) (cores : List Core) (c : Choice) → IsFair tables state cores c →
    PutsWhereFree (chosen_step c) (next tables state (chosen_step c)) cores
fair-puts tables state cores (Offer i ask) fair a is =
    subst (λ x. is_free cores x.0 ≡ true) (sym (put-by-core tables state ask a is)) (put-free tables state cores ask fair)
fair-puts tables state cores (Deliver s) fair a is = let e = sym is ∙ delivery-puts-none s (next tables state s).outcome fair in absurd (cc e)
