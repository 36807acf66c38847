-- Where no step is enabled, no delivery acts.
use Rattle.std.proofs.Common.{◌≡◌, ◌+◌, ℕ, zero, suc, List, [], ◌∷◌, ◌++◌, get_or, Option, Some, None, Bool, true, false, slice_get, refl, sym, ap}
use Rattle.std.proofs.Common.{◌∙◌, subst, arith}
use Rattle.std.specs.Prelude.{if◌then◌else◌}
use Rattle.base.specs.Steps.{block_of}
use Rattle.base.specs.declared.ids.BlockId.{BlockId}
use Rattle.base.specs.declared.ids.CacheId.{CacheId}
use Rattle.base.specs.declared.step.Step.{Step}
use Rattle.base.specs.declared.step.Step.TheVariants as step
use Rattle.base.specs.declared.step.Outcome.{Outcome}
use Rattle.base.specs.declared.step.Outcome.TheVariants as outcome
use Rattle.network.specs.declared.message.Request.{Request}
use Rattle.network.specs.declared.message.Forward.{Forward}
use Rattle.network.specs.declared.message.Response.{Response}
use Rattle.network.specs.Traffic.{link}
use Rattle.machine.specs.Block.{BlockState}
use Rattle.tables.specs.Tables.{Tables}
use Rattle.machine.specs.Transition.{transition, carried_out, at_request, at_forward, at_response}
use Rattle.machine.specs.Machine.{State, Next, IsRefusal, next, next_at}
use Rattle.machine.specs.Unstuck.{IsDelivery, Delivers}
use Rattle.blocks.specs.Looks.{is_held}
use Rattle.world.specs.Enabled.{enabled_steps, unless_held, requests_from, head_from, heads_from, responses_from, requests_enabled, heads_in}
use Rattle.blocks.specs.Looks.{held_in}
use Rattle.world.specs.Enabled.{responses_enabled, of_each, all_enabled}

pub front-empty : {X : Type 0} (xs ys : List X) → xs ++ ys ≡ [] → xs ≡ []
front-empty [] ys e = refl
front-empty (x ∷ xs) ys e = absurd (cc e)

pub back-empty : {X : Type 0} (xs ys : List X) → xs ++ ys ≡ [] → ys ≡ []
back-empty [] ys e = e
back-empty (x ∷ xs) ys e = absurd (cc e)

same-block : (b c : BlockState) → Some b ≡ Some c → b ≡ c
same-block b c e = cc e

further : (i k : ℕ) → i + 1 + k ≡ i + suc k
further i k = omega arith

none-of-each : (f : BlockId → BlockState → List Step) (i : ℕ) (bs : List BlockState) (k : ℕ) (b : BlockState) → of_each f i bs ≡ [] →
    slice_get bs k ≡ Some b → f (record { 0 = i + k }) b ≡ []
none-of-each f i [] k b e at = absurd (cc at)
none-of-each f i (x ∷ bs) zero b e at =
    ap (λ (y : BlockState). f (record { 0 = i + 0 }) y) (sym (same-block x b at)) ∙ ap (λ n. f (record { 0 = n }) x) (nothing-more i)
    ∙ front-empty (f (record { 0 = i }) x) (of_each f (i + 1) bs) e
  where
    nothing-more : (i : ℕ) → i + 0 ≡ i
    nothing-more i = omega arith
none-of-each f i (x ∷ bs) (suc k) b e at =
    ap (λ n. f (record { 0 = n }) b) (sym (further i k)) ∙ none-of-each f (i + 1) bs k b (back-empty (f (record { 0 = i }) x) (of_each f (i + 1) bs) e) at

from-first : (k : ℕ) → 0 + k ≡ k
from-first k = omega arith

none-of-block : (f : BlockId → BlockState → List Step) (bs : List BlockState) (block : BlockId) (b : BlockState) → of_each f 0 bs ≡ [] →
    slice_get bs block.0 ≡ Some b → f block b ≡ []
none-of-block f bs block b e at = ap (λ n. f (record { 0 = n }) b) (sym (from-first block.0)) ∙ none-of-each f 0 bs block.0 b e at

here-first : (i : ℕ) → i + 0 ≡ i
here-first i = omega arith

none-of-requests : (tables : Tables) (block : BlockId) (b : BlockState) (i : ℕ) (rs : List Request) (k : ℕ) (r : Request) →
    requests_from tables block b i rs ≡ [] → slice_get rs k ≡ Some r → unless_held tables (step.Request block (i + k)) b ≡ []
none-of-requests tables block b i [] k r e at = absurd (cc at)
none-of-requests tables block b i (x ∷ rs) zero r e at =
    ap (λ n. unless_held tables (step.Request block n) b) (here-first i)
    ∙ front-empty (unless_held tables (step.Request block i) b) (requests_from tables block b (i + 1) rs) e
none-of-requests tables block b i (x ∷ rs) (suc k) r e at =
    ap (λ n. unless_held tables (step.Request block n) b) (sym (further i k))
    ∙ none-of-requests tables block b (i + 1) rs k r
    (back-empty (unless_held tables (step.Request block i) b) (requests_from tables block b (i + 1) rs) e) at

none-of-responses : (tables : Tables) (block : BlockId) (b : BlockState) (i : ℕ) (rs : List Response) (k : ℕ) (r : Response) →
    responses_from tables block b i rs ≡ [] → slice_get rs k ≡ Some r → unless_held tables (step.Response block (i + k)) b ≡ []
none-of-responses tables block b i [] k r e at = absurd (cc at)
none-of-responses tables block b i (x ∷ rs) zero r e at =
    ap (λ n. unless_held tables (step.Response block n) b) (here-first i)
    ∙ front-empty (unless_held tables (step.Response block i) b) (responses_from tables block b (i + 1) rs) e
none-of-responses tables block b i (x ∷ rs) (suc k) r e at =
    ap (λ n. unless_held tables (step.Response block n) b) (sym (further i k))
    ∙ none-of-responses tables block b (i + 1) rs k r
    (back-empty (unless_held tables (step.Response block i) b) (responses_from tables block b (i + 1) rs) e) at

none-of-head : (tables : Tables) (block : BlockId) (b : BlockState) (cache : ℕ) (l : List Forward) (f : Forward) →
    head_from tables block b cache l ≡ [] → slice_get l 0 ≡ Some f → unless_held tables (step.Forward block (record { 0 = cache })) b ≡ []
none-of-head tables block b cache [] f e at = absurd (cc at)
none-of-head tables block b cache (x ∷ l) f e at = e

none-of-heads : (tables : Tables) (block : BlockId) (b : BlockState) (i : ℕ) (ls : List (List Forward)) (k : ℕ) (f : Forward) →
    heads_from tables block b i ls ≡ [] → slice_get (get_or ls k []) 0 ≡ Some f →
    unless_held tables (step.Forward block (record { 0 = i + k })) b ≡ []
none-of-heads tables block b i [] k f e at = absurd (cc at)
none-of-heads tables block b i (l ∷ ls) zero f e at =
    ap (λ n. unless_held tables (step.Forward block (record { 0 = n })) b) (here-first i)
    ∙ none-of-head tables block b i l f (front-empty (head_from tables block b i l) (heads_from tables block b (i + 1) ls) e) at
none-of-heads tables block b i (l ∷ ls) (suc k) f e at =
    ap (λ n. unless_held tables (step.Forward block (record { 0 = n })) b) (sym (further i k))
    ∙ none-of-heads tables block b (i + 1) ls k f (back-empty (head_from tables block b i l) (heads_from tables block b (i + 1) ls) e) at

-- what isn't listed is held
held-refusal : (o : Outcome) → is_held o ≡ true → IsRefusal o
held-refusal outcome.Held e = tt
held-refusal other e = absurd (cc e)

unlisted : (tables : Tables) (s : Step) (b : BlockState) (t : Bool) → held_in tables s b ≡ t → (if t then [] else (s ∷ [])) ≡ [] → held_in tables s b ≡ true
unlisted tables s b true is e = is
unlisted tables s b false is e = absurd (cc e)

unlisted-refused : (tables : Tables) (s : Step) (b : BlockState) → unless_held tables s b ≡ [] → IsRefusal (transition tables s b).outcome
unlisted-refused tables s b e = held-refusal (transition tables s b).outcome (unlisted tables s b (held_in tables s b) refl e)

-- none of a block's deliveries is listed
record NoneOf (tables : Tables) (block : BlockId) (b : BlockState) : Type 0 where
  requests : requests_enabled tables block b ≡ []
  heads : heads_in tables block b ≡ []
  responses : responses_enabled tables block b ≡ []

request-refused : (tables : Tables) (block : BlockId) (b : BlockState) (i : ℕ) (found : Option Request) → NoneOf tables block b →
    slice_get b.traffic.requests i ≡ found → IsRefusal (transition tables (step.Request block i) b).outcome
request-refused tables block b i None none at = subst (λ o. IsRefusal (carried_out (at_request tables.directory i b.home o) b).outcome) (sym at) tt
request-refused tables block b i (Some r) none at =
    unlisted-refused tables (step.Request block i) b
    (ap (λ n. unless_held tables (step.Request block n) b) (sym (from-first i)) ∙ none-of-requests tables block b 0 b.traffic.requests i r none.requests at)

forward-refused : (tables : Tables) (block : BlockId) (b : BlockState) (cache : CacheId) (found : Option Forward) → NoneOf tables block b →
    slice_get (link b.traffic cache.0) 0 ≡ found → IsRefusal (transition tables (step.Forward block cache) b).outcome
forward-refused tables block b cache None none at = subst (λ o. IsRefusal (carried_out (at_forward tables.cache cache b.lines o) b).outcome) (sym at) tt
forward-refused tables block b cache (Some f) none at =
    unlisted-refused tables (step.Forward block cache) b
    (ap (λ n. unless_held tables (step.Forward block (record { 0 = n })) b)
    (sym (from-first cache.0)) ∙ none-of-heads tables block b 0 b.traffic.links cache.0 f none.heads at)

response-refused : (tables : Tables) (block : BlockId) (b : BlockState) (i : ℕ) (found : Option Response) → NoneOf tables block b →
    slice_get b.traffic.responses i ≡ found → IsRefusal (transition tables (step.Response block i) b).outcome
response-refused tables block b i None none at = subst (λ o. IsRefusal (carried_out (at_response tables i b o) b).outcome) (sym at) tt
response-refused tables block b i (Some r) none at =
    unlisted-refused tables (step.Response block i) b
    (ap (λ n. unless_held tables (step.Response block n) b)
    (sym (from-first i)) ∙ none-of-responses tables block b 0 b.traffic.responses i r none.responses at)

delivery-refused : (tables : Tables) (block : BlockId) (b : BlockState) (d : Step) → NoneOf tables block b → IsDelivery d → block_of d ≡ block.0 →
    IsRefusal (transition tables d b).outcome
delivery-refused tables block b (step.Ask cache other a) none delivery here = absurd delivery
delivery-refused tables block b (step.Request other i) none delivery here =
    subst (λ n. IsRefusal (transition tables (step.Request (record { 0 = n }) i) b).outcome) (sym here)
    (request-refused tables block b i (slice_get b.traffic.requests i) none refl)
delivery-refused tables block b (step.Forward other cache) none delivery here =
    subst (λ n. IsRefusal (transition tables (step.Forward (record { 0 = n }) cache) b).outcome) (sym here)
    (forward-refused tables block b cache (slice_get (link b.traffic cache.0) 0) none refl)
delivery-refused tables block b (step.Response other i) none delivery here =
    subst (λ n. IsRefusal (transition tables (step.Response (record { 0 = n }) i) b).outcome) (sym here)
    (response-refused tables block b i (slice_get b.traffic.responses i) none refl)

none-enabled : (tables : Tables) (state : State) → state.broken ≡ false → enabled_steps tables state ≡ [] → all_enabled tables state.blocks ≡ []
none-enabled tables state whole e = sym (ap (λ t. if t then [] else all_enabled tables state.blocks) whole) ∙ e

none-of : (tables : Tables) (bs : List BlockState) (block : BlockId) (b : BlockState) → all_enabled tables bs ≡ [] → slice_get bs block.0 ≡ Some b →
    NoneOf tables block b
none-of tables bs block b e at =
    let two : of_each (requests_enabled tables) 0 bs ++ of_each (heads_in tables) 0 bs ≡ [] =
    front-empty (of_each (requests_enabled tables) 0 bs ++ of_each (heads_in tables) 0 bs) (of_each (responses_enabled tables) 0 bs) e in
    record {
      requests =
          none-of-block (requests_enabled tables) bs block b (front-empty (of_each (requests_enabled tables) 0 bs) (of_each (heads_in tables) 0 bs) two) at;
      heads = none-of-block (heads_in tables) bs block b (back-empty (of_each (requests_enabled tables) 0 bs) (of_each (heads_in tables) 0 bs) two) at;
      responses =
          none-of-block (responses_enabled tables) bs block b
          (back-empty (of_each (requests_enabled tables) 0 bs ++ of_each (heads_in tables) 0 bs) (of_each (responses_enabled tables) 0 bs) e) at;
    }

-- a step of a world that isn't broken, at a block that is there
pub outcome-here : (tables : Tables) (state : State) (s : Step) (b : BlockState) → state.broken ≡ false →
    slice_get state.blocks (block_of s) ≡ Some b → (next tables state s).outcome ≡ (transition tables s b).outcome
outcome-here tables state s b whole at =
    let broken : Next = record { state = state; outcome = outcome.Broken } in
    ap (λ t. (if t then broken else next_at tables state s (slice_get state.blocks (block_of s))).outcome) whole
    ∙ ap (λ o. (next_at tables state s o).outcome) at

-- where no step is enabled, none of a block acts
pub nothing-delivers : (tables : Tables) (state : State) (block : BlockId) (b : BlockState) (d : Step) → state.broken ≡ false →
    enabled_steps tables state ≡ [] → slice_get state.blocks block.0 ≡ Some b → ¬ Delivers tables state block d
nothing-delivers tables state block b d whole none at acts =
    acts.acts (subst IsRefusal (sym (outcome-here tables state d b whole (ap (slice_get state.blocks) acts.here ∙ at)))
    (delivery-refused tables block b d (none-of tables state.blocks block b (none-enabled tables state whole none) at) acts.delivery acts.here))
