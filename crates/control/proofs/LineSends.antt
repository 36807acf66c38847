use Rattle.std.proofs.Common.{◌≡◌, ℕ, ◌+◌, ◌<◌, ◌≤◌, List, [], ◌∷◌, ◌++◌, length, get_or, drop, refl, zero, suc, arith, Option, Some, None}
use Rattle.base.specs.declared.ids.CacheId.{CacheId}
use Rattle.network.specs.Room.{requests_in, responses_in, forwards_in}
use Rattle.network.proofs.Sending.{requests_in-append, responses_in-append, forwards_in-append}
use Rattle.cache_table.specs.declared.actions.CacheAction.{CacheAction}
use Rattle.cache_table.specs.declared.actions.CacheAction.TheVariants as action
use Rattle.control.specs.LineEffect.{line_message, line_messages}
use Rattle.control.specs.inner.LineCounting.{requests_of, responses_of, requests_by, responses_by}

-- the messages of the actions from a place on begin with those of the action there
pub messages-front : (cache : CacheId) (value : ℕ) (to : Option CacheId) (actions : List CacheAction) (i : ℕ) (d : CacheAction) → i < length actions
    → line_messages cache value to (drop i actions) ≡ line_message cache value to (get_or actions i d) ++ line_messages cache value to (drop (i + 1) actions)
messages-front cache value to [] i d h = absurd (omega arith)
messages-front cache value to (a ∷ actions) zero d h = refl
messages-front cache value to (a ∷ actions) (suc i) d h =
    let e : suc i + 1 ≡ suc (i + 1) = omega arith in
    rw e (messages-front cache value to actions i d (omega arith))

requests-of : (cache : CacheId) (value : ℕ) (to : Option CacheId) (a : CacheAction) → requests_in (line_message cache value to a) ≡ requests_of a
requests-of cache value to a = grind (arith)

responses-of : (cache : CacheId) (value : ℕ) (to : Option CacheId) (a : CacheAction) → responses_in (line_message cache value to a) ≡ responses_of to a
responses-of cache value to a = grind (arith)

forwards-of : (k : ℕ) (cache : CacheId) (value : ℕ) (to : Option CacheId) (a : CacheAction) → forwards_in k (line_message cache value to a) ≡ 0
forwards-of k cache value to a = grind (arith)

-- how many requests, responses and forwards the actions of a line send
pub requests-by : (cache : CacheId) (value : ℕ) (to : Option CacheId) (actions : List CacheAction)
    → requests_in (line_messages cache value to actions) ≡ requests_by actions
requests-by cache value to [] = refl
requests-by cache value to (a ∷ actions) =
    omega (
      arith,
      requests_in-append (line_message cache value to a) (line_messages cache value to actions),
      requests-of cache value to a,
      requests-by cache value to actions,
    )

pub responses-by : (cache : CacheId) (value : ℕ) (to : Option CacheId) (actions : List CacheAction)
    → responses_in (line_messages cache value to actions) ≡ responses_by to actions
responses-by cache value to [] = refl
responses-by cache value to (a ∷ actions) =
    omega (
      arith,
      responses_in-append (line_message cache value to a) (line_messages cache value to actions),
      responses-of cache value to a,
      responses-by cache value to actions,
    )

pub forwards-by : (k : ℕ) (cache : CacheId) (value : ℕ) (to : Option CacheId) (actions : List CacheAction)
    → forwards_in k (line_messages cache value to actions) ≡ 0
forwards-by k cache value to [] = refl
forwards-by k cache value to (a ∷ actions) =
    omega (
      arith,
      forwards_in-append k (line_message cache value to a) (line_messages cache value to actions),
      forwards-of k cache value to a,
      forwards-by k cache value to actions,
    )

-- each action sends one request or one response at most
pub requests-few : (actions : List CacheAction) → requests_by actions ≤ length actions
requests-few [] = omega arith
requests-few (a ∷ actions) = omega (arith, one a, requests-few actions)
  where
    one : (a : CacheAction) → requests_of a ≤ 1
    one action.GetS = omega arith
    one action.GetM = omega arith
    one action.PutS = omega arith
    one action.PutM = omega arith
    one action.InvAck = omega arith
    one action.DataReq = omega arith
    one action.DataDir = omega arith

pub responses-few : (to : Option CacheId) (actions : List CacheAction) → responses_by to actions ≤ length actions
responses-few to [] = omega arith
responses-few to (a ∷ actions) = omega (arith, one to a, responses-few to actions)
  where
    one : (to : Option CacheId) (a : CacheAction) → responses_of to a ≤ 1
    one None action.GetS = omega arith
    one None action.GetM = omega arith
    one None action.PutS = omega arith
    one None action.PutM = omega arith
    one None action.InvAck = omega arith
    one None action.DataReq = omega arith
    one None action.DataDir = omega arith
    one (Some c) action.GetS = omega arith
    one (Some c) action.GetM = omega arith
    one (Some c) action.PutS = omega arith
    one (Some c) action.PutM = omega arith
    one (Some c) action.InvAck = omega arith
    one (Some c) action.DataReq = omega arith
    one (Some c) action.DataDir = omega arith
