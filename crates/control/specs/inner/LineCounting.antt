use Rattle.std.specs.Prelude.{ℕ, ◌+◌, List, [], ◌∷◌, Option, Some}
use Rattle.base.specs.declared.ids.CacheId.{CacheId}
use Rattle.cache_table.specs.declared.actions.CacheAction.{CacheAction}
use Rattle.cache_table.specs.declared.actions.CacheAction.TheVariants as cache_action

-- how many requests one action of a line sends
abbrev pub requests_of : CacheAction → ℕ
requests_of cache_action.GetS = 1
requests_of cache_action.GetM = 1
requests_of cache_action.PutS = 1
requests_of cache_action.PutM = 1
requests_of cache_action.InvAck = 0
requests_of cache_action.DataReq = 0
requests_of cache_action.DataDir = 0

-- how many responses one action of a line sends, to the requestor if there is one
abbrev pub responses_of : Option CacheId → CacheAction → ℕ
responses_of (Some to) cache_action.InvAck = 1
responses_of (Some to) cache_action.DataReq = 1
responses_of to cache_action.DataDir = 1
responses_of to other = 0

-- how many requests the actions of a line send
abbrev pub requests_by : List CacheAction → ℕ
requests_by [] = 0
requests_by (a ∷ actions) = requests_of a + requests_by actions

-- how many responses the actions of a line send
abbrev pub responses_by : Option CacheId → List CacheAction → ℕ
responses_by to [] = 0
responses_by to (a ∷ actions) = responses_of to a + responses_by to actions
