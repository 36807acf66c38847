use Rattle.std.specs.Prelude.{◌≡◌, ℕ, ◌+◌, ◌≤◌, ◌<◌, Bool, true, false, ◌&&◌, List, [], ◌∷◌, ◌++◌, length, remove, replicate, slice_index_or, slice_set}
use Rattle.std.specs.List.{sum_by}
use Rattle.network.specs.declared.message.Request.{Request}
use Rattle.network.specs.declared.message.Forward.{Forward}
use Rattle.network.specs.declared.message.Response.{Response}
use Rattle.network.specs.declared.message.Message.{Message}
use Rattle.network.specs.declared.message.Message.TheVariants as message

-- the messages of a block that are on their way: requests and responses in order of sending, and the link to each cache
pub record Traffic : Type 0 where
  pub requests : List Request
  pub links : List (List Forward)
  pub responses : List Response

-- nothing is on its way
abbrev pub quiet : ℕ → Traffic
quiet caches = record { requests = []; links = replicate caches []; responses = [] }

-- whether a list has nothing
abbrev pub is_nil : {A : Type 0} → List A → Bool
is_nil [] = true
is_nil (x ∷ xs) = false

-- whether no link has a message
abbrev pub all_nil : List (List Forward) → Bool
all_nil [] = true
all_nil (l ∷ ls) = is_nil l && all_nil ls

-- whether nothing is on its way
abbrev pub is_quiet : Traffic → Bool
is_quiet w = is_nil w.requests && all_nil w.links && is_nil w.responses

-- how many messages are on their way: requests, what is on all links, and responses
abbrev pub message_count : Traffic → ℕ
message_count w = length w.requests + sum_by length w.links + length w.responses

-- what is on the link to a cache, the first message first
abbrev pub link : Traffic → ℕ → List Forward
link w cache = slice_index_or w.links cache []

-- after a request was sent
abbrev pub request_sent : Request → Traffic → Traffic
request_sent r w = record w { requests = w.requests ++ r ∷ [] }

-- after a message was put on the link to a cache
abbrev pub forward_sent : ℕ → Forward → Traffic → Traffic
forward_sent cache f w = record w { links = slice_set w.links cache (link w cache ++ f ∷ []) }

-- after a response was sent
abbrev pub response_sent : Response → Traffic → Traffic
response_sent r w = record w { responses = w.responses ++ r ∷ [] }

-- after a message was sent: each wire takes its messages at the end
abbrev pub sent : Message → Traffic → Traffic
sent (message.Request r) w = request_sent r w
sent (message.Forward to f) w = forward_sent to.0 f w
sent (message.Response r) w = response_sent r w

-- after these messages were sent, in order
abbrev pub all_sent : List Message → Traffic → Traffic
all_sent [] w = w
all_sent (m ∷ ms) w = all_sent ms (sent m w)

-- after a request was taken out, from any place; the others keep their order
abbrev pub request_taken : ℕ → Traffic → Traffic
request_taken i w = record w { requests = remove w.requests i }

-- after the first message of a link was taken out
abbrev pub head_taken : ℕ → Traffic → Traffic
head_taken cache w = record w { links = slice_set w.links cache (remove (link w cache) 0) }

-- after a response was taken out, from any place; the others keep their order
abbrev pub response_taken : ℕ → Traffic → Traffic
response_taken i w = record w { responses = remove w.responses i }

-- the least cache from one on whose link has a message
pub record IsNextWaiting (w : Traffic) (from cache : ℕ) : Type 0 where
  pub behind : from ≤ cache
  pub waits : is_nil (link w cache) ≡ false
  pub first : (k : ℕ) → from ≤ k → k < cache → link w k ≡ []

-- no link to a cache from one on has a message
pub record NoneWaits (w : Traffic) (from : ℕ) : Type 0 where
  pub none : (k : ℕ) → from ≤ k → link w k ≡ []
