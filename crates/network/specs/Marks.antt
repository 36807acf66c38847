-- Marks beside messages: a mark for each message of a wire, in the same order; the places without a mark, and how many these are.
use Rattle.std.specs.Prelude.{ℕ, ◌+◌, Bool, true, false, not, if◌then◌else◌, List, [], ◌∷◌, ◌++◌, map, count_by, remove, replicate, slice_index_or, slice_set}
use Rattle.network.specs.declared.message.Message.{Message}
use Rattle.network.specs.declared.message.Message.TheVariants as message

-- the marks of what is on the wires of a block, in the order of its messages
pub record Marks : Type 0 where
  pub requests : List Bool
  pub links : List (List Bool)
  pub responses : List Bool

-- nothing is marked where nothing is on its way
abbrev pub no_marks : ℕ → Marks
no_marks caches = record { requests = []; links = replicate caches []; responses = [] }

-- the marks of what is on the link to a cache, that of the first message first
abbrev pub link_marks : Marks → ℕ → List Bool
link_marks m cache = slice_index_or m.links cache []

-- the mark at a place; false where there is no message
abbrev pub mark_at : List Bool → ℕ → Bool
mark_at marks i = slice_index_or marks i false

-- after a request was sent
abbrev pub request_mark_added : Marks → Marks
request_mark_added m = record m { requests = m.requests ++ false ∷ [] }

-- after a message was put on the link to a cache
abbrev pub forward_mark_added : ℕ → Marks → Marks
forward_mark_added cache m = record m { links = slice_set m.links cache (link_marks m cache ++ false ∷ []) }

-- after a response was sent
abbrev pub response_mark_added : Marks → Marks
response_mark_added m = record m { responses = m.responses ++ false ∷ [] }

-- after a message was sent: each wire takes its mark at the end
abbrev pub mark_added : Message → Marks → Marks
mark_added (message.Request r) m = request_mark_added m
mark_added (message.Forward to f) m = forward_mark_added to.0 m
mark_added (message.Response r) m = response_mark_added m

-- after these messages were sent, in order
abbrev pub all_marks_added : List Message → Marks → Marks
all_marks_added [] m = m
all_marks_added (x ∷ xs) m = all_marks_added xs (mark_added x m)

-- after a request was taken out, from any place
abbrev pub request_mark_taken : ℕ → Marks → Marks
request_mark_taken i m = record m { requests = remove m.requests i }

-- after the first message of a link was taken out
abbrev pub head_mark_taken : ℕ → Marks → Marks
head_mark_taken cache m = record m { links = slice_set m.links cache (remove (link_marks m cache) 0) }

-- after a response was taken out, from any place
abbrev pub response_mark_taken : ℕ → Marks → Marks
response_mark_taken i m = record m { responses = remove m.responses i }

-- the places whose mark isn't set, where the marks are those of the places from a number on
abbrev pub unmarked : ℕ → List Bool → List ℕ
unmarked i [] = []
unmarked i (held ∷ marks) = if held then unmarked (i + 1) marks else i ∷ unmarked (i + 1) marks

-- whether a link is without a message that could be taken: it has none, or the mark of its first one is set
abbrev pub is_stopped : List Bool → Bool
is_stopped [] = true
is_stopped (held ∷ marks) = held

-- the caches whose link has a message and whose first mark isn't set, where the links are those to the caches from a number on
abbrev pub unmarked_heads : ℕ → List (List Bool) → List ℕ
unmarked_heads cache links = unmarked cache (map is_stopped links)

-- how many marks aren't set
abbrev pub unmarked_count : List Bool → ℕ
unmarked_count marks = count_by not marks

-- how many links have a message and a first mark that isn't set
abbrev pub unmarked_heads_count : List (List Bool) → ℕ
unmarked_heads_count links = unmarked_count (map is_stopped links)
