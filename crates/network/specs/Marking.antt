-- What is left of the wires of a block once messages were marked anew, each as is told of it.
use Rattle.std.specs.Prelude.{ℕ, ◌++◌, Bool, drop, map, slice_set, take}
use Rattle.network.specs.declared.message.Request.{Request}
use Rattle.network.specs.declared.message.Forward.{Forward}
use Rattle.network.specs.declared.message.Response.{Response}
use Rattle.network.specs.Room.{Wiring}
use Rattle.network.specs.Traffic.{link}

-- the requests from a place on were marked
abbrev pub requests_marked : ℕ → (Request → Bool) → Wiring → Wiring
requests_marked from mark w = record w { marks = record w.marks { requests = take from w.marks.requests ++ map mark (drop from w.traffic.requests) } }

-- what is on the link to a cache was
abbrev pub link_marked : ℕ → (Forward → Bool) → Wiring → Wiring
link_marked cache mark w = record w { marks = record w.marks { links = slice_set w.marks.links cache (map mark (link w.traffic cache)) } }

-- all responses were
abbrev pub responses_marked : (Response → Bool) → Wiring → Wiring
responses_marked mark w = record w { marks = record w.marks { responses = map mark w.traffic.responses } }
