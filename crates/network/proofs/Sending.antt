use Rattle.std.proofs.Common.{◌≡◌, ℕ, ◌+◌, ◌≤◌, List, [], ◌∷◌, ◌++◌, length, take, false, ap, refl, sym, ◌∙◌, arith}
use Rattle.std.proofs.lemmas.List.{length-append, length-set, take-append-le}
use Rattle.network.specs.declared.message.Message.{Message}
use Rattle.network.specs.declared.message.Message.TheVariants as message
use Rattle.network.specs.Marks.{Marks, all_marks_added, mark_added, request_mark_added, forward_mark_added, response_mark_added}
use Rattle.network.specs.Traffic.{Traffic, sent, all_sent}
use Rattle.network.specs.Room.{Room, Wiring, HasRoomFor, Sends, UsesRoomFor, requests_in, forwards_in, responses_in}

-- messages are sent one list after another
pub all_sent-append : (ms ns : List Message) (w : Traffic) → all_sent (ms ++ ns) w ≡ all_sent ns (all_sent ms w)
all_sent-append [] ns w = refl
all_sent-append (m ∷ ms) ns w = all_sent-append ms ns (sent m w)

pub all_marks_added-append : (ms ns : List Message) (w : Marks) → all_marks_added (ms ++ ns) w ≡ all_marks_added ns (all_marks_added ms w)
all_marks_added-append [] ns w = refl
all_marks_added-append (m ∷ ms) ns w = all_marks_added-append ms ns (mark_added m w)

pub requests_in-append : (ms ns : List Message) → requests_in (ms ++ ns) ≡ requests_in ms + requests_in ns
requests_in-append [] ns = omega arith
requests_in-append (message.Request r ∷ ms) ns = omega (arith, requests_in-append ms ns)
requests_in-append (message.Forward to f ∷ ms) ns = requests_in-append ms ns
requests_in-append (message.Response r ∷ ms) ns = requests_in-append ms ns

pub forwards_in-append : (cache : ℕ) (ms ns : List Message) → forwards_in cache (ms ++ ns) ≡ forwards_in cache ms + forwards_in cache ns
forwards_in-append cache [] ns = omega arith
forwards_in-append cache (message.Request r ∷ ms) ns = forwards_in-append cache ms ns
forwards_in-append cache (message.Forward to f ∷ ms) ns = omega (arith, forwards_in-append cache ms ns)
forwards_in-append cache (message.Response r ∷ ms) ns = forwards_in-append cache ms ns

pub responses_in-append : (ms ns : List Message) → responses_in (ms ++ ns) ≡ responses_in ms + responses_in ns
responses_in-append [] ns = omega arith
responses_in-append (message.Request r ∷ ms) ns = responses_in-append ms ns
responses_in-append (message.Forward to f ∷ ms) ns = responses_in-append ms ns
responses_in-append (message.Response r ∷ ms) ns = omega (arith, responses_in-append ms ns)

-- once the first messages were sent, there is room for the others
pub room-left : (ms ns : List Message) (old new : Room) → HasRoomFor (ms ++ ns) old → UsesRoomFor ms old new → HasRoomFor ns new
room-left ms ns old new has used = record {
  requests = omega (arith, has.requests, used.requests, requests_in-append ms ns);
  links = λ cache. omega (arith, has.links cache, used.links cache, forwards_in-append cache ms ns);
  responses = omega (arith, has.responses, used.responses, responses_in-append ms ns);
}

-- there is room for the first messages of a list
pub room-front : (ms ns : List Message) (room : Room) → HasRoomFor (ms ++ ns) room → HasRoomFor ms room
room-front ms ns room has = record {
  requests = omega (arith, has.requests, requests_in-append ms ns);
  links = λ cache. omega (arith, has.links cache, forwards_in-append cache ms ns);
  responses = omega (arith, has.responses, responses_in-append ms ns);
}

-- what is used for one list after another is used for both
pub used-append : (ms ns : List Message) (old mid new : Room) → UsesRoomFor ms old mid → UsesRoomFor ns mid new → UsesRoomFor (ms ++ ns) old new
used-append ms ns old mid new first then = record {
  requests = omega (arith, first.requests, then.requests, requests_in-append ms ns);
  links = λ cache. omega (arith, first.links cache, then.links cache, forwards_in-append cache ms ns);
  responses = omega (arith, first.responses, then.responses, responses_in-append ms ns);
}

-- where nothing is sent, nothing has changed
pub sends-nothing : (wires : Wiring) → Sends [] wires wires
sends-nothing wires = record {
  traffic = refl;
  marks = refl;
  room = record { requests = omega arith; links = λ cache. omega arith; responses = omega arith };
}

-- what is sent one list after another is sent
pub sends-append : (ms ns : List Message) (old mid new : Wiring) → Sends ms old mid → Sends ns mid new → Sends (ms ++ ns) old new
sends-append ms ns old mid new first then = record {
  traffic = then.traffic ∙ ap (all_sent ns) first.traffic ∙ sym (all_sent-append ms ns old.traffic);
  marks = then.marks ∙ ap (all_marks_added ns) first.marks ∙ sym (all_marks_added-append ms ns old.marks);
  room = used-append ms ns old.room mid.room new.room first.room then.room;
}

-- a message sent adds no link
pub links-sent : (m : Message) (w : Traffic) → length (sent m w).links ≡ length w.links
links-sent (message.Request r) w = refl
links-sent (message.Forward to f) w = length-set w.links to.0 _
links-sent (message.Response r) w = refl

pub links-all_sent : (ms : List Message) (w : Traffic) → length (all_sent ms w).links ≡ length w.links
links-all_sent [] w = refl
links-all_sent (m ∷ ms) w = links-all_sent ms (sent m w) ∙ links-sent m w

pub links-sends : (ms : List Message) (old new : Wiring) → Sends ms old new → length new.traffic.links ≡ length old.traffic.links
links-sends ms old new sent = ap (λ (w : Traffic). length w.links) sent.traffic ∙ links-all_sent ms old.traffic

-- the marks of the requests that were there stay in front
pub requests-stay : (ms : List Message) (m : Marks) (n : ℕ) → n ≤ length m.requests → take n (all_marks_added ms m).requests ≡ take n m.requests
requests-stay [] m n few = refl
requests-stay (message.Request r ∷ ms) m n few =
    requests-stay ms (request_mark_added m) n (omega (arith, length-append m.requests (false ∷ []))) ∙ take-append-le n m.requests (false ∷ []) few
requests-stay (message.Forward to f ∷ ms) m n few = requests-stay ms (forward_mark_added to.0 m) n few
requests-stay (message.Response r ∷ ms) m n few = requests-stay ms (response_mark_added m) n few
