use Rattle.std.specs.Prelude.{◌≡◌, ℕ, ◌+◌, ◌<◌, ◌≤◌, List, [], ◌∷◌, slice_index, ◌==◌, Bool, true, false, Option}
use Rattle.std.specs.Prelude.{IsOk, IfErr, IfNone, OnErr, OnOk, OnSome}
use Rattle.std.specs.declared.result.Result.{Result}
use Rattle.base.specs.declared.ids.CacheId.{CacheId}
use Rattle.network.specs.declared.message.Message.{Message}
use Rattle.network.specs.declared.message.Message.TheVariants as message
use Rattle.network.specs.Marks.{Marks, all_marks_added}
use Rattle.network.specs.Traffic.{Traffic, all_sent}

-- how many more messages each wire takes without asking for memory
pub record Room : Type 0 where
  pub requests : ℕ
  pub links : List ℕ
  pub responses : ℕ

-- the wires of a block, as contracts see them
pub record Wiring : Type 0 where
  pub traffic : Traffic
  pub room : Room
  pub marks : Marks

abbrev pub one_if : Bool → ℕ
one_if true = 1
one_if false = 0

-- how many of these messages are requests
abbrev pub requests_in : List Message → ℕ
requests_in [] = 0
requests_in (message.Request r ∷ ms) = 1 + requests_in ms
requests_in (message.Forward to f ∷ ms) = requests_in ms
requests_in (message.Response r ∷ ms) = requests_in ms

-- how many of them go on the link to a cache
abbrev pub forwards_in : ℕ → List Message → ℕ
forwards_in cache [] = 0
forwards_in cache (message.Request r ∷ ms) = forwards_in cache ms
forwards_in cache (message.Forward to f ∷ ms) = one_if (to.0 == cache) + forwards_in cache ms
forwards_in cache (message.Response r ∷ ms) = forwards_in cache ms

-- how many of them go on links
abbrev pub forward_count : List Message → ℕ
forward_count [] = 0
forward_count (message.Request r ∷ ms) = forward_count ms
forward_count (message.Forward to f ∷ ms) = 1 + forward_count ms
forward_count (message.Response r ∷ ms) = forward_count ms

-- how many of them are responses
abbrev pub responses_in : List Message → ℕ
responses_in [] = 0
responses_in (message.Request r ∷ ms) = responses_in ms
responses_in (message.Forward to f ∷ ms) = responses_in ms
responses_in (message.Response r ∷ ms) = 1 + responses_in ms

-- these messages can be sent without asking for memory
pub record HasRoomFor (messages : List Message) (room : Room) : Type 0 where
  pub requests : requests_in messages ≤ room.requests
  pub links : (cache : ℕ) → forwards_in cache messages ≤ slice_index room.links cache
  pub responses : responses_in messages ≤ room.responses

-- no more room has gone than these messages take
pub record UsesRoomFor (messages : List Message) (old new : Room) : Type 0 where
  pub requests : old.requests ≤ new.requests + requests_in messages
  pub links : (cache : ℕ) → slice_index old.links cache ≤ slice_index new.links cache + forwards_in cache messages
  pub responses : old.responses ≤ new.responses + responses_in messages

-- these messages were sent in order, each without a mark, and no more room has gone than they take
pub record Sends (messages : List Message) (old new : Wiring) : Type 0 where
  pub traffic : new.traffic ≡ all_sent messages old.traffic
  pub marks : new.marks ≡ all_marks_added messages old.marks
  pub room : UsesRoomFor messages old.room new.room

-- a message was sent, or it came back and no list has changed; where there was room it was sent
pub record SendsOrReturns {T M : Type 0} (message : Message) (bare : M) (result : Result T M) (old new : Wiring) : Type 0 where
  pub ok : OnOk result (new.traffic ≡ all_sent (message ∷ []) old.traffic)
  pub ok_marks : OnOk result (new.marks ≡ all_marks_added (message ∷ []) old.marks)
  pub err : OnErr result (new.traffic ≡ old.traffic)
  pub err_marks : OnErr result (new.marks ≡ old.marks)
  pub back : IfErr result (λ returned. returned ≡ bare)
  pub succeeds : HasRoomFor (message ∷ []) old.room → IsOk result
  pub room : UsesRoomFor (message ∷ []) old.room new.room

-- a message was taken out with its mark, and this is left; where none was there no list has changed. No room has gone
pub record TakesMessage {M : Type 0} (left : Traffic → Traffic) (left_marks : Marks → Marks) (result : Option M) (old new : Wiring) : Type 0 where
  pub some : OnSome result (new.traffic ≡ left old.traffic)
  pub some_marks : OnSome result (new.marks ≡ left_marks old.marks)
  pub none : IfNone result (new.traffic ≡ old.traffic)
  pub none_marks : IfNone result (new.marks ≡ old.marks)
  pub room : UsesRoomFor [] old.room new.room

-- what was asked for has room now, unless it was refused, which it isn't where there was room before; nothing else has changed
pub record MakesRoom {T E : Type 0} (asked : Room → Type 0) (result : Result T E) (old new : Wiring) : Type 0 where
  pub traffic : new.traffic ≡ old.traffic
  pub marks : new.marks ≡ old.marks
  pub ok : OnOk result (asked new.room)
  pub succeeds : asked old.room → IsOk result
  pub room : UsesRoomFor [] old.room new.room

-- how often a cache is listed
abbrev pub times : ℕ → List CacheId → ℕ
times cache [] = 0
times cache (c ∷ cs) = one_if (c.0 == cache) + times cache cs

-- each listed cache is one of so many
abbrev pub AllBelow : ℕ → List CacheId → Type 0
AllBelow caches [] = Unit {0}
AllBelow caches (c ∷ cs) = (c.0 < caches) × AllBelow caches cs

-- there is room for so many requests and responses, and on each link for as many messages as it is listed
pub record HasPlaces (asking : ℕ) (listed : List CacheId) (answering : ℕ) (room : Room) : Type 0 where
  pub requests : asking ≤ room.requests
  pub links : (cache : ℕ) → times cache listed ≤ slice_index room.links cache
  pub responses : answering ≤ room.responses

-- where the message goes on a link, it is the link to one of so many caches
abbrev pub HasLinkFor : Message → ℕ → Type 0
HasLinkFor (message.Forward to f) caches = to.0 < caches
HasLinkFor (message.Request r) caches = Unit {0}
HasLinkFor (message.Response r) caches = Unit {0}
