use Rattle.std.specs.Prelude.{◌≡◌, ◌≢◌, ℕ, ◌+◌, ◌^◌, ◌<◌, ◌≤◌, ◌++◌, ◌∷◌, List, [], Option, None, Some, Bool, if◌then◌else◌, not, drop, false, length}
use Rattle.std.specs.Prelude.{map, slice_index, slice_index_or, slice_set, take, IsOk, IfErr, OnErr, OnOk}
use Rattle.std.specs.declared.result.Result.{Result}
use Rattle.std.specs.List.{sum_by}
use Rattle.network.specs.declared.message.Forward.{Forward}
use Rattle.network.specs.declared.wire.Marked.{Marked}
use Rattle.network.specs.Marks.{is_stopped}
use Rattle.network.specs.Traffic.{is_nil}

-- a wire, as contracts see it: its messages with their marks, and how many more it takes without asking for memory
pub record Wired (M : Type 0) : Type 0 where
  pub sent : List (Marked M)
  pub room : ℕ

-- the messages alone
abbrev pub messages_in : {M : Type 0} → List (Marked M) → List M
messages_in sent = map (λ m. m.message) sent

-- their marks alone
abbrev pub marks_in : {M : Type 0} → List (Marked M) → List Bool
marks_in sent = map (λ m. m.held) sent

-- a message that was sent just now
abbrev pub unmarked_one : {M : Type 0} → M → Marked M
unmarked_one message = record { message = message; held = false }

-- each has the mark that is told of its message
abbrev pub remarked : {M : Type 0} → (M → Bool) → List (Marked M) → List (Marked M)
remarked mark sent = map (λ m. record { message = m.message; held = mark m.message }) sent

-- those from a place on have
abbrev pub remarked_from : {M : Type 0} → ℕ → (M → Bool) → List (Marked M) → List (Marked M)
remarked_from from mark sent = take from sent ++ remarked mark (drop from sent)

-- a wire's messages from a place on have the marks that are told of them, and nothing else has changed
pub record IsRemarked {M : Type 0} (from : ℕ) (told : M → Bool) (old new : Wired M) : Type 0 where
  pub sent : new.sent ≡ remarked_from from told old.sent
  pub room : new.room ≡ old.room

-- a message stands at the end of a wire, or it came back and none has come or gone; where there was room it was sent
pub record SendsOn {T M : Type 0} (message : M) (result : Result T M) (old new : Wired M) : Type 0 where
  pub ok : OnOk result (new.sent ≡ old.sent ++ unmarked_one message ∷ [])
  pub err : OnErr result (new.sent ≡ old.sent)
  pub back : IfErr result (λ returned. returned ≡ message)
  pub succeeds : 0 < old.room → IsOk result
  pub room : old.room ≤ new.room + 1

-- no message has come or gone, and there is no less room
pub record KeepsMessages {M : Type 0} (old new : Wired M) : Type 0 where
  pub sent : new.sent ≡ old.sent
  pub room : old.room ≤ new.room

-- a mark as a number: 1 where it is set
abbrev pub one : Bool → ℕ
one held = if held then 1 else 0

-- how many marks are set
abbrev pub held_count : {M : Type 0} → List (Marked M) → ℕ
held_count sent = sum_by (λ m. one m.held) sent

-- a `u32` counts the messages of a wire, and so many of their marks are set
pub record IsCounted {M : Type 0} (sent : List (Marked M)) (held : ℕ) : Type 0 where
  pub few : length sent < 2 ^ 32
  pub count : held ≡ held_count sent

-- the links of a block, as contracts see them: what is on each, and how many more it takes without asking for memory
pub record Linked : Type 0 where
  pub sent : List (List (Marked Forward))
  pub room : List ℕ

-- what is on a link; one that was never used has nothing
abbrev pub on_link : Option (Wired Forward) → List (Marked Forward)
on_link None = []
on_link (Some w) = w.sent

-- the room of a link
abbrev pub room_on : Option (Wired Forward) → ℕ
room_on None = 0
room_on (Some w) = w.room

-- for each link whether it has a message
abbrev pub waiting_of : List (List (Marked Forward)) → List Bool
waiting_of links = map (λ l. not (is_nil l)) links

-- for each link whether it has a first message whose mark isn't set
abbrev pub free_of : List (List (Marked Forward)) → List Bool
free_of links = map (λ l. not (is_stopped (marks_in l))) links

-- a `u32` counts the messages of each link
abbrev pub AreFew : List (List (Marked Forward)) → Type 0
AreFew links = (cache : ℕ) → length (slice_index_or links cache []) < 2 ^ 32

-- links hold together: the flags say which has a message and which a free one, and the count is that of all messages
pub record AreLinked (links : List (List (Marked Forward))) (waits frees : List Bool) (all : ℕ) : Type 0 where
  pub waiting : waits ≡ waiting_of links
  pub free : frees ≡ free_of links
  pub few : AreFew links
  pub count : all ≡ sum_by length links

-- links with what they hold of wires
abbrev pub linked_of : List (Option (Wired Forward)) → Linked
linked_of links = record { sent = map on_link links; room = map room_on links }

-- no link has less room
pub record KeepsRoom (old new : List ℕ) : Type 0 where
  pub each : (cache : ℕ) → slice_index old cache ≤ slice_index new cache

-- no message has come or gone, and no link has less room
pub record KeepsLinks (old new : Linked) : Type 0 where
  pub sent : new.sent ≡ old.sent
  pub room : KeepsRoom old.room new.room

-- the messages on the link to a cache have the marks that are told of them, and nothing else has changed
pub record IsLinkRemarked (cache : ℕ) (told : Forward → Bool) (old new : Linked) : Type 0 where
  pub sent : new.sent ≡ slice_set old.sent cache (remarked told (slice_index_or old.sent cache []))
  pub room : new.room ≡ old.room

-- at most one place went, on the link to this cache
pub record UsesOneLink (cache : ℕ) (old new : List ℕ) : Type 0 where
  pub here : slice_index old cache ≤ slice_index new cache + 1
  pub others : (k : ℕ) → k ≢ cache → slice_index old k ≤ slice_index new k

-- a message stands at the end of the link to a cache, or it came back and none has come or gone; where there was room it was sent
pub record SendsOnLink {T : Type 0} (cache : ℕ) (forward : Forward) (result : Result T Forward) (old new : Linked) : Type 0 where
  pub ok : OnOk result (new.sent ≡ slice_set old.sent cache (slice_index_or old.sent cache [] ++ unmarked_one forward ∷ []))
  pub err : OnErr result (new.sent ≡ old.sent)
  pub back : IfErr result (λ returned. returned ≡ forward)
  pub succeeds : 0 < slice_index old.room cache → IsOk result
  pub room : UsesOneLink cache old.room new.room

-- there is room for so many more messages on the link to a cache, unless that was refused, which it isn't where there was; no message has
-- come or gone
pub record MakesRoomOnLink {T E : Type 0} (cache count : ℕ) (result : Result T E) (old new : Linked) : Type 0 where
  pub kept : KeepsLinks old new
  pub ok : OnOk result (count ≤ slice_index new.room cache)
  pub succeeds : count ≤ slice_index old.room cache → IsOk result
