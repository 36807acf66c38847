use Rattle.std.proofs.lemmas.Bool.Decides.{nat_tests}
use Rattle.std.proofs.Common.{◌≡◌, ◌≢◌, ◌≤◌, ℕ, ◌+◌, ◌<◌, List, [], ◌∷◌, length}
use Rattle.std.proofs.Common.{get_or, set, refl, sym, ◌∙◌, ap, zero, suc, arith, Option}
use Rattle.std.proofs.Common.{Some, None, Bool, true, false, ltb, lt-ltb, le-ltb, ◌==◌, ◌&&◌, ◌||◌, not, inl, inr, if◌then◌else◌}
use Rattle.std.proofs.lemmas.List.{length-set, get_or-set_same, get_or-set_other, get_or_past}
use Rattle.std.proofs.Math.Bool.{and-false}
use Rattle.std.proofs.lemmas.Bool.{cases_Bool, cases_eq, cases_lt, ne_eqb}
use Rattle.std.proofs.lemmas.Bool.Decides.{eqb_tells}
use Rattle.base.specs.declared.ids.CacheId.{CacheId}
use Rattle.network.specs.declared.message.ForwardKind.{ForwardKind}
use Rattle.network.specs.declared.message.ForwardKind.TheVariants as forward
use Rattle.network.specs.Room.{Room, HasRoomFor, one_if, requests_in, responses_in, forwards_in}
use Rattle.network.proofs.Sending.{requests_in-append, responses_in-append, forwards_in-append}
use Rattle.directory_table.specs.declared.actions.DirectoryAction.{DirectoryAction}
use Rattle.directory_table.specs.declared.actions.DirectoryAction.TheVariants as action
use Rattle.control.specs.declared.home.Home.{Home}
use Rattle.control.specs.HomeEvents.{owns}
use Rattle.control.specs.Sharing.{shares}
use Rattle.control.specs.HomeEffect.{home_message, home_messages, home_changed, with_owner, owner_message, link_message, invalidation, invalidations}
use Rattle.control.specs.Homes.{IsBelow, NamesBelow}
use Rattle.control.specs.inner.HomeCounting.{replies_of, replies_by, is_sent_to, owner_left, sharer_left, forwards_by, forwards_to}
use Rattle.control.specs.inner.HomeCounting.{is_invalidation, invalidates, HasRoomOnLink, HasRoomToOwner, HasRoomToReply, HasRoomToSharers}
use Rattle.control.proofs.HomeSends.{keeps-changed, no-flag}

abbrev pub cache : ℕ → CacheId
cache k = record { 0 = k }

-- one invalidation goes on the link of its cache alone
invalidation-at : (k : ℕ) (to c : CacheId) (flag : Bool) →
    forwards_in k (invalidation to c flag) ≡ (if flag && not (c.0 == to.0) then one_if (c.0 == k) else 0)
invalidation-at k to c flag = by-test (flag && not (c.0 == to.0))
  where
    by-test : (t : Bool) → forwards_in k (if t then link_message c forward.Inv to ∷ [] else []) ≡ (if t then one_if (c.0 == k) else 0)
    by-test true = omega arith
    by-test false = refl

if-zero : (t : Bool) (n : ℕ) → n ≡ 0 → (if t then n else 0) ≡ 0
if-zero true n e = e
if-zero false n e = refl

if-one : (t : Bool) (n : ℕ) → n ≡ 1 → (if t then n else 0) ≡ one_if t
if-one true n e = e
if-one false n e = refl

pub eqb-self : (k : ℕ) → (k == k) ≡ true
eqb-self k = elim (eqb_tells k k) [ inl h ↦ h.0 | inr h ↦ absurd (h.1 refl) ]

-- the invalidations from a number on go to no cache below it
invalidations-below : (k : ℕ) (to : CacheId) (flags : List Bool) (i : ℕ) → k < i → forwards_in k (invalidations to i flags) ≡ 0
invalidations-below k to [] i h = refl
invalidations-below k to (f ∷ flags) i h =
    let other : one_if (i == k) ≡ 0 = ap one_if (ne_eqb i k (λ e. absurd (omega (arith, e)))) in
    let here : forwards_in k (invalidation to (cache i) f) ≡ 0 =
    invalidation-at k to (cache i) f ∙ if-zero (f && not (i == to.0)) (one_if (i == k)) other in
    omega (
      arith,
      forwards_in-append k (invalidation to (cache i) f) (invalidations to (i + 1) flags),
      here,
      invalidations-below k to flags (i + 1) (omega arith),
    )

-- one goes to each sharer but the requestor
invalidations-at : (j : ℕ) (to : CacheId) (flags : List Bool) (i k : ℕ) → k ≡ i + j
    → forwards_in k (invalidations to i flags) ≡ one_if (get_or flags j false && not (k == to.0))
invalidations-at zero to [] i k e = refl
invalidations-at (suc j) to [] i k e = refl
invalidations-at zero to (f ∷ flags) i k e =
    let same : k ≡ i = omega arith in
    let one : one_if (i == k) ≡ 1 = rw same (ap one_if (eqb-self i)) in
    let here : forwards_in k (invalidation to (cache i) f) ≡ one_if (f && not (i == to.0)) =
    invalidation-at k to (cache i) f ∙ if-one (f && not (i == to.0)) (one_if (i == k)) one in
    let goal : one_if (f && not (k == to.0)) ≡ one_if (f && not (i == to.0)) = ap (λ (n : ℕ). one_if (f && not (n == to.0))) same in
    omega (
      arith,
      goal,
      forwards_in-append k (invalidation to (cache i) f) (invalidations to (i + 1) flags),
      here,
      invalidations-below k to flags (i + 1) (omega arith),
    )
invalidations-at (suc j) to (f ∷ flags) i k e =
    let other : one_if (i == k) ≡ 0 = ap one_if (ne_eqb i k (λ same. absurd (omega (arith, same)))) in
    let here : forwards_in k (invalidation to (cache i) f) ≡ 0 =
    invalidation-at k to (cache i) f ∙ if-zero (f && not (i == to.0)) (one_if (i == k)) other in
    omega (
      arith,
      forwards_in-append k (invalidation to (cache i) f) (invalidations to (i + 1) flags),
      here,
      invalidations-at j to flags (i + 1) k (omega arith),
    )

-- what one action sends on the link of a cache
owner_message-at : (k : ℕ) (owner : Option CacheId) (kind : ForwardKind) (to : CacheId)
    → forwards_in k (owner_message owner kind to) ≡ one_if (owns owner (cache k))
owner_message-at k None kind to = refl
owner_message-at k (Some o) kind to = omega arith

message-at : (k : ℕ) (from : CacheId) (a : DirectoryAction) (home : Home)
    → forwards_in k (home_message (Some from) a home) ≡ one_if (is_sent_to (cache k) from home.owner (shares home.sharers k) a)
message-at k from action.DataReq home = refl
message-at k from action.DataAcks home = refl
message-at k from action.InvSharers home = invalidations-at k from home.sharers 0 k (omega arith)
message-at k from action.FwdGetS home = owner_message-at k home.owner forward.FwdGetS from
message-at k from action.FwdGetM home = owner_message-at k home.owner forward.FwdGetM from
message-at k from action.PutAck home = omega arith
message-at k from action.AddReq home = refl
message-at k from action.AddOwner home = refl
message-at k from action.RemoveReq home = refl
message-at k from action.ClearSharers home = refl
message-at k from action.ClearOwner home = refl
message-at k from action.SetOwner home = refl
message-at k from action.CopyData home = refl
message-at k from action.DataExcl home = refl

owner-left-with : (owner : Option CacheId) (home : Home) → (with_owner owner home).owner ≡ home.owner
owner-left-with None home = refl
owner-left-with (Some o) home = refl

-- the owner after one action
owner-left : (from : CacheId) (value : Option ℕ) (a : DirectoryAction) (home : Home)
    → (home_changed (Some from) value a home).owner ≡ owner_left from a home.owner
owner-left from value a home = grind (arith, owner-left-with)

-- a flag is up only where there is one
flagged : (n k : ℕ) (flags : List Bool) (up : Bool) → length flags ≡ n → (k < n → get_or flags k false ≡ up) →
    get_or flags k false ≡ (ltb k n && up)
flagged n k flags up long here = elim (cases_lt k n) [
  | inl lt ↦ rw (lt-ltb k n lt) (here lt)
  | inr le ↦ rw (le-ltb k n le) (get_or_past flags k false (omega (arith, long, le)))
]

-- a flag that is set, or taken back
flag-set : (flags : List Bool) (c k : ℕ) → get_or (set flags c true) k false ≡ (ltb k (length flags) && ((c == k) || get_or flags k false))
flag-set flags c k = flagged (length flags) k (set flags c true) ((c == k) || get_or flags k false) (length-set flags c true) (λ lt. elim (eqb_tells c k) [
  | inl s ↦ rw (s.0, ← s.1) (get_or-set_same flags c true false (omega (arith, lt, s.1)))
  | inr d ↦ rw d.0 (get_or-set_other flags c k true false (λ e. d.1 (sym e)))
])

flag-unset : (flags : List Bool) (c k : ℕ) → get_or (set flags c false) k false ≡ (ltb k (length flags) && (not (c == k) && get_or flags k false))
flag-unset flags c k =
    flagged (length flags) k (set flags c false) (not (c == k) && get_or flags k false) (length-set flags c false) (λ lt. elim (eqb_tells c k) [
      | inl s ↦ rw (s.0, ← s.1) (get_or-set_same flags c false false (omega (arith, lt, s.1)))
      | inr d ↦ rw d.0 (get_or-set_other flags c k false false (λ e. d.1 (sym e)))
    ])

flag-kept : (flags : List Bool) (k : ℕ) → get_or flags k false ≡ (ltb k (length flags) && get_or flags k false)
flag-kept flags k = flagged (length flags) k flags (get_or flags k false) refl (λ lt. refl)

sharer-left-with : (k : ℕ) (owner : Option CacheId) (home : Home)
    → shares (with_owner owner home).sharers k ≡ (ltb k (length home.sharers) && (owns owner (cache k) || shares home.sharers k))
sharer-left-with k None home = flag-kept home.sharers k
sharer-left-with k (Some o) home = flag-set home.sharers o.0 k

-- whether a cache is a sharer after one action
sharer-left : (k : ℕ) (from : CacheId) (value : Option ℕ) (a : DirectoryAction) (home : Home)
    → shares (home_changed (Some from) value a home).sharers k
    ≡ (ltb k (length home.sharers) && sharer_left (cache k) from home.owner a (shares home.sharers k))
sharer-left k from value action.DataReq home = flag-kept home.sharers k
sharer-left k from value action.DataAcks home = flag-kept home.sharers k
sharer-left k from value action.InvSharers home = flag-kept home.sharers k
sharer-left k from value action.FwdGetS home = flag-kept home.sharers k
sharer-left k from value action.FwdGetM home = flag-kept home.sharers k
sharer-left k from value action.PutAck home = flag-kept home.sharers k
sharer-left k from value action.AddReq home = flag-set home.sharers from.0 k
sharer-left k from value action.AddOwner home = sharer-left-with k home.owner home
sharer-left k from value action.RemoveReq home = flag-unset home.sharers from.0 k
sharer-left k from value action.ClearSharers home = no-flag (length home.sharers) k ∙ sym (and-false (ltb k (length home.sharers)))
sharer-left k from value action.ClearOwner home = flag-kept home.sharers k
sharer-left k from value action.SetOwner home = flag-kept home.sharers k
sharer-left k from None action.CopyData home = flag-kept home.sharers k
sharer-left k from value action.DataExcl home = flag-kept home.sharers k
sharer-left k from (Some v) action.CopyData home = flag-kept home.sharers k

-- what the actions of a home put on the link of a cache
pub forwards-to : (k : ℕ) (from : CacheId) (value : Option ℕ) (actions : List DirectoryAction) (home : Home)
    → forwards_in k (home_messages (Some from) value actions home) ≡ forwards_to (cache k) from actions home
forwards-to k from value [] home = refl
forwards-to k from value (a ∷ actions) home =
    let new : Home = home_changed (Some from) value a home in
    let flag : Bool = ltb k (length home.sharers) in
    let same : forwards_to (cache k) from actions new
    ≡ forwards_by flag (cache k) from (owner_left from a home.owner) (flag && sharer_left (cache k) from home.owner a (shares home.sharers k)) actions =
    ap (λ (n : ℕ). forwards_by (ltb k n) (cache k) from new.owner (shares new.sharers k) actions) (keeps-changed (Some from) value a home).flags
    ∙ ap (λ (o : Option CacheId). forwards_by flag (cache k) from o (shares new.sharers k) actions) (owner-left from value a home)
    ∙ ap (λ (s : Bool). forwards_by flag (cache k) from (owner_left from a home.owner) s actions) (sharer-left k from value a home) in
    omega (
      arith,
      forwards_in-append k (home_message (Some from) a home) (home_messages (Some from) value actions new),
      message-at k from a home,
      forwards-to k from value actions new,
      same,
    )

-- a cache that is neither the owner nor the sender owns nothing after an action, is no sharer where it was none, and is sent nothing
unowned : (k : ℕ) (from : CacheId) (owner : Option CacheId) (a : DirectoryAction) → owns owner (cache k) ≡ false → k ≢ from.0
    → owns (owner_left from a owner) (cache k) ≡ false
unowned k from owner a o ne = grind (arith, nat_tests)

unshared : (k : ℕ) (from : CacheId) (owner : Option CacheId) (a : DirectoryAction) → owns owner (cache k) ≡ false → k ≢ from.0
    → sharer_left (cache k) from owner a false ≡ false
unshared k from owner action.DataReq o ne = refl
unshared k from owner action.DataAcks o ne = refl
unshared k from owner action.InvSharers o ne = refl
unshared k from owner action.FwdGetS o ne = refl
unshared k from owner action.FwdGetM o ne = refl
unshared k from owner action.PutAck o ne = refl
unshared k from owner action.AddReq o ne = ap (λ (b : Bool). b || false) (ne_eqb from.0 k (λ e. ne (sym e)))
unshared k from owner action.AddOwner o ne = ap (λ (b : Bool). b || false) o
unshared k from owner action.RemoveReq o ne = and-false (not (from.0 == k))
unshared k from owner action.ClearSharers o ne = refl
unshared k from owner action.ClearOwner o ne = refl
unshared k from owner action.SetOwner o ne = refl
unshared k from owner action.CopyData o ne = refl
unshared k from owner action.DataExcl o ne = refl

unsent : (k : ℕ) (from : CacheId) (owner : Option CacheId) (a : DirectoryAction) → owns owner (cache k) ≡ false → k ≢ from.0
    → one_if (is_sent_to (cache k) from owner false a) ≡ 0
unsent k from owner a o ne = grind (arith, nat_tests)

unnamed-by : (flag : Bool) (k : ℕ) (from : CacheId) (owner : Option CacheId) (actions : List DirectoryAction) → owns owner (cache k) ≡ false →
    k ≢ from.0
    → forwards_by flag (cache k) from owner false actions ≡ 0
unnamed-by flag k from owner [] o ne = refl
unnamed-by flag k from owner (a ∷ actions) o ne =
    let still : (flag && sharer_left (cache k) from owner a false) ≡ false =
    ap (λ (s : Bool). flag && s) (unshared k from owner a o ne) ∙ and-false flag in
    let same : forwards_by flag (cache k) from (owner_left from a owner) (flag && sharer_left (cache k) from owner a false) actions
    ≡ forwards_by flag (cache k) from (owner_left from a owner) false actions =
    ap (λ (s : Bool). forwards_by flag (cache k) from (owner_left from a owner) s actions) still in
    omega (arith, unsent k from owner a o ne, same, unnamed-by flag k from (owner_left from a owner) actions (unowned k from owner a o ne) ne)

-- a cache that is neither owner nor sharer nor sender is sent nothing
pub unnamed : (k : ℕ) (from : CacheId) (actions : List DirectoryAction) (home : Home) → owns home.owner (cache k) ≡ false → k ≢ from.0
    → shares home.sharers k ≡ false → forwards_to (cache k) from actions home ≡ 0
unnamed k from actions home o ne s =
    ap (λ (up : Bool). forwards_by (ltb k (length home.sharers)) (cache k) from home.owner up actions) s
    ∙ unnamed-by (ltb k (length home.sharers)) k from home.owner actions o ne

not-owner : (n k : ℕ) (owner : Option CacheId) → n ≤ k → IsBelow owner n → owns owner (cache k) ≡ false
not-owner n k None le l = refl
not-owner n k (Some o) le l = ne_eqb o.0 k (λ e. absurd (omega (arith, e, l)))

-- nothing goes to a cache past those that are named
pub no-forwards : (n k : ℕ) (from : CacheId) (actions : List DirectoryAction) (home : Home) → n ≤ k → NamesBelow n home → from.0 < n
    → forwards_to (cache k) from actions home ≡ 0
no-forwards n k from actions home le h l =
    let up : (b : Bool) → shares home.sharers k ≡ b → b ≡ false = λ b. elim b as (λ b. shares home.sharers k ≡ b → b ≡ false) [
      | true ↦ λ e. absurd (omega (arith, h.sharers k e, le))
      | false ↦ λ e. refl
    ] in
    unnamed k from actions home (not-owner n k home.owner le h.owner) (λ e. absurd (omega (arith, e, l, le))) (up (shares home.sharers k) refl)

-- a home sends no requests
invalidation-requests : (to c : CacheId) (flag : Bool) → requests_in (invalidation to c flag) ≡ 0
invalidation-requests to c flag = by-test (flag && not (c.0 == to.0))
  where
    by-test : (t : Bool) → requests_in (if t then link_message c forward.Inv to ∷ [] else []) ≡ 0
    by-test true = refl
    by-test false = refl

invalidations-requests : (to : CacheId) (flags : List Bool) (i : ℕ) → requests_in (invalidations to i flags) ≡ 0
invalidations-requests to [] i = refl
invalidations-requests to (f ∷ flags) i =
    omega (
      arith,
      requests_in-append (invalidation to (cache i) f) (invalidations to (i + 1) flags),
      invalidation-requests to (cache i) f,
      invalidations-requests to flags (i + 1),
    )

owner-requests : (owner : Option CacheId) (kind : ForwardKind) (to : CacheId) → requests_in (owner_message owner kind to) ≡ 0
owner-requests None kind to = refl
owner-requests (Some o) kind to = refl

message-requests : (from : CacheId) (a : DirectoryAction) (home : Home) → requests_in (home_message (Some from) a home) ≡ 0
message-requests from a home = grind (arith, invalidations-requests, owner-requests)

pub requests-by : (from : CacheId) (value : Option ℕ) (actions : List DirectoryAction) (home : Home)
    → requests_in (home_messages (Some from) value actions home) ≡ 0
requests-by from value [] home = refl
requests-by from value (a ∷ actions) home =
    omega (
      arith,
      requests_in-append (home_message (Some from) a home) (home_messages (Some from) value actions (home_changed (Some from) value a home)),
      message-requests from a home,
      requests-by from value actions (home_changed (Some from) value a home),
    )

-- the responses are its replies
invalidation-responses : (to c : CacheId) (flag : Bool) → responses_in (invalidation to c flag) ≡ 0
invalidation-responses to c flag = by-test (flag && not (c.0 == to.0))
  where
    by-test : (t : Bool) → responses_in (if t then link_message c forward.Inv to ∷ [] else []) ≡ 0
    by-test true = refl
    by-test false = refl

invalidations-responses : (to : CacheId) (flags : List Bool) (i : ℕ) → responses_in (invalidations to i flags) ≡ 0
invalidations-responses to [] i = refl
invalidations-responses to (f ∷ flags) i =
    omega (
      arith,
      responses_in-append (invalidation to (cache i) f) (invalidations to (i + 1) flags),
      invalidation-responses to (cache i) f,
      invalidations-responses to flags (i + 1),
    )

owner-responses : (owner : Option CacheId) (kind : ForwardKind) (to : CacheId) → responses_in (owner_message owner kind to) ≡ 0
owner-responses None kind to = refl
owner-responses (Some o) kind to = refl

message-responses : (from : CacheId) (a : DirectoryAction) (home : Home) → responses_in (home_message (Some from) a home) ≡ replies_of a
message-responses from a home = grind (arith, invalidations-responses, owner-responses)

pub responses-by : (from : CacheId) (value : Option ℕ) (actions : List DirectoryAction) (home : Home)
    → responses_in (home_messages (Some from) value actions home) ≡ replies_by actions
responses-by from value [] home = refl
responses-by from value (a ∷ actions) home =
    omega (
      arith,
      responses_in-append (home_message (Some from) a home) (home_messages (Some from) value actions (home_changed (Some from) value a home)),
      message-responses from a home,
      responses-by from value actions (home_changed (Some from) value a home),
    )

-- without a sender nothing is sent
pub nothing-sent : (value : Option ℕ) (actions : List DirectoryAction) (home : Home) → home_messages None value actions home ≡ []
nothing-sent value [] home = refl
nothing-sent value (a ∷ actions) home = nothing-sent value actions (home_changed None value a home)

-- room for the replies and on each link is room for what is sent
pub room-to-send : (from : CacheId) (value : Option ℕ) (actions : List DirectoryAction) (home : Home) (room : Room)
    → HasRoomToReply from actions home room → HasRoomFor (home_messages (Some from) value actions home) room
room-to-send from value actions home room has = record {
  requests = omega (arith, requests-by from value actions home);
  links = λ k. omega (arith, forwards-to k from value actions home, has.links k);
  responses = omega (arith, responses-by from value actions home, has.responses);
}

-- and the other way round
pub room-to-reply : (from : CacheId) (value : Option ℕ) (actions : List DirectoryAction) (home : Home) (room : Room)
    → HasRoomFor (home_messages (Some from) value actions home) room → HasRoomToReply from actions home room
room-to-reply from value actions home room has = record {
  responses = omega (arith, responses-by from value actions home, has.responses);
  links = λ k. omega (arith, forwards-to k from value actions home, has.links k);
}

-- where the sender, the owner and the sharers have room on their links, there is room to reply: nobody else is sent anything
pub room-on_links : (k : ℕ) (from : CacheId) (actions : List DirectoryAction) (home : Home) (room : Room) → HasRoomOnLink from.0 from actions home room
    → HasRoomToOwner from actions home room → HasRoomToSharers from actions home room → HasRoomOnLink k from actions home room
room-on_links k from actions home room sender owner sharers =
    elim (cases_eq k from.0) [
      | inl e ↦ rw e sender
      | inr ne ↦ elim (cases_Bool (owns home.owner (cache k))) [
        | inl o ↦ owner k o ne
        | inr o ↦ elim (cases_Bool (shares home.sharers k)) [
          | inl s ↦ sharers k o ne s
          | inr s ↦ omega (arith, unnamed k from actions home o ne s)
        ]
      ]
    ]

-- without an invalidation nothing is sent to a cache that is neither the owner nor the sender
unsent-on : (k : ℕ) (from : CacheId) (owner : Option CacheId) (sharer : Bool) (a : DirectoryAction) → is_invalidation a ≡ false
    → owns owner (cache k) ≡ false → k ≢ from.0 → one_if (is_sent_to (cache k) from owner sharer a) ≡ 0
unsent-on k from owner sharer a i o ne = grind (arith, nat_tests)

unsent-by : (flag : Bool) (k : ℕ) (from : CacheId) (owner : Option CacheId) (sharer : Bool) (actions : List DirectoryAction)
    → invalidates actions ≡ false → owns owner (cache k) ≡ false → k ≢ from.0 → forwards_by flag (cache k) from owner sharer actions ≡ 0
unsent-by flag k from owner sharer [] i o ne = refl
unsent-by flag k from owner sharer (a ∷ actions) i o ne =
    let both = neither (is_invalidation a) (invalidates actions) i in
    omega (
      arith,
      unsent-on k from owner sharer a both.0 o ne,
      unsent-by flag k from (owner_left from a owner) (flag && sharer_left (cache k) from owner a sharer) actions both.1 (unowned k from owner a o ne) ne,
    )
  where
    neither : (a b : Bool) → (a || b) ≡ false → (a ≡ false) × (b ≡ false)
    neither true b e = absurd (cc e)
    neither false b e = (refl, e)

-- so there is room to the sharers
pub room-unsent : (from : CacheId) (actions : List DirectoryAction) (home : Home) (room : Room) → invalidates actions ≡ false
    → HasRoomToSharers from actions home room
room-unsent from actions home room i k o ne s =
    omega (arith, unsent-by (ltb k (length home.sharers)) k from home.owner (shares home.sharers k) actions i o ne)
