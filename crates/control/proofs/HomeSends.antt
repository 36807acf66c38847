use Rattle.std.proofs.Common.{◌≡◌, ℕ, ◌+◌, ◌-◌, ◌<◌, ◌≤◌, ap, true≢false, List, [], ◌∷◌, ◌++◌, length, get_or, drop, replicate, refl, sym, ◌∙◌, zero}
use Rattle.std.proofs.Common.{suc, arith, inl, inr}
use Rattle.std.proofs.Common.{Option, Some, None, Bool, true, false}
use Rattle.std.proofs.lemmas.List.{length-set, length-replicate, drop_all, get_or-set_other, get_or_past}
use Rattle.std.proofs.lemmas.Bool.{cases_eq, cases_lt}
use Rattle.rows.specs.Flags.{IsFirstFrom, NoneFrom}
use Rattle.base.specs.declared.ids.CacheId.{CacheId}
use Rattle.directory_table.specs.declared.actions.DirectoryAction.{DirectoryAction}
use Rattle.directory_table.specs.declared.actions.DirectoryAction.TheVariants as action
use Rattle.directory_table.specs.declared.state.DirectoryState.{DirectoryState}
use Rattle.control.specs.declared.home.Home.{Home}
use Rattle.control.specs.declared.home.HomeInput.{HomeInput}
use Rattle.control.specs.HomeEffect.{home_message, home_messages, home_changed, home_moved, with_owner, with_sharer, invalidation, invalidations}
use Rattle.control.specs.HomeEffect.{home_after, sender_of, brought_by}
use Rattle.control.specs.Homes.{IsAmong, IsBelow, NamesBelow}

-- what the actions from a place on make of a home begins with the action there
pub moved-front : (from : Option CacheId) (value : Option ℕ) (actions : List DirectoryAction) (i : ℕ) (d : DirectoryAction) (home : Home) → i < length actions
    → home_moved from value (drop i actions) home ≡ home_moved from value (drop (i + 1) actions) (home_changed from value (get_or actions i d) home)
moved-front from value [] i d home h = absurd (omega arith)
moved-front from value (a ∷ actions) zero d home h = refl
moved-front from value (a ∷ actions) (suc i) d home h =
    let e : suc i + 1 ≡ suc (i + 1) = omega arith in
    rw e (moved-front from value actions i d home (omega arith))

-- and so do their messages
pub messages-front : (from : Option CacheId) (value : Option ℕ) (actions : List DirectoryAction) (i : ℕ) (d : DirectoryAction) (home : Home)
    → i < length actions
    → home_messages from value (drop i actions) home
    ≡ home_message from (get_or actions i d) home ++ home_messages from value (drop (i + 1) actions) (home_changed from value (get_or actions i d) home)
messages-front from value [] i d home h = absurd (omega arith)
messages-front from value (a ∷ actions) zero d home h = refl
messages-front from value (a ∷ actions) (suc i) d home h =
    let e : suc i + 1 ≡ suc (i + 1) = omega arith in
    rw e (messages-front from value actions i d home (omega arith))

-- no flag is up
pub no-flag : (n k : ℕ) → get_or (replicate n false) k false ≡ false
no-flag zero zero = refl
no-flag zero (suc k) = refl
no-flag (suc n) zero = refl
no-flag (suc n) (suc k) = no-flag n k

-- a home after a change on a request of this sender, if there is one: as many flags, and it names only who it named and the sender
pub record Keeps (from : Option CacheId) (home new : Home) : Type 0 where
  pub flags : length new.sharers ≡ length home.sharers
  pub names : (n : ℕ) → NamesBelow n home → IsBelow from n → NamesBelow n new

keeps-same : (from : Option CacheId) (home : Home) → Keeps from home home
keeps-same from home = record { flags = refl; names = λ n h l. h }

keeps-flag : (from : Option CacheId) (c : CacheId) (flag : Bool) (home : Home) → ((n : ℕ) → NamesBelow n home → IsBelow from n → c.0 < n)
    → Keeps from home (with_sharer c flag home)
keeps-flag from c flag home below = record {
  flags = length-set home.sharers c.0 flag;
  names = λ n h l. record {
    owner = h.owner;
    sharers = λ k e. elim (cases_eq k c.0) [
      | inl same ↦ omega (arith, same, below n h l)
      | inr ne ↦ h.sharers k (sym (get_or-set_other home.sharers c.0 k flag false ne) ∙ e)
    ];
  };
}

keeps-owner : (from owner : Option CacheId) (home : Home) → ((n : ℕ) → NamesBelow n home → IsBelow owner n) → Keeps from home (with_owner owner home)
keeps-owner from None home below = keeps-same from home
keeps-owner from (Some o) home below = keeps-flag from o true home (λ n h l. below n h)

keeps-none : (from : Option CacheId) (home : Home) → Keeps from home (record home { sharers = replicate (length home.sharers) false })
keeps-none from home = record {
  flags = length-replicate (length home.sharers) false;
  names = λ n h l. record {
    owner = h.owner;
    sharers = λ k e. let wrong : false ≡ true = sym (no-flag (length home.sharers) k) ∙ e in cc;
  };
}

pub keeps-changed : (from : Option CacheId) (value : Option ℕ) (a : DirectoryAction) (home : Home) → Keeps from home (home_changed from value a home)
keeps-changed (Some c) value action.AddReq home = keeps-flag (Some c) c true home (λ n h l. l)
keeps-changed (Some c) value action.RemoveReq home = keeps-flag (Some c) c false home (λ n h l. l)
keeps-changed (Some c) value action.SetOwner home = record { flags = refl; names = λ n h l. record { owner = l; sharers = h.sharers } }
keeps-changed None value action.AddReq home = keeps-same None home
keeps-changed None value action.RemoveReq home = keeps-same None home
keeps-changed None value action.SetOwner home = keeps-same None home
keeps-changed None value action.AddOwner home = keeps-owner None home.owner home (λ n h. h.owner)
keeps-changed (Some c) value action.AddOwner home = keeps-owner (Some c) home.owner home (λ n h. h.owner)
keeps-changed None value action.ClearSharers home = keeps-none None home
keeps-changed (Some c) value action.ClearSharers home = keeps-none (Some c) home
keeps-changed None value action.ClearOwner home = record { flags = refl; names = λ n h l. record { owner = tt; sharers = h.sharers } }
keeps-changed (Some c) value action.ClearOwner home = record { flags = refl; names = λ n h l. record { owner = tt; sharers = h.sharers } }
keeps-changed None (Some v) action.CopyData home = record { flags = refl; names = λ n h l. record { owner = h.owner; sharers = h.sharers } }
keeps-changed None None action.CopyData home = keeps-same None home
keeps-changed (Some c) (Some v) action.CopyData home = record { flags = refl; names = λ n h l. record { owner = h.owner; sharers = h.sharers } }
keeps-changed (Some c) None action.CopyData home = keeps-same (Some c) home
keeps-changed None value action.DataReq home = keeps-same None home
keeps-changed (Some c) value action.DataReq home = keeps-same (Some c) home
keeps-changed None value action.DataAcks home = keeps-same None home
keeps-changed (Some c) value action.DataAcks home = keeps-same (Some c) home
keeps-changed None value action.InvSharers home = keeps-same None home
keeps-changed (Some c) value action.InvSharers home = keeps-same (Some c) home
keeps-changed None value action.FwdGetS home = keeps-same None home
keeps-changed (Some c) value action.FwdGetS home = keeps-same (Some c) home
keeps-changed None value action.FwdGetM home = keeps-same None home
keeps-changed (Some c) value action.FwdGetM home = keeps-same (Some c) home
keeps-changed None value action.DataExcl home = keeps-same None home
keeps-changed (Some c) value action.DataExcl home = keeps-same (Some c) home
keeps-changed None value action.PutAck home = keeps-same None home
keeps-changed (Some c) value action.PutAck home = keeps-same (Some c) home

-- whatever its actions
pub keeps-moved : (from : Option CacheId) (value : Option ℕ) (actions : List DirectoryAction) (home : Home)
    → Keeps from home (home_moved from value actions home)
keeps-moved from value [] home = keeps-same from home
keeps-moved from value (a ∷ actions) home =
    let once : Keeps from home (home_changed from value a home) = keeps-changed from value a home in
    let rest : Keeps from (home_changed from value a home) (home_moved from value actions (home_changed from value a home)) =
    keeps-moved from value actions (home_changed from value a home) in
    record {
      flags = rest.flags ∙ once.flags;
      names = λ n h l. rest.names n (once.names n h l) l;
    }

-- whom a home among so many caches names, they are
pub names-among : (n : ℕ) (home : Home) → IsAmong n home → NamesBelow n home
names-among n home h = record {
  owner = h.owner;
  sharers = λ k e. elim (cases_lt k n) [
    | inl lt ↦ lt
    | inr le ↦ let wrong : false ≡ true = sym (get_or_past home.sharers k false (omega (arith, le, h.sharers))) ∙ e in cc
  ];
}

-- a home stays among its caches
pub among-after : (n : ℕ) (input : HomeInput) (next : DirectoryState) (actions : List DirectoryAction) (home : Home) → IsAmong n home
    → IsBelow (sender_of input) n → IsAmong n (home_after input next actions home)
among-after n input next actions home h l =
    let moved : Keeps (sender_of input) home (home_moved (sender_of input) (brought_by input) actions home) =
    keeps-moved (sender_of input) (brought_by input) actions home in
    record { sharers = moved.flags ∙ h.sharers; owner = (moved.names n (names-among n home h) l).owner }

-- the invalidations from a place on begin with the one there
pub invalidations-front : (requestor : CacheId) (flags : List Bool) (i j : ℕ) (d : Bool) → i < length flags
    → invalidations requestor j (drop i flags)
    ≡ invalidation requestor (record { 0 = j }) (get_or flags i d) ++ invalidations requestor (j + 1) (drop (i + 1) flags)
invalidations-front requestor [] i j d h = absurd (omega arith)
invalidations-front requestor (f ∷ flags) zero j d h = refl
invalidations-front requestor (f ∷ flags) (suc i) j d h =
    let e : suc i + 1 ≡ suc (i + 1) = omega arith in
    rw e (invalidations-front requestor flags i j d (omega arith))

-- caches that share nothing are sent nothing: the invalidations from one place on are those from a later one on
invalidations-skip : (requestor : CacheId) (flags : List Bool) (from n to : ℕ) → to ≡ from + n → to ≤ length flags →
    ((k : ℕ) → from ≤ k → k < to → get_or flags k false ≡ false) →
    invalidations requestor from (drop from flags) ≡ invalidations requestor to (drop to flags)
invalidations-skip requestor flags from zero to is within none =
    let same : from ≡ to = omega (arith, is) in ap (λ j. invalidations requestor j (drop j flags)) same
invalidations-skip requestor flags from (suc n) to is within none =
    invalidations-front requestor flags from from false (omega (arith, is, within))
    ∙ ap (λ b. invalidation requestor (record { 0 = from }) b ++ invalidations requestor (from + 1) (drop (from + 1) flags))
    (none from (omega arith) (omega (arith, is)))
    ∙ invalidations-skip requestor flags (from + 1) n to (omega (arith, is)) within (λ k after before. none k (omega (arith, after)) before)

-- a place with a flag is one of the places
pub flag-within : (flags : List Bool) (at : ℕ) → get_or flags at false ≡ true → at < length flags
flag-within flags at set =
    elim (cases_lt at (length flags)) [
      | inl h ↦ h
      | inr h ↦ absurd (true≢false (sym set ∙ get_or_past flags at false h))
    ]

-- the invalidations from a place on begin with that to the first sharer
pub invalidations-first : (requestor : CacheId) (flags : List Bool) (from at : ℕ) → IsFirstFrom flags from at →
    invalidations requestor from (drop from flags)
    ≡ invalidation requestor (record { 0 = at }) true ++ invalidations requestor (at + 1) (drop (at + 1) flags)
invalidations-first requestor flags from at found =
    let within : at < length flags = flag-within flags at found.set in
    invalidations-skip requestor flags from (at - from) at (omega (arith, found.behind)) (omega (arith, within)) found.first
    ∙ invalidations-front requestor flags at at false within
    ∙ ap (λ b. invalidation requestor (record { 0 = at }) b ++ invalidations requestor (at + 1) (drop (at + 1) flags)) found.set

-- no sharer is left
pub invalidations-none : (requestor : CacheId) (flags : List Bool) (from : ℕ) → from ≤ length flags → NoneFrom flags from →
    invalidations requestor from (drop from flags) ≡ []
invalidations-none requestor flags from within left =
    invalidations-skip requestor flags from (length flags - from) (length flags) (omega (arith, within)) (omega arith) (λ k after before. left.none k after)
    ∙ ap (λ fs. invalidations requestor (length flags) fs) (drop_all (length flags) flags (omega arith))
