-- Whom the actions of a home can't reach, they send nothing.
use Rattle.std.proofs.lemmas.Bool.Decides.{nat_tests}
use Rattle.std.proofs.Common.{◌≡◌, ◌≢◌, ℕ, List, [], ◌∷◌, Option, Bool, true, false, ◌&&◌, ◌||◌, length, refl, ltb, arith}
use Rattle.base.specs.declared.ids.CacheId.{CacheId}
use Rattle.network.specs.Room.{Room, one_if}
use Rattle.directory_table.specs.declared.actions.DirectoryAction.{DirectoryAction}
use Rattle.control.specs.declared.home.Home.{Home}
use Rattle.control.specs.Sharing.{shares}
use Rattle.control.specs.inner.HomeCounting.{is_sent_to, owner_left, sharer_left, forwards_by, HasRoomOnLink, HasRoomToOwner}
use Rattle.control.specs.inner.HomeCounting.{may_reach_owner, may_reach_sender, reaches_owner, reaches_sender}
use Rattle.control.proofs.HomeCounts.{cache}

neither : (a b : Bool) → (a || b) ≡ false → (a ≡ false) × (b ≡ false)
neither true b e = absurd (cc e)
neither false b e = (refl, e)

-- the sender
sender-on : (from : CacheId) (owner : Option CacheId) (sharer : Bool) (a : DirectoryAction) → may_reach_sender a ≡ false →
    one_if (is_sent_to from from owner sharer a) ≡ 0
sender-on from owner sharer a e = grind (arith, nat_tests)

sender-by : (flag : Bool) (from : CacheId) (owner : Option CacheId) (sharer : Bool) (actions : List DirectoryAction) →
    reaches_sender actions ≡ false → forwards_by flag from from owner sharer actions ≡ 0
sender-by flag from owner sharer [] e = refl
sender-by flag from owner sharer (a ∷ actions) e =
    let both = neither (may_reach_sender a) (reaches_sender actions) e in
    omega (
      arith,
      sender-on from owner sharer a both.0,
      sender-by flag from (owner_left from a owner) (flag && sharer_left from from owner a sharer) actions both.1,
    )

-- so there is room on the sender's link
pub room-on_sender : (from : CacheId) (actions : List DirectoryAction) (home : Home) (room : Room) → reaches_sender actions ≡ false →
    HasRoomOnLink from.0 from actions home room
room-on_sender from actions home room e =
    omega (arith, sender-by (ltb from.0 (length home.sharers)) from home.owner (shares home.sharers from.0) actions e)

-- any other cache but the sharers
other-on : (k : ℕ) (from : CacheId) (owner : Option CacheId) (sharer : Bool) (a : DirectoryAction) → may_reach_owner a ≡ false → k ≢ from.0 →
    one_if (is_sent_to (cache k) from owner sharer a) ≡ 0
other-on k from owner sharer a e ne = grind (arith, nat_tests)

other-by : (flag : Bool) (k : ℕ) (from : CacheId) (owner : Option CacheId) (sharer : Bool) (actions : List DirectoryAction) →
    reaches_owner actions ≡ false → k ≢ from.0 → forwards_by flag (cache k) from owner sharer actions ≡ 0
other-by flag k from owner sharer [] e ne = refl
other-by flag k from owner sharer (a ∷ actions) e ne =
    let both = neither (may_reach_owner a) (reaches_owner actions) e in
    omega (
      arith,
      other-on k from owner sharer a both.0 ne,
      other-by flag k from (owner_left from a owner) (flag && sharer_left (cache k) from owner a sharer) actions both.1 ne,
    )

-- so there is room on the owner's link
pub room-on_owner : (from : CacheId) (actions : List DirectoryAction) (home : Home) (room : Room) → reaches_owner actions ≡ false →
    HasRoomToOwner from actions home room
room-on_owner from actions home room e k owner ne =
    omega (arith, other-by (ltb k (length home.sharers)) k from home.owner (shares home.sharers k) actions e ne)
