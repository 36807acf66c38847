-- What a message sent or taken does to one cache's view, by state.
use Rattle.std.proofs.Common.{◌≡◌, ℕ, ◌+◌, ◌-◌, ◌<◌, true, false, [], ◌∷◌, ◌++◌, arith}
use Rattle.network.specs.declared.message.ForwardKind.TheVariants.{FwdGetS, FwdGetM, Inv, PutAck}
use Rattle.cache_table.specs.declared.state.CacheState.{CacheState}
use Rattle.cache_table.specs.declared.state.CacheState.TheVariants.{I, IsD, ImAd, ImA, S, SmAd, SmA, M, MiA, SiA, IiA, E}
use Rattle.machine.proofs.Truths.{Never}
use Rattle.machine.proofs.Views.{View, Local, Holds, HasFwdGetS, HasInv}

-- a sharer is sent an Inv
abbrev pub invite : View → View
invite v = record v { link = v.link ++ Inv ∷ []; shares = false }

-- the home answers a GetM with Data, and names so many Invs
abbrev pub give : ℕ → View → View
give n v = record v { getm = v.getm - 1; dir_data = v.dir_data + 1; promised = v.promised + n; invs = v.invs + n; shares = false; owns = true }

-- the home answers a GetS with Data
abbrev pub give_shared : View → View
give_shared v = record v { gets = v.gets - 1; dir_data = v.dir_data + 1; shares = true }

-- the home answers a GetS with exclusive Data
abbrev pub give_exclusive : View → View
give_exclusive v = record v { gets = v.gets - 1; excl_data = v.excl_data + 1; owns = true }

-- the home forwards the GetS of this cache
abbrev pub name_s : View → View
name_s v = record v { gets = v.gets - 1; fwd_gets = v.fwd_gets + 1; shares = true }

-- the home forwards the GetM of this cache
abbrev pub name_m : View → View
name_m v = record v { getm = v.getm - 1; fwd_getm = v.fwd_getm + 1; owns = true }

-- an owner is sent a Fwd-GetS
abbrev pub pass_s : View → View
pass_s v = record v { link = v.link ++ FwdGetS ∷ []; shares = true; owns = false }

-- an owner is sent a Fwd-GetM
abbrev pub pass_m : View → View
pass_m v = record v { link = v.link ++ FwdGetM ∷ []; owns = false }

-- the home answers a PutS
abbrev pub ack_s : View → View
ack_s v = record v { puts = v.puts - 1; link = v.link ++ PutAck ∷ []; shares = false }

-- the home answers a PutM
abbrev pub ack_m : View → View
ack_m v = record v { putm = v.putm - 1; link = v.link ++ PutAck ∷ []; shares = false; owns = false }

-- an owner answers the GetS of this cache
abbrev pub get_s : View → View
get_s v = record v { fwd_gets = v.fwd_gets - 1; owner_data = v.owner_data + 1 }

-- an owner answers the GetM of this cache
abbrev pub get_m : View → View
get_m v = record v { fwd_getm = v.fwd_getm - 1; owner_data = v.owner_data + 1 }

-- a sharer is sent an Inv
pub invite_at : (s : CacheState) (v : View) → v.shares ≡ true → v.fwd_gets ≡ 0 → (HasFwdGetS v.link → Never) → Local s v → Local s (invite v)
invite_at I v p f g h = grind (arith)
invite_at IsD v p f g h = grind (arith)
invite_at ImAd v p f g h = grind (arith)
invite_at ImA v p f g h = grind (arith)
invite_at S v p f g h = grind (arith)
invite_at SmAd v p f g h = grind (arith)
invite_at SmA v p f g h = grind (arith)
invite_at M v p f g h = grind (arith)
invite_at MiA v p f g h = grind (arith)
invite_at SiA v p f g h = grind (arith)
invite_at IiA v p f g h = grind (arith)
invite_at E v p f g h = grind (arith)

pub invite_holds : (s : CacheState) (v : View) → v.shares ≡ true → v.fwd_gets ≡ 0 → (HasFwdGetS v.link → Never) → Local s v → Holds s (invite v) → Holds s v
invite_holds I v p f g h x = grind (arith)
invite_holds IsD v p f g h x = grind (arith)
invite_holds ImAd v p f g h x = grind (arith)
invite_holds ImA v p f g h x = grind (arith)
invite_holds S v p f g h x = grind (arith)
invite_holds SmAd v p f g h x = grind (arith)
invite_holds SmA v p f g h x = grind (arith)
invite_holds M v p f g h x = grind (arith)
invite_holds MiA v p f g h x = grind (arith)
invite_holds SiA v p f g h x = grind (arith)
invite_holds IiA v p f g h x = grind (arith)
invite_holds E v p f g h x = grind (arith)

pub give_at : (s : CacheState) (v : View) (n : ℕ) → 0 < v.getm → (HasInv v.link → Never) → Local s v → Local s (give n v)
give_at I v n p i h = grind (arith)
give_at IsD v n p i h = grind (arith)
give_at ImAd v n p i h = grind (arith)
give_at ImA v n p i h = grind (arith)
give_at S v n p i h = grind (arith)
give_at SmAd v n p i h = grind (arith)
give_at SmA v n p i h = grind (arith)
give_at M v n p i h = grind (arith)
give_at MiA v n p i h = grind (arith)
give_at SiA v n p i h = grind (arith)
give_at IiA v n p i h = grind (arith)
give_at E v n p i h = grind (arith)

-- acks are owed to a holder alone
pub owed : (s : CacheState) (v : View) → 0 < v.invs → Local s v → Holds s v
owed I v p h = grind (arith)
owed IsD v p h = grind (arith)
owed ImAd v p h = grind (arith)
owed ImA v p h = grind (arith)
owed S v p h = grind (arith)
owed SmAd v p h = grind (arith)
owed SmA v p h = grind (arith)
owed M v p h = grind (arith)
owed MiA v p h = grind (arith)
owed SiA v p h = grind (arith)
owed IiA v p h = grind (arith)
owed E v p h = grind (arith)

pub give_shared_at : (s : CacheState) (v : View) → 0 < v.gets → Local s v → Local s (give_shared v)
give_shared_at I v p h = grind (arith)
give_shared_at IsD v p h = grind (arith)
give_shared_at ImAd v p h = grind (arith)
give_shared_at ImA v p h = grind (arith)
give_shared_at S v p h = grind (arith)
give_shared_at SmAd v p h = grind (arith)
give_shared_at SmA v p h = grind (arith)
give_shared_at M v p h = grind (arith)
give_shared_at MiA v p h = grind (arith)
give_shared_at SiA v p h = grind (arith)
give_shared_at IiA v p h = grind (arith)
give_shared_at E v p h = grind (arith)

pub give_shared_holds : (s : CacheState) (v : View) → 0 < v.gets → Local s v → Holds s (give_shared v) → Holds s v
give_shared_holds I v p h x = grind (arith)
give_shared_holds IsD v p h x = grind (arith)
give_shared_holds ImAd v p h x = grind (arith)
give_shared_holds ImA v p h x = grind (arith)
give_shared_holds S v p h x = grind (arith)
give_shared_holds SmAd v p h x = grind (arith)
give_shared_holds SmA v p h x = grind (arith)
give_shared_holds M v p h x = grind (arith)
give_shared_holds MiA v p h x = grind (arith)
give_shared_holds SiA v p h x = grind (arith)
give_shared_holds IiA v p h x = grind (arith)
give_shared_holds E v p h x = grind (arith)

pub give_exclusive_at : (s : CacheState) (v : View) → 0 < v.gets → Local s v → Local s (give_exclusive v)
give_exclusive_at I v p h = grind (arith)
give_exclusive_at IsD v p h = grind (arith)
give_exclusive_at ImAd v p h = grind (arith)
give_exclusive_at ImA v p h = grind (arith)
give_exclusive_at S v p h = grind (arith)
give_exclusive_at SmAd v p h = grind (arith)
give_exclusive_at SmA v p h = grind (arith)
give_exclusive_at M v p h = grind (arith)
give_exclusive_at MiA v p h = grind (arith)
give_exclusive_at SiA v p h = grind (arith)
give_exclusive_at IiA v p h = grind (arith)
give_exclusive_at E v p h = grind (arith)

pub name_s_at : (s : CacheState) (v : View) → 0 < v.gets → Local s v → Local s (name_s v)
name_s_at I v p h = grind (arith)
name_s_at IsD v p h = grind (arith)
name_s_at ImAd v p h = grind (arith)
name_s_at ImA v p h = grind (arith)
name_s_at S v p h = grind (arith)
name_s_at SmAd v p h = grind (arith)
name_s_at SmA v p h = grind (arith)
name_s_at M v p h = grind (arith)
name_s_at MiA v p h = grind (arith)
name_s_at SiA v p h = grind (arith)
name_s_at IiA v p h = grind (arith)
name_s_at E v p h = grind (arith)

pub name_s_holds : (s : CacheState) (v : View) → 0 < v.gets → Local s v → Holds s (name_s v) → Holds s v
name_s_holds I v p h x = grind (arith)
name_s_holds IsD v p h x = grind (arith)
name_s_holds ImAd v p h x = grind (arith)
name_s_holds ImA v p h x = grind (arith)
name_s_holds S v p h x = grind (arith)
name_s_holds SmAd v p h x = grind (arith)
name_s_holds SmA v p h x = grind (arith)
name_s_holds M v p h x = grind (arith)
name_s_holds MiA v p h x = grind (arith)
name_s_holds SiA v p h x = grind (arith)
name_s_holds IiA v p h x = grind (arith)
name_s_holds E v p h x = grind (arith)

pub name_m_at : (s : CacheState) (v : View) → 0 < v.getm → v.shares ≡ false → Local s v → Local s (name_m v)
name_m_at I v p q h = grind (arith)
name_m_at IsD v p q h = grind (arith)
name_m_at ImAd v p q h = grind (arith)
name_m_at ImA v p q h = grind (arith)
name_m_at S v p q h = grind (arith)
name_m_at SmAd v p q h = grind (arith)
name_m_at SmA v p q h = grind (arith)
name_m_at M v p q h = grind (arith)
name_m_at MiA v p q h = grind (arith)
name_m_at SiA v p q h = grind (arith)
name_m_at IiA v p q h = grind (arith)
name_m_at E v p q h = grind (arith)

pub name_m_holds : (s : CacheState) (v : View) → 0 < v.getm → Local s v → Holds s (name_m v) → Holds s v
name_m_holds I v p h x = grind (arith)
name_m_holds IsD v p h x = grind (arith)
name_m_holds ImAd v p h x = grind (arith)
name_m_holds ImA v p h x = grind (arith)
name_m_holds S v p h x = grind (arith)
name_m_holds SmAd v p h x = grind (arith)
name_m_holds SmA v p h x = grind (arith)
name_m_holds M v p h x = grind (arith)
name_m_holds MiA v p h x = grind (arith)
name_m_holds SiA v p h x = grind (arith)
name_m_holds IiA v p h x = grind (arith)
name_m_holds E v p h x = grind (arith)

pub pass_s_at : (s : CacheState) (v : View) → v.owns ≡ true → Local s v → Local s (pass_s v)
pass_s_at I v p h = grind (arith)
pass_s_at IsD v p h = grind (arith)
pass_s_at ImAd v p h = grind (arith)
pass_s_at ImA v p h = grind (arith)
pass_s_at S v p h = grind (arith)
pass_s_at SmAd v p h = grind (arith)
pass_s_at SmA v p h = grind (arith)
pass_s_at M v p h = grind (arith)
pass_s_at MiA v p h = grind (arith)
pass_s_at SiA v p h = grind (arith)
pass_s_at IiA v p h = grind (arith)
pass_s_at E v p h = grind (arith)

pub pass_s_holds : (s : CacheState) (v : View) → v.owns ≡ true → Local s v → Holds s (pass_s v) → Holds s v
pass_s_holds I v p h x = grind (arith)
pass_s_holds IsD v p h x = grind (arith)
pass_s_holds ImAd v p h x = grind (arith)
pass_s_holds ImA v p h x = grind (arith)
pass_s_holds S v p h x = grind (arith)
pass_s_holds SmAd v p h x = grind (arith)
pass_s_holds SmA v p h x = grind (arith)
pass_s_holds M v p h x = grind (arith)
pass_s_holds MiA v p h x = grind (arith)
pass_s_holds SiA v p h x = grind (arith)
pass_s_holds IiA v p h x = grind (arith)
pass_s_holds E v p h x = grind (arith)

pub pass_m_at : (s : CacheState) (v : View) → v.owns ≡ true → Local s v → Local s (pass_m v)
pass_m_at I v p h = grind (arith)
pass_m_at IsD v p h = grind (arith)
pass_m_at ImAd v p h = grind (arith)
pass_m_at ImA v p h = grind (arith)
pass_m_at S v p h = grind (arith)
pass_m_at SmAd v p h = grind (arith)
pass_m_at SmA v p h = grind (arith)
pass_m_at M v p h = grind (arith)
pass_m_at MiA v p h = grind (arith)
pass_m_at SiA v p h = grind (arith)
pass_m_at IiA v p h = grind (arith)
pass_m_at E v p h = grind (arith)

pub pass_m_holds : (s : CacheState) (v : View) → v.owns ≡ true → Local s v → Holds s (pass_m v) → Holds s v
pass_m_holds I v p h x = grind (arith)
pass_m_holds IsD v p h x = grind (arith)
pass_m_holds ImAd v p h x = grind (arith)
pass_m_holds ImA v p h x = grind (arith)
pass_m_holds S v p h x = grind (arith)
pass_m_holds SmAd v p h x = grind (arith)
pass_m_holds SmA v p h x = grind (arith)
pass_m_holds M v p h x = grind (arith)
pass_m_holds MiA v p h x = grind (arith)
pass_m_holds SiA v p h x = grind (arith)
pass_m_holds IiA v p h x = grind (arith)
pass_m_holds E v p h x = grind (arith)

pub ack_s_at : (s : CacheState) (v : View) → 0 < v.puts → Local s v → Local s (ack_s v)
ack_s_at I v p h = grind (arith)
ack_s_at IsD v p h = grind (arith)
ack_s_at ImAd v p h = grind (arith)
ack_s_at ImA v p h = grind (arith)
ack_s_at S v p h = grind (arith)
ack_s_at SmAd v p h = grind (arith)
ack_s_at SmA v p h = grind (arith)
ack_s_at M v p h = grind (arith)
ack_s_at MiA v p h = grind (arith)
ack_s_at SiA v p h = grind (arith)
ack_s_at IiA v p h = grind (arith)
ack_s_at E v p h = grind (arith)

pub ack_s_holds : (s : CacheState) (v : View) → 0 < v.puts → Local s v → Holds s (ack_s v) → Holds s v
ack_s_holds I v p h x = grind (arith)
ack_s_holds IsD v p h x = grind (arith)
ack_s_holds ImAd v p h x = grind (arith)
ack_s_holds ImA v p h x = grind (arith)
ack_s_holds S v p h x = grind (arith)
ack_s_holds SmAd v p h x = grind (arith)
ack_s_holds SmA v p h x = grind (arith)
ack_s_holds M v p h x = grind (arith)
ack_s_holds MiA v p h x = grind (arith)
ack_s_holds SiA v p h x = grind (arith)
ack_s_holds IiA v p h x = grind (arith)
ack_s_holds E v p h x = grind (arith)

pub ack_m_at : (s : CacheState) (v : View) → 0 < v.putm → Local s v → Local s (ack_m v)
ack_m_at I v p h = grind (arith)
ack_m_at IsD v p h = grind (arith)
ack_m_at ImAd v p h = grind (arith)
ack_m_at ImA v p h = grind (arith)
ack_m_at S v p h = grind (arith)
ack_m_at SmAd v p h = grind (arith)
ack_m_at SmA v p h = grind (arith)
ack_m_at M v p h = grind (arith)
ack_m_at MiA v p h = grind (arith)
ack_m_at SiA v p h = grind (arith)
ack_m_at IiA v p h = grind (arith)
ack_m_at E v p h = grind (arith)

pub ack_m_holds : (s : CacheState) (v : View) → 0 < v.putm → Local s v → Holds s (ack_m v) → Holds s v
ack_m_holds I v p h x = grind (arith)
ack_m_holds IsD v p h x = grind (arith)
ack_m_holds ImAd v p h x = grind (arith)
ack_m_holds ImA v p h x = grind (arith)
ack_m_holds S v p h x = grind (arith)
ack_m_holds SmAd v p h x = grind (arith)
ack_m_holds SmA v p h x = grind (arith)
ack_m_holds M v p h x = grind (arith)
ack_m_holds MiA v p h x = grind (arith)
ack_m_holds SiA v p h x = grind (arith)
ack_m_holds IiA v p h x = grind (arith)
ack_m_holds E v p h x = grind (arith)

pub ack_m_owner : (s : CacheState) (v : View) → 0 < v.putm → v.owns ≡ true → Local s v → Holds s (ack_m v) → Never
ack_m_owner I v p o h x = grind (arith)
ack_m_owner IsD v p o h x = grind (arith)
ack_m_owner ImAd v p o h x = grind (arith)
ack_m_owner ImA v p o h x = grind (arith)
ack_m_owner S v p o h x = grind (arith)
ack_m_owner SmAd v p o h x = grind (arith)
ack_m_owner SmA v p o h x = grind (arith)
ack_m_owner M v p o h x = grind (arith)
ack_m_owner MiA v p o h x = grind (arith)
ack_m_owner SiA v p o h x = grind (arith)
ack_m_owner IiA v p o h x = grind (arith)
ack_m_owner E v p o h x = grind (arith)

pub owner_holds : (s : CacheState) (v : View) → 0 < v.putm → v.owns ≡ true → Local s v → Holds s v
owner_holds I v p o h = grind (arith)
owner_holds IsD v p o h = grind (arith)
owner_holds ImAd v p o h = grind (arith)
owner_holds ImA v p o h = grind (arith)
owner_holds S v p o h = grind (arith)
owner_holds SmAd v p o h = grind (arith)
owner_holds SmA v p o h = grind (arith)
owner_holds M v p o h = grind (arith)
owner_holds MiA v p o h = grind (arith)
owner_holds SiA v p o h = grind (arith)
owner_holds IiA v p o h = grind (arith)
owner_holds E v p o h = grind (arith)

pub get_s_at : (s : CacheState) (v : View) → 0 < v.fwd_gets → Local s v → Local s (get_s v)
get_s_at I v p h = grind (arith)
get_s_at IsD v p h = grind (arith)
get_s_at ImAd v p h = grind (arith)
get_s_at ImA v p h = grind (arith)
get_s_at S v p h = grind (arith)
get_s_at SmAd v p h = grind (arith)
get_s_at SmA v p h = grind (arith)
get_s_at M v p h = grind (arith)
get_s_at MiA v p h = grind (arith)
get_s_at SiA v p h = grind (arith)
get_s_at IiA v p h = grind (arith)
get_s_at E v p h = grind (arith)

pub get_s_holds : (s : CacheState) (v : View) → 0 < v.fwd_gets → Local s v → Holds s (get_s v) → Never
get_s_holds I v p h x = grind (arith)
get_s_holds IsD v p h x = grind (arith)
get_s_holds ImAd v p h x = grind (arith)
get_s_holds ImA v p h x = grind (arith)
get_s_holds S v p h x = grind (arith)
get_s_holds SmAd v p h x = grind (arith)
get_s_holds SmA v p h x = grind (arith)
get_s_holds M v p h x = grind (arith)
get_s_holds MiA v p h x = grind (arith)
get_s_holds SiA v p h x = grind (arith)
get_s_holds IiA v p h x = grind (arith)
get_s_holds E v p h x = grind (arith)

pub get_m_at : (s : CacheState) (v : View) → 0 < v.fwd_getm → (HasInv v.link → Never) → Local s v → Local s (get_m v)
get_m_at I v p i h = grind (arith)
get_m_at IsD v p i h = grind (arith)
get_m_at ImAd v p i h = grind (arith)
get_m_at ImA v p i h = grind (arith)
get_m_at S v p i h = grind (arith)
get_m_at SmAd v p i h = grind (arith)
get_m_at SmA v p i h = grind (arith)
get_m_at M v p i h = grind (arith)
get_m_at MiA v p i h = grind (arith)
get_m_at SiA v p i h = grind (arith)
get_m_at IiA v p i h = grind (arith)
get_m_at E v p i h = grind (arith)
