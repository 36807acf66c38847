-- What serving a message does to the views of a whole block.
use Rattle.std.proofs.Common.{◌≡◌, ◌≢◌, ℕ, ◌+◌, ◌-◌, ◌<◌, true, false, ◌⊎◌, arith, subst, sym, inl, inr}
use Rattle.std.proofs.lemmas.Bool.Decides.{eqb_tells}
use Rattle.directory_table.specs.declared.state.DirectoryState.TheVariants as home
use Rattle.machine.proofs.Truths.{Never}
use Rattle.machine.proofs.Views.{local, holds, Block, Counted, Good, HasFwdGetS, HasInv}
use Rattle.machine.proofs.LocalSteps.{invite, give, give_shared, name_s, name_m, pass_s, pass_m, ack_s, ack_m, get_s, get_m, invite_at, invite_holds}
use Rattle.machine.proofs.LocalSteps.{give_at, owed, give_shared_at, give_shared_holds, name_s_at, name_s_holds, name_m_at, name_m_holds, pass_s_at}
use Rattle.machine.proofs.LocalSteps.{pass_s_holds, pass_m_at, pass_m_holds, ack_s_at, ack_s_holds, ack_m_at, ack_m_holds, ack_m_owner, owner_holds}
use Rattle.machine.proofs.OpenHomes.{open_gets}
use Rattle.machine.proofs.LocalSteps.{get_s_at, get_s_holds, get_m_at, give_exclusive, give_exclusive_at}

-- what holds of two caches and of every other holds of all
by_two : (P : ℕ → Type 0) (r o d : ℕ) → P r → P o → (d ≢ r → d ≢ o → P d) → P d
by_two P r o d x y f =
    elim (eqb_tells d r) as (λ _. P d) [
      | inl h ↦ subst P (sym h.1) x
      | inr h ↦ elim (eqb_tells d o) as (λ _. P d) [
        | inl k ↦ subst P (sym k.1) y
        | inr k ↦ f h.1 k.1
      ]
    ]

-- the home and the other caches stay as they were
pub record Same (b b' : Block) : Type 0 where
  pub home : b'.home ≡ b.home
  pub data_home : b'.data_home ≡ b.data_home
  pub all_fwd_gets : b'.all_fwd_gets ≡ b.all_fwd_gets

-- a step of one cache that changes neither who holds, who shares nor who owns
pub own_step : (b b' : Block) (c : ℕ) → Good b → Same b b'
    → ((d : ℕ) → d ≢ c → b'.view d ≡ b.view d)
    → local (b'.view c) → (holds (b'.view c) → holds (b.view c))
    → (b'.view c).shares ≡ (b.view c).shares → (b'.view c).owns ≡ (b.view c).owns → (b'.view c).fwd_gets ≡ (b.view c).fwd_gets
    → (HasFwdGetS (b.view c).link → HasFwdGetS (b'.view c).link)
    → Good b'
own_step b b' c g s o l h sh ow fw li = record {
  each = λ d. grind arith;
  one = λ d e p q. grind arith;
  home_holds = λ p d q. grind arith;
  sharers = λ d p. grind arith;
  owner = λ d p. grind arith;
  blocked = λ p. grind arith;
  unblocked = λ p. grind arith;
  newest = λ d p q. grind arith;
}

-- the home in I or S serves a GetS
pub gets_at_s : (b b' : Block) (r : ℕ) → Good b → (b.home ≡ home.I) ⊎ (b.home ≡ home.S) → 0 < (b.view r).gets
    → b'.home ≡ home.S → b'.data_home ≡ b.data_home → b'.all_fwd_gets ≡ b.all_fwd_gets
    → b'.view r ≡ give_shared (b.view r)
    → ((d : ℕ) → d ≢ r → b'.view d ≡ b.view d)
    → Good b'
gets_at_s b b' r g hs p hh dh fg vr vo =
    let held : (d : ℕ) → holds (b'.view d) → holds (b.view d) = λ d q. grind (arith, give_shared_holds) in
    record {
      each = λ d. grind (arith, give_shared_at);
      one = λ d e p q. g.one d e (held d p) (held e q);
      home_holds = λ p d q. grind arith;
      sharers = λ d p. inl hh;
      owner = λ d p. grind (arith, open_gets);
      blocked = λ p. grind arith;
      unblocked = λ p. grind arith;
      newest = λ d p q. grind arith;
    }

-- the home in I serves a GetS with exclusive Data
pub gets_at_i : (b b' : Block) (r : ℕ) → Good b → b.home ≡ home.I → 0 < (b.view r).gets
    → b'.home ≡ home.M → b'.data_home ≡ b.data_home → b'.all_fwd_gets ≡ b.all_fwd_gets
    → b'.view r ≡ give_exclusive (b.view r)
    → ((d : ℕ) → d ≢ r → b'.view d ≡ b.view d)
    → Good b'
gets_at_i b b' r g hs p hh dh fg vr vo =
    record {
      each = λ d. grind (arith, give_exclusive_at);
      one = λ d e p q. grind arith;
      home_holds = λ p d q. grind arith;
      sharers = λ d p. grind arith;
      owner = λ d p. hh;
      blocked = λ p. grind arith;
      unblocked = λ p. grind arith;
      newest = λ d p q. grind arith;
    }

-- the home in I serves a GetM
pub getm_at_i : (b b' : Block) (r : ℕ) → Good b → Counted b → b.home ≡ home.I → 0 < (b.view r).getm
    → b'.home ≡ home.M → b'.data_home ≡ b.data_home → b'.all_fwd_gets ≡ b.all_fwd_gets
    → b'.view r ≡ give 0 (b.view r)
    → ((d : ℕ) → d ≢ r → b'.view d ≡ b.view d)
    → Good b'
getm_at_i b b' r g n hs p hh dh fg vr vo =
    let no : HasInv (b.view r).link → Never = λ i. grind (arith, owed) in
    record {
      each = λ d. grind (arith, give_at);
      one = λ d e p q. grind arith;
      home_holds = λ p d q. grind arith;
      sharers = λ d p. grind arith;
      owner = λ d p. hh;
      blocked = λ p. grind arith;
      unblocked = λ p. grind arith;
      newest = λ d p q. grind arith;
    }

-- the home in S serves a GetM: the requestor is given the block, and each other sharer is sent an Inv
pub getm_at_s : (b b' : Block) (r n : ℕ) → Good b → Counted b → b.home ≡ home.S → 0 < (b.view r).getm
    → b'.home ≡ home.M → b'.data_home ≡ b.data_home → b'.all_fwd_gets ≡ b.all_fwd_gets
    → b'.view r ≡ give n (b.view r)
    → ((c : ℕ) → c ≢ r → (b.view c).shares ≡ true → b'.view c ≡ invite (b.view c))
    → ((c : ℕ) → c ≢ r → (b.view c).shares ≡ false → b'.view c ≡ b.view c)
    → Good b'
getm_at_s b b' r n g k hs m hm dh fg vr vs vo =
    let no : HasInv (b.view r).link → Never = λ i. grind (arith, owed) in
    let fw : (c : ℕ) → (b.view c).fwd_gets ≡ 0 = λ c. grind arith in
    let nf : (c : ℕ) → HasFwdGetS (b.view c).link → Never = λ c p. grind arith in
    record {
      each = λ c. grind (arith, give_at, invite_at);
      one = λ c d p q. grind (arith, invite_holds);
      home_holds = grind arith;
      sharers = λ c p. grind arith;
      owner = λ c p. hm;
      blocked = λ e. grind arith;
      unblocked = λ e. grind arith;
      newest = λ c p q. grind arith;
    }

-- the home in M serves a GetS, which it forwards to the owner
pub gets_at_m : (b b' : Block) (r o : ℕ) → Good b → b.home ≡ home.M → 0 < (b.view r).gets → (b.view o).owns ≡ true → r ≢ o
    → b'.home ≡ home.SD → b'.data_home ≡ b.data_home → b'.all_fwd_gets ≡ b.all_fwd_gets + 1
    → b'.view r ≡ name_s (b.view r) → b'.view o ≡ pass_s (b.view o)
    → ((d : ℕ) → d ≢ r → d ≢ o → b'.view d ≡ b.view d)
    → ((d : ℕ) → (b.view d).owns ≡ true → d ≡ o)
    → HasFwdGetS (b'.view o).link
    → Good b'
gets_at_m b b' r o g hs p ow ne hh dh fg vr vo vd oo hf =
    let held : (d : ℕ) → holds (b'.view d) → holds (b.view d) = λ d q. grind (arith, name_s_holds, pass_s_holds) in
    record {
      each = λ d. grind (arith, name_s_at, pass_s_at);
      one = λ d e p q. g.one d e (held d p) (held e q);
      home_holds = λ p d q. grind arith;
      sharers = λ d p. inr hh;
      owner = λ d p. grind (arith, open_gets);
      blocked = λ p. grind arith;
      unblocked = λ p. grind arith;
      newest = λ d p q. grind arith;
    }

-- the home in M serves a GetM
pub getm_at_m : (b b' : Block) (r o : ℕ) → Good b → b.home ≡ home.M → 0 < (b.view r).getm → (b.view o).owns ≡ true → r ≢ o
    → b'.home ≡ home.M → b'.data_home ≡ b.data_home → b'.all_fwd_gets ≡ b.all_fwd_gets
    → b'.view r ≡ name_m (b.view r) → b'.view o ≡ pass_m (b.view o)
    → ((d : ℕ) → d ≢ r → d ≢ o → b'.view d ≡ b.view d)
    → Good b'
getm_at_m b b' r o g hs p ow ne hh dh fg vr vo vd =
    let ns : (c : ℕ) → (b.view c).shares ≡ true → Never = λ c q. grind arith in
    let held_r : holds (b'.view r) → holds (b.view r) = λ q. name_m_holds (b.view r).state (b.view r) p (g.each r) (subst (λ v. holds v) vr q) in
    let held_o : holds (b'.view o) → holds (b.view o) = λ q. pass_m_holds (b.view o).state (b.view o) ow (g.each o) (subst (λ v. holds v) vo q) in
    let held : (d : ℕ) → holds (b'.view d) → holds (b.view d) =
    λ d. by_two (λ e. holds (b'.view e) → holds (b.view e)) r o d held_r held_o
    (λ n m. subst (λ v. holds v → holds (b.view d)) (sym (vd d n m)) (λ h. h)) in
    record {
      each = λ d. grind (arith, name_m_at, pass_m_at);
      one = λ d e p q. g.one d e (held d p) (held e q);
      home_holds = λ p d q. grind arith;
      sharers = λ d p. grind arith;
      owner = λ d p. hh;
      blocked = λ p. grind arith;
      unblocked = λ p. grind arith;
      newest = λ d p q. grind arith;
    }

-- the home serves a PutS
pub puts_at : (b b' : Block) (r : ℕ) → Good b → 0 < (b.view r).puts
    → (b'.home ≡ b.home) ⊎ ((b.home ≡ home.S) × (b'.home ≡ home.I) × ((d : ℕ) → (b.view d).shares ≡ true → d ≡ r))
    → b'.data_home ≡ b.data_home → b'.all_fwd_gets ≡ b.all_fwd_gets
    → b'.view r ≡ ack_s (b.view r)
    → ((d : ℕ) → d ≢ r → b'.view d ≡ b.view d)
    → Good b'
puts_at b b' r g p hh dh fg vr vo =
    let held : (d : ℕ) → holds (b'.view d) → holds (b.view d) = λ d q. grind (arith, ack_s_holds) in
    record {
      each = λ d. grind (arith, ack_s_at);
      one = λ d e p q. g.one d e (held d p) (held e q);
      home_holds = λ p d q. grind arith;
      sharers = λ d p. grind arith;
      owner = λ d p. grind arith;
      blocked = λ p. grind arith;
      unblocked = λ p. grind arith;
      newest = λ d p q. grind arith;
    }

-- the home serves a PutM of a cache that isn't the owner
pub putm_at : (b b' : Block) (r : ℕ) → Good b → 0 < (b.view r).putm → (b.view r).owns ≡ false
    → b'.home ≡ b.home → b'.data_home ≡ b.data_home → b'.all_fwd_gets ≡ b.all_fwd_gets
    → b'.view r ≡ ack_m (b.view r)
    → ((d : ℕ) → d ≢ r → b'.view d ≡ b.view d)
    → Good b'
putm_at b b' r g p ow hh dh fg vr vo =
    let held : (d : ℕ) → holds (b'.view d) → holds (b.view d) = λ d q. grind (arith, ack_m_holds) in
    record {
      each = λ d. grind (arith, ack_m_at);
      one = λ d e p q. g.one d e (held d p) (held e q);
      home_holds = λ p d q. grind arith;
      sharers = λ d p. grind arith;
      owner = λ d p. grind arith;
      blocked = λ p. grind arith;
      unblocked = λ p. grind arith;
      newest = λ d p q. grind arith;
    }

-- the home serves the owner's PutM
pub putm_of_owner : (b b' : Block) (r : ℕ) → Good b → 0 < (b.view r).putm → (b.view r).owns ≡ true
    → b'.home ≡ home.I → b'.data_home ≡ b.data_home → b'.all_fwd_gets ≡ b.all_fwd_gets
    → b'.view r ≡ ack_m (b.view r)
    → ((d : ℕ) → d ≢ r → b'.view d ≡ b.view d)
    → ((d : ℕ) → (b.view d).owns ≡ true → d ≡ r)
    → Good b'
putm_of_owner b b' r g p ow hh dh fg vr vo oo =
    let held : (d : ℕ) → holds (b'.view d) → holds (b.view d) = λ d q. grind (arith, ack_m_holds) in
    let this : holds (b.view r) = owner_holds (b.view r).state (b.view r) p ow (g.each r) in
    let gone : (d : ℕ) → holds (b'.view d) → Never = λ d q. grind (arith, ack_m_owner) in
    record {
      each = λ d. grind (arith, ack_m_at);
      one = λ d e p q. g.one d e (held d p) (held e q);
      home_holds = λ p d q. gone d q;
      sharers = λ d p. grind arith;
      owner = λ d p. grind arith;
      blocked = λ p. grind arith;
      unblocked = λ p. grind arith;
      newest = λ d p q. grind arith;
    }

-- the home takes Data
pub data_at_home : (b b' : Block) → Good b → 0 < b.data_home → b.home ≡ home.SD
    → b'.home ≡ home.S → b'.data_home ≡ b.data_home - 1 → b'.all_fwd_gets ≡ b.all_fwd_gets
    → ((d : ℕ) → b'.view d ≡ b.view d)
    → Good b'
data_at_home b b' g p hs hh dh fg vo =
    let total : b.all_fwd_gets + b.data_home ≡ 1 = g.blocked hs in
    let gone : (d : ℕ) → holds (b'.view d) → Never = λ d q. g.home_holds (inr (inr p)) d (subst (λ v. holds v) (vo d) q) in
    record {
      each = λ d. grind arith;
      one = λ d e x y. absurd (omega (arith, gone d x));
      home_holds = λ p d q. gone d q;
      sharers = λ d p. inl hh;
      owner = λ d p. grind arith;
      blocked = λ x. grind arith;
      unblocked = λ x. grind arith;
      newest = λ d p q. grind arith;
    }

-- a holder in M or MI^A serves a Fwd-GetM
pub fwd_getm_served : (b b' : Block) (c r : ℕ) → Good b → Counted b → c ≢ r → 0 < (b.view r).fwd_getm
    → holds (b.view c) → (b.view c).invs ≡ 0
    → Same b b'
    → local (b'.view c) → (holds (b'.view c) → Never) → (b'.view c).shares ≡ (b.view c).shares → (b'.view c).owns ≡ (b.view c).owns
    → (b.view c).shares ≡ false
    → b'.view r ≡ get_m (b.view r)
    → ((d : ℕ) → d ≢ r → d ≢ c → b'.view d ≡ b.view d)
    → Good b'
fwd_getm_served b b' c r g k ne p hc ni s lc nh sh ow sf vr vo =
    let free : HasInv (b.view r).link → Never = λ i. grind (arith, owed) in
    let held : (d : ℕ) → holds (b'.view d) → d ≡ r = λ d q. grind arith in
    record {
      each = λ d. grind (arith, get_m_at);
      one = λ d e p q. grind arith;
      home_holds = λ p d q. grind arith;
      sharers = λ d p. grind arith;
      owner = λ d p. grind arith;
      blocked = λ p. grind arith;
      unblocked = λ p. grind arith;
      newest = λ d p q. grind arith;
    }

-- a holder in M or MI^A serves a Fwd-GetS
pub fwd_gets_served : (b b' : Block) (c r : ℕ) → Good b → Counted b → c ≢ r → 0 < (b.view r).fwd_gets
    → holds (b.view c)
    → b'.home ≡ b.home → b'.data_home ≡ b.data_home + 1 → b'.all_fwd_gets ≡ b.all_fwd_gets - 1
    → local (b'.view c) → (holds (b'.view c) → Never) → (b'.view c).shares ≡ (b.view c).shares → (b'.view c).owns ≡ (b.view c).owns
    → b'.view r ≡ get_s (b.view r)
    → ((d : ℕ) → d ≢ r → d ≢ c → b'.view d ≡ b.view d)
    → Good b'
fwd_gets_served b b' c r g k ne p hc hh dh fg lc nh sh ow vr vo =
    let some : 0 < b.all_fwd_gets = grind arith in
    let held : (d : ℕ) → holds (b'.view d) → Never = λ d q. grind (arith, get_s_holds) in
    record {
      each = λ d. grind (arith, get_s_at);
      one = λ d e p q. grind arith;
      home_holds = λ p d q. held d q;
      sharers = λ d p. grind arith;
      owner = λ d p. grind arith;
      blocked = λ p. grind arith;
      unblocked = λ p. grind arith;
      newest = λ d p q. grind arith;
    }
