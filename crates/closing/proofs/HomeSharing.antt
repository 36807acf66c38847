-- What a change of the home's sharers or owner makes of the scene that two caches see, whichever they are.
use Rattle.std.proofs.Common.{◌≡◌, ◌≢◌, ℕ, ◌<◌, List, refl, ap, sym, ◌∙◌, inl, inr, Option, Some, None, Bool, true, false, ◌==◌, arith}
use Rattle.std.proofs.Common.{eq-eqb, length, if◌then◌else◌, not, replicate, slice_set}
use Rattle.std.proofs.lemmas.Bool.{cases_eq, ne_eqb}
use Rattle.base.specs.declared.ids.CacheId.{CacheId}
use Rattle.network.specs.Traffic.{Traffic}
use Rattle.control.specs.declared.home.Home.{Home}
use Rattle.control.specs.Sharing.{shares}
use Rattle.control.specs.HomeEffect.{with_owner, with_sharer}
use Rattle.control.specs.Homes.{IsBelow}
use Rattle.machine.specs.Block.{BlockState}
use Rattle.machine.proofs.Homes.{shares-set_same, shares-set_other, shares-cleared}
use Rattle.pairs.specs.declared.steps.Party.{Party}
use Rattle.pairs.specs.declared.steps.Debt.{Debt}
use Rattle.pairs.specs.declared.steps.Scene.{Scene}
use Rattle.pairs.specs.Sights.{owner_added, resharing, settled_debt}
use Rattle.closing.proofs.Alpha.{Tags}
use Rattle.closing.proofs.AlphaFits.{thirds_from}
use Rattle.closing.proofs.Sending.{party_of, party-first, party-second, party-third}
use Rattle.closing.proofs.HomeSending.{at}
use Rattle.closing.proofs.HomeScene.{Frame, third_of, scene_of, thirds-set_first, thirds-set_second, thirds-added, thirds-cleared}

-- the debt after the owner was added to the sharers
abbrev pub owner_debt : Option CacheId → ℕ → Debt → Debt
owner_debt None c debt = debt
owner_debt (Some o) c debt = if o.0 == c then debt else settled_debt debt

module _ (fr : Frame) (tags : Tags) (b : BlockState) (home : Home) (w : Traffic) (c d : ℕ) where
  abbrev pub before : Debt → Scene
  before debt = scene_of fr debt tags (at b home w) c d

  -- a scene with other sharers
  abbrev pub shared_by : Debt → Bool → Bool → Bool → Scene
  shared_by debt one other third = record (before debt) {
    pair =
        record (before debt).pair {
          first = record (before debt).pair.first { shares = one };
          second = record (before debt).pair.second { shares = other };
        };
    third_shares = third;
  }

  reshared : (debt : Debt) (flags : List Bool) (one other third : Bool) → shares flags c ≡ one → shares flags d ≡ other → third_of c d flags ≡ third →
      scene_of fr debt tags (at b (record home { sharers = flags }) w) c d ≡ shared_by debt one other third
  reshared debt flags one other third e f g = λ i. shared_by debt (e i) (f i) (g i)

  -- the first one's flag is set
  pub first-set : (debt : Debt) (flag : Bool) → c ≢ d → c < length home.sharers →
      scene_of fr debt tags (at b (record home { sharers = slice_set home.sharers c flag }) w) c d ≡
      record (before debt) { pair = record (before debt).pair { first = record (before debt).pair.first { shares = flag } } }
  first-set debt flag ne h =
      reshared debt (slice_set home.sharers c flag) flag (shares home.sharers d) (third_of c d home.sharers) (shares-set_same home.sharers c flag h)
      (shares-set_other home.sharers c d flag (λ e. ne (sym e))) (ap (λ (n : ℕ). not (n == 0)) (thirds-set_first 0 c c d home.sharers flag (omega arith)))

  second-set : (debt : Debt) → c ≢ d → d < length home.sharers →
      scene_of fr debt tags (at b (record home { sharers = slice_set home.sharers d true }) w) c d ≡
      record (before debt) { pair = record (before debt).pair { second = record (before debt).pair.second { shares = true } } }
  second-set debt ne h =
      reshared debt (slice_set home.sharers d true) (shares home.sharers c) true (third_of c d home.sharers) (shares-set_other home.sharers d c true ne)
      (shares-set_same home.sharers d true h) (ap (λ (n : ℕ). not (n == 0)) (thirds-set_second 0 d c d home.sharers true (omega arith)))

  third-set : (debt : Debt) (k : ℕ) → k ≢ c → k ≢ d → k < length home.sharers →
      scene_of fr debt tags (at b (record home { sharers = slice_set home.sharers k true }) w) c d ≡ record (before debt) { third_shares = true }
  third-set debt k first_other second_other h =
      let more : 0 < thirds_from 0 c d (slice_set home.sharers k true) =
      thirds-added 0 k c d home.sharers (λ e. first_other (omega (arith, e))) (λ e. second_other (omega (arith, e))) h in
      reshared debt (slice_set home.sharers k true) (shares home.sharers c) (shares home.sharers d) true
      (shares-set_other home.sharers k c true (λ e. first_other (sym e))) (shares-set_other home.sharers k d true (λ e. second_other (sym e)))
      (ap (λ (t : Bool). not t) (ne_eqb (thirds_from 0 c d (slice_set home.sharers k true)) 0 (λ z. absurd (omega (arith, z, more)))))

  -- the owner is added
  pub owner-added : (debt : Debt) (o : Option CacheId) → c ≢ d → IsBelow o (length home.sharers) →
      scene_of fr (owner_debt o c debt) tags (at b (with_owner o home) w) c d ≡ owner_added (party_of o c d) (before debt)
  owner-added debt None ne h = refl
  owner-added debt (Some o) ne h =
      elim (cases_eq o.0 c) [
        | inl same ↦
            (λ i. scene_of fr (if eq-eqb o.0 c same i then debt else settled_debt debt) tags
            (at b (record home { sharers = slice_set home.sharers (same i) true }) w) c d)
            ∙ first-set debt true ne (omega (arith, h, same)) ∙ ap (λ (p : Party). owner_added p (before debt)) (sym (party-first o c d same))
        | inr differ ↦ elim (cases_eq o.0 d) [
          | inl same ↦
              (λ i. scene_of fr (if ne_eqb o.0 c differ i then debt else settled_debt debt) tags
              (at b (record home { sharers = slice_set home.sharers (same i) true }) w) c d)
              ∙ second-set (settled_debt debt) ne (omega (arith, h, same))
              ∙ ap (λ (p : Party). owner_added p (before debt)) (sym (party-second o c d differ same))
          | inr other ↦
              (λ i. scene_of fr (if ne_eqb o.0 c differ i then debt else settled_debt debt) tags (at b (with_sharer o true home) w) c d)
              ∙ third-set (settled_debt debt) o.0 differ other h ∙ ap (λ (p : Party). owner_added p (before debt)) (sym (party-third o c d differ other))
        ]
      ]

  -- all sharers are gone
  pub sharers-cleared : (debt : Debt) →
      scene_of fr (settled_debt debt) tags (at b (record home { sharers = replicate (length home.sharers) false }) w) c d ≡
      (let s : Scene = before debt in record (resharing s) {
        pair = record s.pair { first = record s.pair.first { shares = false }; second = record s.pair.second { shares = false } };
        third_shares = false;
      })
  sharers-cleared debt =
      reshared (settled_debt debt) (replicate (length home.sharers) false) false false false (shares-cleared (length home.sharers) c)
      (shares-cleared (length home.sharers) d)
      (ap (λ (n : ℕ). not (n == 0)) (thirds-cleared 0 c d (length home.sharers)))
