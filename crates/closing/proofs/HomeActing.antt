-- What the actions of the home make of the scene that the requestor and another cache see.
use Rattle.std.proofs.Common.{◌≡◌, ◌≢◌, ℕ, ◌+◌, ◌≤◌, ◌<◌, refl, ap, sym, subst, ◌∙◌, Option, Some, None, Bool, true, false, ◌==◌, arith}
use Rattle.std.proofs.Common.{length, if◌then◌else◌, not, ◌||◌, zero, suc}
use Rattle.std.proofs.lemmas.Bool.{ne_eqb}
use Rattle.base.specs.declared.ids.CacheId.{CacheId}
use Rattle.network.specs.declared.message.ForwardKind.TheVariants as forward
use Rattle.network.specs.Traffic.{Traffic, all_sent}
use Rattle.directory_table.specs.declared.actions.DirectoryAction.{DirectoryAction}
use Rattle.directory_table.specs.declared.actions.DirectoryAction.TheVariants as action
use Rattle.control.specs.declared.home.Home.{Home}
use Rattle.control.specs.Sharing.{shares, others_from}
use Rattle.control.specs.HomeEffect.{home_message, home_changed}
use Rattle.control.specs.Homes.{IsBelow}
use Rattle.machine.specs.Block.{BlockState}
use Rattle.machine.proofs.Invitations.{invs_from}
use Rattle.pairs.specs.declared.pair.Pair.{Pair}
use Rattle.pairs.specs.declared.steps.Party.{Party}
use Rattle.pairs.specs.declared.steps.Debt.{Debt}
use Rattle.pairs.specs.declared.steps.Scene.{Scene}
use Rattle.pairs.specs.Sights as sights
use Rattle.pairs.specs.Sights.{home_acted, others_share, more_announced, more_invalidated, second_linked, settled_debt}
use Rattle.closing.proofs.Alpha.{Tags, owed_to}
use Rattle.closing.proofs.Sending.{party-first}
use Rattle.closing.proofs.HomeSending.{at}
use Rattle.closing.proofs.HomeForwards.{owner_forwarded, put-acked}
use Rattle.closing.proofs.HomeInviting.{memory_sent, all-invited, data-scene, exclusive-scene, announced-scene, invs-scene_sharer, invs-scene_none}
use Rattle.closing.proofs.HomeScene.{Frame, scene_of, third_of, first-others}
use Rattle.closing.proofs.HomeSharing.{owner_debt, first-set, owner-added, sharers-cleared}

-- the tags after an action on a request, which brings a fresh value, another one or none
abbrev pub home_tags : CacheId → Option Bool → DirectoryAction → Traffic → Tags → Tags
home_tags a value action.DataReq w tags = memory_sent a w tags
home_tags a value action.DataAcks w tags = memory_sent a w tags
home_tags a value action.DataExcl w tags = memory_sent a w tags
home_tags a (Some fresh) action.CopyData w tags = record tags { memory = fresh }
home_tags a value other w tags = tags

-- whether some cache besides this one shares
abbrev pub others_in : Home → ℕ → Bool
others_in home c = not (others_from 0 c home.sharers == 0)

-- the debt after an action, where something was owed to the requestor or not
abbrev pub debt_after : ℕ → Bool → Home → DirectoryAction → Debt → Debt
debt_after c owed home action.DataAcks debt = if others_in home c then more_announced debt else debt
debt_after c owed home action.InvSharers debt = if others_in home c then more_invalidated owed debt else debt
debt_after c owed home action.AddOwner debt = owner_debt home.owner c debt
debt_after c owed home action.ClearSharers debt = settled_debt debt
debt_after c owed home other debt = debt

-- a value that is shown as fresh is the last store's
abbrev pub Matches : Option Bool → Option ℕ → ℕ → Type 0
Matches None None latest = Unit {0}
Matches (Some fresh) (Some value) latest = fresh ≡ true → value ≡ latest
Matches one other latest = ⊥

-- the Invs
module _ (fr : Frame) (tags : Tags) (b : BlockState) (home : Home) (w : Traffic) (a : CacheId) (d : ℕ) where
  abbrev before : Debt → Scene
  before debt = scene_of fr debt tags (at b home w) a.0 d

  abbrev owed : Bool
  owed = not (owed_to (at b home w) a.0 == 0)

  abbrev behind : Traffic
  behind = invs_from a 0 home.sharers w

  others-seen : (debt : Debt) → d ≢ a.0 → others_share (before debt) ≡ others_in home a.0
  others-seen debt ne = sym (first-others a.0 d home.sharers (λ e. ne (sym e)))

  more-owed : (n k : ℕ) → not (k == 0) ≡ true → not (n + k == 0) ≡ true
  more-owed n zero e = absurd (cc)
  more-owed n (suc k) e = ap (λ (t : Bool). not t) (ne_eqb (n + suc k) 0 (λ z. absurd (omega (arith, z))))

  no-more_owed : (n k : ℕ) → not (k == 0) ≡ false → n + k ≡ n
  no-more_owed n zero e = omega arith
  no-more_owed n (suc k) e =
      let some : not (suc k == 0) ≡ true = ap (λ (t : Bool). not t) (ne_eqb (suc k) 0 (λ z. absurd (omega (arith, z)))) in
      absurd (cc)

  -- an Inv to some
  abbrev served : Bool → Debt → Scene
  served sharer debt = record (before debt) {
    pair = (let p : Pair = if sharer then second_linked forward.Inv (before debt).pair else (before debt).pair in record p
        { first = record p.first { owed = true } });
    debt = more_invalidated owed debt;
  }

  some-served : (debt : Debt) (sharer : Bool) → d ≢ a.0 → length home.sharers ≤ length w.links → others_in home a.0 ≡ true → shares home.sharers d ≡ sharer →
      scene_of fr (more_invalidated owed debt) tags (at b home behind) a.0 d ≡ served sharer debt
  some-served debt true ne h some sharer =
      invs-scene_sharer tags b home w a fr (more_invalidated owed debt) d true ne h sharer (more-owed (owed_to (at b home w) a.0) _ some)
  some-served debt false ne h some sharer =
      invs-scene_none tags b home w a fr (more_invalidated owed debt) d true ne h sharer (more-owed (owed_to (at b home w) a.0) _ some)

  no-sharer : (s t : Bool) → s || t ≡ false → s ≡ false
  no-sharer true t e = absurd (cc)
  no-sharer false t e = refl

  invited-scene : (debt : Debt) (some : Bool) → d ≢ a.0 → length home.sharers ≤ length w.links → others_in home a.0 ≡ some →
      scene_of fr (if some then more_invalidated owed debt else debt) tags (at b home behind) a.0 d ≡ sights.invited (before debt)
  invited-scene debt true ne h e =
      some-served debt (shares home.sharers d) ne h e refl
      ∙ ap (λ (t : Bool). if t then served (shares home.sharers d) debt else before debt) (sym (others-seen debt ne ∙ e))
  invited-scene debt false ne h e =
      invs-scene_none tags b home w a fr debt d owed ne h (no-sharer (shares home.sharers d) (third_of a.0 d home.sharers) (others-seen debt ne ∙ e))
      (ap (λ (n : ℕ). not (n == 0)) (no-more_owed (owed_to (at b home w) a.0) _ e))
      ∙ ap (λ (t : Bool). if t then served (shares home.sharers d) debt else before debt) (sym (others-seen debt ne ∙ e))

-- ONE ACTION
-- the scene after an action is what the pair makes of the scene before it
abbrev pub Acts : Frame → Debt → Tags → BlockState → Home → Traffic → CacheId → Option Bool → Option ℕ → DirectoryAction → ℕ → Type 0
Acts fr debt tags b home w a value brought x d =
    scene_of fr (debt_after a.0 (not (owed_to (at b home w) a.0 == 0)) home x debt) (home_tags a value x w tags)
    (at b (home_changed (Some a) brought x home) (all_sent (home_message (Some a) x home) w)) a.0 d ≡
    home_acted true value x (scene_of fr debt tags (at b home w) a.0 d)

-- a home and wires among so many caches
pub record IsAt (caches : ℕ) (home : Home) (w : Traffic) : Type 0 where
  pub links : length w.links ≡ caches
  pub sharers : length home.sharers ≡ caches
  pub owner : IsBelow home.owner caches

module _ (caches : ℕ) (fr : Frame) (debt : Debt) (tags : Tags) (b : BlockState) (home : Home) (w : Traffic) (a : CacheId) (d : ℕ) where
  abbrev scene : Scene
  scene = scene_of fr debt tags (at b home w) a.0 d

  acks-acted : (value : Option Bool) (brought : Option ℕ) → d ≢ a.0 → Acts fr debt tags b home w a value brought action.DataAcks d
  acks-acted value brought ne =
      data-scene fr (debt_after a.0 (not (owed_to (at b home w) a.0 == 0)) home action.DataAcks debt) tags b home w a d home.memory
      (others_from 0 a.0 home.sharers) ne
      ∙ sym (announced-scene (home_acted true value action.DataReq scene) (others_in home a.0) (sym (first-others a.0 d home.sharers (λ e. ne (sym e)))))

  invs-acted : (value : Option Bool) (brought : Option ℕ) → d ≢ a.0 → length home.sharers ≤ length w.links →
      Acts fr debt tags b home w a value brought action.InvSharers d
  invs-acted value brought ne h =
      ap (λ (v : Traffic). scene_of fr (debt_after a.0 (not (owed_to (at b home w) a.0 == 0)) home action.InvSharers debt) tags (at b home v) a.0 d)
      (all-invited a home.sharers w)
      ∙ invited-scene fr tags b home w a d debt (others_in home a.0) ne h refl

  -- the value of a PutM or of Data is copied
  copy-acted : (value : Option Bool) (brought : Option ℕ) → Matches value brought b.latest → Acts fr debt tags b home w a value brought action.CopyData d
  copy-acted None None m = refl
  copy-acted None (Some v) m = absurd m
  copy-acted (Some fresh) None m = absurd m
  copy-acted (Some fresh) (Some v) m = refl

  pub acted : (value : Option Bool) (brought : Option ℕ) (x : DirectoryAction) → d ≢ a.0 → IsAt caches home w → a.0 < caches → Matches value brought b.latest →
      Acts fr debt tags b home w a value brought x d
  acted value brought action.DataReq ne h l m = data-scene fr debt tags b home w a d home.memory 0 ne
  acted value brought action.DataAcks ne h l m = acks-acted value brought ne
  acted value brought action.DataExcl ne h l m = exclusive-scene fr debt tags b home w a d home.memory ne
  acted value brought action.InvSharers ne h l m = invs-acted value brought ne (omega (arith, h.links, h.sharers))
  acted value brought action.FwdGetS ne h l m =
      owner_forwarded fr debt tags b home w a forward.FwdGetS home.owner d ne (subst (λ (n : ℕ). IsBelow home.owner n) (sym h.links) h.owner) refl
  acted value brought action.FwdGetM ne h l m =
      owner_forwarded fr debt tags b home w a forward.FwdGetM home.owner d ne (subst (λ (n : ℕ). IsBelow home.owner n) (sym h.links) h.owner) refl
  acted value brought action.PutAck ne h l m = put-acked fr debt tags b home w a d ne (omega (arith, l, h.links))
  acted value brought action.AddReq ne h l m = first-set fr tags b home w a.0 d debt true (λ e. ne (sym e)) (omega (arith, l, h.sharers))
  acted value brought action.RemoveReq ne h l m = first-set fr tags b home w a.0 d debt false (λ e. ne (sym e)) (omega (arith, l, h.sharers))
  acted value brought action.SetOwner ne h l m = ap (λ (p : Party). record scene { owner = p }) (party-first a a.0 d refl)
  acted value brought action.AddOwner ne h l m =
      owner-added fr tags b home w a.0 d debt home.owner (λ e. ne (sym e)) (subst (λ (n : ℕ). IsBelow home.owner n) (sym h.sharers) h.owner)
  acted value brought action.ClearSharers ne h l m = sharers-cleared fr tags b home w a.0 d debt
  acted value brought action.ClearOwner ne h l m = refl
  acted value brought action.CopyData ne h l m = copy-acted value brought m
