-- Data that comes to the home: what all pairs see of its actions, and once it is taken off the wires.
use Rattle.std.proofs.Common.{◌≡◌, ◌≢◌, ℕ, ◌+◌, ◌-◌, List, [], ◌∷◌, refl, ap, sym, subst, ◌∙◌, inr, Option, Some, None, Bool, true, false, ◌==◌, arith}
use Rattle.std.proofs.Common.{if◌then◌else◌, ◌||◌, not, slice_get, remove, sum_by}
use Rattle.std.proofs.lemmas.Bool.{ne_eqb}
use Rattle.base.specs.declared.ids.CacheId.{CacheId}
use Rattle.base.specs.declared.ids.Place.{Place}
use Rattle.base.specs.declared.ids.Place.TheVariants.{Dir, Cache}
use Rattle.network.specs.declared.message.Response.{Response}
use Rattle.network.specs.declared.message.Response.TheVariants.{Data}
use Rattle.network.specs.Traffic.{Traffic, response_taken}
use Rattle.directory_table.specs.declared.actions.DirectoryAction.{DirectoryAction}
use Rattle.directory_table.specs.declared.actions.DirectoryAction.TheVariants as action
use Rattle.control.specs.declared.home.Home.{Home}
use Rattle.control.specs.HomeEffect.{home_changed, home_moved, with_owner}
use Rattle.control.specs.Homes.{IsAmong, IsBelow}
use Rattle.control.proofs.HomeSends.{Keeps, keeps-changed, names-among}
use Rattle.machine.specs.Block.{BlockState}
use Rattle.machine.proofs.Counts.{sum_by-remove}
use Rattle.machine.proofs.Seen.{dir_data, owner_data, excl_data, home_data, inv_ack, ack_number}
use Rattle.pairs.specs.declared.pair.Shared.{Shared}
use Rattle.pairs.specs.Pairs.{trimmed_home}
use Rattle.pairs.specs.declared.steps.Debt.{Debt}
use Rattle.pairs.specs.declared.steps.Debt.TheVariants.{Even}
use Rattle.pairs.specs.declared.steps.Scene.{Scene}
use Rattle.pairs.specs.Sights.{home_acted, home_acts, settled_debt}
use Rattle.closing.proofs.Alpha.{Tags, face, alpha, side, side_of, shared, owed_to, AreTrue, Brings, BringsHome}
use Rattle.closing.proofs.Sides.{same_responses, same_home_data}
use Rattle.closing.proofs.HomeSending.{at}
use Rattle.closing.proofs.HomeScene.{Frame, scene_of}
use Rattle.closing.proofs.HomeSharing.{owner_debt, owner-added, sharers-cleared}
use Rattle.closing.proofs.HomeActing.{IsAt}
use Rattle.closing.proofs.HomeTruths.{owner-memory}
use Rattle.closing.proofs.Sending.{or-false}
use Rattle.closing.proofs.LineActing.{all-removed}
use Rattle.closing.proofs.Taking.{all-there}
use Rattle.closing.proofs.RequestTaken.{fresh-left}

-- THE ACTIONS
-- the tags after an action on Data, which brings a fresh value or not
abbrev pub data_tags : Bool → DirectoryAction → Tags → Tags
data_tags fresh action.CopyData tags = record tags { memory = fresh }
data_tags fresh other tags = tags

abbrev pub data_tags_after : Bool → List DirectoryAction → Tags → Tags
data_tags_after fresh [] tags = tags
data_tags_after fresh (x ∷ actions) tags = data_tags_after fresh actions (data_tags fresh x tags)

-- no action on Data moves a lag
pub data-lags : (fresh : Bool) (actions : List DirectoryAction) (tags : Tags) → (data_tags_after fresh actions tags).lag ≡ tags.lag
data-lags fresh [] tags = refl
data-lags fresh (x ∷ actions) tags = data-lags fresh actions (data_tags fresh x tags) ∙ one x
  where
    one : (x : DirectoryAction) → (data_tags fresh x tags).lag ≡ tags.lag
    one action.CopyData = refl
    one other = refl

even-owner : (o : Option CacheId) (c : ℕ) → owner_debt o c Even ≡ Even
even-owner None c = refl
even-owner (Some o) c = even (o.0 == c)
  where
    even : (t : Bool) → (if t then Even else settled_debt Even) ≡ Even
    even true = refl
    even false = refl

module _ (caches : ℕ) (fr : Frame) (b : BlockState) (w : Traffic) (fresh : Bool) (value : ℕ) (c d : ℕ) where
  -- what an action makes of the scene that two caches see
  data-acted : (x : DirectoryAction) (home : Home) (tags : Tags) → c ≢ d → IsAt caches home w →
      scene_of fr Even (data_tags fresh x tags) (at b (home_changed None (Some value) x home) w) c d ≡
      home_acted false (Some fresh) x (scene_of fr Even tags (at b home w) c d)
  data-acted action.AddOwner home tags ne h =
      ap (λ (debt : Debt). scene_of fr debt tags (at b (with_owner home.owner home) w) c d) (sym (even-owner home.owner c))
      ∙ owner-added fr tags b home w c d Even home.owner ne (subst (λ (n : ℕ). IsBelow home.owner n) (sym h.sharers) h.owner)
  data-acted action.ClearSharers home tags ne h = sharers-cleared fr tags b home w c d Even
  data-acted action.ClearOwner home tags ne h = refl
  data-acted action.CopyData home tags ne h = refl
  data-acted action.DataReq home tags ne h = refl
  data-acted action.DataAcks home tags ne h = refl
  data-acted action.DataExcl home tags ne h = refl
  data-acted action.InvSharers home tags ne h = refl
  data-acted action.FwdGetS home tags ne h = refl
  data-acted action.FwdGetM home tags ne h = refl
  data-acted action.PutAck home tags ne h = refl
  data-acted action.AddReq home tags ne h = refl
  data-acted action.RemoveReq home tags ne h = refl
  data-acted action.SetOwner home tags ne h = refl

  data-among : (x : DirectoryAction) (home : Home) → IsAt caches home w → IsAt caches (home_changed None (Some value) x home) w
  data-among x home h =
      let kept : Keeps None home (home_changed None (Some value) x home) = keeps-changed None (Some value) x home in
      let among : IsAmong caches home = record { sharers = h.sharers; owner = h.owner } in
      record { links = h.links; sharers = kept.flags ∙ h.sharers; owner = (kept.names caches (names-among caches home among) tt).owner }

  pub all-data : (actions : List DirectoryAction) (home : Home) (tags : Tags) → c ≢ d → IsAt caches home w →
      scene_of fr Even (data_tags_after fresh actions tags) (at b (home_moved None (Some value) actions home) w) c d ≡
      home_acts false (Some fresh) actions (scene_of fr Even tags (at b home w) c d)
  all-data [] home tags ne h = refl
  all-data (x ∷ actions) home tags ne h =
      all-data actions (home_changed None (Some value) x home) (data_tags fresh x tags) ne (data-among x home h)
      ∙ ap (λ (s : Scene). home_acts false (Some fresh) actions s) (data-acted x home tags ne h)

-- what is known stays true
module _ (b : BlockState) (w : Traffic) (fresh : Bool) (value : ℕ) where
  data-true : (x : DirectoryAction) (home : Home) (tags : Tags) → (fresh ≡ true → value ≡ b.latest) → AreTrue tags (at b home w) →
      AreTrue (data_tags fresh x tags) (at b (home_changed None (Some value) x home) w)
  data-true action.CopyData home tags m h = record { line = h.line; data_to = h.data_to; putm = h.putm; home_data = h.home_data; memory = m }
  data-true action.AddOwner home tags m h =
      record { line = h.line; data_to = h.data_to; putm = h.putm; home_data = h.home_data; memory = λ e. owner-memory home.owner home ∙ h.memory e }
  data-true action.ClearSharers home tags m h =
      record { line = h.line; data_to = h.data_to; putm = h.putm; home_data = h.home_data; memory = h.memory }
  data-true action.ClearOwner home tags m h =
      record { line = h.line; data_to = h.data_to; putm = h.putm; home_data = h.home_data; memory = h.memory }
  data-true action.DataReq home tags m h = h
  data-true action.DataAcks home tags m h = h
  data-true action.DataExcl home tags m h = h
  data-true action.InvSharers home tags m h = h
  data-true action.FwdGetS home tags m h = h
  data-true action.FwdGetM home tags m h = h
  data-true action.PutAck home tags m h = h
  data-true action.AddReq home tags m h = h
  data-true action.RemoveReq home tags m h = h
  data-true action.SetOwner home tags m h = h

  pub all-true : (actions : List DirectoryAction) (home : Home) (tags : Tags) → (fresh ≡ true → value ≡ b.latest) → AreTrue tags (at b home w) →
      AreTrue (data_tags_after fresh actions tags) (at b (home_moved None (Some value) actions home) w)
  all-true [] home tags m h = h
  all-true (x ∷ actions) home tags m h =
      all-true actions (home_changed None (Some value) x home) (data_tags fresh x tags) m (data-true x home tags m h)

-- THE DATA IS TAKEN
module _ (tags : Tags) (b : BlockState) (index : ℕ) (by : Place) (value acks : ℕ) (e : Some (Data by Dir value acks) ≡ slice_get b.traffic.responses index)
  where
    abbrev left : BlockState
    left = at b b.home (response_taken index b.traffic)

    -- it counted for no cache
    sum-left : (f : Response → ℕ) → f (Data by Dir value acks) ≡ 0 → sum_by f (remove b.traffic.responses index) ≡ sum_by f b.traffic.responses
    sum-left f none = omega (arith, sum_by-remove f b.traffic.responses index (Data by Dir value acks) e, none)

    no-dir : (c : ℕ) (by : Place) → dir_data c (Data by Dir value acks) ≡ 0
    no-dir c Dir = refl
    no-dir c (Cache k) = refl

    no-owner : (c : ℕ) (by : Place) → owner_data c (Data by Dir value acks) ≡ 0
    no-owner c Dir = refl
    no-owner c (Cache k) = refl

    no-number : (c : ℕ) (by : Place) → ack_number c (Data by Dir value acks) ≡ 0
    no-number c Dir = refl
    no-number c (Cache k) = refl

    pub acks-left : (c : ℕ) → sum_by (ack_number c) (remove b.traffic.responses index) ≡ sum_by (ack_number c) b.traffic.responses
    acks-left c = sum-left (ack_number c) (no-number c by)

    pub owed-left : (c : ℕ) → owed_to left c ≡ owed_to b c
    owed-left c = omega (arith, sum-left (inv_ack c) refl)

    pub side-left : (c : ℕ) → side tags left c ≡ side tags b c
    side-left c =
        let dir : sum_by (dir_data c) (remove b.traffic.responses index) ≡ sum_by (dir_data c) b.traffic.responses = sum-left (dir_data c) (no-dir c by) in
        let owner : sum_by (owner_data c) (remove b.traffic.responses index) ≡ sum_by (owner_data c) b.traffic.responses = sum-left (owner_data c)
        (no-owner c by) in
        let excl : sum_by (excl_data c) (remove b.traffic.responses index) ≡ sum_by (excl_data c) b.traffic.responses = sum-left (excl_data c) refl in
        (λ i. side_of (record (face tags b c) { owed = record { any = not (owed-left c i == 0); lag = tags.lag c } }) tags b.home
        (response_taken index b.traffic) c)
        ∙ same_responses (side tags b c) _ _ _ _ _ _ _ _ dir owner excl (λ i. tags.data_to c || (dir i + owner i + excl i == 0))

    pub home-left : sum_by home_data (remove b.traffic.responses index) + 1 ≡ sum_by home_data b.traffic.responses
    home-left = sum_by-remove home_data b.traffic.responses index (Data by Dir value acks) e

    pub home-there : sum_by home_data b.traffic.responses ≢ 0
    home-there z = absurd (omega (arith, z, home-left))

    shared-left : trimmed_home (let g : Shared = shared tags b in record g { home_data = g.home_data - 1 }) ≡ shared tags left
    shared-left =
        let n : sum_by home_data b.traffic.responses - 1 ≡ sum_by home_data (remove b.traffic.responses index) = omega (arith, home-left) in
        same_home_data (shared tags b) _ _ _ _ n
        (fresh-left tags.home_data (sum_by home_data b.traffic.responses) _ (sum_by home_data b.traffic.responses - 1) n (inr home-there))

    pub pair-left : (c d : ℕ) →
        record (alpha tags b c d) { shared = trimmed_home (record (alpha tags b c d).shared { home_data = (alpha tags b c d).shared.home_data - 1 }) } ≡
        alpha tags left c d
    pair-left c d = λ i. record (alpha tags left c d) { shared = shared-left i; first = sym (side-left c) i; second = sym (side-left d) i }

    -- Data that is known to be fresh brings the last store's value
    pub value-true : AreTrue tags b → (shared tags b).fresh_home_data ≡ true → value ≡ b.latest
    value-true h fresh =
        let known : tags.home_data ≡ true = sym (or-false tags.home_data) ∙ ap (λ (t : Bool). tags.home_data || t) (sym (ne_eqb _ 0 home-there)) ∙ fresh in
        all-there (BringsHome b.latest) b.traffic.responses index (Data by Dir value acks) (h.home_data known) e

    pub left-true : AreTrue tags b → AreTrue tags left
    left-true h = record {
      line = h.line;
      data_to = λ c known. all-removed (Brings c b.latest) b.traffic.responses index (h.data_to c known);
      putm = h.putm;
      home_data = λ known. all-removed (BringsHome b.latest) b.traffic.responses index (h.home_data known);
      memory = h.memory;
    }
