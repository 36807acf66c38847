-- What the home's Data and Invs make of the scene that the requestor and another cache see.
use Rattle.std.proofs.Common.{◌≡◌, ◌≢◌, ℕ, ◌+◌, ◌≤◌, List, [], ◌∷◌, ◌++◌, refl, ap, sym, ◌∙◌, Bool, true, false, ◌==◌, arith}
use Rattle.std.proofs.Common.{eq-eqb, length, if◌then◌else◌, not, ◌&&◌, map, sum_by}
use Rattle.std.proofs.lemmas.Bool.{ne_eqb}
use Rattle.base.specs.declared.ids.CacheId.{CacheId}
use Rattle.base.specs.declared.ids.Place.TheVariants.{Dir, Cache}
use Rattle.network.specs.declared.message.Forward.{Forward}
use Rattle.network.specs.declared.message.ForwardKind.TheVariants.{Inv}
use Rattle.network.specs.declared.message.Response.{Response}
use Rattle.network.specs.declared.message.Response.TheVariants.{Data, DataExcl}
use Rattle.network.specs.Traffic.{Traffic, link, response_sent, all_sent}
use Rattle.network.proofs.Sending.{all_sent-append}
use Rattle.control.specs.declared.home.Home.{Home}
use Rattle.control.specs.Sharing.{shares, others_from}
use Rattle.control.specs.HomeEffect.{invalidations}
use Rattle.machine.proofs.Counts.{only, only-nothing, total}
use Rattle.machine.proofs.Seen.{names, is_fwd_gets, is_fwd_getm, is_inv}
use Rattle.machine.proofs.Seen.{inv_ack}
use Rattle.machine.proofs.Invitations.{invs_from, invited, invs-requests, invs-responses, invs-link, invs-none, invs-each}
use Rattle.machine.specs.Block.{BlockState}
use Rattle.pairs.specs.declared.link.LinkPlace.{LinkPlace}
use Rattle.pairs.specs.declared.pair.Pair.{Pair}
use Rattle.pairs.specs.declared.steps.Debt.{Debt}
use Rattle.pairs.specs.declared.steps.Scene.{Scene}
use Rattle.pairs.specs.Sights.{dir_data_sent, excl_data_sent, announces, others_share, more_announced, second_linked}
use Rattle.closing.proofs.Alpha.{Tags, Face, face, side, side_of, shared, shared_of, names_in, owed_to}
use Rattle.closing.proofs.AlphaFits.{places}
use Rattle.closing.proofs.Sides.{same_forwards}
use Rattle.closing.proofs.Sending.{party_of, tag_at, tag-elsewhere, data_tag, response-shared}
use Rattle.closing.proofs.HomeSending.{at, dir_data-here, excl_data-here, response-elsewhere, map-push, place}
use Rattle.closing.proofs.HomeScene.{Frame, staged, third_of, scene_of}

-- DATA
-- the tags after Data from memory to a cache
abbrev pub memory_sent : CacheId → Traffic → Tags → Tags
memory_sent a w tags = record tags { data_to = tag_at a.0 (data_tag tags w a.0 tags.memory) tags.data_to }

module _ (fr : Frame) (debt : Debt) (tags : Tags) (b : BlockState) (home : Home) (w : Traffic) (a : CacheId) (d : ℕ) where
  abbrev pub before : Scene
  before = scene_of fr debt tags (at b home w) a.0 d

  pub data-scene : (value acks : ℕ) → d ≢ a.0 →
      scene_of fr debt (memory_sent a w tags) (at b home (response_sent (Data Dir (Cache a) value acks) w)) a.0 d ≡
      record before { pair = record before.pair { first = dir_data_sent tags.memory before.pair.first } }
  data-scene value acks ne =
      let x : Response = Data Dir (Cache a) value acks in
      let other : a.0 ≢ d = λ e. ne (sym e) in
      let all : shared (memory_sent a w tags) (at b home (response_sent x w)) ≡ shared tags (at b home w) = response-shared tags home w x refl in
      let one : side (memory_sent a w tags) (at b home (response_sent x w)) a.0 ≡ dir_data_sent tags.memory (side tags (at b home w) a.0) =
      dir_data-here b home tags w a value acks tags.memory in
      let two : side (memory_sent a w tags) (at b home (response_sent x w)) d ≡ side tags (at b home w) d =
      response-elsewhere b home tags (memory_sent a w tags).data_to w x d refl (ap (λ (t : Bool). only t 1) (ne_eqb a.0 d other)) refl refl
      (tag-elsewhere a.0 (data_tag tags w a.0 tags.memory) tags.data_to d ne) in
      λ i. staged fr (all i) (one i) (two i) (names_in w a.0 d) (names_in w d a.0) (party_of home.owner a.0 d) (third_of a.0 d home.sharers) debt

  pub exclusive-scene : (value : ℕ) → d ≢ a.0 →
      scene_of fr debt (memory_sent a w tags) (at b home (response_sent (DataExcl a value) w)) a.0 d ≡
      record before { pair = record before.pair { first = excl_data_sent tags.memory before.pair.first } }
  exclusive-scene value ne =
      let x : Response = DataExcl a value in
      let other : a.0 ≢ d = λ e. ne (sym e) in
      let all : shared (memory_sent a w tags) (at b home (response_sent x w)) ≡ shared tags (at b home w) = response-shared tags home w x refl in
      let one : side (memory_sent a w tags) (at b home (response_sent x w)) a.0 ≡ excl_data_sent tags.memory (side tags (at b home w) a.0) =
      excl_data-here b home tags w a value tags.memory in
      let two : side (memory_sent a w tags) (at b home (response_sent x w)) d ≡ side tags (at b home w) d =
      response-elsewhere b home tags (memory_sent a w tags).data_to w x d refl refl refl (ap (λ (t : Bool). only t 1) (ne_eqb a.0 d other))
      (tag-elsewhere a.0 (data_tag tags w a.0 tags.memory) tags.data_to d ne) in
      λ i. staged fr (all i) (one i) (two i) (names_in w a.0 d) (names_in w d a.0) (party_of home.owner a.0 d) (third_of a.0 d home.sharers) debt

-- the debt after the other sharers were announced
pub announced-scene : (s : Scene) (t : Bool) → others_share s ≡ t → announces s ≡ record s { debt = if t then more_announced s.debt else s.debt }
announced-scene s true e = ap (λ (u : Bool). if u then record s { debt = more_announced s.debt } else s) e
announced-scene s false e = ap (λ (u : Bool). if u then record s { debt = more_announced s.debt } else s) e

-- INVS
-- to each sharer but the requestor
pub all-invited : (a : CacheId) (flags : List Bool) (w : Traffic) → all_sent (invalidations a 0 flags) w ≡ invs_from a 0 flags w
all-invited a flags w = sym (all_sent-append (invalidations a 0 flags) [] w) ∙ invited a flags w

abbrev pub inv_for : CacheId → Forward
inv_for a = record { kind = Inv; requestor = a }

module _ (b : BlockState) (home : Home) (w : Traffic) (a : CacheId) where
  -- how many acks are owed to the requestor afterwards
  pub invs-owed : length home.sharers ≤ length w.links →
      owed_to (at b home (invs_from a 0 home.sharers w)) a.0 ≡ owed_to (at b home w) a.0 + others_from 0 a.0 home.sharers
  invs-owed h =
      omega (
        arith,
        invs-each (names a.0 is_inv) a 0 home.sharers w (ap (λ (t : Bool). only t 1) (eq-eqb a.0 a.0 refl)) (omega (arith, h)),
        ap (λ l. sum_by (inv_ack a.0) l) (invs-responses a 0 home.sharers w),
      )

  -- and to another cache
  pub invs-owed_other : (d : ℕ) → d ≢ a.0 → length home.sharers ≤ length w.links →
      owed_to (at b home (invs_from a 0 home.sharers w)) d ≡ owed_to (at b home w) d
  invs-owed_other d ne h =
      omega (
        arith,
        invs-none (names d is_inv) a 0 home.sharers w (ap (λ (t : Bool). only t 1) (ne_eqb a.0 d (λ e. ne (sym e)))) (omega (arith, h)),
        ap (λ l. sum_by (inv_ack d) l) (invs-responses a 0 home.sharers w),
      )

module _ (tags : Tags) (b : BlockState) (home : Home) (w : Traffic) (a : CacheId) where
  abbrev pub behind : Traffic
  behind = invs_from a 0 home.sharers w

  -- a side after Invs, but for what is owed to it and its link
  invs-side : (f : Face) (c : ℕ) (l : List LinkPlace) → length home.sharers ≤ length w.links → places c (link behind c) ≡ l →
      side_of f tags home behind c ≡ record (side_of f tags home w c) { link = l }
  invs-side f c l h e =
      let rs : behind.requests ≡ w.requests = invs-requests a 0 home.sharers w in
      let xs : behind.responses ≡ w.responses = invs-responses a 0 home.sharers w in
      let gets : total (names c is_fwd_gets) behind.links ≡ total (names c is_fwd_gets) w.links =
      invs-none (names c is_fwd_gets) a 0 home.sharers w (only-nothing (a.0 == c)) (omega (arith, h)) in
      let getm : total (names c is_fwd_getm) behind.links ≡ total (names c is_fwd_getm) w.links =
      invs-none (names c is_fwd_getm) a 0 home.sharers w (only-nothing (a.0 == c)) (omega (arith, h)) in
      (λ i. side_of f tags home (record { requests = rs i; links = behind.links; responses = xs i }) c)
      ∙ same_forwards (side_of f tags home w c) _ _ _ _ _ _ gets getm e

  -- what all see is as it was
  invs-shared : shared_of tags home behind ≡ shared_of tags home w
  invs-shared = ap (λ (l : List Response). shared_of tags home (record w { responses = l })) (invs-responses a 0 home.sharers w)

  -- the requestor's link is as it was
  own-link : length home.sharers ≤ length w.links → link behind a.0 ≡ link w a.0
  own-link h =
      invs-link a 0 home.sharers w a.0 a.0 (omega arith) (omega (arith, h))
      ∙ ap (λ (t : Bool). if shares home.sharers a.0 && not t then link w a.0 ++ inv_for a ∷ [] else link w a.0) (eq-eqb a.0 a.0 refl)
      ∙ same (shares home.sharers a.0)
    where
      same : (t : Bool) → (if t && not true then link w a.0 ++ inv_for a ∷ [] else link w a.0) ≡ link w a.0
      same true = refl
      same false = refl

  -- another one's has one more where it shares
  other-link : (d : ℕ) (t : Bool) → d ≢ a.0 → length home.sharers ≤ length w.links → shares home.sharers d ≡ t →
      link behind d ≡ (if t then link w d ++ inv_for a ∷ [] else link w d)
  other-link d t ne h e =
      invs-link a 0 home.sharers w d d (omega arith) (omega (arith, h))
      ∙ ap (λ (u : Bool). if shares home.sharers d && not u then link w d ++ inv_for a ∷ [] else link w d) (ne_eqb d a.0 ne)
      ∙ ap (λ (u : Bool). if u && not false then link w d ++ inv_for a ∷ [] else link w d) e ∙ plain t
    where
      plain : (t : Bool) → (if t && not false then link w d ++ inv_for a ∷ [] else link w d) ≡ (if t then link w d ++ inv_for a ∷ [] else link w d)
      plain true = refl
      plain false = refl

  -- the requestor's side
  pub invs-first : (owed : Bool) → length home.sharers ≤ length w.links → not (owed_to (at b home w) a.0 + others_from 0 a.0 home.sharers == 0) ≡ owed →
      side tags (at b home behind) a.0 ≡ record (side tags (at b home w) a.0) { owed = owed }
  invs-first owed h e =
      let f : Face = record (face tags (at b home w) a.0) { owed = record { any = owed; lag = tags.lag a.0 } } in
      (λ i. side_of (record (face tags (at b home w) a.0) {
        owed = record { any = (ap (λ (n : ℕ). not (n == 0)) (invs-owed b home w a h) ∙ e) i; lag = tags.lag a.0 };
      }) tags home behind a.0)
      ∙ invs-side f a.0 (places a.0 (link w a.0)) h (ap (λ (l : List Forward). places a.0 l) (own-link h))

  -- the other's side, with this link
  pub invs-second : (d : ℕ) (l : List LinkPlace) → d ≢ a.0 → length home.sharers ≤ length w.links → places d (link behind d) ≡ l →
      side tags (at b home behind) d ≡ record (side tags (at b home w) d) { link = l }
  invs-second d l ne h e =
      (λ i. side_of (record (face tags (at b home w) d) { owed = record { any = not (invs-owed_other b home w a d ne h i == 0); lag = tags.lag d } }) tags home
      behind d)
      ∙ invs-side (face tags (at b home w) d) d l h e

  -- the scene where the other one shares
  pub invs-scene_sharer : (fr : Frame) (debt : Debt) (d : ℕ) (owed : Bool) → d ≢ a.0 → length home.sharers ≤ length w.links → shares home.sharers d ≡ true →
      not (owed_to (at b home w) a.0 + others_from 0 a.0 home.sharers == 0) ≡ owed →
      scene_of fr debt tags (at b home behind) a.0 d ≡ (let s : Scene = scene_of fr debt tags (at b home w) a.0 d in
      record s { pair = (let p : Pair = second_linked Inv s.pair in record p { first = record p.first { owed = owed } }) })
  invs-scene_sharer fr debt d owed ne h sharer e =
      let linked : link behind d ≡ link w d ++ inv_for a ∷ [] = other-link d true ne h sharer in
      let two : side tags (at b home behind) d ≡
      record (side tags (at b home w) d) { link = (side tags (at b home w) d).link ++ record { kind = Inv; own = false } ∷ [] } =
      invs-second d (places d (link w d) ++ record { kind = Inv; own = false } ∷ []) ne h
      (ap (λ (l : List Forward). places d l) linked ∙ map-push (place d) (link w d) (inv_for a)
      ∙ ap (λ (t : Bool). places d (link w d) ++ record { kind = Inv; own = t } ∷ []) (ne_eqb a.0 d (λ same. ne (sym same)))) in
      let mine : names_in behind a.0 d ≡ names_in w a.0 d = ap (λ (l : List Forward). map (λ (f : Forward). f.requestor.0 == d) l) (own-link h) in
      let theirs : names_in behind d a.0 ≡ names_in w d a.0 ++ true ∷ [] =
      ap (λ (l : List Forward). map (λ (f : Forward). f.requestor.0 == a.0) l) linked
      ∙ map-push (λ (f : Forward). f.requestor.0 == a.0) (link w d) (inv_for a)
      ∙ ap (λ (t : Bool). names_in w d a.0 ++ t ∷ []) (eq-eqb a.0 a.0 refl) in
      let one : side tags (at b home behind) a.0 ≡ record (side tags (at b home w) a.0) { owed = owed } = invs-first owed h e in
      λ i. staged fr (invs-shared i) (one i) (two i) (mine i) (theirs i) (party_of home.owner a.0 d) (third_of a.0 d home.sharers) debt

  -- and where it doesn't
  pub invs-scene_none : (fr : Frame) (debt : Debt) (d : ℕ) (owed : Bool) → d ≢ a.0 → length home.sharers ≤ length w.links → shares home.sharers d ≡ false →
      not (owed_to (at b home w) a.0 + others_from 0 a.0 home.sharers == 0) ≡ owed →
      scene_of fr debt tags (at b home behind) a.0 d ≡ (let s : Scene = scene_of fr debt tags (at b home w) a.0 d in
      record s { pair = record s.pair { first = record s.pair.first { owed = owed } } })
  invs-scene_none fr debt d owed ne h sharer e =
      let linked : link behind d ≡ link w d = other-link d false ne h sharer in
      let two : side tags (at b home behind) d ≡ side tags (at b home w) d =
      invs-second d (places d (link w d)) ne h (ap (λ (l : List Forward). places d l) linked) in
      let mine : names_in behind a.0 d ≡ names_in w a.0 d = ap (λ (l : List Forward). map (λ (f : Forward). f.requestor.0 == d) l) (own-link h) in
      let theirs : names_in behind d a.0 ≡ names_in w d a.0 = ap (λ (l : List Forward). map (λ (f : Forward). f.requestor.0 == a.0) l) linked in
      let one : side tags (at b home behind) a.0 ≡ record (side tags (at b home w) a.0) { owed = owed } = invs-first owed h e in
      λ i. staged fr (invs-shared i) (one i) (two i) (mine i) (theirs i) (party_of home.owner a.0 d) (third_of a.0 d home.sharers) debt
