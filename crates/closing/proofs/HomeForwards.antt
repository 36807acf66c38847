-- What the home's forwards make of the scene that the requestor and another cache see.
use Rattle.std.proofs.Common.{◌≡◌, ◌≢◌, ℕ, ◌+◌, ◌<◌, List, [], ◌∷◌, ◌++◌, refl, ap, sym, ◌∙◌, inl, inr, Option, Some, None, Bool, true, false, ◌==◌, arith}
use Rattle.std.proofs.Common.{eq-eqb, length}
use Rattle.std.proofs.lemmas.Bool.{cases_eq, ne_eqb}
use Rattle.base.specs.declared.ids.CacheId.{CacheId}
use Rattle.network.specs.declared.message.Forward.{Forward}
use Rattle.network.specs.declared.message.ForwardKind.{ForwardKind}
use Rattle.network.specs.declared.message.ForwardKind.TheVariants.{FwdGetS, FwdGetM, Inv, PutAck}
use Rattle.network.specs.Traffic.{Traffic, link, forward_sent, all_sent}
use Rattle.control.specs.declared.home.Home.{Home}
use Rattle.control.specs.HomeEffect.{owner_message}
use Rattle.control.specs.Homes.{IsBelow}
use Rattle.machine.proofs.Counts.{only}
use Rattle.machine.proofs.Seen.{is_fwd_gets, is_fwd_getm, is_inv}
use Rattle.machine.specs.Block.{BlockState}
use Rattle.pairs.specs.declared.link.LinkPlace.{LinkPlace}
use Rattle.pairs.specs.declared.side.PairSide.{PairSide}
use Rattle.pairs.specs.declared.pair.Pair.{Pair}
use Rattle.pairs.specs.declared.steps.Party.{Party}
use Rattle.pairs.specs.declared.steps.Party.TheVariants.{First, Second, Third}
use Rattle.pairs.specs.declared.steps.Debt.{Debt}
use Rattle.pairs.specs.declared.steps.Scene.{Scene}
use Rattle.pairs.specs.Sights.{owner_linked, named, first_linked}
use Rattle.closing.proofs.Alpha.{Tags, side, shared, names_in}
use Rattle.closing.proofs.AlphaFits.{places}
use Rattle.closing.proofs.Sides.{with_forwards, same_forwards}
use Rattle.closing.proofs.Sending.{party_of, party-first, party-second, party-third}
use Rattle.closing.proofs.HomeSending.{at, forward-side, own-places, other-places, own-names, other-names}
use Rattle.closing.proofs.HomeScene.{Frame, staged, third_of, scene_of}

-- a side that one more forward of a kind names
abbrev pub with_counts : ForwardKind → PairSide → PairSide
with_counts kind s = with_forwards s (s.fwd_gets + is_fwd_gets kind) (s.fwd_getm + is_fwd_getm kind) s.link

named-once : (kind : ForwardKind) (s : PairSide) → with_counts kind s ≡ named Third kind s
named-once FwdGetS s = same_forwards s _ _ _ _ _ _ refl (omega arith) refl
named-once FwdGetM s = same_forwards s _ _ _ _ _ _ (omega arith) refl refl
named-once Inv s = same_forwards s _ _ _ _ _ _ (omega arith) (omega arith) refl
named-once PutAck s = same_forwards s _ _ _ _ _ _ (omega arith) (omega arith) refl

named-first : (kind : ForwardKind) (s : PairSide) → named First kind s ≡ named Third kind s
named-first FwdGetS s = refl
named-first FwdGetM s = refl
named-first Inv s = refl
named-first PutAck s = refl

named-second : (kind : ForwardKind) (s : PairSide) → named Second kind s ≡ named Third kind s
named-second FwdGetS s = refl
named-second FwdGetM s = refl
named-second Inv s = refl
named-second PutAck s = refl

-- a forward that names the first cache goes to the owner
abbrev pub forwarded_to : Party → ForwardKind → Scene → Scene
forwarded_to o kind s = let p : Pair = owner_linked o kind s.pair in record s { pair = record p { first = named o kind p.first } }

-- a forward for a requestor, on the link to a cache
module _ (fr : Frame) (debt : Debt) (tags : Tags) (b : BlockState) (home : Home) (w : Traffic) (a : CacheId) (kind : ForwardKind) (k d : ℕ) where
  abbrev pub forward : Forward
  forward = record { kind = kind; requestor = a }

  abbrev behind : Traffic
  behind = forward_sent k forward w

  abbrev before : Scene
  before = scene_of fr debt tags (at b home w) a.0 d

  abbrev first : PairSide
  first = side tags (at b home w) a.0

  abbrev second : PairSide
  second = side tags (at b home w) d

  first-side : (l : List LinkPlace) → k < length w.links → is_inv kind ≡ 0 → places a.0 (link behind a.0) ≡ l →
      side tags (at b home behind) a.0 ≡ with_counts kind (record first { link = l })
  first-side l there none e =
      forward-side b home tags w k forward a.0 l there none e
      ∙ same_forwards first _ _ _ _ _ _ (ap (λ (t : Bool). first.fwd_gets + only t (is_fwd_gets kind)) (eq-eqb a.0 a.0 refl))
      (ap (λ (t : Bool). first.fwd_getm + only t (is_fwd_getm kind)) (eq-eqb a.0 a.0 refl)) refl

  second-side : (l : List LinkPlace) → d ≢ a.0 → k < length w.links → is_inv kind ≡ 0 → places d (link behind d) ≡ l →
      side tags (at b home behind) d ≡ record second { link = l }
  second-side l ne there none e =
      let other : (a.0 == d) ≡ false = ne_eqb a.0 d (λ same. ne (sym same)) in
      forward-side b home tags w k forward d l there none e
      ∙ same_forwards second _ _ _ _ _ _ (omega (arith, ap (λ (t : Bool). only t (is_fwd_gets kind)) other))
      (omega (arith, ap (λ (t : Bool). only t (is_fwd_getm kind)) other)) refl

  -- onto the requestor's own link
  onto-first : d ≢ a.0 → k ≡ a.0 → k < length w.links → is_inv kind ≡ 0 →
      scene_of fr debt tags (at b home behind) a.0 d ≡
      (let p : Pair = first_linked kind before.pair in record before { pair = record p { first = with_counts kind p.first } })
  onto-first ne same there none =
      let grown : places a.0 (link behind a.0) ≡ places a.0 (link w a.0) ++ record { kind = kind; own = true } ∷ [] =
      subst-places same ∙ ap (λ (t : Bool). places a.0 (link w a.0) ++ record { kind = kind; own = t } ∷ []) (eq-eqb a.0 a.0 refl) in
      let more : names_in behind a.0 d ≡ names_in w a.0 d ++ false ∷ [] =
      subst-names same ∙ ap (λ (t : Bool). names_in w a.0 d ++ t ∷ []) (ne_eqb a.0 d (λ e. ne (sym e))) in
      let one : side tags (at b home behind) a.0 ≡ with_counts kind (record first { link = first.link ++ record { kind = kind; own = true } ∷ [] }) =
      first-side (first.link ++ record { kind = kind; own = true } ∷ []) there none grown in
      let two : side tags (at b home behind) d ≡ second =
      second-side second.link ne there none (other-places w k forward d (λ e. ne (e ∙ same))) in
      let others : names_in behind d a.0 ≡ names_in w d a.0 = other-names w k forward d a.0 (λ e. ne (e ∙ same)) in
      λ i. staged fr (shared tags (at b home w)) (one i) (two i) (more i) (others i) (party_of home.owner a.0 d) (third_of a.0 d home.sharers) debt
    where
      subst-places : k ≡ a.0 → places a.0 (link behind a.0) ≡ places a.0 (link w a.0) ++ record { kind = kind; own = a.0 == a.0 } ∷ []
      subst-places e =
          ap (λ (n : ℕ). places a.0 (link (forward_sent n forward w) a.0)) e ∙ own-places w a.0 forward (omega (arith, e, there))

      subst-names : k ≡ a.0 → names_in behind a.0 d ≡ names_in w a.0 d ++ (a.0 == d) ∷ []
      subst-names e = ap (λ (n : ℕ). names_in (forward_sent n forward w) a.0 d) e ∙ own-names w a.0 forward d (omega (arith, e, there))

  -- onto the other one's
  onto-second : d ≢ a.0 → k ≡ d → k < length w.links → is_inv kind ≡ 0 →
      scene_of fr debt tags (at b home behind) a.0 d ≡
      (let p : Pair = owner_linked Second kind before.pair in record before { pair = record p { first = with_counts kind p.first } })
  onto-second ne same there none =
      let apart : a.0 ≢ k = λ e. ne (sym (e ∙ same)) in
      let grown : places d (link behind d) ≡ places d (link w d) ++ record { kind = kind; own = false } ∷ [] =
      subst-places same ∙ ap (λ (t : Bool). places d (link w d) ++ record { kind = kind; own = t } ∷ []) (ne_eqb a.0 d (λ e. ne (sym e))) in
      let more : names_in behind d a.0 ≡ names_in w d a.0 ++ true ∷ [] =
      subst-names same ∙ ap (λ (t : Bool). names_in w d a.0 ++ t ∷ []) (eq-eqb a.0 a.0 refl) in
      let one : side tags (at b home behind) a.0 ≡ with_counts kind first = first-side first.link there none (other-places w k forward a.0 apart) in
      let two : side tags (at b home behind) d ≡ record second { link = second.link ++ record { kind = kind; own = false } ∷ [] } =
      second-side (second.link ++ record { kind = kind; own = false } ∷ []) ne there none grown in
      let others : names_in behind a.0 d ≡ names_in w a.0 d = other-names w k forward a.0 d apart in
      λ i. staged fr (shared tags (at b home w)) (one i) (two i) (others i) (more i) (party_of home.owner a.0 d) (third_of a.0 d home.sharers) debt
    where
      subst-places : k ≡ d → places d (link behind d) ≡ places d (link w d) ++ record { kind = kind; own = a.0 == d } ∷ []
      subst-places e = ap (λ (n : ℕ). places d (link (forward_sent n forward w) d)) e ∙ own-places w d forward (omega (arith, e, there))

      subst-names : k ≡ d → names_in behind d a.0 ≡ names_in w d a.0 ++ (a.0 == a.0) ∷ []
      subst-names e = ap (λ (n : ℕ). names_in (forward_sent n forward w) d a.0) e ∙ own-names w d forward a.0 (omega (arith, e, there))

  -- onto a third one's
  onto-third : d ≢ a.0 → k ≢ a.0 → k ≢ d → k < length w.links → is_inv kind ≡ 0 →
      scene_of fr debt tags (at b home behind) a.0 d ≡ record before { pair = record before.pair { first = with_counts kind before.pair.first } }
  onto-third ne first_other second_other there none =
      let apart : a.0 ≢ k = λ e. first_other (sym e) in
      let apart_too : d ≢ k = λ e. second_other (sym e) in
      let one : side tags (at b home behind) a.0 ≡ with_counts kind first = first-side first.link there none (other-places w k forward a.0 apart) in
      let two : side tags (at b home behind) d ≡ second = second-side second.link ne there none (other-places w k forward d apart_too) in
      let mine : names_in behind a.0 d ≡ names_in w a.0 d = other-names w k forward a.0 d apart in
      let theirs : names_in behind d a.0 ≡ names_in w d a.0 = other-names w k forward d a.0 apart_too in
      λ i. staged fr (shared tags (at b home w)) (one i) (two i) (mine i) (theirs i) (party_of home.owner a.0 d) (third_of a.0 d home.sharers) debt

-- a forward to the owner
owner-forwarded : (fr : Frame) (debt : Debt) (tags : Tags) (b : BlockState) (home : Home) (w : Traffic) (a : CacheId) (kind : ForwardKind) (o : CacheId)
    (d : ℕ) →
    d ≢ a.0 → o.0 < length w.links → is_inv kind ≡ 0 →
    scene_of fr debt tags (at b home (forward_sent o.0 (record { kind = kind; requestor = a }) w)) a.0 d ≡
    forwarded_to (party_of (Some o) a.0 d) kind (scene_of fr debt tags (at b home w) a.0 d)
owner-forwarded fr debt tags b home w a kind o d ne there none =
    let s : Scene = scene_of fr debt tags (at b home w) a.0 d in
    elim (cases_eq o.0 a.0) [
      | inl same ↦
          onto-first fr debt tags b home w a kind o.0 d ne same there none
          ∙ ap (λ (x : PairSide). record s { pair = record (first_linked kind s.pair) { first = x } })
          (named-once kind (first_linked kind s.pair).first ∙ sym (named-first kind (first_linked kind s.pair).first))
          ∙ ap (λ (p : Party). forwarded_to p kind s) (sym (party-first o a.0 d same))
      | inr differ ↦ elim (cases_eq o.0 d) [
        | inl same ↦
            onto-second fr debt tags b home w a kind o.0 d ne same there none
            ∙ ap (λ (x : PairSide). record s { pair = record (owner_linked Second kind s.pair) { first = x } })
            (named-once kind s.pair.first ∙ sym (named-second kind s.pair.first))
            ∙ ap (λ (p : Party). forwarded_to p kind s) (sym (party-second o a.0 d differ same))
        | inr other ↦
            onto-third fr debt tags b home w a kind o.0 d ne differ other there none
            ∙ ap (λ (x : PairSide). record s { pair = record s.pair { first = x } }) (named-once kind s.pair.first)
            ∙ ap (λ (p : Party). forwarded_to p kind s) (sym (party-third o a.0 d differ other))
      ]
    ]

-- if there is one
pub owner_forwarded : (fr : Frame) (debt : Debt) (tags : Tags) (b : BlockState) (home : Home) (w : Traffic) (a : CacheId) (kind : ForwardKind)
    (o : Option CacheId)
    (d : ℕ) → d ≢ a.0 → IsBelow o (length w.links) → is_inv kind ≡ 0 →
    scene_of fr debt tags (at b home (all_sent (owner_message o kind a) w)) a.0 d ≡
    forwarded_to (party_of o a.0 d) kind (scene_of fr debt tags (at b home w) a.0 d)
owner_forwarded fr debt tags b home w a kind None d ne there none = refl
owner_forwarded fr debt tags b home w a kind (Some o) d ne there none = owner-forwarded fr debt tags b home w a kind o d ne there none

-- a Put-Ack
pub put-acked : (fr : Frame) (debt : Debt) (tags : Tags) (b : BlockState) (home : Home) (w : Traffic) (a : CacheId) (d : ℕ) → d ≢ a.0 → a.0 < length w.links →
    scene_of fr debt tags (at b home (forward_sent a.0 (record { kind = PutAck; requestor = a }) w)) a.0 d ≡
    (let s : Scene = scene_of fr debt tags (at b home w) a.0 d in record s { pair = first_linked PutAck s.pair })
put-acked fr debt tags b home w a d ne there =
    let s : Scene = scene_of fr debt tags (at b home w) a.0 d in
    onto-first fr debt tags b home w a PutAck a.0 d ne refl there refl
    ∙ ap (λ (x : PairSide). record s { pair = record (first_linked PutAck s.pair) { first = x } }) (named-once PutAck (first_linked PutAck s.pair).first)
