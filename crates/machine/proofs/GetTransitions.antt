-- A home that serves a GetS or a GetM keeps the invariant.
use Rattle.std.proofs.Common.{◌≡◌, ◌≢◌, ℕ, ◌<◌, ◌≤◌, ◌+◌, ◌-◌, List, [], ◌∷◌, ◌++◌, ◌⊎◌, inl, inr}
use Rattle.std.proofs.Common.{refl, ap, sym, subst, ◌∙◌, arith, Option}
use Rattle.std.proofs.Common.{Some, None, Bool, true, false, ◌==◌, slice_get, slice_set, eq-eqb}
use Rattle.std.proofs.lemmas.Bool.{ne_eqb}
use Rattle.std.proofs.lemmas.List.{length-set}
use Rattle.std.proofs.lemmas.List.Sums.{sum_by_push}
use Rattle.base.specs.declared.ids.CacheId.{CacheId}
use Rattle.base.specs.declared.ids.Place.TheVariants.{Dir, Cache}
use Rattle.network.specs.declared.message.Request.{Request}
use Rattle.network.specs.declared.message.RequestKind.{RequestKind}
use Rattle.network.specs.declared.message.RequestKind.TheVariants.{GetS, GetM}
use Rattle.network.specs.declared.message.Forward.{Forward}
use Rattle.network.specs.declared.message.ForwardKind.{ForwardKind}
use Rattle.network.specs.declared.message.ForwardKind.TheVariants.{FwdGetS, FwdGetM}
use Rattle.network.specs.declared.message.Response.{Response}
use Rattle.network.specs.declared.message.Response.TheVariants.{Data, DataExcl}
use Rattle.network.specs.Traffic.{Traffic, request_taken, response_sent, forward_sent}
use Rattle.directory_table.specs.declared.state.DirectoryState.TheVariants as home
use Rattle.control.specs.declared.home.Home.{Home}
use Rattle.control.specs.Sharing.{shares}
use Rattle.machine.specs.Block.{BlockState}
use Rattle.machine.proofs.Views.{View, Block, Good, HasFwdGetS}
use Rattle.machine.proofs.LocalSteps.{give, give_shared, give_exclusive, name_s, name_m, pass_s, pass_m}
use Rattle.machine.proofs.OpenHomes.{open_gets, open_shares}
use Rattle.machine.proofs.BlockSteps.{gets_at_s, gets_at_i, getm_at_i, gets_at_m, getm_at_m}
use Rattle.machine.proofs.Counts.{only, forward_sent-total}
use Rattle.machine.proofs.Seen.{seen, view_of, block_view, line_of, is_owner, home_data, of_kind, is_fwd_gets}
use Rattle.machine.proofs.Facts.{counted}
use Rattle.machine.proofs.Seeing.{request_added, response_sent-seen, forward_sent-seen, named, pushed}
use Rattle.machine.proofs.Sound.{Sound, Bounded, bounds-set}
use Rattle.machine.proofs.Homes.{sender-below, owner-below, shares-set_same, shares-set_other, request-others, request-own}
use Rattle.machine.proofs.Cases.{by-eq}

-- a request as it stands
abbrev pub req : RequestKind → CacheId → Request
req kind r = record { kind = kind; from = r }

-- a block whose home has acted
abbrev pub home_block : BlockState → Home → Traffic → BlockState
home_block b home w = record { lines = b.lines; home = home; traffic = w; latest = b.latest }

-- what a view becomes when Data is sent by the home, with these acks, and the home's notes on the cache are these
abbrev pub with_data : Bool → ℕ → Bool → Bool → View → View
with_data mine acks sh ow u =
    record u {
      invs = u.invs + 0;
      dir_data = u.dir_data + only mine 1;
      owner_data = u.owner_data + 0;
      excl_data = u.excl_data + 0;
      promised = u.promised + only mine acks;
      shares = sh;
      owns = ow;
    }

shared-own : (t sh : Bool) (u v : View) → t ≡ true → sh ≡ true → request_added true GetS u ≡ v → with_data t 0 sh u.owns u ≡ give_shared v
shared-own true true u v p q e = grind (arith)
shared-own true false u v p q e = absurd (cc)
shared-own false sh u v p q e = absurd (cc)

data-other : (t sh ow : Bool) (acks : ℕ) (u v : View) → t ≡ false → sh ≡ v.shares → ow ≡ v.owns → u ≡ v → with_data t acks sh ow u ≡ v
data-other true sh ow acks u v p q o e = absurd (cc)
data-other false sh ow acks u v p q o e = grind (arith)

-- bounds where only one cache is promised acks
pub bounds-one : (n : ℕ) (b b' : BlockState) (r : ℕ) → Sound n b → (view_of b' r).promised ≤ n →
    ((d : ℕ) → d ≢ r → (view_of b' d).promised ≡ (view_of b d).promised) →
    ((d : ℕ) → (view_of b' d).acks ≡ (view_of b d).acks) → (d : ℕ) →
    Bounded n (view_of b' d)
bounds-one n b b' r h own p a d = bounds-set n b b' r h (record { promised = own; acks = omega (arith, a r, (h.bounds r).acks) }) p (λ d ne. a d) d

-- the home in I or S serves a GetS
pub gets-shared : (n : ℕ) (b : BlockState) (i : ℕ) (r : CacheId) → Sound n b → (b.home.state ≡ home.I) ⊎ (b.home.state ≡ home.S) →
    Some (req GetS r) ≡ slice_get b.traffic.requests i
    → Sound n
    (home_block b (record b.home { state = home.S; sharers = slice_set b.home.sharers r.0 true })
    (response_sent (Data Dir (Cache r) b.home.memory 0) (request_taken i b.traffic)))
gets-shared n b i r h hs at =
    let w1 : Traffic = request_taken i b.traffic in
    let x : Response = Data Dir (Cache r) b.home.memory 0 in
    let home' : Home = record b.home { state = home.S; sharers = slice_set b.home.sharers r.0 true } in
    let b' : BlockState = home_block b home' (response_sent x w1) in
    let u : ℕ → View = λ d. seen (line_of b.lines d) b.home w1 d in
    let own : request_added true GetS (u r.0) ≡ view_of b r.0 = request-own b i (req GetS r) at in
    let asks : 0 < (view_of b r.0).gets = omega (arith, ap (λ (v : View). v.gets) own) in
    let below : r.0 < n = sender-below n b r.0 h (omega arith) in
    let sent : (d : ℕ) → view_of b' d ≡ with_data (r.0 == d) 0 (shares (slice_set b.home.sharers r.0 true) d) (is_owner b.home.owner d) (u d)
    = λ d. ap (λ (v : View). record v { shares = shares (slice_set b.home.sharers r.0 true) d }) (response_sent-seen (line_of b.lines d) b.home w1 x d) in
    let requestor : view_of b' r.0 ≡ give_shared (view_of b r.0) =
    sent r.0
    ∙ shared-own (r.0 == r.0) _ (u r.0) (view_of b r.0) (eq-eqb r.0 r.0 refl) (shares-set_same b.home.sharers r.0 true (omega (arith, h.sharers))) own in
    let others : (d : ℕ) → d ≢ r.0 → view_of b' d ≡ view_of b d = λ d ne.
    sent d
    ∙ data-other (r.0 == d) _ _ 0 (u d) (view_of b d) (ne_eqb r.0 d (λ e. ne (sym e))) (shares-set_other b.home.sharers r.0 d true ne) refl
    (request-others b i (req GetS r) at d ne) in
    record {
      few = h.few;
      lines = h.lines;
      links = h.links;
      sharers = length-set b.home.sharers r.0 true ∙ h.sharers;
      owned = λ e. absurd (cc);
      good = gets_at_s (block_view b) (block_view b') r.0 h.good hs asks refl (omega (arith, sum_by_push home_data w1.responses x)) refl requestor others;
      bounds =
          bounds-one n b b' r.0 h (omega (arith, ap (λ (v : View). v.promised) requestor, (h.bounds r.0).promised))
          (λ d ne. ap (λ (v : View). v.promised) (others d ne)) (λ d. refl);
    }

-- who shares and owns the block where the home is in I, and in M
pub at-i : (b : Block) → Good b → b.home ≡ home.I → (c : ℕ) → ((b.view c).shares ≡ false) × ((b.view c).owns ≡ false)
at-i b g e c = (grind (arith, g.sharers c, g.owner c), grind (arith, g.sharers c, g.owner c))

pub at-m : (b : Block) → Good b → b.home ≡ home.M → (c : ℕ) → (b.view c).shares ≡ false
at-m b g e c = grind (arith, g.sharers c)

pub at-s : (b : Block) → Good b → b.home ≡ home.S → (c : ℕ) → (b.view c).owns ≡ false
at-s b g e c = grind (arith, g.owner c)

given-own : (t ow : Bool) (acks : ℕ) (u v : View) → t ≡ true → ow ≡ true → v.shares ≡ false → request_added true GetM u ≡ v →
    with_data t acks u.shares ow u ≡ record v {
      getm = v.getm - 1;
      dir_data = v.dir_data + 1;
      promised = v.promised + acks;
      invs = v.invs + 0;
      shares = false;
      owns = true;
    }
given-own true true acks u v p q s e = grind (arith)
given-own true false acks u v p q s e = absurd (cc)
given-own false ow acks u v p q s e = absurd (cc)

-- the home in I serves a GetM
pub getm-invalid : (n : ℕ) (b : BlockState) (i : ℕ) (r : CacheId) → Sound n b → b.home.state ≡ home.I →
    Some (req GetM r) ≡ slice_get b.traffic.requests i
    → Sound n (home_block b (record b.home { state = home.M; owner = Some r })
    (response_sent (Data Dir (Cache r) b.home.memory 0) (request_taken i b.traffic)))
getm-invalid n b i r h hs at =
    let w1 : Traffic = request_taken i b.traffic in
    let x : Response = Data Dir (Cache r) b.home.memory 0 in
    let home' : Home = record b.home { state = home.M; owner = Some r } in
    let b' : BlockState = home_block b home' (response_sent x w1) in
    let u : ℕ → View = λ d. seen (line_of b.lines d) b.home w1 d in
    let own : request_added true GetM (u r.0) ≡ view_of b r.0 = request-own b i (req GetM r) at in
    let asks : 0 < (view_of b r.0).getm = omega (arith, ap (λ (v : View). v.getm) own) in
    let apart : (c : ℕ) → ((view_of b c).shares ≡ false) × ((view_of b c).owns ≡ false) = at-i (block_view b) h.good hs in
    let sent : (d : ℕ) → view_of b' d ≡ with_data (r.0 == d) 0 (shares b.home.sharers d) (r.0 == d) (u d)
    = λ d. ap (λ (v : View). record v { owns = r.0 == d }) (response_sent-seen (line_of b.lines d) b.home w1 x d) in
    let requestor : view_of b' r.0 ≡ give 0 (view_of b r.0) =
    sent r.0 ∙ given-own (r.0 == r.0) (r.0 == r.0) 0 (u r.0) (view_of b r.0) (eq-eqb r.0 r.0 refl) (eq-eqb r.0 r.0 refl) (apart r.0).0 own in
    let others : (d : ℕ) → d ≢ r.0 → view_of b' d ≡ view_of b d = λ d ne.
    sent d
    ∙ data-other (r.0 == d) _ _ 0 (u d) (view_of b d) (ne_eqb r.0 d (λ e. ne (sym e))) refl (ne_eqb r.0 d (λ e. ne (sym e)) ∙ sym (apart d).1)
    (request-others b i (req GetM r) at d ne) in
    record {
      few = h.few;
      lines = h.lines;
      links = h.links;
      sharers = h.sharers;
      owned = λ e. (r, refl);
      good =
          getm_at_i (block_view b) (block_view b') r.0 h.good (counted b) hs asks refl
          (omega (arith, sum_by_push home_data w1.responses x)) refl requestor others;
      bounds =
          bounds-one n b b' r.0 h (omega (arith, ap (λ (v : View). v.promised) requestor, (h.bounds r.0).promised))
          (λ d ne. ap (λ (v : View). v.promised) (others d ne)) (λ d. refl);
    }

-- what a view becomes when exclusive Data is sent by the home
abbrev pub with_excl : Bool → Bool → View → View
with_excl mine ow u =
    record u {
      invs = u.invs + 0;
      dir_data = u.dir_data + 0;
      owner_data = u.owner_data + 0;
      excl_data = u.excl_data + only mine 1;
      promised = u.promised + 0;
      owns = ow;
    }

excl-own : (t ow : Bool) (u v : View) → t ≡ true → ow ≡ true → request_added true GetS u ≡ v → with_excl t ow u ≡ give_exclusive v
excl-own true true u v p q e = grind (arith)
excl-own true false u v p q e = absurd (cc)
excl-own false ow u v p q e = absurd (cc)

excl-other : (t ow : Bool) (u v : View) → t ≡ false → ow ≡ v.owns → u ≡ v → with_excl t ow u ≡ v
excl-other true ow u v p o e = absurd (cc)
excl-other false ow u v p o e = grind (arith)

-- the home in I serves a GetS with exclusive Data
pub gets-exclusive : (n : ℕ) (b : BlockState) (i : ℕ) (r : CacheId) → Sound n b → b.home.state ≡ home.I →
    Some (req GetS r) ≡ slice_get b.traffic.requests i
    → Sound n (home_block b (record b.home { state = home.M; owner = Some r })
    (response_sent (DataExcl r b.home.memory) (request_taken i b.traffic)))
gets-exclusive n b i r h hs at =
    let w1 : Traffic = request_taken i b.traffic in
    let x : Response = DataExcl r b.home.memory in
    let home' : Home = record b.home { state = home.M; owner = Some r } in
    let b' : BlockState = home_block b home' (response_sent x w1) in
    let u : ℕ → View = λ d. seen (line_of b.lines d) b.home w1 d in
    let own : request_added true GetS (u r.0) ≡ view_of b r.0 = request-own b i (req GetS r) at in
    let asks : 0 < (view_of b r.0).gets = omega (arith, ap (λ (v : View). v.gets) own) in
    let apart : (c : ℕ) → ((view_of b c).shares ≡ false) × ((view_of b c).owns ≡ false) = at-i (block_view b) h.good hs in
    let sent : (d : ℕ) → view_of b' d ≡ with_excl (r.0 == d) (r.0 == d) (u d)
    = λ d. ap (λ (v : View). record v { owns = r.0 == d }) (response_sent-seen (line_of b.lines d) b.home w1 x d) in
    let requestor : view_of b' r.0 ≡ give_exclusive (view_of b r.0) =
    sent r.0 ∙ excl-own (r.0 == r.0) (r.0 == r.0) (u r.0) (view_of b r.0) (eq-eqb r.0 r.0 refl) (eq-eqb r.0 r.0 refl) own in
    let others : (d : ℕ) → d ≢ r.0 → view_of b' d ≡ view_of b d = λ d ne.
    sent d
    ∙ excl-other (r.0 == d) (r.0 == d) (u d) (view_of b d) (ne_eqb r.0 d (λ e. ne (sym e))) (ne_eqb r.0 d (λ e. ne (sym e)) ∙ sym (apart d).1)
    (request-others b i (req GetS r) at d ne) in
    record {
      few = h.few;
      lines = h.lines;
      links = h.links;
      sharers = h.sharers;
      owned = λ e. (r, refl);
      good =
          gets_at_i (block_view b) (block_view b') r.0 h.good hs asks refl
          (omega (arith, sum_by_push home_data w1.responses x)) refl requestor others;
      bounds =
          bounds-one n b b' r.0 h (omega (arith, ap (λ (v : View). v.promised) requestor, (h.bounds r.0).promised))
          (λ d ne. ap (λ (v : View). v.promised) (others d ne)) (λ d. refl);
    }

-- what a view becomes when a forward that names a cache is sent on a link
abbrev pub forwarded : ForwardKind → Bool → Bool → Bool → Bool → View → View
forwarded kind mine to sh ow u = record (named mine kind (record u { link = pushed to kind u.link })) { shares = sh; owns = ow }

gets-names : (t k sh ow : Bool) (u v : View) → t ≡ true → k ≡ false → sh ≡ true → ow ≡ false →
    v.owns ≡ false → request_added true GetS u ≡ v →
    forwarded FwdGetS t k sh ow u ≡ name_s v
gets-names true false true false u v a b c d o e = grind (arith)
gets-names false k sh ow u v a b c d o e = absurd (cc)
gets-names true true sh ow u v a b c d o e = absurd (cc)
gets-names true false false ow u v a b c d o e = absurd (cc)
gets-names true false true true u v a b c d o e = absurd (cc)

gets-passes : (t k sh ow : Bool) (u v : View) → t ≡ false → k ≡ true → sh ≡ true → ow ≡ false →
    u ≡ v → forwarded FwdGetS t k sh ow u ≡ pass_s v
gets-passes false true true false u v a b c d e = grind (arith)
gets-passes true k sh ow u v a b c d e = absurd (cc)
gets-passes false false sh ow u v a b c d e = absurd (cc)
gets-passes false true false ow u v a b c d e = absurd (cc)
gets-passes false true true true u v a b c d e = absurd (cc)

getm-names : (t k ow : Bool) (u v : View) → t ≡ true → k ≡ false → ow ≡ true → request_added true GetM u ≡ v →
    forwarded FwdGetM t k u.shares ow u ≡ name_m v
getm-names true false true u v a b c e = grind (arith)
getm-names false k ow u v a b c e = absurd (cc)
getm-names true true ow u v a b c e = absurd (cc)
getm-names true false false u v a b c e = absurd (cc)

getm-passes : (t k ow : Bool) (u v : View) → t ≡ false → k ≡ true → ow ≡ false → u ≡ v → forwarded FwdGetM t k u.shares ow u ≡ pass_m v
getm-passes false true false u v a b c e = grind (arith)
getm-passes true k ow u v a b c e = absurd (cc)
getm-passes false false ow u v a b c e = absurd (cc)
getm-passes false true true u v a b c e = absurd (cc)

forward-other : (kind : ForwardKind) (t k sh ow : Bool) (u v : View) → t ≡ false → k ≡ false →
    sh ≡ v.shares → ow ≡ false → v.owns ≡ false → u ≡ v →
    forwarded kind t k sh ow u ≡ v
forward-other kind false false sh false u v a b c d o e = grind (arith)
forward-other kind true k sh ow u v a b c d o e = absurd (cc)
forward-other kind false true sh ow u v a b c d o e = absurd (cc)
forward-other kind false false sh true u v a b c d o e = absurd (cc)

has-pushed : (l : List ForwardKind) → HasFwdGetS (l ++ FwdGetS ∷ [])
has-pushed [] = inl refl
has-pushed (k ∷ l) = inr (has-pushed l)

-- the home in M forwards a GetS to the owner
pub gets-forwarded : (n : ℕ) (b : BlockState) (i : ℕ) (r o : CacheId) → Sound n b → b.home.state ≡ home.M → b.home.owner ≡ Some o →
    Some (req GetS r) ≡ slice_get b.traffic.requests i
    → Sound n
    (home_block b (record b.home { state = home.SD; sharers = slice_set (slice_set b.home.sharers r.0 true) o.0 true; owner = None })
    (forward_sent o.0 (record { kind = FwdGetS; requestor = r }) (request_taken i b.traffic)))
gets-forwarded n b i r o h hs own_o at =
    let w1 : Traffic = request_taken i b.traffic in
    let m : Forward = record { kind = FwdGetS; requestor = r } in
    let first : List Bool = slice_set b.home.sharers r.0 true in
    let home' : Home = record b.home { state = home.SD; sharers = slice_set first o.0 true; owner = None } in
    let b' : BlockState = home_block b home' (forward_sent o.0 m w1) in
    let u : ℕ → View = λ d. seen (line_of b.lines d) b.home w1 d in
    let owns : (d : ℕ) → (view_of b d).owns ≡ (o.0 == d) = λ d. ap (λ (x : Option CacheId). is_owner x d) own_o in
    let owner_owns : (view_of b o.0).owns ≡ true = owns o.0 ∙ eq-eqb o.0 o.0 refl in
    let own : request_added true GetS (u r.0) ≡ view_of b r.0 = request-own b i (req GetS r) at in
    let asks : 0 < (view_of b r.0).gets = omega (arith, ap (λ (v : View). v.gets) own) in
    let r_below : r.0 < n = sender-below n b r.0 h (omega arith) in
    let o_below : o.0 < n = owner-below n b o.0 h owner_owns in
    let r_not : (view_of b r.0).owns ≡ false = (open_gets (view_of b r.0).state (view_of b r.0) asks (h.good.each r.0)).0 in
    let ne : r.0 ≢ o.0 = λ e. let same : (view_of b r.0).owns ≡ true = ap (λ d. (view_of b d).owns) e ∙ owner_owns in absurd (cc) in
    let sent : (d : ℕ) → view_of b' d ≡ forwarded FwdGetS (r.0 == d) (o.0 == d) (shares (slice_set first o.0 true) d) false (u d)
    = λ d. ap (λ (v : View). record v { shares = shares (slice_set first o.0 true) d; owns = false })
    (forward_sent-seen (line_of b.lines d) b.home w1 o.0 m d (omega (arith, h.links))) in
    let requestor : view_of b' r.0 ≡ name_s (view_of b r.0) =
    sent r.0 ∙ gets-names (r.0 == r.0) (o.0 == r.0) _ false (u r.0) (view_of b r.0) (eq-eqb r.0 r.0 refl) (ne_eqb o.0 r.0 (λ e. ne (sym e)))
    (shares-set_other first o.0 r.0 true ne ∙ shares-set_same b.home.sharers r.0 true (omega (arith, h.sharers))) refl r_not own in
    let owner : view_of b' o.0 ≡ pass_s (view_of b o.0) =
    sent o.0 ∙ gets-passes (r.0 == o.0) (o.0 == o.0) _ false (u o.0) (view_of b o.0) (ne_eqb r.0 o.0 ne) (eq-eqb o.0 o.0 refl)
    (shares-set_same first o.0 true (omega (arith, h.sharers, length-set b.home.sharers r.0 true))) refl
    (request-others b i (req GetS r) at o.0 (λ e. ne (sym e))) in
    let others : (d : ℕ) → d ≢ r.0 → d ≢ o.0 → view_of b' d ≡ view_of b d = λ d nr no.
    sent d ∙ forward-other FwdGetS (r.0 == d) (o.0 == d) _ false (u d) (view_of b d) (ne_eqb r.0 d (λ e. nr (sym e))) (ne_eqb o.0 d (λ e. no (sym e)))
    (shares-set_other first o.0 d true no ∙ shares-set_other b.home.sharers r.0 d true nr) refl (owns d ∙ ne_eqb o.0 d (λ e. no (sym e)))
    (request-others b i (req GetS r) at d nr) in
    let only_o : (d : ℕ) → (view_of b d).owns ≡ true → d ≡ o.0 =
    λ d p. by-eq d o.0 (λ e. e) (λ x. let no : (view_of b d).owns ≡ false = owns d ∙ ne_eqb o.0 d (λ e. x (sym e)) in absurd (cc)) in
    record {
      few = h.few;
      lines = h.lines;
      links = length-set b.traffic.links o.0 _ ∙ h.links;
      sharers = length-set first o.0 true ∙ length-set b.home.sharers r.0 true ∙ h.sharers;
      owned = λ e. absurd (cc);
      good =
          gets_at_m (block_view b) (block_view b') r.0 o.0 h.good hs asks owner_owns ne refl refl
          (forward_sent-total (of_kind is_fwd_gets) w1 o.0 m (omega (arith, h.links))) requestor owner others only_o
          (subst (λ (v : View). HasFwdGetS v.link) (sym owner) (has-pushed (view_of b o.0).link));
      bounds = bounds-one n b b' r.0 h (omega (arith, ap (λ (v : View). v.promised) requestor, (h.bounds r.0).promised))
          (λ d nr. by-eq d o.0 (λ e. subst (λ k. (view_of b' k).promised ≡ (view_of b k).promised) (sym e) (ap (λ (v : View). v.promised) owner))
          (λ no. ap (λ (v : View). v.promised) (others d nr no)))
          (λ d. refl);
    }

-- the home in M forwards a GetM to the owner
pub getm-forwarded : (n : ℕ) (b : BlockState) (i : ℕ) (r o : CacheId) → Sound n b → b.home.state ≡ home.M → b.home.owner ≡ Some o →
    Some (req GetM r) ≡ slice_get b.traffic.requests i
    → Sound n
    (home_block b (record b.home { state = home.M; owner = Some r })
    (forward_sent o.0 (record { kind = FwdGetM; requestor = r }) (request_taken i b.traffic)))
getm-forwarded n b i r o h hs own_o at =
    let w1 : Traffic = request_taken i b.traffic in
    let m : Forward = record { kind = FwdGetM; requestor = r } in
    let home' : Home = record b.home { state = home.M; owner = Some r } in
    let b' : BlockState = home_block b home' (forward_sent o.0 m w1) in
    let u : ℕ → View = λ d. seen (line_of b.lines d) b.home w1 d in
    let owns : (d : ℕ) → (view_of b d).owns ≡ (o.0 == d) = λ d. ap (λ (x : Option CacheId). is_owner x d) own_o in
    let owner_owns : (view_of b o.0).owns ≡ true = owns o.0 ∙ eq-eqb o.0 o.0 refl in
    let own : request_added true GetM (u r.0) ≡ view_of b r.0 = request-own b i (req GetM r) at in
    let asks : 0 < (view_of b r.0).getm = omega (arith, ap (λ (v : View). v.getm) own) in
    let o_below : o.0 < n = owner-below n b o.0 h owner_owns in
    let r_not : (view_of b r.0).owns ≡ false = (open_shares (view_of b r.0).state (view_of b r.0) asks (h.good.each r.0)).0 in
    let ne : r.0 ≢ o.0 = λ e. let same : (view_of b r.0).owns ≡ true = ap (λ d. (view_of b d).owns) e ∙ owner_owns in absurd (cc) in
    let sent : (d : ℕ) → view_of b' d ≡ forwarded FwdGetM (r.0 == d) (o.0 == d) (shares b.home.sharers d) (r.0 == d) (u d)
    = λ d. ap (λ (v : View). record v { owns = r.0 == d }) (forward_sent-seen (line_of b.lines d) b.home w1 o.0 m d (omega (arith, h.links))) in
    let requestor : view_of b' r.0 ≡ name_m (view_of b r.0) =
    sent r.0
    ∙ getm-names (r.0 == r.0) (o.0 == r.0) (r.0 == r.0) (u r.0) (view_of b r.0) (eq-eqb r.0 r.0 refl) (ne_eqb o.0 r.0 (λ e. ne (sym e)))
    (eq-eqb r.0 r.0 refl) own in
    let owner : view_of b' o.0 ≡ pass_m (view_of b o.0) =
    sent o.0
    ∙ getm-passes (r.0 == o.0) (o.0 == o.0) (r.0 == o.0) (u o.0) (view_of b o.0) (ne_eqb r.0 o.0 ne) (eq-eqb o.0 o.0 refl) (ne_eqb r.0 o.0 ne)
    (request-others b i (req GetM r) at o.0 (λ e. ne (sym e))) in
    let others : (d : ℕ) → d ≢ r.0 → d ≢ o.0 → view_of b' d ≡ view_of b d = λ d nr no.
    sent d ∙ forward-other FwdGetM (r.0 == d) (o.0 == d) _ (r.0 == d) (u d) (view_of b d) (ne_eqb r.0 d (λ e. nr (sym e))) (ne_eqb o.0 d (λ e. no (sym e)))
    refl (ne_eqb r.0 d (λ e. nr (sym e))) (owns d ∙ ne_eqb o.0 d (λ e. no (sym e))) (request-others b i (req GetM r) at d nr) in
    record {
      few = h.few;
      lines = h.lines;
      links = length-set b.traffic.links o.0 _ ∙ h.links;
      sharers = h.sharers;
      owned = λ e. (r, refl);
      good =
          getm_at_m (block_view b) (block_view b') r.0 o.0 h.good hs asks owner_owns ne refl refl
          (omega (arith, forward_sent-total (of_kind is_fwd_gets) w1 o.0 m (omega (arith, h.links)))) requestor owner others;
      bounds = bounds-one n b b' r.0 h (omega (arith, ap (λ (v : View). v.promised) requestor, (h.bounds r.0).promised))
          (λ d nr. by-eq d o.0 (λ e. subst (λ k. (view_of b' k).promised ≡ (view_of b k).promised) (sym e) (ap (λ (v : View). v.promised) owner))
          (λ no. ap (λ (v : View). v.promised) (others d nr no)))
          (λ d. refl);
    }
