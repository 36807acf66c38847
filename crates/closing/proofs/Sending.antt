-- What each message of a line makes of what two caches see, where the first of them sends it.
use Rattle.std.proofs.Common.{◌≡◌, ◌≢◌, ℕ, ◌+◌, List, [], ◌∷◌, ◌++◌, refl, ap, sym, subst, ◌∙◌, inl, inr, Option, Some, None, Bool, true, false, ◌&&◌, ◌||◌}
use Rattle.std.proofs.Common.{not, if◌then◌else◌, ◌==◌, sum_by, arith, eq-eqb}
use Rattle.std.proofs.lemmas.Bool.{cases_eq, ne_eqb}
use Rattle.std.proofs.lemmas.List.Sums.{sum_by_push}
use Rattle.base.specs.declared.ids.CacheId.{CacheId}
use Rattle.base.specs.declared.ids.Place.TheVariants.{Dir, Cache}
use Rattle.network.specs.declared.message.Request.{Request}
use Rattle.network.specs.declared.message.RequestKind.{RequestKind}
use Rattle.network.specs.declared.message.RequestKind.TheVariants as request
use Rattle.network.specs.declared.message.Response.{Response}
use Rattle.network.specs.declared.message.Response.TheVariants.{Data, InvAck}
use Rattle.network.specs.Traffic.{Traffic, request_sent, response_sent, all_sent}
use Rattle.cache_table.specs.declared.actions.CacheAction.{CacheAction}
use Rattle.cache_table.specs.declared.actions.CacheAction.TheVariants as action
use Rattle.control.specs.LineEffect.{line_message}
use Rattle.control.specs.declared.home.Home.{Home}
use Rattle.machine.proofs.Counts.{only}
use Rattle.machine.proofs.Seen.{from, is_gets, is_getm, is_puts, is_putm, dir_data, owner_data, excl_data, home_data}
use Rattle.pairs.specs.declared.side.PairSide.{PairSide}
use Rattle.pairs.specs.declared.steps.Party.{Party}
use Rattle.pairs.specs.declared.steps.Party.TheVariants.{Nobody, First, Second, Third}
use Rattle.pairs.specs.Sights.{line_acted, putm_sent, owner_data_sent, home_data_sent}
use Rattle.closing.proofs.Alpha.{Tags, Face, side_of, shared_of, pair_of, data_count}
use Rattle.pairs.specs.declared.side.Lag.{Lag}
use Rattle.closing.proofs.Sides.{same_requests, same_responses, same_home_data, same_pair}

-- TAGS
-- tags with another one at a cache
abbrev pub tag_at : ℕ → Bool → (ℕ → Bool) → ℕ → Bool
tag_at a t tags c = if c == a then t else tags c

pub tag-here : (a : ℕ) (t : Bool) (tags : ℕ → Bool) → tag_at a t tags a ≡ t
tag-here a t tags = ap (λ (u : Bool). if u then t else tags a) (eq-eqb a a refl)

pub tag-elsewhere : (a : ℕ) (t : Bool) (tags : ℕ → Bool) (c : ℕ) → c ≢ a → tag_at a t tags c ≡ tags c
tag-elsewhere a t tags c ne = ap (λ (u : Bool). if u then t else tags c) (ne_eqb c a ne)

-- lags with another one at a cache
abbrev pub lag_at : ℕ → Lag → (ℕ → Lag) → ℕ → Lag
lag_at a l lags c = if c == a then l else lags c

pub lag-here : (a : ℕ) (l : Lag) (lags : ℕ → Lag) → lag_at a l lags a ≡ l
lag-here a l lags = ap (λ (u : Bool). if u then l else lags a) (eq-eqb a a refl)

pub lag-elsewhere : (a : ℕ) (l : Lag) (lags : ℕ → Lag) (c : ℕ) → c ≢ a → lag_at a l lags c ≡ lags c
lag-elsewhere a l lags c ne = ap (λ (u : Bool). if u then l else lags c) (ne_eqb c a ne)

pub or-false : (t : Bool) → t || false ≡ t
or-false true = refl
or-false false = refl

pub not-twice : (t : Bool) → not (not t) ≡ t
not-twice true = refl
not-twice false = refl

-- where there is one there isn't none
pub or-some : (t : Bool) (n m : ℕ) → n ≡ m + 1 → t || (n == 0) ≡ t
or-some t n m e = ap (λ (u : Bool). t || u) (ne_eqb n 0 (λ z. absurd (omega (arith, e, z)))) ∙ or-false t

-- REQUESTS
-- a request that is sent counts for its sender
own-sent : (weight : RequestKind → ℕ) (r : Request) (rs : List Request) (c : ℕ) → r.from.0 ≡ c →
    sum_by (from c weight) (rs ++ r ∷ []) ≡ sum_by (from c weight) rs + weight r.kind
own-sent weight r rs c e = omega (arith, sum_by_push (from c weight) rs r, ap (λ (t : Bool). only t (weight r.kind)) (eq-eqb r.from.0 c e))

-- and for nobody else
other-sent : (weight : RequestKind → ℕ) (r : Request) (rs : List Request) (c : ℕ) → r.from.0 ≢ c →
    sum_by (from c weight) (rs ++ r ∷ []) ≡ sum_by (from c weight) rs
other-sent weight r rs c ne = omega (arith, sum_by_push (from c weight) rs r, ap (λ (t : Bool). only t (weight r.kind)) (ne_eqb r.from.0 c ne))

-- the others see nothing of a request
pub request-elsewhere : (f : Face) (tags : Tags) (putm : ℕ → Bool) (home : Home) (w : Traffic) (r : Request) (c : ℕ) → r.from.0 ≢ c → putm c ≡ tags.putm c →
    side_of f (record tags { putm = putm }) home (request_sent r w) c ≡ side_of f tags home w c
request-elsewhere f tags putm home w r c ne tag =
    let q : sum_by (from c is_putm) (w.requests ++ r ∷ []) ≡ sum_by (from c is_putm) w.requests = other-sent is_putm r w.requests c ne in
    same_requests (side_of f tags home w c) _ _ _ _ _ _ _ _ _ _ (other-sent is_gets r w.requests c ne) (other-sent is_getm r w.requests c ne)
    (other-sent is_puts r w.requests c ne) q (λ i. tag i || (q i == 0))

module _ (f : Face) (tags : Tags) (home : Home) (w : Traffic) (a : CacheId) where
  gets-here : side_of f tags home (request_sent (record { kind = request.GetS; from = a }) w) a.0 ≡
      (let s : PairSide = side_of f tags home w a.0 in record s { gets = s.gets + 1 })
  gets-here =
      let r : Request = record { kind = request.GetS; from = a } in
      let q : sum_by (from a.0 is_putm) (w.requests ++ r ∷ []) ≡ sum_by (from a.0 is_putm) w.requests = omega (arith, own-sent is_putm r w.requests a.0 refl) in
      same_requests (side_of f tags home w a.0) _ _ _ _ _ _ _ _ _ _ (own-sent is_gets r w.requests a.0 refl)
      (omega (arith, own-sent is_getm r w.requests a.0 refl)) (omega (arith, own-sent is_puts r w.requests a.0 refl)) q (λ i. tags.putm a.0 || (q i == 0))

  getm-here : side_of f tags home (request_sent (record { kind = request.GetM; from = a }) w) a.0 ≡
      (let s : PairSide = side_of f tags home w a.0 in record s { getm = s.getm + 1 })
  getm-here =
      let r : Request = record { kind = request.GetM; from = a } in
      let q : sum_by (from a.0 is_putm) (w.requests ++ r ∷ []) ≡ sum_by (from a.0 is_putm) w.requests = omega (arith, own-sent is_putm r w.requests a.0 refl) in
      same_requests (side_of f tags home w a.0) _ _ _ _ _ _ _ _ _ _ (omega (arith, own-sent is_gets r w.requests a.0 refl))
      (own-sent is_getm r w.requests a.0 refl) (omega (arith, own-sent is_puts r w.requests a.0 refl)) q (λ i. tags.putm a.0 || (q i == 0))

  puts-here : side_of f tags home (request_sent (record { kind = request.PutS; from = a }) w) a.0 ≡
      (let s : PairSide = side_of f tags home w a.0 in record s { puts = s.puts + 1 })
  puts-here =
      let r : Request = record { kind = request.PutS; from = a } in
      let q : sum_by (from a.0 is_putm) (w.requests ++ r ∷ []) ≡ sum_by (from a.0 is_putm) w.requests = omega (arith, own-sent is_putm r w.requests a.0 refl) in
      same_requests (side_of f tags home w a.0) _ _ _ _ _ _ _ _ _ _ (omega (arith, own-sent is_gets r w.requests a.0 refl))
      (omega (arith, own-sent is_getm r w.requests a.0 refl)) (own-sent is_puts r w.requests a.0 refl) q (λ i. tags.putm a.0 || (q i == 0))

  -- the tag of all PutM of the sender after one more
  abbrev pub putm_tag : Bool → Bool
  putm_tag fresh = (tags.putm a.0 || (sum_by (from a.0 is_putm) w.requests == 0)) && fresh

  putm-here : (fresh : Bool) (value : ℕ) →
      side_of f (record tags { putm = tag_at a.0 (putm_tag fresh) tags.putm }) home (request_sent (record { kind = request.PutM value; from = a }) w) a.0 ≡
      putm_sent fresh (side_of f tags home w a.0)
  putm-here fresh value =
      let r : Request = record { kind = request.PutM value; from = a } in
      let q : sum_by (from a.0 is_putm) (w.requests ++ r ∷ []) ≡ sum_by (from a.0 is_putm) w.requests + 1 = own-sent is_putm r w.requests a.0 refl in
      same_requests (side_of f tags home w a.0) _ _ _ _ _ _ _ _ _ _ (omega (arith, own-sent is_gets r w.requests a.0 refl))
      (omega (arith, own-sent is_getm r w.requests a.0 refl)) (omega (arith, own-sent is_puts r w.requests a.0 refl)) q
      (ap (λ (t : Bool). t || (sum_by (from a.0 is_putm) (w.requests ++ r ∷ []) == 0)) (tag-here a.0 (putm_tag fresh) tags.putm)
      ∙ or-some (putm_tag fresh) _ _ q)

-- RESPONSES
-- a response that brings a cache no Data isn't seen by it, but for an Inv-Ack that it is owed
pub response-unseen : (f : Face) (tags : Tags) (datas : ℕ → Bool) (home : Home) (w : Traffic) (x : Response) (c : ℕ) → dir_data c x ≡ 0 → owner_data c x ≡ 0 →
    excl_data c x ≡ 0 → datas c ≡ tags.data_to c → side_of f (record tags { data_to = datas }) home (response_sent x w) c ≡ side_of f tags home w c
response-unseen f tags datas home w x c no_dir no_owner no_excl tag =
    let d : sum_by (dir_data c) (w.responses ++ x ∷ []) ≡ sum_by (dir_data c) w.responses = omega (arith, sum_by_push (dir_data c) w.responses x, no_dir) in
    let o : sum_by (owner_data c) (w.responses ++ x ∷ []) ≡ sum_by (owner_data c) w.responses = omega
    (arith, sum_by_push (owner_data c) w.responses x, no_owner) in
    let e : sum_by (excl_data c) (w.responses ++ x ∷ []) ≡ sum_by (excl_data c) w.responses = omega (arith, sum_by_push (excl_data c) w.responses x, no_excl) in
    same_responses (side_of f tags home w c) _ _ _ _ _ _ _ _ d o e (λ i. tag i || (d i + o i + e i == 0))

-- the tag of all Data to a cache after one more
abbrev pub data_tag : Tags → Traffic → ℕ → Bool → Bool
data_tag tags w c fresh = (tags.data_to c || (data_count c w.responses == 0)) && fresh

-- Data from a cache
pub owner_data-here : (f : Face) (tags : Tags) (home : Home) (w : Traffic) (a to : CacheId) (value : ℕ) (fresh : Bool) →
    side_of f (record tags { data_to = tag_at to.0 (data_tag tags w to.0 fresh) tags.data_to }) home
    (response_sent (Data (Cache a) (Cache to) value 0) w) to.0 ≡ owner_data_sent fresh (side_of f tags home w to.0)
owner_data-here f tags home w a to value fresh =
    let x : Response = Data (Cache a) (Cache to) value 0 in
    let d : sum_by (dir_data to.0) (w.responses ++ x ∷ []) ≡ sum_by (dir_data to.0) w.responses = omega (arith, sum_by_push (dir_data to.0) w.responses x) in
    let o : sum_by (owner_data to.0) (w.responses ++ x ∷ []) ≡ sum_by (owner_data to.0) w.responses + 1 =
    omega (arith, sum_by_push (owner_data to.0) w.responses x, ap (λ (t : Bool). only t 1) (eq-eqb to.0 to.0 refl)) in
    let e : sum_by (excl_data to.0) (w.responses ++ x ∷ []) ≡ sum_by (excl_data to.0) w.responses = omega (arith, sum_by_push (excl_data to.0) w.responses x) in
    same_responses (side_of f tags home w to.0) _ _ _ _ _ _ _ _ d o e
    (ap (λ (t : Bool). t || (data_count to.0 (w.responses ++ x ∷ []) == 0)) (tag-here to.0 (data_tag tags w to.0 fresh) tags.data_to)
    ∙ or-some (data_tag tags w to.0 fresh) _ (data_count to.0 w.responses) (omega (arith, d, o, e)))

pub owner_data-elsewhere : (f : Face) (tags : Tags) (home : Home) (w : Traffic) (a to : CacheId) (value : ℕ) (tag : Bool) (c : ℕ) → to.0 ≢ c →
    side_of f (record tags { data_to = tag_at to.0 tag tags.data_to }) home (response_sent (Data (Cache a) (Cache to) value 0) w) c ≡ side_of f tags home w c
owner_data-elsewhere f tags home w a to value tag c ne =
    response-unseen f tags (tag_at to.0 tag tags.data_to) home w (Data (Cache a) (Cache to) value 0) c refl (ap (λ (t : Bool). only t 1) (ne_eqb to.0 c ne))
    refl
    (tag-elsewhere to.0 tag tags.data_to c (λ e. ne (sym e)))

-- the tag of all Data to the home after one more
abbrev pub home_tag : Tags → Traffic → Bool → Bool
home_tag tags w fresh = (tags.home_data || (sum_by home_data w.responses == 0)) && fresh

-- what all see of Data to the home, and of any other response
pub home_data-shared : (tags : Tags) (home : Home) (w : Traffic) (a : CacheId) (value : ℕ) (fresh : Bool) →
    shared_of (record tags { home_data = home_tag tags w fresh }) home (response_sent (Data (Cache a) Dir value 0) w) ≡
    home_data_sent fresh (shared_of tags home w)
home_data-shared tags home w a value fresh =
    let n : sum_by home_data (w.responses ++ Data (Cache a) Dir value 0 ∷ []) ≡ sum_by home_data w.responses + 1 =
    sum_by_push home_data w.responses (Data (Cache a) Dir value 0) in
    same_home_data (shared_of tags home w) _ _ _ _ n (or-some (home_tag tags w fresh) _ _ n)

pub response-shared : (tags : Tags) (home : Home) (w : Traffic) (x : Response) → home_data x ≡ 0 → shared_of tags home (response_sent x w) ≡ shared_of tags
    home w
response-shared tags home w x none =
    let n : sum_by home_data (w.responses ++ x ∷ []) ≡ sum_by home_data w.responses = omega (arith, sum_by_push home_data w.responses x, none) in
    same_home_data (shared_of tags home w) _ _ _ _ n (λ i. tags.home_data || (n i == 0))

-- ACTIONS
-- the tags after an action of a line, whose value is fresh or not
abbrev pub line_tags : CacheId → Bool → Option CacheId → CacheAction → Traffic → Tags → Tags
line_tags a fresh to action.PutM w tags =
    record tags { putm = tag_at a.0 ((tags.putm a.0 || (sum_by (from a.0 is_putm) w.requests == 0)) && fresh) tags.putm }
line_tags a fresh (Some to) action.DataReq w tags = record tags { data_to = tag_at to.0 (data_tag tags w to.0 fresh) tags.data_to }
line_tags a fresh to action.DataDir w tags = record tags { home_data = home_tag tags w fresh }
line_tags a fresh to other w tags = tags

-- the requestor, as the pair of the actor and another sees it
abbrev pub party_of : Option CacheId → ℕ → ℕ → Party
party_of None a x = Nobody
party_of (Some to) a x = if to.0 == a then First else (if to.0 == x then Second else Third)

pub party-first : (to : CacheId) (a x : ℕ) → to.0 ≡ a → party_of (Some to) a x ≡ First
party-first to a x e = ap (λ (t : Bool). if t then First else (if to.0 == x then Second else Third)) (eq-eqb to.0 a e)

pub party-second : (to : CacheId) (a x : ℕ) → to.0 ≢ a → to.0 ≡ x → party_of (Some to) a x ≡ Second
party-second to a x ne e =
    ap (λ (t : Bool). if t then First else (if to.0 == x then Second else Third)) (ne_eqb to.0 a ne)
    ∙ ap (λ (t : Bool). if t then Second else Third) (eq-eqb to.0 x e)

pub party-third : (to : CacheId) (a x : ℕ) → to.0 ≢ a → to.0 ≢ x → party_of (Some to) a x ≡ Third
party-third to a x ne other =
    ap (λ (t : Bool). if t then First else (if to.0 == x then Second else Third)) (ne_eqb to.0 a ne)
    ∙ ap (λ (t : Bool). if t then Second else Third) (ne_eqb to.0 x other)

-- what one action does to the pair of its cache and another
abbrev Acts : Face → Face → Home → CacheId → ℕ → Bool → Option CacheId → CacheAction → Tags → Traffic → ℕ → Type 0
Acts f g home a value fresh to x tags w c =
    pair_of f g (line_tags a fresh to x w tags) home (all_sent (line_message a value to x) w) a.0 c ≡
    line_acted (party_of to a.0 c) fresh x (pair_of f g tags home w a.0 c)

-- Data to the requestor
module _ (f g : Face) (home : Home) (a : CacheId) (value : ℕ) (fresh : Bool) (to : CacheId) (tags : Tags) (w : Traffic) where
  abbrev after : Tags
  after = line_tags a fresh (Some to) action.DataReq w tags

  abbrev behind : Traffic
  behind = response_sent (Data (Cache a) (Cache to) value 0) w

  receiver-side : (h : Face) (c : ℕ) → to.0 ≡ c → side_of h after home behind c ≡ owner_data_sent fresh (side_of h tags home w c)
  receiver-side h c same =
      subst (λ (n : ℕ). side_of h after home behind n ≡ owner_data_sent fresh (side_of h tags home w n)) same
      (owner_data-here h tags home w a to value fresh)

  other-side : (h : Face) (c : ℕ) → to.0 ≢ c → side_of h after home behind c ≡ side_of h tags home w c
  other-side h c ne = owner_data-elsewhere h tags home w a to value (data_tag tags w to.0 fresh) c ne

  as-party : (c : ℕ) (p : Party) → party_of (Some to) a.0 c ≡ p →
      pair_of f g after home behind a.0 c ≡ line_acted p fresh action.DataReq (pair_of f g tags home w a.0 c) →
      Acts f g home a value fresh (Some to) action.DataReq tags w c
  as-party c p e h = h ∙ ap (λ (q : Party). line_acted q fresh action.DataReq (pair_of f g tags home w a.0 c)) (sym e)

  data_req-acted : (c : ℕ) → c ≢ a.0 → Acts f g home a value fresh (Some to) action.DataReq tags w c
  data_req-acted c ne =
      elim (cases_eq to.0 a.0) [
        | inl same ↦ as-party c First (party-first to a.0 c same)
            (same_pair _ _ _ _ _ _ _ _ _ _ (response-shared tags home w (Data (Cache a) (Cache to) value 0) refl) (receiver-side f a.0 same)
            (other-side g c (λ e. ne (sym e ∙ same))) refl refl)
        | inr differ ↦ elim (cases_eq to.0 c) [
          | inl same ↦ as-party c Second (party-second to a.0 c differ same)
              (same_pair _ _ _ _ _ _ _ _ _ _ (response-shared tags home w (Data (Cache a) (Cache to) value 0) refl) (other-side f a.0 differ)
              (receiver-side g c same) refl refl)
          | inr other ↦ as-party c Third (party-third to a.0 c differ other)
              (same_pair _ _ _ _ _ _ _ _ _ _ (response-shared tags home w (Data (Cache a) (Cache to) value 0) refl) (other-side f a.0 differ)
              (other-side g c other) refl refl)
        ]
      ]

pub acted-seen : (f g : Face) (home : Home) (a : CacheId) (value : ℕ) (fresh : Bool) (to : Option CacheId) (x : CacheAction) (tags : Tags) (w : Traffic)
    (c : ℕ) →
    c ≢ a.0 → Acts f g home a value fresh to x tags w c
acted-seen f g home a value fresh to action.GetS tags w c ne =
    same_pair _ _ _ _ _ _ _ _ _ _ refl (gets-here f tags home w a) (request-elsewhere g tags tags.putm home w _ c (λ e. ne (sym e)) refl) refl refl
acted-seen f g home a value fresh to action.GetM tags w c ne =
    same_pair _ _ _ _ _ _ _ _ _ _ refl (getm-here f tags home w a) (request-elsewhere g tags tags.putm home w _ c (λ e. ne (sym e)) refl) refl refl
acted-seen f g home a value fresh to action.PutS tags w c ne =
    same_pair _ _ _ _ _ _ _ _ _ _ refl (puts-here f tags home w a) (request-elsewhere g tags tags.putm home w _ c (λ e. ne (sym e)) refl) refl refl
acted-seen f g home a value fresh to action.PutM tags w c ne =
    same_pair _ _ _ _ _ _ _ _ _ _ refl (putm-here f tags home w a fresh value)
    (request-elsewhere g tags (tag_at a.0 (putm_tag f tags home w a fresh) tags.putm) home w _ c (λ e. ne (sym e)) (tag-elsewhere a.0 _ tags.putm c ne)) refl
    refl
acted-seen f g home a value fresh (Some to) action.InvAck tags w c ne =
    same_pair _ _ _ _ _ _ _ _ _ _ (response-shared tags home w (InvAck a to) refl)
    (response-unseen f tags tags.data_to home w (InvAck a to) a.0 refl refl refl refl)
    (response-unseen g tags tags.data_to home w (InvAck a to) c refl refl refl refl) refl refl
acted-seen f g home a value fresh None action.InvAck tags w c ne = refl
acted-seen f g home a value fresh (Some to) action.DataReq tags w c ne = data_req-acted f g home a value fresh to tags w c ne
acted-seen f g home a value fresh None action.DataReq tags w c ne = refl
acted-seen f g home a value fresh to action.DataDir tags w c ne =
    same_pair _ _ _ _ _ _ _ _ _ _ (home_data-shared tags home w a value fresh)
    (response-unseen f tags tags.data_to home w (Data (Cache a) Dir value 0) a.0 refl refl refl refl)
    (response-unseen g tags tags.data_to home w (Data (Cache a) Dir value 0) c refl refl refl refl) refl refl

-- the tags after all actions
abbrev pub tags_after : CacheId → ℕ → Bool → Option CacheId → List CacheAction → Traffic → Tags → Tags
tags_after a value fresh to [] w tags = tags
tags_after a value fresh to (x ∷ actions) w tags =
    tags_after a value fresh to actions (all_sent (line_message a value to x) w) (line_tags a fresh to x w tags)
