-- What the home's messages make of a side: the one that they go to, the one that they name, and any other.
use Rattle.std.proofs.Common.{◌≡◌, ◌≢◌, ℕ, ◌+◌, ◌<◌, List, [], ◌∷◌, ◌++◌, refl, ap, ◌∙◌, Bool, ◌||◌}
use Rattle.std.proofs.Common.{◌==◌, not, sum_by, arith, eq-eqb, map, length}
use Rattle.std.proofs.lemmas.List.Sums.{sum_by_push}
use Rattle.base.specs.declared.ids.CacheId.{CacheId}
use Rattle.base.specs.declared.ids.Place.TheVariants.{Dir, Cache}
use Rattle.network.specs.declared.message.Forward.{Forward}
use Rattle.network.specs.declared.message.Response.{Response}
use Rattle.network.specs.declared.message.Response.TheVariants.{Data, DataExcl}
use Rattle.network.specs.Traffic.{Traffic, link, response_sent, forward_sent}
use Rattle.control.specs.declared.home.Home.{Home}
use Rattle.machine.proofs.Counts.{only, only-nothing, forward_sent-total, link-sent, link-sent_other}
use Rattle.machine.proofs.Seen.{names, is_fwd_gets, is_fwd_getm, is_inv, dir_data, owner_data, excl_data, inv_ack}
use Rattle.machine.specs.Block.{BlockState}
use Rattle.pairs.specs.declared.link.LinkPlace.{LinkPlace}
use Rattle.pairs.specs.declared.side.PairSide.{PairSide}
use Rattle.pairs.specs.Sights.{dir_data_sent, excl_data_sent}
use Rattle.closing.proofs.Alpha.{Tags, Face, face, side, side_of, names_in, owed_to, data_count}
use Rattle.closing.proofs.AlphaFits.{places}
use Rattle.closing.proofs.Sides.{same_responses, with_forwards, same_forwards}
use Rattle.closing.proofs.Sending.{tag_at, tag-here, or-some, data_tag, response-unseen}

-- a block with another home and other wires
abbrev pub at : BlockState → Home → Traffic → BlockState
at b home w = record { lines = b.lines; home = home; traffic = w; latest = b.latest }

-- a cache's face is as it was where what is owed to it is
pub same-face : (tags : Tags) (datas : ℕ → Bool) (b : BlockState) (h k : Home) (v w : Traffic) (c : ℕ) → owed_to (at b h v) c ≡ owed_to (at b k w) c →
    face (record tags { data_to = datas }) (at b h v) c ≡ face tags (at b k w) c
same-face tags datas b h k v w c e = λ i. record (face tags (at b k w) c) { owed = record { any = not (e i == 0); lag = tags.lag c } }

-- DATA
-- what is owed to a cache isn't changed by a response other than an Inv-Ack
response-owes : (b : BlockState) (home : Home) (w : Traffic) (x : Response) (c : ℕ) → inv_ack c x ≡ 0 →
    owed_to (at b home (response_sent x w)) c ≡ owed_to (at b home w) c
response-owes b home w x c none = omega (arith, sum_by_push (inv_ack c) w.responses x, none)

-- Data from the home to a cache: that one sees it
pub dir_data-here : (b : BlockState) (home : Home) (tags : Tags) (w : Traffic) (to : CacheId) (value acks : ℕ) (fresh : Bool) →
    side (record tags { data_to = tag_at to.0 (data_tag tags w to.0 fresh) tags.data_to }) (at b home (response_sent (Data Dir (Cache to) value acks) w)) to.0
    ≡ dir_data_sent fresh (side tags (at b home w) to.0)
dir_data-here b home tags w to value acks fresh =
    let x : Response = Data Dir (Cache to) value acks in
    let datas : ℕ → Bool = tag_at to.0 (data_tag tags w to.0 fresh) tags.data_to in
    let d : sum_by (dir_data to.0) (w.responses ++ x ∷ []) ≡ sum_by (dir_data to.0) w.responses + 1 =
    omega (arith, sum_by_push (dir_data to.0) w.responses x, ap (λ (t : Bool). only t 1) (eq-eqb to.0 to.0 refl)) in
    let o : sum_by (owner_data to.0) (w.responses ++ x ∷ []) ≡ sum_by (owner_data to.0) w.responses = omega
    (arith, sum_by_push (owner_data to.0) w.responses x) in
    let e : sum_by (excl_data to.0) (w.responses ++ x ∷ []) ≡ sum_by (excl_data to.0) w.responses = omega (arith, sum_by_push (excl_data to.0) w.responses x) in
    ap (λ (f : Face). side_of f (record tags { data_to = datas }) home (response_sent x w) to.0)
    (same-face tags datas b home home (response_sent x w) w to.0 (response-owes b home w x to.0 refl))
    ∙ same_responses (side tags (at b home w) to.0) _ _ _ _ _ _ _ _ d o e
    (ap (λ (t : Bool). t || (data_count to.0 (w.responses ++ x ∷ []) == 0)) (tag-here to.0 (data_tag tags w to.0 fresh) tags.data_to)
    ∙ or-some (data_tag tags w to.0 fresh) _ (data_count to.0 w.responses) (omega (arith, d, o, e)))

-- exclusive Data likewise
pub excl_data-here : (b : BlockState) (home : Home) (tags : Tags) (w : Traffic) (to : CacheId) (value : ℕ) (fresh : Bool) →
    side (record tags { data_to = tag_at to.0 (data_tag tags w to.0 fresh) tags.data_to }) (at b home (response_sent (DataExcl to value) w)) to.0
    ≡ excl_data_sent fresh (side tags (at b home w) to.0)
excl_data-here b home tags w to value fresh =
    let x : Response = DataExcl to value in
    let datas : ℕ → Bool = tag_at to.0 (data_tag tags w to.0 fresh) tags.data_to in
    let d : sum_by (dir_data to.0) (w.responses ++ x ∷ []) ≡ sum_by (dir_data to.0) w.responses = omega (arith, sum_by_push (dir_data to.0) w.responses x) in
    let o : sum_by (owner_data to.0) (w.responses ++ x ∷ []) ≡ sum_by (owner_data to.0) w.responses = omega
    (arith, sum_by_push (owner_data to.0) w.responses x) in
    let e : sum_by (excl_data to.0) (w.responses ++ x ∷ []) ≡ sum_by (excl_data to.0) w.responses + 1 =
    omega (arith, sum_by_push (excl_data to.0) w.responses x, ap (λ (t : Bool). only t 1) (eq-eqb to.0 to.0 refl)) in
    ap (λ (f : Face). side_of f (record tags { data_to = datas }) home (response_sent x w) to.0)
    (same-face tags datas b home home (response_sent x w) w to.0 (response-owes b home w x to.0 refl))
    ∙ same_responses (side tags (at b home w) to.0) _ _ _ _ _ _ _ _ d o e
    (ap (λ (t : Bool). t || (data_count to.0 (w.responses ++ x ∷ []) == 0)) (tag-here to.0 (data_tag tags w to.0 fresh) tags.data_to)
    ∙ or-some (data_tag tags w to.0 fresh) _ (data_count to.0 w.responses) (omega (arith, d, o, e)))

-- and no other cache sees either
pub response-elsewhere : (b : BlockState) (home : Home) (tags : Tags) (datas : ℕ → Bool) (w : Traffic) (x : Response) (c : ℕ) → inv_ack c x ≡ 0 →
    dir_data c x ≡ 0 → owner_data c x ≡ 0 → excl_data c x ≡ 0 → datas c ≡ tags.data_to c →
    side (record tags { data_to = datas }) (at b home (response_sent x w)) c ≡ side tags (at b home w) c
response-elsewhere b home tags datas w x c no_ack no_dir no_owner no_excl tag =
    ap (λ (f : Face). side_of f (record tags { data_to = datas }) home (response_sent x w) c)
    (same-face tags datas b home home (response_sent x w) w c (response-owes b home w x c no_ack))
    ∙ response-unseen (face tags (at b home w) c) tags datas home w x c no_dir no_owner no_excl tag

-- FORWARDS
pub map-push : {X Y : Type 0} (f : X → Y) (xs : List X) (x : X) → map f (xs ++ x ∷ []) ≡ map f xs ++ f x ∷ []
map-push f [] x = refl
map-push f (y ∷ ys) x = ap (λ l. f y ∷ l) (map-push f ys x)

-- a forward as a cache sees it on its own link
abbrev pub place : ℕ → Forward → LinkPlace
place c f = record { kind = f.kind; own = f.requestor.0 == c }

-- a forward that is no Inv leaves what is owed
forward-owes : (b : BlockState) (home : Home) (w : Traffic) (k : ℕ) (m : Forward) (c : ℕ) → k < length w.links → is_inv m.kind ≡ 0 →
    owed_to (at b home (forward_sent k m w)) c ≡ owed_to (at b home w) c
forward-owes b home w k m c there none =
    omega (
      arith,
      forward_sent-total (names c is_inv) w k m there,
      ap (λ n. only (m.requestor.0 == c) n) none,
      only-nothing (m.requestor.0 == c),
    )

-- a side after a forward that is no Inv: it may name the cache, and the link may be its own
pub forward-side : (b : BlockState) (home : Home) (tags : Tags) (w : Traffic) (k : ℕ) (m : Forward) (c : ℕ) (l : List LinkPlace) → k < length w.links →
    is_inv m.kind ≡ 0 → places c (link (forward_sent k m w) c) ≡ l →
    side tags (at b home (forward_sent k m w)) c ≡ (let s : PairSide = side tags (at b home w) c in
    with_forwards s (s.fwd_gets + names c is_fwd_gets m) (s.fwd_getm + names c is_fwd_getm m) l)
forward-side b home tags w k m c l there none e =
    ap (λ (f : Face). side_of f tags home (forward_sent k m w) c)
    (same-face tags tags.data_to b home home (forward_sent k m w) w c (forward-owes b home w k m c there none))
    ∙ same_forwards (side tags (at b home w) c) _ _ _ _ _ _ (forward_sent-total (names c is_fwd_gets) w k m there)
    (forward_sent-total (names c is_fwd_getm) w k m there) e

-- its own link has one more place
pub own-places : (w : Traffic) (k : ℕ) (m : Forward) → k < length w.links → places k (link (forward_sent k m w) k) ≡ places k (link w k) ++ place k m ∷ []
own-places w k m there = ap (λ (l : List Forward). places k l) (link-sent w k m there) ∙ map-push (place k) (link w k) m

-- another one is as it was
pub other-places : (w : Traffic) (k : ℕ) (m : Forward) (c : ℕ) → c ≢ k → places c (link (forward_sent k m w) c) ≡ places c (link w c)
other-places w k m c ne = ap (λ (l : List Forward). places c l) (link-sent_other w k c m ne)

-- and so is what it names
pub own-names : (w : Traffic) (k : ℕ) (m : Forward) (d : ℕ) → k < length w.links → names_in (forward_sent k m w) k d ≡ names_in w k d ++ (m.requestor.0 == d)
    ∷ []
own-names w k m d there =
    ap (λ (l : List Forward). map (λ (f : Forward). f.requestor.0 == d) l) (link-sent w k m there)
    ∙ map-push (λ (f : Forward). f.requestor.0 == d) (link w k) m

pub other-names : (w : Traffic) (k : ℕ) (m : Forward) (c d : ℕ) → c ≢ k → names_in (forward_sent k m w) c d ≡ names_in w c d
other-names w k m c d ne = ap (λ (l : List Forward). map (λ (f : Forward). f.requestor.0 == d) l) (link-sent_other w k c m ne)
