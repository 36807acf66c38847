-- What all actions of a cell make of the pairs of its cache, of tags and of acks.
use Rattle.std.proofs.Common.{◌≡◌, ◌≢◌, ℕ, ◌+◌, List, [], ◌∷◌, ◌++◌, refl, ap, sym, subst, ◌∙◌, inl, inr, Option, Some, None, Bool, true, false, ◌&&◌, ◌||◌}
use Rattle.std.proofs.Common.{◌==◌, sum_by, arith, eq-eqb, All, ◌⊎◌, remove, zero, suc}
use Rattle.std.proofs.lemmas.Bool.{cases_eq, ne_eqb}
use Rattle.std.proofs.lemmas.List.Elements.{All-append, All-cons, All-nil}
use Rattle.std.proofs.lemmas.List.Sums.{sum_by_push, sum_by-cons}
use Rattle.base.specs.declared.ids.CacheId.{CacheId}
use Rattle.base.specs.declared.ids.Place.TheVariants.{Dir, Cache}
use Rattle.network.specs.declared.message.Request.{Request}
use Rattle.network.specs.declared.message.RequestKind.{RequestKind}
use Rattle.network.specs.declared.message.RequestKind.TheVariants as request
use Rattle.network.specs.declared.message.Response.{Response}
use Rattle.network.specs.declared.message.Response.TheVariants.{Data, InvAck, DataExcl}
use Rattle.network.specs.Traffic.{Traffic, request_sent, response_sent, all_sent}
use Rattle.network.proofs.Sending.{all_sent-append}
use Rattle.cache_table.specs.declared.actions.CacheAction.{CacheAction}
use Rattle.cache_table.specs.declared.actions.CacheAction.TheVariants as action
use Rattle.control.specs.LineEffect.{line_message, line_messages}
use Rattle.control.specs.declared.home.Home.{Home}
use Rattle.machine.proofs.Counts.{only, only-nothing}
use Rattle.machine.proofs.Seen.{from, is_putm, dir_data, owner_data, excl_data, home_data, inv_ack, ack_number, is_owner}
use Rattle.pairs.specs.declared.pair.Pair.{Pair}
use Rattle.pairs.specs.declared.steps.Party.{Party}
use Rattle.pairs.specs.declared.steps.Party.TheVariants.{Nobody, First, Second, Third}
use Rattle.pairs.specs.Pairs.{is_few_side}
use Rattle.pairs.specs.Sights.{line_acted, line_acts, inv_acks}
use Rattle.closing.proofs.Alpha.{Tags, Face, pair_of, data_count, Brings, BringsHome, Puts}
use Rattle.closing.proofs.Sending.{tag_at, tag-here, tag-elsewhere, data_tag, line_tags, party_of, tags_after, acted-seen}

-- what all actions do to the pair of their cache and another
pub acts-seen : (f g : Face) (home : Home) (a : CacheId) (value : ℕ) (fresh : Bool) (to : Option CacheId) (actions : List CacheAction) (tags : Tags)
    (w : Traffic)
    (c : ℕ) → c ≢ a.0 → pair_of f g (tags_after a value fresh to actions w tags) home (all_sent (line_messages a value to actions) w) a.0 c ≡
    line_acts (party_of to a.0 c) fresh actions (pair_of f g tags home w a.0 c)
acts-seen f g home a value fresh to [] tags w c ne = refl
acts-seen f g home a value fresh to (x ∷ actions) tags w c ne =
    let u : Traffic = all_sent (line_message a value to x) w in
    ap (λ (v : Traffic). pair_of f g (tags_after a value fresh to actions u (line_tags a fresh to x w tags)) home v a.0 c)
    (all_sent-append (line_message a value to x) (line_messages a value to actions) w)
    ∙ acts-seen f g home a value fresh to actions (line_tags a fresh to x w tags) u c ne
    ∙ ap (λ (p : Pair). line_acts (party_of to a.0 c) fresh actions p) (acted-seen f g home a value fresh to x tags w c ne)

-- actions touch no tag of memory
pub memory-kept : (a : CacheId) (value : ℕ) (fresh : Bool) (to : Option CacheId) (actions : List CacheAction) (w : Traffic) (tags : Tags) →
    (tags_after a value fresh to actions w tags).memory ≡ tags.memory
memory-kept a value fresh to [] w tags = refl
memory-kept a value fresh to (x ∷ actions) w tags =
    memory-kept a value fresh to actions (all_sent (line_message a value to x) w) (line_tags a fresh to x w tags) ∙ one to x
  where
    one : (to : Option CacheId) (x : CacheAction) → (line_tags a fresh to x w tags).memory ≡ tags.memory
    one to action.GetS = refl
    one to action.GetM = refl
    one to action.PutS = refl
    one to action.PutM = refl
    one (Some to) action.InvAck = refl
    one None action.InvAck = refl
    one (Some to) action.DataReq = refl
    one None action.DataReq = refl
    one to action.DataDir = refl

-- an action sees to no more than its requestor
acted-few : (to : Party) (fresh : Bool) (x : CacheAction) (p : Pair) → (to ≡ Second → ⊥) → is_few_side (line_acted to fresh x p).second ≡ is_few_side p.second
acted-few to fresh action.GetS p ne = refl
acted-few to fresh action.GetM p ne = refl
acted-few to fresh action.PutS p ne = refl
acted-few to fresh action.PutM p ne = refl
acted-few Nobody fresh action.InvAck p ne = refl
acted-few First fresh action.InvAck p ne = refl
acted-few Second fresh action.InvAck p ne = refl
acted-few Third fresh action.InvAck p ne = refl
acted-few Nobody fresh action.DataReq p ne = refl
acted-few First fresh action.DataReq p ne = refl
acted-few Second fresh action.DataReq p ne = absurd (ne refl)
acted-few Third fresh action.DataReq p ne = refl
acted-few to fresh action.DataDir p ne = refl

pub acts-few : (to : Party) (fresh : Bool) (actions : List CacheAction) (p : Pair) → (to ≡ Second → ⊥) →
    is_few_side (line_acts to fresh actions p).second ≡ is_few_side p.second
acts-few to fresh [] p ne = refl
acts-few to fresh (x ∷ actions) p ne = acts-few to fresh actions (line_acted to fresh x p) ne ∙ acted-few to fresh x p ne

-- TRUE TAGS
-- what is known of the values on wires is so
pub record AreTrueOn (tags : Tags) (latest : ℕ) (w : Traffic) : Type 0 where
  pub data_to : (c : ℕ) → tags.data_to c ≡ true → All (Brings c latest) w.responses
  pub putm : (c : ℕ) → tags.putm c ≡ true → All (Puts c latest) w.requests
  pub home_data : tags.home_data ≡ true → All (BringsHome latest) w.responses

pub both-true : (s t : Bool) → s && t ≡ true → (s ≡ true) × (t ≡ true)
both-true true t e = (refl, e)
both-true false t e = absurd (cc)

pub either-true : (s t : Bool) → s || t ≡ true → (s ≡ true) ⊎ (t ≡ true)
either-true true t e = inl refl
either-true false t e = inr e

pub same-if : (m n : ℕ) → (m == n) ≡ true → m ≡ n
same-if m n e =
    elim (cases_eq m n) [
      | inl same ↦ same
      | inr ne ↦ (let differ : true ≡ false = sym e ∙ ne_eqb m n ne in absurd (cc))
    ]

-- a value that isn't there is any
pub none-brings : (c v : ℕ) (rs : List Response) → data_count c rs ≡ 0 → All (Brings c v) rs
none-brings c v [] e = All-nil (Brings c v)
none-brings c v (r ∷ rs) e =
    let d : sum_by (dir_data c) (r ∷ rs) ≡ dir_data c r + sum_by (dir_data c) rs = sum_by-cons (dir_data c) r rs in
    let o : sum_by (owner_data c) (r ∷ rs) ≡ owner_data c r + sum_by (owner_data c) rs = sum_by-cons (owner_data c) r rs in
    let x : sum_by (excl_data c) (r ∷ rs) ≡ excl_data c r + sum_by (excl_data c) rs = sum_by-cons (excl_data c) r rs in
    All-cons (Brings c v) r rs (one r (omega (arith, e, d, o, x)) (omega (arith, e, d, o, x)) (omega (arith, e, d, o, x)))
    (none-brings c v rs (omega (arith, e, d, o, x)))
  where
    no-one : (n : ℕ) → only (n == c) 1 ≡ 0 → n ≡ c → ⊥
    no-one n e same = absurd (omega (arith, e, ap (λ (t : Bool). only t 1) (eq-eqb n c same)))

    one : (r : Response) → dir_data c r ≡ 0 → owner_data c r ≡ 0 → excl_data c r ≡ 0 → Brings c v r
    one (Data Dir (Cache to) value acks) d o x = λ same. absurd (no-one to.0 d same)
    one (Data (Cache by) (Cache to) value acks) d o x = λ same. absurd (no-one to.0 o same)
    one (Data by Dir value acks) d o x = tt
    one (InvAck by to) d o x = tt
    one (DataExcl to value) d o x = λ same. absurd (no-one to.0 x same)

pub none-puts : (c v : ℕ) (rs : List Request) → sum_by (from c is_putm) rs ≡ 0 → All (Puts c v) rs
none-puts c v [] e = All-nil (Puts c v)
none-puts c v (r ∷ rs) e =
    let s : sum_by (from c is_putm) (r ∷ rs) ≡ from c is_putm r + sum_by (from c is_putm) rs = sum_by-cons (from c is_putm) r rs in
    All-cons (Puts c v) r rs
    (λ same u kind. absurd (omega (arith, e, s, ap (λ (t : Bool). only t (is_putm r.kind)) (eq-eqb r.from.0 c same), ap is_putm kind)))
    (none-puts c v rs (omega (arith, e, s)))

pub none-brings_home : (v : ℕ) (rs : List Response) → sum_by home_data rs ≡ 0 → All (BringsHome v) rs
none-brings_home v [] e = All-nil (BringsHome v)
none-brings_home v (r ∷ rs) e =
    let s : sum_by home_data (r ∷ rs) ≡ home_data r + sum_by home_data rs = sum_by-cons home_data r rs in
    All-cons (BringsHome v) r rs (one r (omega (arith, e, s))) (none-brings_home v rs (omega (arith, e, s)))
  where
    one : (r : Response) → home_data r ≡ 0 → BringsHome v r
    one (Data by Dir value acks) e = absurd (omega (arith, e))
    one (Data by (Cache to) value acks) e = tt
    one (InvAck by to) e = tt
    one (DataExcl to value) e = tt

-- all that are there, and one more
pub all-push : {X : Type 0} (P : X → Type 0) (xs : List X) (x : X) → All P xs → P x → All P (xs ++ x ∷ [])
all-push P xs x h k = All-append P xs (x ∷ []) h (All-cons P x [] k (All-nil P))

-- all but one
pub all-removed : {X : Type 0} (P : X → Type 0) (xs : List X) (i : ℕ) → All P xs → All P (remove xs i)
all-removed P [] zero h = h
all-removed P [] (suc i) h = h
all-removed P (x ∷ xs) zero h = λ k d lt. h (suc k) d (omega (arith, lt))
all-removed P (x ∷ xs) (suc i) h =
    All-cons P x (remove xs i) (h zero x (omega arith)) (all-removed P xs i (λ k d lt. h (suc k) d (omega (arith, lt))))

-- all Data to a cache are right where those were that were there
pub data-known : (tags : Tags) (latest : ℕ) (w : Traffic) (c : ℕ) → AreTrueOn tags latest w →
    tags.data_to c || (data_count c w.responses == 0) ≡ true → All (Brings c latest) w.responses
data-known tags latest w c h e =
    elim (either-true (tags.data_to c) (data_count c w.responses == 0) e) [
      | inl known ↦ h.data_to c known
      | inr none ↦ none-brings c latest w.responses (same-if _ 0 none)
    ]

pub putm-known : (tags : Tags) (latest : ℕ) (w : Traffic) (c : ℕ) → AreTrueOn tags latest w →
    tags.putm c || (sum_by (from c is_putm) w.requests == 0) ≡ true → All (Puts c latest) w.requests
putm-known tags latest w c h e =
    elim (either-true (tags.putm c) (sum_by (from c is_putm) w.requests == 0) e) [
      | inl known ↦ h.putm c known
      | inr none ↦ none-puts c latest w.requests (same-if _ 0 none)
    ]

pub home_data-known : (tags : Tags) (latest : ℕ) (w : Traffic) → AreTrueOn tags latest w → tags.home_data || (sum_by home_data w.responses == 0) ≡ true →
    All (BringsHome latest) w.responses
home_data-known tags latest w h e =
    elim (either-true tags.home_data (sum_by home_data w.responses == 0) e) [
      | inl known ↦ h.home_data known
      | inr none ↦ none-brings_home latest w.responses (same-if _ 0 none)
    ]

-- a request other than a PutM puts nothing
abbrev IsNoPutM : RequestKind → Type 0
IsNoPutM (request.PutM value) = ⊥
IsNoPutM other = Unit {0}

no-putm : (c v : ℕ) (a : CacheId) (kind : RequestKind) → IsNoPutM kind → Puts c v (record { kind = kind; from = a })
no-putm c v a request.GetS h same u e = absurd (cc)
no-putm c v a request.GetM h same u e = absurd (cc)
no-putm c v a request.PutS h same u e = absurd (cc)
no-putm c v a (request.PutM value) h same u e = absurd h

plain-sent : (tags : Tags) (latest : ℕ) (w : Traffic) (a : CacheId) (kind : RequestKind) → AreTrueOn tags latest w → IsNoPutM kind →
    AreTrueOn tags latest (request_sent (record { kind = kind; from = a }) w)
plain-sent tags latest w a kind h plain = record {
  data_to = h.data_to;
  putm = λ c e. all-push (Puts c latest) w.requests _ (h.putm c e) (no-putm c latest a kind plain);
  home_data = h.home_data;
}

putm-value : (u v : ℕ) → request.PutM u ≡ request.PutM v → u ≡ v
putm-value u v e = cc

-- what is known stays so where an action sends what is known to be fresh only if it is
pub acted-true : (a : CacheId) (value : ℕ) (fresh : Bool) (to : Option CacheId) (x : CacheAction) (tags : Tags) (latest : ℕ) (w : Traffic) →
    AreTrueOn tags latest w → (fresh ≡ true → value ≡ latest) → AreTrueOn (line_tags a fresh to x w tags) latest (all_sent (line_message a value to x) w)
acted-true a value fresh to action.GetS tags latest w h right = plain-sent tags latest w a request.GetS h tt
acted-true a value fresh to action.GetM tags latest w h right = plain-sent tags latest w a request.GetM h tt
acted-true a value fresh to action.PutS tags latest w h right = plain-sent tags latest w a request.PutS h tt
acted-true a value fresh to action.PutM tags latest w h right = record {
  data_to = h.data_to;
  putm = λ c e. elim (cases_eq c a.0) [
    | inl same ↦
        let known = both-true _ fresh (sym (ap (λ (n : ℕ). tag_at a.0 tag tags.putm n) same ∙ tag-here a.0 tag tags.putm) ∙ e) in
        subst (λ (n : ℕ). All (Puts n latest) (w.requests ++ r ∷ [])) (sym same)
        (all-push (Puts a.0 latest) w.requests r (putm-known tags latest w a.0 h known.0) (λ here v kind. sym (putm-value value v kind) ∙ right known.1))
    | inr ne ↦
        all-push (Puts c latest) w.requests r (h.putm c (sym (tag-elsewhere a.0 tag tags.putm c ne) ∙ e)) (λ here v kind. absurd (ne (sym here)))
  ];
  home_data = h.home_data;
}
  where
    r : Request
    r = record { kind = request.PutM value; from = a }

    tag : Bool
    tag = (tags.putm a.0 || (sum_by (from a.0 is_putm) w.requests == 0)) && fresh
acted-true a value fresh (Some to) action.InvAck tags latest w h right = record {
  data_to = λ c e. all-push (Brings c latest) w.responses (InvAck a to) (h.data_to c e) tt;
  putm = h.putm;
  home_data = λ e. all-push (BringsHome latest) w.responses (InvAck a to) (h.home_data e) tt;
}
acted-true a value fresh None action.InvAck tags latest w h right = h
acted-true a value fresh (Some to) action.DataReq tags latest w h right = record {
  data_to = λ c e. elim (cases_eq c to.0) [
    | inl same ↦
        let known = both-true _ fresh (sym (ap (λ (n : ℕ). tag_at to.0 (data_tag tags w to.0 fresh) tags.data_to n) same
        ∙ tag-here to.0 (data_tag tags w to.0 fresh) tags.data_to) ∙ e) in
        subst (λ (n : ℕ). All (Brings n latest) (w.responses ++ Data (Cache a) (Cache to) value 0 ∷ [])) (sym same)
        (all-push (Brings to.0 latest) w.responses (Data (Cache a) (Cache to) value 0) (data-known tags latest w to.0 h known.0) (λ here. right known.1))
    | inr ne ↦
        all-push (Brings c latest) w.responses (Data (Cache a) (Cache to) value 0)
        (h.data_to c (sym (tag-elsewhere to.0 (data_tag tags w to.0 fresh) tags.data_to c ne) ∙ e)) (λ here. absurd (ne (sym here)))
  ];
  putm = h.putm;
  home_data = λ e. all-push (BringsHome latest) w.responses (Data (Cache a) (Cache to) value 0) (h.home_data e) tt;
}
acted-true a value fresh None action.DataReq tags latest w h right = h
acted-true a value fresh to action.DataDir tags latest w h right = record {
  data_to = λ c e. all-push (Brings c latest) w.responses (Data (Cache a) Dir value 0) (h.data_to c e) tt;
  putm = h.putm;
  home_data = λ e.
      let known = both-true _ fresh e in
      all-push (BringsHome latest) w.responses (Data (Cache a) Dir value 0) (home_data-known tags latest w h known.0) (right known.1);
}

pub acts-true : (a : CacheId) (value : ℕ) (fresh : Bool) (to : Option CacheId) (actions : List CacheAction) (tags : Tags) (latest : ℕ) (w : Traffic) →
    AreTrueOn tags latest w → (fresh ≡ true → value ≡ latest) →
    AreTrueOn (tags_after a value fresh to actions w tags) latest (all_sent (line_messages a value to actions) w)
acts-true a value fresh to [] tags latest w h right = h
acts-true a value fresh to (x ∷ actions) tags latest w h right =
    let u : Traffic = all_sent (line_message a value to x) w in
    subst (λ (v : Traffic). AreTrueOn (tags_after a value fresh to actions u (line_tags a fresh to x w tags)) latest v)
    (sym (all_sent-append (line_message a value to x) (line_messages a value to actions) w))
    (acts-true a value fresh to actions (line_tags a fresh to x w tags) latest u (acted-true a value fresh to x tags latest w h right) right)

-- ACKS
-- an Inv-Ack is on its way to whom it is sent, and nothing else that a line sends counts acks
pub record AckCounts (a : CacheId) (to : Option CacheId) (sent : ℕ) (w u : Traffic) : Type 0 where
  pub links : u.links ≡ w.links
  pub acks : (c : ℕ) → sum_by (inv_ack c) u.responses ≡ sum_by (inv_ack c) w.responses + only (is_owner to c) sent
  pub numbers : (c : ℕ) → sum_by (ack_number c) u.responses ≡ sum_by (ack_number c) w.responses

nothing-counted : (a : CacheId) (to : Option CacheId) (w u : Traffic) → u.links ≡ w.links → u.responses ≡ w.responses → AckCounts a to 0 w u
nothing-counted a to w u links responses = record {
  links = links;
  acks = λ c. omega (arith, ap (λ rs. sum_by (inv_ack c) rs) responses, only-nothing (is_owner to c));
  numbers = λ c. ap (λ rs. sum_by (ack_number c) rs) responses;
}

data-counted : (a : CacheId) (to : Option CacheId) (w : Traffic) (x : Response) → ((c : ℕ) → inv_ack c x ≡ 0) → ((c : ℕ) → ack_number c x ≡ 0) →
    AckCounts a to 0 w (response_sent x w)
data-counted a to w x no_ack no_number = record {
  links = refl;
  acks = λ c. omega (arith, sum_by_push (inv_ack c) w.responses x, no_ack c, only-nothing (is_owner to c));
  numbers = λ c. omega (arith, sum_by_push (ack_number c) w.responses x, no_number c);
}

acted-counted : (a : CacheId) (value : ℕ) (to : Option CacheId) (x : CacheAction) (w : Traffic) → AckCounts a to (inv_acks (x ∷ [])) w
    (all_sent (line_message a value to x) w)
acted-counted a value to action.GetS w = nothing-counted a to w _ refl refl
acted-counted a value to action.GetM w = nothing-counted a to w _ refl refl
acted-counted a value to action.PutS w = nothing-counted a to w _ refl refl
acted-counted a value to action.PutM w = nothing-counted a to w _ refl refl
acted-counted a value (Some to) action.InvAck w = record {
  links = refl;
  acks = λ c. sum_by_push (inv_ack c) w.responses (InvAck a to);
  numbers = λ c. omega (arith, sum_by_push (ack_number c) w.responses (InvAck a to));
}
acted-counted a value None action.InvAck w = record { links = refl; acks = λ c. omega arith; numbers = λ c. refl }
acted-counted a value (Some to) action.DataReq w = data-counted a (Some to) w (Data (Cache a) (Cache to) value 0) (λ c. refl) (λ c. refl)
acted-counted a value None action.DataReq w = nothing-counted a None w w refl refl
acted-counted a value to action.DataDir w = data-counted a to w (Data (Cache a) Dir value 0) (λ c. refl) (λ c. refl)

only-both : (t : Bool) (m n : ℕ) → only t (m + n) ≡ only t m + only t n
only-both true m n = refl
only-both false m n = refl

each-ack : (x : CacheAction) (actions : List CacheAction) → inv_acks (x ∷ actions) ≡ inv_acks (x ∷ []) + inv_acks actions
each-ack action.GetS actions = omega arith
each-ack action.GetM actions = omega arith
each-ack action.PutS actions = omega arith
each-ack action.PutM actions = omega arith
each-ack action.InvAck actions = omega arith
each-ack action.DataReq actions = omega arith
each-ack action.DataDir actions = omega arith

pub acts-counted : (a : CacheId) (value : ℕ) (to : Option CacheId) (actions : List CacheAction) (w : Traffic) →
    AckCounts a to (inv_acks actions) w (all_sent (line_messages a value to actions) w)
acts-counted a value to [] w = nothing-counted a to w w refl refl
acts-counted a value to (x ∷ actions) w =
    let u : Traffic = all_sent (line_message a value to x) w in
    let first : AckCounts a to (inv_acks (x ∷ [])) w u = acted-counted a value to x w in
    let rest : AckCounts a to (inv_acks actions) u (all_sent (line_messages a value to actions) u) = acts-counted a value to actions u in
    subst (λ (v : Traffic). AckCounts a to (inv_acks (x ∷ actions)) w v) (sym (all_sent-append (line_message a value to x) (line_messages a value to actions)
    w))
    (record {
      links = rest.links ∙ first.links;
      acks = λ c. omega (
        arith,
        rest.acks c,
        first.acks c,
        only-both (is_owner to c) (inv_acks (x ∷ [])) (inv_acks actions),
        ap (λ n. only (is_owner to c) n) (each-ack x actions),
      );
      numbers = λ c. rest.numbers c ∙ first.numbers c;
    })
