-- In a block with messages one can be delivered: whoever holds all of its own blames a cache that was served earlier, and so on.
use Rattle.std.proofs.Common.{◌≡◌, ◌≢◌, ◌⊎◌, ℕ, ◌+◌, ◌<◌, ◌≤◌, List, [], ◌∷◌, refl, ap, sym, subst, inl, inr, Bool, true, false, not}
use Rattle.std.proofs.Common.{◌||◌, ◌==◌, get_or, sum_by, zero, suc, arith, length, nat_le, eq-eqb}
use Rattle.std.proofs.lemmas.Bool.{cases_eq, cases_lt, ne_eqb, le-leb}
use Rattle.std.proofs.lemmas.List.{get_or_past}
use Rattle.std.proofs.lemmas.List.Sums.{sum_by-cons}
use Rattle.base.specs.declared.ids.BlockId.{BlockId}
use Rattle.base.specs.declared.ids.Place.TheVariants.{Dir, Cache}
use Rattle.network.specs.declared.message.Request.{Request}
use Rattle.network.specs.declared.message.RequestKind.{RequestKind}
use Rattle.network.specs.declared.message.RequestKind.TheVariants as request
use Rattle.network.specs.declared.message.Forward.{Forward}
use Rattle.network.specs.declared.message.ForwardKind.{ForwardKind}
use Rattle.network.specs.declared.message.ForwardKind.TheVariants.{FwdGetS, FwdGetM, Inv, PutAck}
use Rattle.network.specs.declared.message.Response.{Response}
use Rattle.network.specs.declared.message.Response.TheVariants.{Data, InvAck, DataExcl}
use Rattle.network.specs.Traffic.{link}
use Rattle.tables.specs.Tables.{Tables}
use Rattle.machine.specs.Block.{BlockState, IsBlockAmong}
use Rattle.machine.proofs.Counts.{only, total, link-total}
use Rattle.machine.proofs.Seen.{from, is_gets, is_getm, is_puts, is_putm, names, is_fwd_gets, is_fwd_getm, is_inv, of_kind, dir_data, owner_data, excl_data}
use Rattle.machine.proofs.Seen.{home_data, inv_ack}
use Rattle.machine.proofs.Moves as moving
use Rattle.machine.proofs.Quiet.{IsQuiet}
use Rattle.pairs.specs.declared.link.LinkPlace.{LinkPlace}
use Rattle.pairs.specs.declared.side.PairSide.{PairSide}
use Rattle.pairs.specs.Pairs.{data_to, marked, own_marked}
use Rattle.closing.specs.declared.ranked.Order.{Order}
use Rattle.closing.specs.declared.ranked.Order.TheVariants.{After}
use Rattle.closing.specs.declared.ranked.RankedPair.{RankedPair}
use Rattle.closing.specs.Ranked.{is_busy, awaited}
use Rattle.closing.specs.Blamed.{holds_side, holds_home_data, is_held, is_noisy, requests_of, is_named, awaits_home}
use Rattle.closing.specs.Blamed.{IsBlamed, Blamed}
use Rattle.closing.proofs.Alpha.{Tags, alpha, side, shared, names_on, Faithful, owed_to}
use Rattle.closing.proofs.AlphaFits.{places, both, Weighs, weighs-gets, weighs-getm, weighs-inv, own-sum, marks-sum}
use Rattle.closing.proofs.LineActing.{both-true, same-if}
use Rattle.closing.proofs.Simulation.{next-other}
use Rattle.closing.proofs.Serving.{Placed, Served, IsOrder}
use Rattle.closing.proofs.Sharings.{IsLevel}
use Rattle.closing.proofs.Receivers.{Received}
use Rattle.closing.proofs.Absent.{idle-held, none-from, none-to, no-dir, no-owner, no-excl, no-ack}
use Rattle.closing.proofs.Delivering.{not-zero, side-found, home_data-found, inv_ack-found}

-- TESTS
not-true : (t : Bool) → not t ≡ true → t ≡ false
not-true true e = absurd (cc)
not-true false e = refl

true-or-false : (t : Bool) → (t ≡ true) ⊎ (t ≡ false)
true-or-false true = inl refl
true-or-false false = inr refl

some-true : (n : ℕ) → n ≢ 0 → not (n == 0) ≡ true
some-true n ne = ap (λ (t : Bool). not t) (ne_eqb n 0 ne)

first-or : (s t : Bool) → s ≡ true → s || t ≡ true
first-or s t e = ap (λ (u : Bool). u || t) e

second-or : (s t : Bool) → t ≡ true → s || t ≡ true
second-or true t e = refl
second-or false t e = e

-- SUMS
-- what one list doesn't count is counted in another
elsewhere : (f : Forward → ℕ) (ls : List (List Forward)) (c : ℕ) → sum_by f (get_or ls c []) < total f ls →
    (x : ℕ) × (x ≢ c) × (sum_by f (get_or ls x []) ≢ 0)
elsewhere f [] c h = absurd (omega (arith, h))
elsewhere f (l ∷ ls) zero h = let found = anywhere ls (λ z. omega (arith, h, z)) in
    (suc found.0, (λ e. absurd (omega (arith, e))), found.1)
  where
    anywhere : (ls : List (List Forward)) → total f ls ≢ 0 → (x : ℕ) × (sum_by f (get_or ls x []) ≢ 0)
    anywhere [] none = absurd (none refl)
    anywhere (k ∷ ks) some = elim (cases_eq (sum_by f k) 0) as (λ _. (x : ℕ) × (sum_by f (get_or (k ∷ ks) x []) ≢ 0)) [
      | inl z ↦ let r = anywhere ks (λ none. some (omega (arith, z, none))) in (suc r.0, r.1)
      | inr ne ↦ (0, ne)
    ]
elsewhere f (l ∷ ls) (suc c) h = elim (cases_eq (sum_by f l) 0) as (λ _. (x : ℕ) × (x ≢ suc c) × (sum_by f (get_or (l ∷ ls) x []) ≢ 0)) [
  | inl z ↦ let r = elsewhere f ls c (omega (arith, h, z)) in (suc r.0, (λ e. r.1 (omega (arith, e))), r.2)
  | inr ne ↦ (0, (λ e. absurd (omega (arith, e))), ne)
]

-- a list that counts something isn't empty
counts-some : {X : Type 0} (f : X → ℕ) (xs : List X) → sum_by f xs ≢ 0 → length xs ≢ 0
counts-some f [] h = absurd (h refl)
counts-some f (x ∷ xs) h = λ e. absurd (omega (arith, e))

places-length : (c : ℕ) (fs : List Forward) → length (places c fs) ≡ length fs
places-length c [] = refl
places-length c (f ∷ fs) = omega (arith, places-length c fs)

-- NOISE
busy-linked : (s : PairSide) → length s.link ≢ 0 → is_busy s ≡ true
busy-linked s ne = first-or _ s.owed (second-or (not (data_to s == 0)) _ (some-true (length s.link) ne))

busy-data : (s : PairSide) → data_to s ≢ 0 → is_busy s ≡ true
busy-data s ne = first-or _ s.owed (first-or (not (data_to s == 0)) _ (some-true (data_to s) ne))

busy-owed : (s : PairSide) → s.owed ≡ true → is_busy s ≡ true
busy-owed s e = second-or _ s.owed e

module _ (tables : Tables) (list : List RankedPair) (caches : ℕ) (tags : Tags) (b : BlockState) (block : BlockId) (blamed : Blamed tables list)
    (served : Served list tags b) (level : IsLevel b) (whole : IsBlockAmong caches b) (faithful : Faithful tags b) (received : Received caches b) where
  abbrev Found : Type 0
  Found = moving.Found tables b block

  past-held : (c : ℕ) → caches ≤ c → holds_side tables b.home.state (side tags b c) ≡ true
  past-held c le =
      idle-held tables b.home.state (side tags b c)
      (ap (λ (fs : List Forward). places c fs) (get_or_past b.traffic.links c [] (omega (arith, le, whole.links))))
      (none-from caches c is_gets b.traffic.requests whole.requests le)
      (none-from caches c is_getm b.traffic.requests whole.requests le) (none-from caches c is_puts b.traffic.requests whole.requests le)
      (none-from caches c is_putm b.traffic.requests whole.requests le)
      (none-to caches (dir_data c) b.traffic.responses (no-dir caches c le) received.wires.responses)
      (none-to caches (owner_data c) b.traffic.responses (no-owner caches c le) received.wires.responses)
      (none-to caches (excl_data c) b.traffic.responses (no-excl caches c le) received.wires.responses)

  -- either something can be delivered, or all is held
  abbrev AllHeld : Type 0
  AllHeld = (c : ℕ) → holds_side tables b.home.state (side tags b c) ≡ true

  held-below : (n : ℕ) → n ≤ caches → Found ⊎ ((c : ℕ) → c < n → holds_side tables b.home.state (side tags b c) ≡ true)
  held-below zero le = inr (λ c lt. absurd (omega (arith, lt)))
  held-below (suc n) le = elim (held-below n (omega (arith, le))) [
    | inl found ↦ inl found
    | inr below ↦ elim (true-or-false (holds_side tables b.home.state (side tags b n))) [
      | inl held ↦ inr (λ c lt. elim (cases_eq c n) [
        | inl same ↦ subst (λ (k : ℕ). holds_side tables b.home.state (side tags b k) ≡ true) (sym same) held
        | inr ne ↦ below c (omega (arith, lt, ne))
      ])
      | inr free ↦ inl (side-found tables b block caches tags whole faithful n (omega (arith, le)) free)
    ]
  ]

  -- WHERE ALL IS HELD
  module _ (all_held : AllHeld) (home_held : holds_home_data tables (shared tags b) ≡ true) where
    pair-held : (c d : ℕ) → is_held tables (alpha tags b c d) ≡ true
    pair-held c d = both _ _ (both _ _ home_held (all_held c)) (all_held d)

    -- whoever has a forward that names another one is busy
    abbrev Named : ForwardKind → ℕ → Type 0
    Named kind c = (x : ℕ) × (x ≢ c) × (marked kind (side tags b x).link (names_on b x c) ≢ 0)

    named-busy : (kind : ForwardKind) (c x : ℕ) → marked kind (side tags b x).link (names_on b x c) ≢ 0 → is_busy (side tags b x) ≡ true
    named-busy kind c x h = busy-linked (side tags b x) (at (side tags b x).link (names_on b x c) h)
      where
        at : (l : List LinkPlace) (marks : List Bool) → marked kind l marks ≢ 0 → length l ≢ 0
        at [] marks h = absurd (h refl)
        at (p ∷ ps) marks h = λ e. absurd (omega (arith, e))

    named-elsewhere : (kind : ForwardKind) (weight : ForwardKind → ℕ) → Weighs kind weight → (c : ℕ) →
        own_marked kind (side tags b c).link < total (names c weight) b.traffic.links → Named kind c
    named-elsewhere kind weight weighs c lt =
        let x = elsewhere (names c weight) b.traffic.links c (omega (arith, lt, own-sum kind weight weighs c (link b.traffic c))) in
        (x.0, x.1, (λ z. x.2 (omega (arith, z, marks-sum kind weight weighs c x.0 (link b.traffic x.0)))))

    more-than : (m n : ℕ) → not (nat_le m n) ≡ true → n < m
    more-than m n e = elim (cases_lt n m) [
      | inl lt ↦ lt
      | inr le ↦ let is : nat_le m n ≡ true = le-leb m n (omega (arith, le)) in absurd (cc)
    ]

    some-owed : (c : ℕ) → (side tags b c).owed ≡ true → owed_to b c ≢ 0
    some-owed c e z = let none : not (owed_to b c == 0) ≡ false = ap (λ (t : Bool). not t) (eq-eqb (owed_to b c) 0 z) in absurd (cc)

    -- there is such a one, or an Inv-Ack can be delivered
    named-by : (kind : ForwardKind) (c : ℕ) → is_named tables kind (side tags b c) ≡ true → Found ⊎ Named kind c
    named-by FwdGetS c h = inr (named-elsewhere FwdGetS is_fwd_gets weighs-gets c (more-than _ _ h))
    named-by FwdGetM c h = inr (named-elsewhere FwdGetM is_fwd_getm weighs-getm c (more-than _ _ h))
    named-by PutAck c h = absurd (cc)
    named-by Inv c h =
        let last = both-true _ _ h in
        let more = both-true _ _ last.0 in
        let own = both-true _ _ more.0 in
        elim (cases_eq (sum_by (inv_ack c) b.traffic.responses) 0) [
          | inl none ↦
              let some : total (names c is_inv) b.traffic.links ≢ 0 = λ z. some-owed c own.0 (omega (arith, none, z)) in
              inr (named-elsewhere Inv is_inv weighs-inv c (omega (arith, some, same-if _ _ own.1)))
          | inr some ↦ elim (cases_lt c caches) [
            | inl lt ↦ inl (inv_ack-found tables b block caches tags whole faithful c lt some (not-true _ more.1) (not-true _ last.1))
            | inr le ↦ absurd (some (none-to caches (inv_ack c) b.traffic.responses (no-ack caches c (omega (arith, le))) received.wires.responses))
          ]
        ]

    abbrev placed : (c d : ℕ) → c ≢ d → Placed list served.times (alpha tags b c d) c d
    placed c d ne = served.placed c d ne

    -- what a cache with messages blames
    abbrev Blames : ℕ → Type 0
    Blames c = (awaits_home (alpha tags b c (c + 1)) ≡ true) ⊎ ((kind : ForwardKind) × IsBlamed tables list (alpha tags b c (c + 1)) kind)

    blames : (c : ℕ) → is_noisy (side tags b c) ≡ true → Blames c
    blames c noisy =
        let at = placed c (c + 1) (next-other c) in
        blamed.blame (record { pair = alpha tags b c (c + 1); order = at.order }) at.there (pair-held c (c + 1)) noisy

    -- the one that is to blame was served earlier
    earlier : (kind : ForwardKind) (c x : ℕ) (ne : c ≢ x) → IsBlamed tables list (alpha tags b c (c + 1)) kind → is_busy (side tags b c) ≡ true →
        marked kind (side tags b x).link (names_on b x c) ≢ 0 → served.times x < served.times c
    earlier kind c x ne h busy named =
        let at = placed c x ne in
        let after : at.order ≡ After =
        h.earlier busy (record { pair = alpha tags b c x; order = at.order }) at.there
        (record { shared = refl; first = refl; held = pair-held c x; named = named }) in
        subst (λ (o : Order). IsOrder o (served.times c) (served.times x)) after at.so

    not-awaiting : (c : ℕ) → is_busy (side tags b c) ≡ true → awaits_home (alpha tags b c (c + 1)) ≡ true → Found
    not-awaiting c busy h =
        let idle : not (is_busy (side tags b c)) ≡ true = (both-true _ _ (both-true _ _ h).0).0 in
        absurd (cc)

    -- so somebody's message can be delivered
    descend : (most c : ℕ) → is_busy (side tags b c) ≡ true → served.times c < most → Found
    descend zero c busy lt = absurd (omega (arith, lt))
    descend (suc most) c busy lt = elim (blames c (first-or _ _ busy)) [
      | inl awaits ↦ not-awaiting c busy awaits
      | inr h ↦ elim (named-by h.0 c h.1.named) [
        | inl found ↦ found
        | inr x ↦
            descend most x.0 (named-busy h.0 c x.0 x.2)
            (omega (arith, lt, earlier h.0 c x.0 (λ e. x.1 (sym e)) h.1 busy x.2))
      ]
    ]

    from-busy : (c : ℕ) → is_busy (side tags b c) ≡ true → Found
    from-busy c busy = descend (served.times c + 1) c busy (omega arith)

    -- a link that has something
    from-link : (c : ℕ) → length (link b.traffic c) ≢ 0 → Found
    from-link c some =
        from-busy c (busy-linked (side tags b c) (λ z. some (omega (arith, z, places-length c (link b.traffic c)))))

    some-link : (f : Forward → ℕ) → total f b.traffic.links ≢ 0 → Found
    some-link f some =
        let x = elsewhere f b.traffic.links (length b.traffic.links)
        (omega (arith, some, ap (λ (l : List Forward). sum_by f l) (get_or_past b.traffic.links (length b.traffic.links) [] (omega arith)))) in
        from-link x.0 (counts-some f (link b.traffic x.0) x.2)

    -- a home that waits for no Data on its way waits for a Fwd-GetS
    from-home : (c : ℕ) → awaits_home (alpha tags b c (c + 1)) ≡ true → Found
    from-home c h =
        let first = both-true _ _ h in
        let waits : awaited b.home.state ≢ 0 = not-zero _ (not-true _ (both-true _ _ first.0).1) in
        let none : sum_by home_data b.traffic.responses ≡ 0 = same-if _ _ first.1 in
        some-link (of_kind is_fwd_gets) (λ z. waits (omega (arith, level, none, z)))

    pub from-noisy : (c : ℕ) → is_noisy (side tags b c) ≡ true → Found
    from-noisy c noisy = elim (true-or-false (is_busy (side tags b c))) [
      | inl busy ↦ from-busy c busy
      | inr idle ↦ elim (blames c noisy) [
        | inl awaits ↦ from-home c awaits
        | inr h ↦ elim (named-by h.0 c h.1.named) [
          | inl found ↦ found
          | inr x ↦ from-busy x.0 (named-busy h.0 c x.0 x.2)
        ]
      ]
    ]

    -- MESSAGES
    no-home_data : sum_by home_data b.traffic.responses ≡ 0
    no-home_data =
        let at = placed 0 1 (next-other 0) in
        blamed.home_data (record { pair = alpha tags b 0 1; order = at.order }) at.there (pair-held 0 1)

    from-response : (r : Response) (rs : List Response) → r ∷ rs ≡ b.traffic.responses → Found
    from-response (Data by Dir value acks) rs e =
        absurd (omega (
          arith,
          no-home_data,
          ap (λ (xs : List Response). sum_by home_data xs) e,
          sum_by-cons home_data (Data by Dir value acks) rs,
        ))
    from-response (Data Dir (Cache to) value acks) rs e =
        from-busy to.0 (busy-data (side tags b to.0) (λ z. absurd (omega (
          arith,
          z,
          ap (λ (xs : List Response). sum_by (dir_data to.0) xs) e,
          sum_by-cons (dir_data to.0) (Data Dir (Cache to) value acks) rs,
          ap (λ (t : Bool). only t 1) (eq-eqb to.0 to.0 refl),
        ))))
    from-response (Data (Cache by) (Cache to) value acks) rs e =
        from-busy to.0 (busy-data (side tags b to.0) (λ z. absurd (omega (
          arith,
          z,
          ap (λ (xs : List Response). sum_by (owner_data to.0) xs) e,
          sum_by-cons (owner_data to.0) (Data (Cache by) (Cache to) value acks) rs,
          ap (λ (t : Bool). only t 1) (eq-eqb to.0 to.0 refl),
        ))))
    from-response (DataExcl to value) rs e =
        from-busy to.0 (busy-data (side tags b to.0) (λ z. absurd (omega (
          arith,
          z,
          ap (λ (xs : List Response). sum_by (excl_data to.0) xs) e,
          sum_by-cons (excl_data to.0) (DataExcl to value) rs,
          ap (λ (t : Bool). only t 1) (eq-eqb to.0 to.0 refl),
        ))))
    from-response (InvAck by to) rs e =
        from-busy to.0 (busy-owed (side tags b to.0) (some-true (owed_to b to.0) (λ z. absurd (omega (
          arith,
          z,
          ap (λ (xs : List Response). sum_by (inv_ack to.0) xs) e,
          sum_by-cons (inv_ack to.0) (InvAck by to) rs,
          ap (λ (t : Bool). only t 1) (eq-eqb to.0 to.0 refl),
        )))))

    one-kind : (kind : RequestKind) → is_gets kind + is_getm kind + is_puts kind + is_putm kind ≡ 1
    one-kind request.GetS = refl
    one-kind request.GetM = refl
    one-kind request.PutS = refl
    one-kind (request.PutM value) = refl

    counted : (kind : RequestKind → ℕ) (r : Request) (rs : List Request) → r ∷ rs ≡ b.traffic.requests →
        kind r.kind ≤ sum_by (from r.from.0 kind) b.traffic.requests
    counted kind r rs e =
        omega (
          arith,
          ap (λ (xs : List Request). sum_by (from r.from.0 kind) xs) e,
          sum_by-cons (from r.from.0 kind) r rs,
          ap (λ (t : Bool). only t (kind r.kind)) (eq-eqb r.from.0 r.from.0 refl),
        )

    from-request : (r : Request) (rs : List Request) → r ∷ rs ≡ b.traffic.requests → Found
    from-request r rs e =
        from-noisy r.from.0 (second-or (is_busy (side tags b r.from.0)) _ (some-true (requests_of (side tags b r.from.0)) (λ z. absurd (omega (
          arith,
          z,
          one-kind r.kind,
          counted is_gets r rs e,
          counted is_getm r rs e,
          counted is_puts r rs e,
          counted is_putm r rs e,
        )))))

    no-forwards : (l : List Forward) → sum_by (λ f. 1) l ≡ 0 → l ≡ []
    no-forwards [] e = refl
    no-forwards (f ∷ l) e = absurd (omega (arith, e, sum_by-cons {X = Forward} (λ f. 1) f l))

    from-any : (requests : List Request) (responses : List Response) → requests ≡ b.traffic.requests → responses ≡ b.traffic.responses →
        (IsQuiet b.traffic → ⊥) → Found
    from-any (r ∷ rs) responses e h loud = from-request r rs e
    from-any [] (x ∷ xs) e h loud = from-response x xs h
    from-any [] [] e h loud = elim (cases_eq (total (λ f. 1) b.traffic.links) 0) as (λ _. Found) [
      | inr some ↦ some-link (λ f. 1) some
      | inl none ↦ absurd (loud (record {
        requests = sym e;
        links = λ c. no-forwards (link b.traffic c) (omega (arith, none, link-total (λ f. 1) b.traffic c));
        responses = sym h;
      }))
    ]

  -- a block with a message has one that can be delivered
  pub some-found : (IsQuiet b.traffic → ⊥) → Found
  some-found loud = elim (true-or-false (holds_home_data tables (shared tags b))) [
    | inr free ↦ home_data-found tables b block tags free
    | inl home ↦ elim (held-below caches (omega arith)) [
      | inl found ↦ found
      | inr below ↦
          let all : AllHeld = λ c. elim (cases_lt c caches) [ inl lt ↦ below c lt | inr past ↦ past-held c (omega (arith, past)) ] in
          from-any all home b.traffic.requests b.traffic.responses refl refl loud
    ]
  ]
