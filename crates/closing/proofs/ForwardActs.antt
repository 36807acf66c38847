-- The head of a link comes to its line, as the pairs of its cache see it.
use Rattle.std.proofs.Common.{◌≡◌, ◌≢◌, ℕ, List, Option, Some, Bool, true, false, ◌==◌, if◌then◌else◌}
use Rattle.std.proofs.Common.{refl, ap, sym, subst, ◌∙◌, inl, ◌+◌, ◌-◌, ◌&&◌, arith, slice_get}
use Rattle.base.specs.declared.ids.CacheId.{CacheId}
use Rattle.tables.specs.Tables.{Tables}
use Rattle.machine.specs.Block.{BlockState, IsBlockAmong}
use Rattle.machine.specs.declared.decision.Origin.TheVariants as origin
use Rattle.base.specs.declared.controller.entry.CellEntry.TheVariants as table_entry
use Rattle.cache_table.specs.Table as cache_table
use Rattle.cache_table.specs.Table.{CacheEntry}
use Rattle.cache_table.specs.declared.event.CacheEvent.{CacheEvent}
use Rattle.control.specs.declared.line.Line.{Line}
use Rattle.control.specs.declared.line.LineInput.TheVariants as line_input
use Rattle.network.specs.declared.message.Forward.{Forward}
use Rattle.network.specs.Traffic.{link}
use Rattle.machine.proofs.Counts.{only}
use Rattle.machine.proofs.Seen.{line_of}
use Rattle.machine.proofs.Sound.{line_of-there}
use Rattle.pairs.specs.declared.pair.Pair.{Pair}
use Rattle.pairs.specs.declared.steps.Party.{Party}
use Rattle.pairs.specs.declared.steps.Sight.{Sight}
use Rattle.pairs.specs.declared.steps.Party.TheVariants.{Nobody, First, Second, Third}
use Rattle.pairs.specs.declared.steps.Rule.TheVariants.{TakesHead}
use Rattle.pairs.specs.Sights.{sight, by_line, at_line}
use Rattle.closing.proofs.Alpha.{Tags, alpha, Faithful}
use Rattle.closing.proofs.Simulation.{IsBreach, LineBlank, LineActs}
use Rattle.control.specs.declared.line.Line.{Line}
use Rattle.network.specs.Traffic.{Traffic}
use Rattle.machine.proofs.Counts.{total}
use Rattle.machine.proofs.Seen.{names}
use Rattle.pairs.specs.Sights.{inv_acks}
use Rattle.closing.proofs.Alpha.{Face, face, pair_of, owing}
use Rattle.closing.proofs.LineGoes.{line-goes}
use Rattle.std.proofs.Common.{IsSome, map, remove, [], ◌∷◌, nat_le, length}
use Rattle.std.proofs.lemmas.Bool.{le-leb, leb-true}
use Rattle.network.specs.declared.message.ForwardKind.{ForwardKind}
use Rattle.network.specs.declared.message.ForwardKind.TheVariants.{FwdGetS, FwdGetM, Inv, PutAck}
use Rattle.network.specs.Traffic.{head_taken}
use Rattle.control.specs.LineEvents.{forward_event}
use Rattle.control.specs.LineEffect.{forward_requestor}
use Rattle.machine.proofs.Counts.{link-there, head_taken-total, link-taken, link-taken_other}
use Rattle.machine.proofs.Seen.{is_fwd_gets, is_fwd_getm}
use Rattle.pairs.specs.declared.link.LinkPlace.{LinkPlace}
use Rattle.pairs.specs.declared.side.PairSide.{PairSide}
use Rattle.pairs.specs.Pairs.{is_few_side}
use Rattle.pairs.specs.Sights.{requestor, besides, unnamed, unnamed_side, headless, head_seen}
use Rattle.closing.proofs.Alpha.{side_of}
use Rattle.closing.proofs.AlphaFits.{not-both}
use Rattle.closing.proofs.Sides.{with_forwards, same_forwards, same_pair}
use Rattle.closing.proofs.Sending.{party_of}
use Rattle.closing.proofs.LineActing.{both-true}
use Rattle.closing.proofs.LineSettling.{message-settles}
use Rattle.closing.proofs.Parties.{Witness, witness}
use Rattle.closing.proofs.ForwardAnswers.{forward-answers}

-- a link that has a head begins with it
begins : (l : List Forward) (m : Forward) → Some m ≡ slice_get l 0 → l ≡ m ∷ remove l 0
begins [] m e = absurd (cc)
begins (f ∷ l) m e = let same : m ≡ f = cc in ap (λ (x : Forward). x ∷ l) (sym same)

-- one forward less names a cache, or doesn't
abbrev less : Bool → ForwardKind → PairSide → PairSide
less true kind s = unnamed_side kind s
less false kind s = s

-- a side without a forward, where that names the cache or not
less-side : (t : Bool) (kind : ForwardKind) (s : PairSide) (gets getm : ℕ) (link : List LinkPlace) → gets + only t (is_fwd_gets kind) ≡ s.fwd_gets →
    getm + only t (is_fwd_getm kind) ≡ s.fwd_getm → with_forwards s gets getm link ≡ less t kind (record s { link = link })
less-side true FwdGetS s gets getm link g m = same_forwards s _ _ _ _ _ _ (omega (arith, g)) (omega (arith, m)) refl
less-side true FwdGetM s gets getm link g m = same_forwards s _ _ _ _ _ _ (omega (arith, g)) (omega (arith, m)) refl
less-side true Inv s gets getm link g m = same_forwards s _ _ _ _ _ _ (omega (arith, g)) (omega (arith, m)) refl
less-side true PutAck s gets getm link g m = same_forwards s _ _ _ _ _ _ (omega (arith, g)) (omega (arith, m)) refl
less-side false kind s gets getm link g m = same_forwards s _ _ _ _ _ _ (omega (arith, g)) (omega (arith, m)) refl

-- it stays few
fewer : (n : ℕ) → nat_le n 2 ≡ true → nat_le (n - 1) 2 ≡ true
fewer n e = le-leb (n - 1) 2 (omega (arith, leb-true n 2 e))

less-few : (t : Bool) (kind : ForwardKind) (s : PairSide) → is_few_side s ≡ true → is_few_side (less t kind s) ≡ true
less-few false kind s few = few
less-few true Inv s few = few
less-few true PutAck s few = few
less-few true FwdGetS s few =
    let link = both-true _ _ few in
    let getm = both-true _ _ link.0 in
    let gets = both-true _ _ getm.0 in
    ap (λ (t : Bool). t && nat_le (s.fwd_gets - 1) 2 && nat_le s.fwd_getm 2 && nat_le (length s.link) 2) gets.0
    ∙ ap (λ (t : Bool). t && nat_le s.fwd_getm 2 && nat_le (length s.link) 2) (fewer s.fwd_gets gets.1)
    ∙ ap (λ (t : Bool). t && nat_le (length s.link) 2) getm.1 ∙ link.1
less-few true FwdGetM s few =
    let link = both-true _ _ few in
    let getm = both-true _ _ link.0 in
    ap (λ (t : Bool). t && nat_le (s.fwd_getm - 1) 2 && nat_le (length s.link) 2) getm.0
    ∙ ap (λ (t : Bool). t && nat_le (length s.link) 2) (fewer s.fwd_getm getm.1) ∙ link.1

-- the requestor of a head is the party that it names
abbrev by-flags : (kind : ForwardKind) (s t : Bool) (r : CacheId) → Party
by-flags PutAck s t r = Nobody
by-flags kind s t r = if s then First else (if t then Second else Third)

same-flags : (kind : ForwardKind) (s t : Bool) (r : CacheId) → requestor (record { kind = kind; own = s }) t ≡ by-flags kind s t r
same-flags PutAck s t r = refl
same-flags FwdGetS true t r = refl
same-flags FwdGetS false true r = refl
same-flags FwdGetS false false r = refl
same-flags FwdGetM true t r = refl
same-flags FwdGetM false true r = refl
same-flags FwdGetM false false r = refl
same-flags Inv true t r = refl
same-flags Inv false true r = refl
same-flags Inv false false r = refl

flags-party : (kind : ForwardKind) (r : CacheId) (a x : ℕ) → by-flags kind (r.0 == a) (r.0 == x) r ≡ party_of (forward_requestor kind r) a x
flags-party PutAck r a x = refl
flags-party FwdGetS r a x = refl
flags-party FwdGetM r a x = refl
flags-party Inv r a x = refl

same-party : (kind : ForwardKind) (r : CacheId) (a x : ℕ) →
    requestor (record { kind = kind; own = r.0 == a }) (r.0 == x) ≡ party_of (forward_requestor kind r) a x
same-party kind r a x = same-flags kind (r.0 == a) (r.0 == x) r ∙ flags-party kind r a x

-- whom a head names has one forward less, on either side of the pair
both-less : (kind : ForwardKind) (s t : Bool) (p : Pair) → s && t ≡ false →
    unnamed (requestor (record { kind = kind; own = s }) t) kind p ≡ record p { first = less s kind p.first; second = less t kind p.second }
both-less FwdGetS true true p e = absurd (cc)
both-less FwdGetS true false p e = refl
both-less FwdGetS false true p e = refl
both-less FwdGetS false false p e = refl
both-less FwdGetM true true p e = absurd (cc)
both-less FwdGetM true false p e = refl
both-less FwdGetM false true p e = refl
both-less FwdGetM false false p e = refl
both-less Inv true true p e = absurd (cc)
both-less Inv true false p e = refl
both-less Inv false true p e = refl
both-less Inv false false p e = refl
both-less PutAck true true p e = absurd (cc)
both-less PutAck true false p e = refl
both-less PutAck false true p e = refl
both-less PutAck false false p e = refl

module _ (tables : Tables) (caches : ℕ) (tags : Tags) (b : BlockState) (cache : CacheId) (f : Forward) (whole : IsBlockAmong caches b)
    (faithful : Faithful tags b) (e : Some f ≡ slice_get (link b.traffic cache.0) 0) where
  abbrev a : ℕ
  a = cache.0

  abbrev w : Traffic
  w = head_taken a b.traffic

  abbrev to : Option CacheId
  to = forward_requestor f.kind f.requestor

  abbrev rest : List Forward
  rest = remove (link b.traffic a) 0

  abbrev event_of : CacheEvent
  event_of = forward_event f.kind

  abbrev place : ℕ → Forward → LinkPlace
  place c m = record { kind = m.kind; own = m.requestor.0 == c }

  whole-link : link b.traffic a ≡ f ∷ rest
  whole-link = begins (link b.traffic a) f e

  link-behind : link w a ≡ rest
  link-behind = link-taken b.traffic a (link-there a f b.traffic e)

  -- a face of the actor with this line
  abbrev mine : Line → Face
  mine l = record { line = l; fresh = tags.line a; owed = owing tags b a }

  -- a side of the actor and one of another, without the head
  own-side : (g : Face) → side_of g tags b.home w a ≡
      less (f.requestor.0 == a) f.kind (record (side_of g tags b.home b.traffic a) { link = map (place a) rest })
  own-side g =
      ap (λ (l : List Forward). with_forwards (side_of g tags b.home b.traffic a) (total (names a is_fwd_gets) w.links)
      (total (names a is_fwd_getm) w.links) (map (place a) l)) link-behind
      ∙ less-side (f.requestor.0 == a) f.kind (side_of g tags b.home b.traffic a) _ _ (map (place a) rest)
      (head_taken-total (names a is_fwd_gets) b.traffic a f e) (head_taken-total (names a is_fwd_getm) b.traffic a f e)

  other-side : (g : Face) (x : ℕ) → x ≢ a → side_of g tags b.home w x ≡ less (f.requestor.0 == x) f.kind (side_of g tags b.home b.traffic x)
  other-side g x ne =
      ap (λ (l : List Forward). with_forwards (side_of g tags b.home b.traffic x) (total (names x is_fwd_gets) w.links)
      (total (names x is_fwd_getm) w.links) (map (place x) l)) (link-taken_other b.traffic a x ne)
      ∙ less-side (f.requestor.0 == x) f.kind (side_of g tags b.home b.traffic x) _ _ (map (place x) (link b.traffic x))
      (head_taken-total (names x is_fwd_gets) b.traffic a f e) (head_taken-total (names x is_fwd_getm) b.traffic a f e)

  -- the pair without the head
  behind-head : (g h : Face) (x : ℕ) → x ≢ a →
      unnamed (requestor (place a f) (f.requestor.0 == x)) f.kind
      (headless (map (place a) rest) (map (λ m. m.requestor.0 == x) rest) (pair_of g h tags b.home b.traffic a x)) ≡ pair_of g h tags b.home w a x
  behind-head g h x ne =
      both-less f.kind (f.requestor.0 == a) (f.requestor.0 == x) _ (not-both f.requestor.0 a x (λ same. ne (sym same)))
      ∙ same_pair _ _ _ _ _ _ _ _ _ _ refl (sym (own-side g)) (sym (other-side h x ne)) (ap (map (λ m. m.requestor.0 == x)) (sym link-behind))
      (ap (map (λ m. m.requestor.0 == a)) (sym (link-taken_other b.traffic a x ne)))

  -- the sight of a head begins at the pair without it
  head-start : (line : Line) → line_of b.lines a ≡ line → (y : CacheEntry) → cache_table.cell tables.cache line.state event_of ≡ y → (t : Bool) (x : ℕ) →
      x ≢ a → sight tables TakesHead t (alpha tags b a x) ≡
      by_line TakesHead t (party_of to a x) (besides (party_of to a x)) event_of y (pair_of (mine line) (face tags b x) tags b.home w a x)
  head-start line same y cell t x ne =
      ap (λ (l : List Forward). head_seen tables t (map (place a) l) (map (λ m. m.requestor.0 == x) l) (alpha tags b a x)) whole-link
      ∙ ap (λ (l : Line). at_line tables TakesHead t (requestor (place a f) (f.requestor.0 == x)) (besides (requestor (place a f) (f.requestor.0 == x)))
      event_of
      (unnamed (requestor (place a f) (f.requestor.0 == x)) f.kind
      (headless (map (place a) rest) (map (λ m. m.requestor.0 == x) rest) (pair_of (mine l) (face tags b x) tags b.home b.traffic a x)))) same
      ∙ ap (λ (q : Pair). at_line tables TakesHead t (requestor (place a f) (f.requestor.0 == x)) (besides (requestor (place a f) (f.requestor.0 == x)))
      event_of q)
      (behind-head (mine line) (face tags b x) x ne)
      ∙ ap (λ (y : CacheEntry). by_line TakesHead t (requestor (place a f) (f.requestor.0 == x)) (besides (requestor (place a f) (f.requestor.0 == x)))
      event_of y
      (pair_of (mine line) (face tags b x) tags b.home w a x)) cell
      ∙ ap (λ (p : Party). by_line TakesHead t p (besides p) event_of y (pair_of (mine line) (face tags b x) tags b.home w a x))
      (same-party f.kind f.requestor a x)

  pub forward-blank : LineBlank tables tags b cache (line_input.Forward f)
  forward-blank line there blank =
      let see : Witness to a = witness to a in (
        a,
        see.cache,
        (λ same. see.apart (sym same)),
        true,
        inl (
          TakesHead,
          subst (λ (s : Sight). IsBreach s)
              (sym (head-start line (line_of-there b.lines a line there) table_entry.Blank blank true see.cache see.apart)) see.shows,
        ),
      )

  there-still : IsSome (slice_get (link b.traffic a) 0)
  there-still = subst (λ (o : Option Forward). IsSome o) e refl

  pub forward-acted : LineActs tables tags b cache (line_input.Forward f) (origin.Head cache)
  forward-acted line next actions there acts =
      line-goes tables caches tags b cache line (line_input.Forward f) next actions (origin.Head cache) TakesHead event_of (tags.line a)
      (owing tags b a) whole faithful (record {
        there = there;
        origin_there = there-still;
        taken = refl;
        right = λ known. ap (λ (l : Line). l.value) (sym same) ∙ faithful.tags_are_true.line a known;
        wires = record {
          data_to = faithful.tags_are_true.data_to;
          putm = faithful.tags_are_true.putm;
          home_data = faithful.tags_are_true.home_data;
        };
        start = λ t x ne. head-start line same (table_entry.Act next actions) acts t x ne;
        few = λ x ne far. ap (λ (s : PairSide). is_few_side s) (other-side (face tags b x) x ne)
            ∙ less-few (f.requestor.0 == x) f.kind (side_of (face tags b x) tags b.home b.traffic x) (faithful.few x);
        settles = message-settles (record line { state = next }) (tags.line a) (owing tags b a);
        acks = λ u counts. forward-answers tags b cache f line (inv_acks actions) faithful e (ap (λ (l : Line). l.acks) (sym same)) u counts;
      })
    where
      same : line_of b.lines a ≡ line
      same = line_of-there b.lines a line there
