-- A cell of a line acts: all pairs of its cache see it, or one of them breaks.
use Rattle.std.proofs.Common.{◌≡◌, ◌≢◌, ℕ, ◌+◌, ◌≤◌, List, refl, ap, sym, subst, ◌∙◌, inl, inr, Option, Some, Bool, true, false, not, ◌&&◌, ◌==◌}
use Rattle.std.proofs.Common.{if◌then◌else◌, slice_get, sum_by, nat_le, ℤ, pos, ◌+ℤ◌, eq-eqb, All, ◌⊎◌, None}
use Rattle.std.proofs.lemmas.Bool.{cases_eq, ne_eqb}
use Rattle.base.specs.declared.ids.CacheId.{CacheId}
use Rattle.base.specs.declared.controller.entry.CellEntry.TheVariants.{Act}
use Rattle.network.specs.Traffic.{Traffic, all_sent}
use Rattle.cache_table.specs.declared.state.CacheState.{CacheState}
use Rattle.cache_table.specs.declared.event.CacheEvent.{CacheEvent}
use Rattle.cache_table.specs.declared.actions.CacheAction.{CacheAction}
use Rattle.control.specs.declared.line.Line.{Line}
use Rattle.control.specs.declared.line.LineInput.{LineInput}
use Rattle.control.specs.LineEffect.{line_messages, taken_in, requestor_of, moved_on, line_after, line_completes}
use Rattle.tables.specs.Tables.{Tables}
use Rattle.machine.specs.declared.decision.Origin.{Origin}
use Rattle.machine.specs.declared.decision.Decision.{Decision}
use Rattle.machine.specs.declared.decision.Decision.TheVariants.{AtLine}
use Rattle.machine.specs.Block.{BlockState, IsBlockAmong}
use Rattle.machine.specs.Transition.{carried_out, without, IsThere}
use Rattle.machine.proofs.Counts.{total}
use Rattle.machine.proofs.Fitting.{below_read}
use Rattle.machine.proofs.Whole.{whole-carried_out}
use Rattle.machine.proofs.Seen.{line_of, names, is_inv, inv_ack, ack_number}
use Rattle.machine.proofs.Sound.{line_of-set_same, line_of-set_other}
use Rattle.pairs.specs.declared.pair.Pair.{Pair}
use Rattle.pairs.specs.declared.steps.Party.{Party}
use Rattle.pairs.specs.declared.steps.Party.TheVariants.{Second}
use Rattle.pairs.specs.declared.steps.Rule.{Rule}
use Rattle.pairs.specs.declared.steps.Sight.{Sight}
use Rattle.pairs.specs.declared.steps.Sight.TheVariants.{Unmoved, Lost, Seen}
use Rattle.pairs.specs.Pairs.{fits, is_few, is_few_side}
use Rattle.pairs.specs.declared.side.Lag.{Lag}
use Rattle.pairs.specs.Sights.{sight, settles, looked_at, by_line, besides, inv_acks, answer, answered, line_settled}
use Rattle.closing.proofs.Alpha.{Owing, Tags, Face, face, side, side_of, pair_of, alpha, AreTrue, Faithful, LagIs, Brings, BringsHome, Puts}
use Rattle.closing.proofs.AlphaFits.{alpha-fits}
use Rattle.closing.proofs.Sending.{tag_at, tag-here, tag-elsewhere, party_of, tags_after}
use Rattle.closing.proofs.LineActing.{AreTrueOn, AckCounts, acts-seen, acts-few, acts-true, acts-counted, memory-kept, both-true, same-if}
use Rattle.closing.proofs.LineSettling.{SettlesAs, Plain, Stores, stale_tags}
use Rattle.closing.proofs.Staying.{TakenBy}
use Rattle.closing.proofs.Simulation.{role, Moves, IsBreach, Breaks, SimulatedBy}
use Rattle.machine.proofs.Cases.{by-flag}
use Rattle.machine.proofs.LineValues.{FitsLatest}
use Rattle.base.specs.declared.step.Outcome.TheVariants as outcome
use Rattle.closing.proofs.Parties.{besides_of, same-role, besides-apart, Witness, witness}

-- how many acks are owed to a cache by these wires
abbrev pub owed_on : Traffic → ℕ → ℕ
owed_on u c = total (names c is_inv) u.links + sum_by (inv_ack c) u.responses

-- what is awaited behind a step of a cache, where that one's line has taken in what came, these are the wires and these the lags
pub record AckLaw (b : BlockState) (a : ℕ) (line : Line) (u : Traffic) (lags : ℕ → Lag) : Type 0 where
  pub own : LagIs (lags a) (line.acks +ℤ pos (sum_by (ack_number a) u.responses)) (owed_on u a)
  pub others : (x : ℕ) → x ≢ a → LagIs (lags x) ((line_of b.lines x).acks +ℤ pos (sum_by (ack_number x) u.responses)) (owed_on u x)
  pub announced : (c : ℕ) → sum_by (ack_number c) u.responses ≤ 4294967296

-- what is owed to a cache by these wires, where the lags are these
abbrev pub owing_on : Traffic → (ℕ → Lag) → ℕ → Owing
owing_on u lags c = record { any = not (owed_on u c == 0); lag = lags c }

-- the face of a cache that doesn't act
abbrev pub face_on : Tags → BlockState → Traffic → (ℕ → Lag) → ℕ → Face
face_on tags b u lags x = record { line = line_of b.lines x; fresh = tags.line x; owed = owing_on u lags x }

-- what a cell sends leaves these lags, and each pair of its cache is answered so
pub record Answered (tags : Tags) (b : BlockState) (a : ℕ) (line : Line) (owed : Owing) (to : Option CacheId) (by : Lag) (w u : Traffic) : Type 0 where
  pub lags : ℕ → Lag
  pub owed_after : owed ≡ owing_on u lags a
  pub law : AckLaw b a line u lags
  pub replies : (x : ℕ) → x ≢ a → (f : Face) → answered (not (owed_on u x == 0)) (party_of to a x) by (pair_of f (face tags b x) tags b.home w a x) ≡
      Some (pair_of f (face_on tags b u lags x) tags b.home w a x)

-- or a pair shows that it can't be followed
abbrev pub IsUnanswered : Tags → BlockState → ℕ → Option CacheId → Lag → Traffic → Type 0
IsUnanswered tags b a to by w =
    (x : ℕ) × (x ≢ a) × ((f : Face) → answered true (party_of to a x) by (pair_of f (face tags b x) tags b.home w a x) ≡ None)

-- what is to be known of an input that comes to a line, whose cell acts
pub record Acting (tables : Tables) (tags : Tags) (b : BlockState) (cache : CacheId) (line : Line) (input : LineInput) (next : CacheState)
    (actions : List CacheAction) (from : Origin) (rule : Rule) (e : CacheEvent) (fresh : Bool) (owed : Owing) : Type 0 where
  pub there : Some line ≡ slice_get b.lines cache.0
  pub origin_there : IsThere from b.traffic
  pub taken : TakenBy cache.0 from
  pub right : fresh ≡ true → (taken_in input line).value ≡ b.latest
  pub wires : AreTrueOn tags b.latest (without from b.traffic)
  pub start : (t : Bool) (x : ℕ) → x ≢ cache.0 → sight tables rule t (alpha tags b cache.0 x) ≡
      by_line rule t (party_of (requestor_of input) cache.0 x) (besides (party_of (requestor_of input) cache.0 x)) e (Act next actions)
      (pair_of (record { line = taken_in input line; fresh = fresh; owed = owed }) (face tags b x) tags b.home (without from b.traffic) cache.0 x)
  pub few : (x : ℕ) → x ≢ cache.0 → (party_of (requestor_of input) cache.0 x ≡ Second → ⊥) →
      is_few_side (side_of (face tags b x) tags b.home (without from b.traffic) x) ≡ true
  pub settles : SettlesAs (λ concerned q. settles concerned rule q) (moved_on input next line) fresh owed (line_after input next line)
      (line_completes input next line)
  pub acks : (u : Traffic) → AckCounts cache (requestor_of input) (inv_acks actions) (without from b.traffic) u →
      IsUnanswered tags b cache.0 (requestor_of input) (answer e actions) (without from b.traffic) ⊎
      Answered tags b cache.0 (taken_in input line) owed (requestor_of input) (answer e actions) (without from b.traffic) u

-- faces are the same where their parts are
same_face : (l l2 : Line) (f f2 : Bool) (o o2 : Owing) → l ≡ l2 → f ≡ f2 → o ≡ o2 → let F : Face = record { line = l; fresh = f; owed = o } in F ≡ record
    { line = l2; fresh = f2; owed = o2 }
same_face l l2 f f2 o o2 el ef eo = λ i. record { line = el i; fresh = ef i; owed = eo i }

-- few of each kind, part by part
few-parts : (p : Pair) → is_few p ≡ true → (nat_le p.shared.home_data 1 ≡ true) × (is_few_side p.first ≡ true) × (is_few_side p.second ≡ true)
few-parts p e =
    let sides = both-true _ _ e in
    let shared = both-true _ _ sides.0 in
    (shared.0, shared.1, sides.1)

all-parts : (p : Pair) → nat_le p.shared.home_data 1 ≡ true → is_few_side p.first ≡ true → is_few_side p.second ≡ true → is_few p ≡ true
all-parts p home one two =
    ap (λ (t : Bool). t && is_few_side p.first && is_few_side p.second) home ∙ ap (λ (t : Bool). t && is_few_side p.second) one ∙ two

-- a pair that is few and fits is seen
pub looked-seen : (concerned : Party) (p : Pair) → is_few p ≡ true → fits p ≡ true → looked_at concerned p ≡ Seen concerned p
looked-seen concerned p few fit =
    ap (λ (t : Bool). if t then (if fits p then Seen concerned p else Unmoved) else Lost) few ∙ ap (λ (t : Bool). if t then Seen concerned p else Unmoved) fit

-- one that isn't few is lost
pub looked-lost : (concerned : Party) (p : Pair) → is_few p ≡ false → looked_at concerned p ≡ Lost
looked-lost concerned p few = ap (λ (t : Bool). if t then (if fits p then Seen concerned p else Unmoved) else Lost) few

module _ (tables : Tables) (caches : ℕ) (tags : Tags) (b : BlockState) (cache : CacheId) (line : Line) (input : LineInput) (next : CacheState)
    (actions : List CacheAction) (from : Origin) (rule : Rule) (e : CacheEvent) (fresh : Bool) (owed : Owing) (whole : IsBlockAmong caches b)
    (faithful : Faithful tags b) (h : Acting tables tags b cache line input next actions from rule e fresh owed) where
  abbrev a : ℕ
  a = cache.0

  abbrev to : Option CacheId
  to = requestor_of input

  abbrev w : Traffic
  w = without from b.traffic

  abbrev value : ℕ
  value = (taken_in input line).value

  -- the wires after all actions, and the block
  abbrev u : Traffic
  u = all_sent (line_messages cache value to actions) w

  abbrev decided : Decision
  decided = AtLine cache line input next actions from

  abbrev new : BlockState
  new = (carried_out decided b).block

  abbrev after : Tags
  after = tags_after cache value fresh to actions w tags

  abbrev see : Witness to a
  see = witness to a

  whole-new : IsBlockAmong caches new
  whole-new = whole-carried_out caches decided b whole (below_read b.lines a line h.there, h.origin_there)

  -- a sight that no closed set allows, at the witness
  breaks : (t : Bool) → IsBreach (sight tables rule t (alpha tags b a see.cache)) → Breaks tables tags b
  breaks t breach = (a, see.cache, (λ same. see.apart (sym same)), t, inl (rule, breach))

  -- the actor's face where its cell acts, and behind that
  abbrev own_face : Face
  own_face = record { line = taken_in input line; fresh = fresh; owed = owed }

  abbrev moved_face : Face
  moved_face = record { line = moved_on input next line; fresh = fresh; owed = owed }

  abbrev party : ℕ → Party
  party x = party_of to a x

  -- the counts of acks behind the step
  counted : AckCounts cache to (inv_acks actions) w u
  counted = acts-counted cache value to actions w

  known : AreTrueOn after b.latest u
  known = acts-true cache value fresh to actions tags b.latest w h.wires h.right

  -- WHERE IT CAN'T BE FOLLOWED
  lost : IsUnanswered tags b a to (answer e actions) w → SimulatedBy tables tags b (carried_out decided b)
  lost none =
      let x : ℕ = none.0 in
      inl (
        a,
        x,
        (λ same. none.1 (sym same)),
        true,
        inl (
          rule,
          subst (λ (s : Sight). IsBreach s)
              (sym (h.start true x none.1
              ∙ ap (λ (o : Option Pair). line_settled rule (party x) (besides (party x)) next actions o) (none.2 own_face))) tt,
        ),
      )

  -- WHERE EACH PAIR IS ANSWERED
  module _ (ok : Answered tags b a (taken_in input line) owed to (answer e actions) w u) where
    abbrev guess : ℕ → Bool
    guess x = not (owed_on u x == 0)

    abbrev theirs : ℕ → Face
    theirs x = face_on tags b u ok.lags x

    abbrev acted : ℕ → Pair
    acted x = pair_of moved_face (theirs x) after b.home u a x

    -- what the actions make of a pair
    on-acting : (x : ℕ) → x ≢ a → sight tables rule (guess x) (alpha tags b a x) ≡ settles (besides (party x)) rule (acted x)
    on-acting x ne =
        h.start (guess x) x ne
        ∙ ap (λ (o : Option Pair). line_settled rule (party x) (besides (party x)) next actions o) (ok.replies x ne own_face)
        ∙ ap (λ (q : Pair). settles (besides (party x)) rule (record q { first = record q.first { state = next } }))
        (sym (acts-seen own_face (theirs x) b.home cache value fresh to actions tags w x ne))

    -- the caches that aren't concerned stay few
    others-few : (x : ℕ) → x ≢ a → x ≢ see.cache → is_few_side (side_of (theirs x) after b.home u x) ≡ true
    others-few x ne far =
        ap (λ (q : Pair). is_few_side q.second) (acts-seen own_face (theirs x) b.home cache value fresh to actions tags w x ne)
        ∙ acts-few (party x) fresh actions (pair_of own_face (theirs x) tags b.home w a x) (see.others x ne far)
        ∙ h.few x ne (see.others x ne far)

    -- FINISHING: tags behind the step, and what the faces are with them
    module _ (tags_then : Tags) (mine : Face) (others_then : ℕ → Face) (same_lags : (c : ℕ) → ok.lags c ≡ tags_then.lag c)
        (own_then : face tags_then new a ≡ mine) (other_faces : (x : ℕ) → x ≢ a → face tags_then new x ≡ others_then x) (truths : AreTrue tags_then new)
        (same_acks : (line_after input next line).acks ≡ (taken_in input line).acks)
        (unmet : (carried_out decided b).outcome ≡ outcome.Blank → ⊥) (fits_latest : FitsLatest (carried_out decided b).outcome b.latest new.latest)
        (others : (x : ℕ) → x ≢ a → x ≢ see.cache → is_few_side (side_of (others_then x) tags_then b.home u x) ≡ true)
        (sees : (x : ℕ) → x ≢ a → sight tables rule (guess x) (alpha tags b a x) ≡
        looked_at (besides (party x)) (pair_of mine (others_then x) tags_then b.home u a x)) where
      abbrev ended : ℕ → Pair
      ended x = pair_of mine (others_then x) tags_then b.home u a x

      -- the pair is that of the new block
      is-new : (x : ℕ) → x ≢ a → ended x ≡ alpha tags_then new a x
      is-new x ne =
          ap (λ (f : Face). pair_of f (others_then x) tags_then b.home u a x) (sym own_then)
          ∙ ap (λ (g : Face). pair_of (face tags_then new a) g tags_then b.home u a x) (sym (other_faces x ne))

      -- each fits
      ended-fits : (x : ℕ) → x ≢ a → fits (ended x) ≡ true
      ended-fits x ne =
          ap (λ (p : Pair). fits p) (is-new x ne) ∙ alpha-fits caches tags_then new a x whole-new (λ same. ne (sym same))

      -- what is awaited
      lag-at : (c : ℕ) → LagIs (ok.lags c) ((line_of new.lines c).acks +ℤ pos (sum_by (ack_number c) u.responses)) (owed_on u c)
      lag-at c =
          elim (cases_eq c a) [
            | inl same ↦
                subst (λ (n : ℕ). LagIs (ok.lags n) ((line_of new.lines n).acks +ℤ pos (sum_by (ack_number n) u.responses)) (owed_on u n)) (sym same)
                (subst (λ (k : ℤ). LagIs (ok.lags a) (k +ℤ pos (sum_by (ack_number a) u.responses)) (owed_on u a))
                (sym (ap (λ (l : Line). l.acks) (line_of-set_same b.lines a (line_after input next line) (below_read b.lines a line h.there)) ∙ same_acks))
                ok.law.own)
            | inr ne ↦
                subst (λ (l : Line). LagIs (ok.lags c) (l.acks +ℤ pos (sum_by (ack_number c) u.responses)) (owed_on u c))
                (sym (line_of-set_other b.lines a c (line_after input next line) ne)) (ok.law.others c ne)
          ]

      -- few of each kind, at each cache, if the witness's pair is few
      few-at : is_few (ended see.cache) ≡ true → (c : ℕ) → is_few_side (side tags_then new c) ≡ true
      few-at few c =
          let parts = few-parts (ended see.cache) few in
          elim (cases_eq c a) [
            | inl same ↦ subst (λ (n : ℕ). is_few_side (side tags_then new n) ≡ true) (sym same)
                (ap (λ (p : Pair). is_few_side p.first) (sym (is-new see.cache see.apart)) ∙ parts.1)
            | inr ne ↦ ap (λ (p : Pair). is_few_side p.second) (sym (is-new c ne)) ∙ elim (cases_eq c see.cache) [
              | inl same ↦ subst (λ (n : ℕ). is_few_side (ended n).second ≡ true) (sym same) parts.2
              | inr far ↦ others c ne far
            ]
          ]

      pairs-few : is_few (ended see.cache) ≡ true → (x : ℕ) → x ≢ a → is_few (ended x) ≡ true
      pairs-few few x ne =
          let parts = few-parts (ended see.cache) few in
          let second : is_few_side (ended x).second ≡ true = ap (λ (p : Pair). is_few_side p.second) (is-new x ne) ∙ few-at few x in
          all-parts (ended x) parts.0 parts.1 second

      faithful-then : is_few (ended see.cache) ≡ true → Faithful tags_then new
      faithful-then few = record {
        tags_are_true = truths;
        few = few-at few;
        few_home = (few-parts (ended see.cache) few).0;
        lags = λ c. subst (λ (l : Lag). LagIs l ((line_of new.lines c).acks +ℤ pos (sum_by (ack_number c) u.responses)) (owed_on u c)) (same_lags c) (lag-at c);
        announced = ok.law.announced;
      }

      moves : is_few (ended see.cache) ≡ true → Moves tables tags b new
      moves few = record {
        decided = decided;
        made = refl;
        actor = a;
        acts = h.taken;
        besides = besides_of to a;
        apart = λ e same. besides-apart to a e same;
        rule = rule;
        after = tags_then;
        faithful = faithful-then few;
        sees = λ x ne. (
          guess x,
          sees x ne ∙ looked-seen (besides (party x)) (ended x) (pairs-few few x ne) (ended-fits x ne)
              ∙ ap (λ (p : Party). Seen p (ended x)) (same-role to a x) ∙ ap (λ (p : Pair). Seen (role (besides_of to a) x) p) (is-new x ne),
        );
      }

      finished : SimulatedBy tables tags b (carried_out decided b)
      finished =
          by-flag (is_few (ended see.cache)) (λ few. inr (record { unmet = unmet; fits = fits_latest; moves = inr (inl (moves few)) }))
          (λ many. inl (breaks (guess see.cache) (subst (λ (s : Sight). IsBreach s)
          (sym (sees see.cache see.apart ∙ looked-lost (besides (party see.cache)) (ended see.cache) many)) tt)))

    -- the line of the actor, and of another, behind the step
    line-here : line_of new.lines a ≡ line_after input next line
    line-here = line_of-set_same b.lines a (line_after input next line) (below_read b.lines a line h.there)

    line-elsewhere : (x : ℕ) → x ≢ a → line_of new.lines x ≡ line_of b.lines x
    line-elsewhere x ne = line_of-set_other b.lines a x (line_after input next line) ne

    -- WHERE NOTHING IS STORED
    module _ (p : Plain (λ concerned q. settles concerned rule q) (moved_on input next line) fresh owed (line_after input next line)
        (line_completes input next line)) where
      abbrev plain_tags : Tags
      plain_tags = record after { line = tag_at a fresh tags.line; lag = ok.lags }

      plain-latest : new.latest ≡ b.latest
      plain-latest = p.latest b.latest

      plain-line : (c : ℕ) → tag_at a fresh tags.line c ≡ true → (line_of new.lines c).value ≡ b.latest
      plain-line c known_fresh =
          elim (cases_eq c a) [
            | inl same ↦ subst (λ (n : ℕ). (line_of new.lines n).value ≡ b.latest) (sym same)
                (ap (λ (l : Line). l.value) line-here ∙ p.value
                ∙ h.right (sym (ap (λ (n : ℕ). tag_at a fresh tags.line n) same ∙ tag-here a fresh tags.line) ∙ known_fresh))
            | inr ne ↦ ap (λ (l : Line). l.value) (line-elsewhere c ne)
                ∙ faithful.tags_are_true.line c (sym (tag-elsewhere a fresh tags.line c ne) ∙ known_fresh)
          ]

      plain-truths : AreTrue plain_tags new
      plain-truths = record {
        line = λ c known_fresh. plain-line c known_fresh ∙ sym plain-latest;
        data_to = λ c known_fresh. subst (λ (n : ℕ). All (Brings c n) u.responses) (sym plain-latest) (known.data_to c known_fresh);
        putm = λ c known_fresh. subst (λ (n : ℕ). All (Puts c n) u.requests) (sym plain-latest) (known.putm c known_fresh);
        home_data = λ known_fresh. subst (λ (n : ℕ). All (BringsHome n) u.responses) (sym plain-latest) (known.home_data known_fresh);
        memory = λ known_fresh. faithful.tags_are_true.memory (sym (memory-kept cache value fresh to actions w tags) ∙ known_fresh) ∙ sym plain-latest;
      }

      plain-goes : SimulatedBy tables tags b (carried_out decided b)
      plain-goes =
          finished plain_tags (record { line = line_after input next line; fresh = fresh; owed = owed }) theirs (λ c. refl)
          (same_face _ _ _ _ _ _ line-here (tag-here a fresh tags.line) (sym ok.owed_after))
          (λ x ne. same_face _ _ _ _ _ _ (line-elsewhere x ne) (tag-elsewhere a fresh tags.line x ne) refl) plain-truths p.acks
          (p.unmet cache from) (p.fits cache from b.latest h.right) others-few
          (λ x ne. on-acting x ne ∙ p.sees (besides (party x)) (theirs x) after b.home u a x)

    -- WHERE A STORE COMPLETES
    module _ (p : Stores (λ concerned q. settles concerned rule q) (moved_on input next line) fresh owed (line_after input next line)
        (line_completes input next line)) where
      abbrev stores_tags : Tags
      stores_tags = record (stale_tags a) { lag = ok.lags }

      stores-truths : AreTrue stores_tags new
      stores-truths = record {
        line = λ c known_fresh.
            let same : c ≡ a = same-if c a known_fresh in
            subst (λ (n : ℕ). (line_of new.lines n).value ≡ new.latest) (sym same) (ap (λ (l : Line). l.value) line-here ∙ sym (p.latest b.latest));
        data_to = λ c stale. absurd (cc);
        putm = λ c stale. absurd (cc);
        home_data = λ stale. absurd (cc);
        memory = λ stale. absurd (cc);
      }

      stores-goes : SimulatedBy tables tags b (carried_out decided b)
      stores-goes =
          finished stores_tags (record { line = line_after input next line; fresh = true; owed = owed }) (λ x. record (theirs x) { fresh = false }) (λ c. refl)
          (same_face _ _ _ _ _ _ line-here (eq-eqb a a refl) (sym ok.owed_after))
          (λ x ne. same_face _ _ _ _ _ _ (line-elsewhere x ne) (ne_eqb x a ne) refl) stores-truths p.acks
          (p.unmet cache from) (p.fits cache from b.latest) others-few
          (λ x ne. on-acting x ne ∙ p.sees (besides (party x)) (theirs x) after b.home u a x)

    -- each pair sees it, or one breaks
    answered-goes : SimulatedBy tables tags b (carried_out decided b)
    answered-goes = at h.settles
      where
        at : SettlesAs (λ concerned q. settles concerned rule q) (moved_on input next line) fresh owed (line_after input next line)
            (line_completes input next line) → SimulatedBy tables tags b (carried_out decided b)
        at (inl p) = plain-goes p
        at (inr (inl p)) = stores-goes p
        at (inr (inr p)) =
            inl (breaks (guess see.cache) (subst (λ (s : Sight). IsBreach s)
            (sym (on-acting see.cache see.apart ∙ p.sees (besides (party see.cache)) (theirs see.cache) after b.home u a see.cache)) see.shows))

  -- a cell of the line acts: each pair of its cache sees it, or one breaks
  pub line-goes : SimulatedBy tables tags b (carried_out decided b)
  line-goes = at (h.acks u counted)
    where
      at : IsUnanswered tags b a to (answer e actions) w ⊎ Answered tags b a (taken_in input line) owed to (answer e actions) w u →
          SimulatedBy tables tags b (carried_out decided b)
      at (inl none) = lost none
      at (inr ok) = answered-goes ok
