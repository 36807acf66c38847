-- What the Inv-Acks in answer to a forward make of what its requestor awaits beside what is owed to it.
use Rattle.std.proofs.Common.{◌≡◌, ◌≢◌, ℕ, ◌+◌, Option, Some, None, Bool, true, false, not, ◌==◌, ◌⊎◌}
use Rattle.std.proofs.Common.{refl, ap, sym, subst, ◌∙◌, inl, inr, arith, slice_get, sum_by, ℤ, pos, ◌+ℤ◌}
use Rattle.std.proofs.lemmas.Bool.{cases_eq, ne_eqb}
use Rattle.std.proofs.Common.{eq-eqb}
use Rattle.base.specs.declared.ids.CacheId.{CacheId}
use Rattle.machine.specs.Block.{BlockState}
use Rattle.control.specs.declared.line.Line.{Line}
use Rattle.control.specs.LineEvents.{forward_event}
use Rattle.control.specs.LineEffect.{forward_requestor}
use Rattle.network.specs.declared.message.Forward.{Forward}
use Rattle.network.specs.declared.message.ForwardKind.{ForwardKind}
use Rattle.network.specs.declared.message.ForwardKind.TheVariants.{FwdGetS, FwdGetM, Inv, PutAck}
use Rattle.network.specs.Traffic.{Traffic, link, head_taken}
use Rattle.machine.proofs.Counts.{total, only, only-nothing, head_taken-total}
use Rattle.machine.proofs.Seen.{line_of, names, is_inv, is_owner, ack_number}
use Rattle.pairs.specs.declared.side.Lag.{Lag}
use Rattle.pairs.specs.declared.side.Lag.TheVariants.{Behind, Level, Ahead}
use Rattle.pairs.specs.declared.pair.Pair.{Pair}
use Rattle.pairs.specs.declared.steps.Party.{Party}
use Rattle.pairs.specs.declared.steps.Party.TheVariants.{First}
use Rattle.pairs.specs.Sights.{answered, moved_by, second_lagged, shifted, still_owed}
use Rattle.closing.proofs.Alpha.{Tags, Face, face, owing, pair_of, owed_to, Faithful, LagIs}
use Rattle.closing.proofs.Lags.{same-lag, Shifts, answer-shifts, lag-answered, still-so}
use Rattle.closing.proofs.Sending.{party_of, party-first, party-second, party-third, lag_at, lag-here, lag-elsewhere}
use Rattle.closing.proofs.LineActing.{AckCounts}
use Rattle.closing.proofs.LineGoes.{owed_on, owing_on, face_on, Answered, IsUnanswered}
use Rattle.closing.proofs.AskActs.{plain-replies, still-answered, still-law}

module _ (tags : Tags) (b : BlockState) (a : ℕ) (line : Line) (w u : Traffic) (faithful : Faithful tags b) (acks : line.acks ≡ (line_of b.lines a).acks)
    (announced : (c : ℕ) → sum_by (ack_number c) u.responses ≡ sum_by (ack_number c) b.traffic.responses) where
  -- nobody's owing changes
  same-owing : (c : ℕ) → owed_on u c ≡ owed_to b c → owing tags b c ≡ owing_on u tags.lag c
  same-owing c same = ap (λ (n : ℕ). record { any = not (n == 0); lag = tags.lag c }) (sym same)

  -- WHERE THE CACHE ITSELF IS THE REQUESTOR
  module _ (r : CacheId) (here : r.0 ≡ a) where
    own-answered : (by : Lag) (t : Bool) (x : ℕ) (p : Pair) → answered t (party_of (Some r) a x) by p ≡ answered t First by p
    own-answered by t x p = ap (λ (party : Party). answered t party by p) (party-first r a x here)

    own-rightly : ((c : ℕ) → owed_on u c ≡ owed_to b c) → Answered tags b a line (owing tags b a) (Some r) Level w u
    own-rightly same = record {
      lags = tags.lag;
      owed_after = same-owing a (same a);
      law = still-law tags b a line u faithful acks same announced;
      replies = λ x ne f. own-answered Level (not (owed_on u x == 0)) x (pair_of f (face tags b x) tags b.home w a x)
          ∙ plain-replies tags b a Level w u x f (same x);
    }

    own-wrongly : (by : Lag) → (by ≡ Level → ⊥) → (t : Bool) (p : Pair) → answered t First by p ≡ None
    own-wrongly Behind ne t p = refl
    own-wrongly Level ne t p = absurd (ne refl)
    own-wrongly Ahead ne t p = refl

    own-unanswered : (by : Lag) → (by ≡ Level → ⊥) → IsUnanswered tags b a (Some r) by w
    own-unanswered by ne = (a + 1, (λ same. absurd (omega (arith, same))), (λ f. own-answered by true (a + 1) _ ∙ own-wrongly by ne true _))

    own-decided : (by : Lag) (invs sent : ℕ) → Shifts by invs sent →
        ((c : ℕ) → owed_on u c + only (r.0 == c) invs ≡ owed_to b c + only (r.0 == c) sent) →
        IsUnanswered tags b a (Some r) by w ⊎ Answered tags b a line (owing tags b a) (Some r) by w u
    own-decided Behind invs sent is counts = inl (own-unanswered Behind (λ e. absurd (cc)))
    own-decided Ahead invs sent is counts = inl (own-unanswered Ahead (λ e. absurd (cc)))
    own-decided Level invs sent is counts = inr (own-rightly (λ c. omega (arith, counts c, ap (λ n. only (r.0 == c) n) is)))

  -- WHERE ANOTHER CACHE IS
  module _ (r : CacheId) (apart : r.0 ≢ a) (by : Lag) (invs sent : ℕ) (is : Shifts by invs sent)
      (counts : (c : ℕ) → owed_on u c + only (r.0 == c) invs ≡ owed_to b c + only (r.0 == c) sent) where
    counts-there : owed_on u r.0 + invs ≡ owed_to b r.0 + sent
    counts-there =
        omega (
          arith,
          counts r.0,
          ap (λ (t : Bool). only t invs) (eq-eqb r.0 r.0 refl),
          ap (λ (t : Bool). only t sent) (eq-eqb r.0 r.0 refl),
        )

    counts-else : (c : ℕ) → c ≢ r.0 → owed_on u c ≡ owed_to b c
    counts-else c ne =
        let no : (r.0 == c) ≡ false = ne_eqb r.0 c (λ same. ne (sym same)) in
        omega (arith, counts c, ap (λ (t : Bool). only t invs) no, ap (λ (t : Bool). only t sent) no)

    other-unanswered : shifted by (tags.lag r.0) ≡ None → IsUnanswered tags b a (Some r) by w
    other-unanswered none = (
      r.0,
      apart,
      (λ f. let p : Pair = pair_of f (face tags b r.0) tags b.home w a r.0 in
          ap (λ (party : Party). answered true party by p) (party-second r a r.0 apart refl)
          ∙ ap (λ (o : Option Lag). second_lagged (still_owed true by p.second.owed) o p) none),
    )

    module _ (l : Lag) (some : shifted by (tags.lag r.0) ≡ Some l) where
      abbrev lags : ℕ → Lag
      lags = lag_at r.0 l tags.lag

      lag-there : LagIs (lags r.0) ((line_of b.lines r.0).acks +ℤ pos (sum_by (ack_number r.0) u.responses)) (owed_on u r.0)
      lag-there =
          subst (λ (k : Lag). LagIs k ((line_of b.lines r.0).acks +ℤ pos (sum_by (ack_number r.0) u.responses)) (owed_on u r.0))
          (sym (lag-here r.0 l tags.lag))
          (lag-answered by (tags.lag r.0) l _ invs sent (owed_to b r.0) (owed_on u r.0) some is counts-there
          (same-lag (tags.lag r.0) _ _ _ _ _ _ refl (sym (announced r.0)) refl (faithful.lags r.0)))

      lag-else : (c : ℕ) (k : ℤ) → c ≢ r.0 → k ≡ (line_of b.lines c).acks →
          LagIs (lags c) (k +ℤ pos (sum_by (ack_number c) u.responses)) (owed_on u c)
      lag-else c k ne is_so =
          subst (λ (m : Lag). LagIs m (k +ℤ pos (sum_by (ack_number c) u.responses)) (owed_on u c)) (sym (lag-elsewhere r.0 l tags.lag c ne))
          (same-lag (tags.lag c) _ _ _ _ _ _ (sym is_so) (sym (announced c)) (sym (counts-else c ne)) (faithful.lags c))

      own-owing : owing tags b a ≡ owing_on u lags a
      own-owing = λ i. record {
        any = not (sym (counts-else a (λ same. apart (sym same))) i == 0);
        lag = sym (lag-elsewhere r.0 l tags.lag a (λ same. apart (sym same))) i;
      }

      reply-there : (f : Face) → answered (not (owed_on u r.0 == 0)) (party_of (Some r) a r.0) by (pair_of f (face tags b r.0) tags b.home w a r.0) ≡
          Some (pair_of f (face_on tags b u lags r.0) tags b.home w a r.0)
      reply-there f =
          let p : Pair = pair_of f (face tags b r.0) tags b.home w a r.0 in
          ap (λ (party : Party). answered (not (owed_on u r.0 == 0)) party by p) (party-second r a r.0 apart refl)
          ∙ ap (λ (o : Option Lag). second_lagged (still_owed (not (owed_on u r.0 == 0)) by p.second.owed) o p) some
          ∙ ap (λ (t : Bool). second_lagged t (Some l) p) (still-so by invs sent (owed_to b r.0) (owed_on u r.0) is counts-there)
          ∙ ap (λ (k : Lag). second_lagged (not (owed_on u r.0 == 0)) (Some k) p) (sym (lag-here r.0 l tags.lag))

      reply-else : (x : ℕ) → x ≢ a → x ≢ r.0 → (f : Face) →
          answered (not (owed_on u x == 0)) (party_of (Some r) a x) by (pair_of f (face tags b x) tags b.home w a x) ≡
          Some (pair_of f (face_on tags b u lags x) tags b.home w a x)
      reply-else x ne far f =
          ap (λ (party : Party). answered (not (owed_on u x == 0)) party by (pair_of f (face tags b x) tags b.home w a x))
          (party-third r a x apart (λ same. far (sym same)))
          ∙ (λ i. Some (pair_of f (record {
            line = line_of b.lines x;
            fresh = tags.line x;
            owed = record { any = not (sym (counts-else x far) i == 0); lag = sym (lag-elsewhere r.0 l tags.lag x far) i };
          }) tags b.home w a x))

      other-answered : Answered tags b a line (owing tags b a) (Some r) by w u
      other-answered = record {
        lags = lags;
        owed_after = own-owing;
        law = record {
          own = lag-else a line.acks (λ same. apart (sym same)) acks;
          others = λ x ne. elim (cases_eq x r.0) [
            | inl same ↦ subst (λ (n : ℕ). LagIs (lags n) ((line_of b.lines n).acks +ℤ pos (sum_by (ack_number n) u.responses)) (owed_on u n)) (sym same)
                lag-there
            | inr far ↦ lag-else x (line_of b.lines x).acks far refl
          ];
          announced = λ c. omega (arith, announced c, faithful.announced c);
        };
        replies = λ x ne f. elim (cases_eq x r.0) [
          | inl same ↦ subst (λ (n : ℕ). answered (not (owed_on u n == 0)) (party_of (Some r) a n) by (pair_of f (face tags b n) tags b.home w a n) ≡
              Some (pair_of f (face_on tags b u lags n) tags b.home w a n)) (sym same) (reply-there f)
          | inr far ↦ reply-else x ne far f
        ];
      }

    other-decided : (o : Option Lag) → shifted by (tags.lag r.0) ≡ o →
        IsUnanswered tags b a (Some r) by w ⊎ Answered tags b a line (owing tags b a) (Some r) by w u
    other-decided None none = inl (other-unanswered none)
    other-decided (Some l) some = inr (other-answered l some)

  requested : (r : CacheId) (by : Lag) (invs sent : ℕ) → Shifts by invs sent →
      ((c : ℕ) → owed_on u c + only (r.0 == c) invs ≡ owed_to b c + only (r.0 == c) sent) →
      IsUnanswered tags b a (Some r) by w ⊎ Answered tags b a line (owing tags b a) (Some r) by w u
  requested r by invs sent is counts =
      elim (cases_eq r.0 a) [
        | inl here ↦ own-decided r here by invs sent is counts
        | inr apart ↦ other-decided r apart by invs sent is counts (shifted by (tags.lag r.0)) refl
      ]

-- the head of a link is answered so, or that can't be followed
pub forward-answers : (tags : Tags) (b : BlockState) (cache : CacheId) (f : Forward) (line : Line) (sent : ℕ) → Faithful tags b →
    Some f ≡ slice_get (link b.traffic cache.0) 0 → line.acks ≡ (line_of b.lines cache.0).acks → (u : Traffic) →
    AckCounts cache (forward_requestor f.kind f.requestor) sent (head_taken cache.0 b.traffic) u →
    IsUnanswered tags b cache.0 (forward_requestor f.kind f.requestor) (moved_by (forward_event f.kind) sent) (head_taken cache.0 b.traffic) ⊎
    Answered tags b cache.0 line (owing tags b cache.0) (forward_requestor f.kind f.requestor) (moved_by (forward_event f.kind) sent)
    (head_taken cache.0 b.traffic) u
forward-answers tags b cache f line sent faithful e acks u counts =
    by-kind f.kind counts
    (λ c. omega (arith, ap (λ ls. total (names c is_inv) ls) counts.links, counts.acks c, head_taken-total (names c is_inv) b.traffic cache.0 f e))
  where
    w : Traffic
    w = head_taken cache.0 b.traffic

    by-kind : (kind : ForwardKind) → AckCounts cache (forward_requestor kind f.requestor) sent w u →
        ((c : ℕ) → owed_on u c + only (f.requestor.0 == c) (is_inv kind) ≡ owed_to b c + only (is_owner (forward_requestor kind f.requestor) c) sent) →
        IsUnanswered tags b cache.0 (forward_requestor kind f.requestor) (moved_by (forward_event kind) sent) w ⊎
        Answered tags b cache.0 line (owing tags b cache.0) (forward_requestor kind f.requestor) (moved_by (forward_event kind) sent) w u
    by-kind PutAck counts owes =
        inr (still-answered tags b cache.0 line _ w u faithful acks (λ c. omega (arith, owes c, only-nothing (f.requestor.0 == c))) counts.numbers)
    by-kind FwdGetS counts owes =
        requested tags b cache.0 line w u faithful acks counts.numbers f.requestor _ 0 sent (answer-shifts FwdGetS sent (λ no. absurd (cc))) owes
    by-kind FwdGetM counts owes =
        requested tags b cache.0 line w u faithful acks counts.numbers f.requestor _ 0 sent (answer-shifts FwdGetM sent (λ no. absurd (cc))) owes
    by-kind Inv counts owes =
        requested tags b cache.0 line w u faithful acks counts.numbers f.requestor _ 1 sent (answer-shifts Inv sent (λ no. absurd (cc))) owes
