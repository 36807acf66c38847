-- A request taken off the wires, as the pairs of its sender see it.
use Rattle.std.proofs.Common.{◌≡◌, ◌≢◌, ℕ, ◌+◌, ◌-◌, refl, ap, sym, ◌∙◌, inl, inr, Some, None, Bool, true, false, ◌==◌, arith}
use Rattle.std.proofs.Common.{sum_by, eq-eqb, ◌||◌, slice_get, remove, if◌then◌else◌, not, ◌&&◌, ◌⊎◌}
use Rattle.std.proofs.lemmas.Bool.{ne_eqb}
use Rattle.network.specs.declared.message.Request.{Request}
use Rattle.network.specs.declared.message.RequestKind.{RequestKind}
use Rattle.network.specs.declared.message.RequestKind.TheVariants as request
use Rattle.network.specs.Traffic.{request_taken}
use Rattle.directory_table.specs.declared.event.DirectoryEvent.{DirectoryEvent}
use Rattle.directory_table.specs.declared.event.DirectoryEvent.TheVariants as home_event
use Rattle.tables.specs.Tables.{Tables}
use Rattle.machine.specs.Block.{BlockState}
use Rattle.machine.proofs.Counts.{only, sum_by-remove}
use Rattle.machine.proofs.Seen.{from, is_gets, is_getm, is_puts, is_putm}
use Rattle.pairs.specs.declared.side.PairSide.{PairSide}
use Rattle.pairs.specs.declared.pair.Pair.{Pair}
use Rattle.pairs.specs.Pairs.{trimmed}
use Rattle.pairs.specs.declared.steps.Sight.{Sight}
use Rattle.pairs.specs.declared.steps.Sight.TheVariants.{Unmoved}
use Rattle.pairs.specs.declared.steps.Rule.TheVariants.{SentGetS, SentGetM, SentPutS, SentPutM}
use Rattle.pairs.specs.Sights.{sight, where_some, at_home, is_owner}
use Rattle.closing.proofs.Alpha.{Tags, AreTrue, Puts, alpha, side, data_count}
use Rattle.closing.proofs.Sides.{same_requests}
use Rattle.closing.proofs.Sending.{or-false}
use Rattle.closing.proofs.LineActing.{all-removed}
use Rattle.closing.proofs.Taking.{all-there}
use Rattle.closing.proofs.HomeSending.{at}

-- LISTS
-- what holds of all holds of those that are left, and of the one that is taken
-- TAGS
or-twice : (t z : Bool) → (t || z) || z ≡ t || z
or-twice true z = refl
or-twice false true = refl
or-twice false false = refl

-- a tag of so many PutM is one of those that are left
pub fresh-left : (t : Bool) (n left m : ℕ) → m ≡ left → (n ≡ left) ⊎ (n ≢ 0) → (t || (n == 0)) || (m == 0) ≡ t || (left == 0)
fresh-left t n left m e (inl same) = (λ i. (t || (same i == 0)) || (e i == 0)) ∙ or-twice t (left == 0)
fresh-left t n left m e (inr some) = (λ i. (t || ne_eqb n 0 some i) || (e i == 0)) ∙ ap (λ (s : Bool). s || (left == 0)) (or-false t)

-- THE PAIR
-- what is there is seen
pub some-seen : (n : ℕ) (x : Sight) → n ≢ 0 → where_some n x ≡ x
some-seen n x ne = ap (λ (t : Bool). if t then Unmoved else x) (ne_eqb n 0 ne)

-- a PutS is the last sharer's or not
abbrev pub puts_event : PairSide → DirectoryEvent
puts_event s = if s.shares && not s.others then home_event.PutSLast else home_event.PutSNotLast

-- and a PutM the owner's or not
abbrev pub putm_event : PairSide → DirectoryEvent
putm_event s = if is_owner s.owned then home_event.PutMOwner else home_event.PutMNonOwner

module _ (tags : Tags) (b : BlockState) (index : ℕ) (r : Request) (e : Some r ≡ slice_get b.traffic.requests index) where
  abbrev pub left : BlockState
  left = at b b.home (request_taken index b.traffic)

  -- how many of a kind are left of a cache
  count-left : (weight : RequestKind → ℕ) (c : ℕ) →
      sum_by (from c weight) (remove b.traffic.requests index) + from c weight r ≡ sum_by (from c weight) b.traffic.requests
  count-left weight c = sum_by-remove (from c weight) b.traffic.requests index r e

  own-left : (weight : RequestKind → ℕ) (kind : RequestKind) → r.kind ≡ kind →
      sum_by (from r.from.0 weight) (remove b.traffic.requests index) + weight kind ≡ sum_by (from r.from.0 weight) b.traffic.requests
  own-left weight kind same =
      omega (arith, count-left weight r.from.0, ap (λ (t : Bool). only t (weight r.kind)) (eq-eqb r.from.0 r.from.0 refl), ap weight same)

  other-left : (weight : RequestKind → ℕ) (c : ℕ) → c ≢ r.from.0 →
      sum_by (from c weight) (remove b.traffic.requests index) ≡ sum_by (from c weight) b.traffic.requests
  other-left weight c ne =
      omega (arith, count-left weight c, ap (λ (t : Bool). only t (weight r.kind)) (ne_eqb r.from.0 c (λ same. ne (sym same))))

  -- other caches don't see that it is taken
  pub left-elsewhere : (c : ℕ) → c ≢ r.from.0 → side tags left c ≡ side tags b c
  left-elsewhere c ne =
      same_requests (side tags b c) _ _ _ _ _ _ _ _ _ _ (other-left is_gets c ne) (other-left is_getm c ne) (other-left is_puts c ne) (other-left is_putm c ne)
      (ap (λ (n : ℕ). tags.putm c || (n == 0)) (other-left is_putm c ne))

  -- its sender sees one less of its kind
  taken-side : (kind : RequestKind) (gets getm puts putm : ℕ) → r.kind ≡ kind → gets + is_gets kind ≡ (side tags b r.from.0).gets →
      getm + is_getm kind ≡ (side tags b r.from.0).getm → puts + is_puts kind ≡ (side tags b r.from.0).puts → putm + is_putm kind ≡
      (side tags b r.from.0).putm →
      trimmed (let s : PairSide = side tags b r.from.0 in record s { gets = gets; getm = getm; puts = puts; putm = putm }) ≡ side tags left r.from.0
  taken-side kind gets getm puts putm same eg em ep eq =
      let s : PairSide = side tags b r.from.0 in
      let z : Bool = data_count r.from.0 b.traffic.responses == 0 in
      let q : putm ≡ sum_by (from r.from.0 is_putm) (remove b.traffic.requests index) = omega (arith, own-left is_putm kind same, eq) in
      same_requests (record s { fresh_data = s.fresh_data || z }) _ _ _ _ _ _ _ _ _ _ (omega (arith, own-left is_gets kind same, eg))
      (omega (arith, own-left is_getm kind same, em)) (omega (arith, own-left is_puts kind same, ep)) q
      (fresh-left (tags.putm r.from.0) s.putm _ putm q (taken-or (is_putm kind) (putm-few kind) eq q))
      ∙ (λ i. record (side tags left r.from.0) { fresh_data = or-twice (tags.data_to r.from.0) z i })
    where
      putm-few : (kind : RequestKind) → (is_putm kind ≡ 0) ⊎ (is_putm kind ≡ 1)
      putm-few request.GetS = inl refl
      putm-few request.GetM = inl refl
      putm-few request.PutS = inl refl
      putm-few (request.PutM value) = inr refl

      taken-or : (n : ℕ) → (n ≡ 0) ⊎ (n ≡ 1) → putm + n ≡ (side tags b r.from.0).putm → putm ≡ sum_by (from r.from.0 is_putm)
          (remove b.traffic.requests index) →
          ((side tags b r.from.0).putm ≡ sum_by (from r.from.0 is_putm) (remove b.traffic.requests index)) ⊎ ((side tags b r.from.0).putm ≢ 0)
      taken-or n (inl none) h q = inl (omega (arith, none, h, q))
      taken-or n (inr one) h q = inr (λ zero_is. absurd (omega (arith, one, h, zero_is)))

  taken-pair : (x : ℕ) (s : PairSide) → x ≢ r.from.0 → s ≡ side tags left r.from.0 → record (alpha tags b r.from.0 x) { first = s } ≡ alpha tags left r.from.0 x
  taken-pair x s ne same = λ i. record (alpha tags left r.from.0 x) { first = same i; second = sym (left-elsewhere x ne) i }

  some-there : (weight : RequestKind → ℕ) (kind : RequestKind) → r.kind ≡ kind → weight kind ≡ 1 → sum_by (from r.from.0 weight) b.traffic.requests ≢ 0
  some-there weight kind same one z = absurd (omega (arith, own-left weight kind same, one, z))

  abbrev pair : ℕ → Pair
  pair x = alpha tags b r.from.0 x

  pub gets-reaches : (tables : Tables) (x : ℕ) (t : Bool) → x ≢ r.from.0 → r.kind ≡ request.GetS →
      sight tables SentGetS t (pair x) ≡ at_home tables t true None home_event.GetS (alpha tags left r.from.0 x)
  gets-reaches tables x t ne same =
      let there : (pair x).first.gets ≢ 0 = some-there is_gets request.GetS same refl in
      some-seen (pair x).first.gets _ there
      ∙ ap (λ (p : Pair). at_home tables t true None home_event.GetS p)
      (taken-pair x _ ne (taken-side request.GetS ((pair x).first.gets - 1) _ _ _ same (omega (arith, there)) (omega arith) (omega arith) (omega arith)))

  pub getm-reaches : (tables : Tables) (x : ℕ) (t : Bool) → x ≢ r.from.0 → r.kind ≡ request.GetM →
      sight tables SentGetM t (pair x) ≡ at_home tables t true None home_event.GetM (alpha tags left r.from.0 x)
  getm-reaches tables x t ne same =
      let there : (pair x).first.getm ≢ 0 = some-there is_getm request.GetM same refl in
      some-seen (pair x).first.getm _ there
      ∙ ap (λ (p : Pair). at_home tables t true None home_event.GetM p)
      (taken-pair x _ ne (taken-side request.GetM _ ((pair x).first.getm - 1) _ _ same (omega arith) (omega (arith, there)) (omega arith) (omega arith)))

  pub puts-reaches : (tables : Tables) (x : ℕ) (t : Bool) → x ≢ r.from.0 → r.kind ≡ request.PutS →
      sight tables SentPutS t (pair x) ≡ at_home tables t true None (puts_event (side tags b r.from.0)) (alpha tags left r.from.0 x)
  puts-reaches tables x t ne same =
      let there : (pair x).first.puts ≢ 0 = some-there is_puts request.PutS same refl in
      some-seen (pair x).first.puts _ there
      ∙ ap (λ (p : Pair). at_home tables t true None (puts_event (side tags b r.from.0)) p)
      (taken-pair x _ ne (taken-side request.PutS _ _ ((pair x).first.puts - 1) _ same (omega arith) (omega arith) (omega (arith, there)) (omega arith)))

  pub putm-reaches : (tables : Tables) (value x : ℕ) (t : Bool) → x ≢ r.from.0 → r.kind ≡ request.PutM value →
      sight tables SentPutM t (pair x) ≡
      at_home tables t true (Some (side tags b r.from.0).fresh_putm) (putm_event (side tags b r.from.0)) (alpha tags left r.from.0 x)
  putm-reaches tables value x t ne same =
      let there : (pair x).first.putm ≢ 0 = some-there is_putm (request.PutM value) same refl in
      some-seen (pair x).first.putm _ there
      ∙ ap (λ (p : Pair). at_home tables t true (Some (side tags b r.from.0).fresh_putm) (putm_event (side tags b r.from.0)) p)
      (taken-pair x _ ne
      (taken-side (request.PutM value) _ _ _ ((pair x).first.putm - 1) same (omega arith) (omega arith) (omega arith) (omega (arith, there))))

  -- a PutM that is known to be fresh brings the last store's value
  pub putm-true : (value : ℕ) → AreTrue tags b → r.kind ≡ request.PutM value → (side tags b r.from.0).fresh_putm ≡ true → value ≡ b.latest
  putm-true value h same fresh =
      let there : sum_by (from r.from.0 is_putm) b.traffic.requests ≢ 0 = some-there is_putm (request.PutM value) same refl in
      let known : tags.putm r.from.0 ≡ true = sym (or-false (tags.putm r.from.0)) ∙ ap (λ (t : Bool). tags.putm r.from.0 || t) (sym (ne_eqb _ 0 there))
      ∙ fresh in
      all-there (Puts r.from.0 b.latest) b.traffic.requests index r (h.putm r.from.0 known) e refl value same

  -- what is known stays true
  pub left-true : AreTrue tags b → AreTrue tags left
  left-true h = record {
    line = h.line;
    data_to = h.data_to;
    putm = λ c known. all-removed (Puts c b.latest) b.traffic.requests index (h.putm c known);
    home_data = h.home_data;
    memory = h.memory;
  }
