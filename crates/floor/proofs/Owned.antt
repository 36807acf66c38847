-- What a seat owns stands in the recording, and each entry has its owner.
use Rattle.std.proofs.Common.{◌≡◌, ℕ, zero, suc, ◌+◌, cond, eqb, List, [], ◌∷◌, length, slice_get, Some, Bool, true, false, refl, sym, ap, ◌∙◌, subst, arith}
use Rattle.std.proofs.lemmas.Bool.Decides.{nat_tests}
use Rattle.std.proofs.lemmas.Option.{slice_get_within, get_or_from_slice_get, some_pair_parts}
use Rattle.record_lines.specs.declared.entry.Entry.{Entry}
use Rattle.floor.specs.FloorId.{FloorId}
use Rattle.floor.specs.Histories.{history, owned_from}
use Rattle.floor.specs.Turning.{SeatView}
use Rattle.floor.specs.Closing.{HaveOwners, AllThere, AllStand, AllReceived, AreHistories}

own_is : {X : Type 0} (a : ℕ) (x y : X) → cond (eqb a a) x y ≡ x
own_is a x y = grind (arith, nat_tests)

-- what is owned stands at its number
stands_from : (seat k : ℕ) (es : List Entry) (os : List ℕ) (i n : ℕ) (e : Entry) → slice_get (owned_from seat k es os) i ≡ Some (n, e) →
    (m : ℕ) × (n ≡ k + m) × (slice_get es m ≡ Some e)
stands_from seat k [] os i n e p = absurd (cc p)
stands_from seat k (x ∷ es) [] i n e p = absurd (cc p)
stands_from seat k (x ∷ es) (o ∷ os) i n e p = by_case (eqb o seat) i (λ j q. later j (stands_from seat (k + 1) es os j n e q)) p
  where
    later : ℕ → ((m : ℕ) × (n ≡ (k + 1) + m) × (slice_get es m ≡ Some e)) → (m : ℕ) × (n ≡ k + m) × (slice_get (x ∷ es) m ≡ Some e)
    later j q = (suc q.0, omega (arith, q.1), q.2)

    by_case : (b : Bool) (j : ℕ) → ((l : ℕ) → slice_get (owned_from seat (k + 1) es os) l ≡ Some (n, e) →
        (m : ℕ) × (n ≡ k + m) × (slice_get (x ∷ es) m ≡ Some e)) →
        slice_get (cond b ((k, x) ∷ owned_from seat (k + 1) es os) (owned_from seat (k + 1) es os)) j ≡ Some (n, e) →
        (m : ℕ) × (n ≡ k + m) × (slice_get (x ∷ es) m ≡ Some e)
    by_case true zero rest q = let f = some_pair_parts k n x e q in (zero, omega (arith, f.0), ap Some f.1)
    by_case true (suc j) rest q = rest j q
    by_case false j rest q = rest j q

stands : (seat : ℕ) (es : List Entry) (os : List ℕ) (i n : ℕ) (e : Entry) → slice_get (history seat es os) i ≡ Some (n, e) → slice_get es n ≡ Some e
stands seat es os i n e p = let q = stands_from seat 0 es os i n e p in subst (λ m. slice_get es m ≡ Some e) (let f = q.1 in omega (arith, f)) q.2

-- each entry is in the history of its owner
owner_from : (k : ℕ) (es : List Entry) (os : List ℕ) (m : ℕ) (e : Entry) → length os ≡ length es → slice_get es m ≡ Some e →
    (o : ℕ) × (slice_get os m ≡ Some o) × (i : ℕ) × (slice_get (owned_from o k es os) i ≡ Some (k + m, e))
owner_from k [] os m e even p = absurd (cc p)
owner_from k (x ∷ es) [] m e even p = absurd (omega (arith, even))
owner_from k (x ∷ es) (o ∷ os) zero e even p = (
  o,
  refl,
  0,
  ap (λ l. slice_get l 0) (own_is o ((k, x) ∷ owned_from o (k + 1) es os) (owned_from o (k + 1) es os))
      ∙ (let f : x ≡ e = cc p in ap Some (ap (λ y. (k, y)) f ∙ ap (λ n. (n, e)) (omega arith))),
)
owner_from k (x ∷ es) (o ∷ os) (suc m) e even p =
    let q = owner_from (k + 1) es os m e (omega (arith, even)) p in
    let at = q.3 ∙ ap (λ n. Some (n, e)) (omega arith) in
    let more = further (eqb o q.0) q.0 q.2 at in
    (q.0, q.1, more.0, more.1)
  where
    further : (c : Bool) (a i : ℕ) → slice_get (owned_from a (k + 1) es os) i ≡ Some (k + suc m, e) →
        (j : ℕ) × (slice_get (cond c ((k, x) ∷ owned_from a (k + 1) es os) (owned_from a (k + 1) es os)) j ≡ Some (k + suc m, e))
    further true a i at = (suc i, at)
    further false a i at = (i, at)

-- what is said of all seats, of the seat at a place
made_at : (es : List Entry) (os : List ℕ) (row : List SeatView) (j : ℕ) (s : SeatView) → AreHistories es os row → slice_get row j ≡ Some s →
    s.made ≡ history s.number es os
made_at es os row j s all at =
    let here = get_or_from_slice_get row j s s at in
    subst (λ (x : SeatView). x.made ≡ history x.number es os) here (all j s (slice_get_within row j s at))

pub all_stand : (es : List Entry) (os : List ℕ) (row : List SeatView) → AreHistories es os row → AllStand es row
all_stand es os row all n e has =
    let s : SeatView = has.1 in
    stands s.number es os has.3 n e (ap (λ l. slice_get l has.3) (sym (made_at es os row has.0 s all has.2)) ∙ has.4)

pub all_received : (f : FloorId) (es : List Entry) (os : List ℕ) (row : List SeatView) → HaveOwners f es os → AllThere f.seats row →
    AreHistories es os row → AllReceived es row
all_received f es os row h there all n e at =
    let q = owner_from 0 es os n e h.each at in
    let t = there q.0 (h.belonged n e q.0 at q.1).0 in
    let s : SeatView = t.1 in (
      t.0,
      s,
      t.2,
      q.2,
      ap (λ l. slice_get l q.2) (made_at es os row t.0 s all t.2 ∙ ap (λ k. history k es os) t.3) ∙ (q.3 ∙ ap (λ m. Some (m, e)) (omega arith)),
    )
