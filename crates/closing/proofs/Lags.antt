-- What is awaited beside what is owed, in numbers.
use Rattle.std.proofs.Common.{◌≡◌, ◌≢◌, ℕ, ◌+◌, ◌≤◌, ◌<◌, refl, ap, sym, ◌∙◌, ◌⊎◌, inl, inr, Some, None, Bool, true, false, not, ◌||◌, ◌==◌}
use Rattle.std.proofs.Common.{subst, if◌then◌else◌, arith, eq-eqb, ℤ, pos, negsuc, ◌+ℤ◌}
use Rattle.std.proofs.lemmas.Int.{ints}
use Rattle.std.proofs.lemmas.Bool.{cases_eq, ne_eqb}
use Rattle.std.specs.Int.Signed.{◌<ℤ◌}
use Rattle.control.specs.LineEvents.{more_acks, is_count}
use Rattle.control.specs.LineEffect.{one_ack_less}
use Rattle.control.specs.LineEvents.{forward_event}
use Rattle.network.specs.declared.message.ForwardKind.{ForwardKind}
use Rattle.network.specs.declared.message.ForwardKind.TheVariants.{FwdGetS, FwdGetM, Inv, PutAck}
use Rattle.machine.proofs.Seen.{late_of, is_inv}
use Rattle.pairs.specs.declared.side.Lag.{Lag}
use Rattle.pairs.specs.declared.side.Lag.TheVariants.{Behind, Level, Ahead}
use Rattle.pairs.specs.Sights.{shifted, is_level, is_ahead, acks_awaited, counts_fit, moved_by, still_owed}
use Rattle.closing.proofs.Alpha.{LagIs}

-- a lag is of what is the same
pub same-lag : (l : Lag) (k k2 : ℤ) (m m2 n n2 : ℕ) → k ≡ k2 → m ≡ m2 → n ≡ n2 → LagIs l (k +ℤ pos m) n → LagIs l (k2 +ℤ pos m2) n2
same-lag l k k2 m m2 n n2 ek em en h =
    subst (λ (z : ℤ). LagIs l (z +ℤ pos m2) n2) ek
    (subst (λ (z : ℕ). LagIs l (k +ℤ pos z) n2) em (subst (λ (z : ℕ). LagIs l (k +ℤ pos m) z) en h))

-- TESTS
differ-if : (m n : ℕ) → (m == n) ≡ false → m ≢ n
differ-if m n e same = let is : (m == n) ≡ true = eq-eqb m n same in absurd (cc)

same-if : (m n : ℕ) → (m == n) ≡ true → m ≡ n
same-if m n e =
    elim (cases_eq m n) [
      | inl same ↦ same
      | inr ne ↦ (let differ : true ≡ false = sym e ∙ ne_eqb m n ne in absurd (cc))
    ]

-- ACKS
-- an Inv-Ack that is taken is awaited no longer, and owed no longer
pub ack-lag : (l : Lag) (a : ℤ) (n o : ℕ) → LagIs l (a +ℤ pos n) (o + 1) → n ≤ 4294967296 → LagIs l (one_ack_less a +ℤ pos n) o
ack-lag Behind (pos m) n o h announced = grind (arith, ints, h)
ack-lag Behind (negsuc m) n o h announced = grind (arith, ints, h)
ack-lag Level (pos m) n o h announced = (grind (arith, ints, h.0, h.1), omega (arith, h.1))
ack-lag Level (negsuc m) n o h announced = (grind (arith, ints, h.0, h.1), omega (arith, h.1))
ack-lag Ahead (pos m) n o h announced = (grind (arith, ints, h.0, h.1), omega (arith, h.1))
ack-lag Ahead (negsuc m) n o h announced = (grind (arith, ints, h.0, h.1), omega (arith, h.1))

-- whether any are awaited behind it
pub ack-low : (a : ℤ) → late_of (one_ack_less a) == 0 ≡ (late_of a == 0) || is_count a 1
ack-low (pos m) = grind (arith, ints)
ack-low (negsuc m) = grind (arith, ints)

-- where nothing is announced any more, what is awaited is what the lag says
pub counts-fit : (l : Lag) (a : ℤ) (o : ℕ) → LagIs l (a +ℤ pos 0) (o + 1) → counts_fit l (late_of a == 0) (is_count a 1) (not (o == 0)) ≡ true
counts-fit Behind (pos m) o h = grind (arith, ints, h)
counts-fit Behind (negsuc m) o h = refl
counts-fit Level (pos m) o h = grind (arith, ints, h.0)
counts-fit Level (negsuc m) o h = grind (arith, ints, h.0)
counts-fit Ahead (pos m) o h = grind (arith, ints, h.0)
counts-fit Ahead (negsuc m) o h = grind (arith, ints, h.0)

-- DATA
-- a line to which all is announced that is still to be announced
pub record Awaits (l k : Lag) (a : ℤ) (o : ℕ) : Type 0 where
  pub lag : LagIs l (a +ℤ pos 0) o
  pub low : late_of a == 0 ≡ not (is_ahead k)
  pub none : is_count a 0 ≡ is_level k

pub some-lag : (k l : Lag) → Some k ≡ Some l → k ≡ l
some-lag k l e = cc

pub not-none : (k : Lag) → None ≡ Some k → ⊥
not-none k e = absurd (cc)

behind-none : (a : ℤ) (n o : ℕ) → (a +ℤ pos n) <ℤ pos o → o ≡ 0 → Awaits Behind Behind (more_acks a n) o
behind-none (pos m) n o h z = record { lag = grind (arith, ints, h, z); low = grind (arith, ints, h, z); none = grind (arith, ints, h, z) }
behind-none (negsuc m) n o h z = record { lag = grind (arith, ints, h, z); low = grind (arith, ints, h, z); none = grind (arith, ints, h, z) }

level-acks : (a : ℤ) (n o : ℕ) → a +ℤ pos n ≡ pos o → o ≤ 4294967296 → more_acks a n ≡ pos o
level-acks (pos m) n o h few = grind (arith, ints, h)
level-acks (negsuc m) n o h few = grind (arith, ints, h)

ahead-acks : (a : ℤ) (n o : ℕ) → pos o <ℤ (a +ℤ pos n) → o ≤ 4294967296 → pos o <ℤ more_acks a n
ahead-acks (pos m) n o h few = grind (arith, ints, h)
ahead-acks (negsuc m) n o h few = grind (arith, ints, h)

level-some : (a : ℤ) (o : ℕ) → a ≡ pos o → o ≤ 4294967296 → 1 ≤ o → Awaits Level Ahead a o
level-some (pos m) o h few some =
    record { lag = (grind (arith, ints, h), few); low = grind (arith, ints, h, some); none = grind (arith, ints, h, some) }
level-some (negsuc m) o h few some =
    record { lag = (grind (arith, ints, h), few); low = grind (arith, ints, h, some); none = grind (arith, ints, h, some) }

level-none : (a : ℤ) (o : ℕ) → a ≡ pos o → o ≤ 4294967296 → o ≡ 0 → Awaits Level Level a o
level-none (pos m) o h few z = record { lag = (grind (arith, ints, h), few); low = grind (arith, ints, h, z); none = grind (arith, ints, h, z) }
level-none (negsuc m) o h few z = record { lag = (grind (arith, ints, h), few); low = grind (arith, ints, h, z); none = grind (arith, ints, h, z) }

ahead-awaits : (a : ℤ) (o : ℕ) → pos o <ℤ a → o ≤ 4294967296 → Awaits Ahead Ahead a o
ahead-awaits (pos m) o h few = record { lag = (grind (arith, ints, h), few); low = grind (arith, ints, h); none = grind (arith, ints, h) }
ahead-awaits (negsuc m) o h few = record { lag = (grind (arith, ints, h), few); low = grind (arith, ints, h); none = grind (arith, ints, h) }

some-if : (o : ℕ) → (o == 0) ≡ false → 1 ≤ o
some-if o e = let ne = differ-if o 0 e in omega (arith, ne)

awaits-if : (l k : Lag) (a : ℤ) (n o : ℕ) (none : Bool) → (o == 0) ≡ none → LagIs l (a +ℤ pos n) o → acks_awaited l (not none) ≡ Some k →
    Awaits l k (more_acks a n) o
awaits-if Behind Behind a n o true z h e = behind-none a n o h (same-if o 0 z)
awaits-if Behind Level a n o true z h e = absurd (cc)
awaits-if Behind Ahead a n o true z h e = absurd (cc)
awaits-if Behind k a n o false z h e = absurd (not-none k e)
awaits-if Level Level a n o true z h e = level-none (more_acks a n) o (level-acks a n o h.0 h.1) h.1 (same-if o 0 z)
awaits-if Level Behind a n o true z h e = absurd (cc)
awaits-if Level Ahead a n o true z h e = absurd (cc)
awaits-if Level Ahead a n o false z h e = level-some (more_acks a n) o (level-acks a n o h.0 h.1) h.1 (some-if o z)
awaits-if Level Behind a n o false z h e = absurd (cc)
awaits-if Level Level a n o false z h e = absurd (cc)
awaits-if Ahead Ahead a n o none z h e = ahead-awaits (more_acks a n) o (ahead-acks a n o h.0 h.1) h.1
awaits-if Ahead Behind a n o true z h e = absurd (cc)
awaits-if Ahead Behind a n o false z h e = absurd (cc)
awaits-if Ahead Level a n o true z h e = absurd (cc)
awaits-if Ahead Level a n o false z h e = absurd (cc)

-- Data that announces all that is still to be announced
pub data-awaits : (l k : Lag) (a : ℤ) (n o : ℕ) → LagIs l (a +ℤ pos n) o → acks_awaited l (not (o == 0)) ≡ Some k → Awaits l k (more_acks a n) o
data-awaits l k a n o h e = awaits-if l k a n o (o == 0) refl h e

-- WHERE A LAG IS MOVED
-- what is awaited grows by less than what is owed, by as much, or by more
abbrev pub MovesBy : Lag → ℤ → ℕ → ℤ → ℕ → Type 0
MovesBy Behind x m y n = (y +ℤ pos m) <ℤ (x +ℤ pos n)
MovesBy Level x m y n = y +ℤ pos m ≡ x +ℤ pos n
MovesBy Ahead x m y n = (x +ℤ pos n) <ℤ (y +ℤ pos m)

-- so the lag is moved, if few are owed then or fewer are awaited
pub lag-moved : (d l k : Lag) (x : ℤ) (m : ℕ) (y : ℤ) (n : ℕ) → shifted d l ≡ Some k → MovesBy d x m y n → LagIs l x m → (k ≡ Behind) ⊎ (n ≤ 4294967296) →
    LagIs k y n
lag-moved Behind Behind Behind x m y n e by h few = grind (arith, ints, by, h)
lag-moved Behind Level Behind x m y n e by h few = grind (arith, ints, by, h.0)
lag-moved Level Behind Behind x m y n e by h few = grind (arith, ints, by, h)
lag-moved Level Level Level x m y n e by h (inr few) = (grind (arith, ints, by, h.0), few)
lag-moved Level Ahead Ahead x m y n e by h (inr few) = (grind (arith, ints, by, h.0), few)
lag-moved Ahead Level Ahead x m y n e by h (inr few) = (grind (arith, ints, by, h.0), few)
lag-moved Ahead Ahead Ahead x m y n e by h (inr few) = (grind (arith, ints, by, h.0), few)
lag-moved Level Level Level x m y n e by h (inl f) = absurd (cc)
lag-moved Level Ahead Ahead x m y n e by h (inl f) = absurd (cc)
lag-moved Ahead Level Ahead x m y n e by h (inl f) = absurd (cc)
lag-moved Ahead Ahead Ahead x m y n e by h (inl f) = absurd (cc)
lag-moved d l k x m y n e by h few = absurd (cc)

-- ANSWERS
-- this many Inv-Acks in place of this many Invs
abbrev pub Shifts : Lag → ℕ → ℕ → Type 0
Shifts Behind invs acks = invs < acks
Shifts Level invs acks = acks ≡ invs
Shifts Ahead invs acks = invs ≡ acks + 1

pub not-behind : (k : Lag) → Some Behind ≡ Some k → k ≡ Behind
not-behind k e = sym (some-lag Behind k e)

-- where what is owed changes so, and nothing else, the lag is moved
pub lag-answered : (d l k : Lag) (x : ℤ) (invs acks m n : ℕ) → shifted d l ≡ Some k → Shifts d invs acks → n + invs ≡ m + acks → LagIs l x m → LagIs k x n
lag-answered Behind Behind k x invs acks m n e by h lag = lag-moved Behind Behind k x m x n e (grind (arith, ints, by, h)) lag (inl (not-behind k e))
lag-answered Behind Level k x invs acks m n e by h lag = lag-moved Behind Level k x m x n e (grind (arith, ints, by, h)) lag (inl (not-behind k e))
lag-answered Behind Ahead k x invs acks m n e by h lag = absurd (not-none k e)
lag-answered Level Behind k x invs acks m n e by h lag = lag-moved Level Behind k x m x n e (grind (arith, ints, by, h)) lag (inl (not-behind k e))
lag-answered Level Level k x invs acks m n e by h lag =
    lag-moved Level Level k x m x n e (grind (arith, ints, by, h)) lag (inr (omega (arith, by, h, lag.1)))
lag-answered Level Ahead k x invs acks m n e by h lag =
    lag-moved Level Ahead k x m x n e (grind (arith, ints, by, h)) lag (inr (omega (arith, by, h, lag.1)))
lag-answered Ahead Behind k x invs acks m n e by h lag = absurd (not-none k e)
lag-answered Ahead Level k x invs acks m n e by h lag =
    lag-moved Ahead Level k x m x n e (grind (arith, ints, by, h)) lag (inr (omega (arith, by, h, lag.1)))
lag-answered Ahead Ahead k x invs acks m n e by h lag =
    lag-moved Ahead Ahead k x m x n e (grind (arith, ints, by, h)) lag (inr (omega (arith, by, h, lag.1)))

inv-shifts : (acks : ℕ) (none one : Bool) → (acks == 0) ≡ none → (acks == 1) ≡ one → Shifts (if none then Ahead else (if one then Level else Behind)) 1 acks
inv-shifts acks true one e f = omega (arith, same-if acks 0 e)
inv-shifts acks false true e f = same-if acks 1 f
inv-shifts acks false false e f = let z = differ-if acks 0 e in let o = differ-if acks 1 f in omega (arith, z, o)

none-shifts : (acks : ℕ) (none : Bool) → (acks == 0) ≡ none → Shifts (if none then Level else Behind) 0 acks
none-shifts acks true e = same-if acks 0 e
none-shifts acks false e = let z = differ-if acks 0 e in omega (arith, z)

-- the Inv-Acks in answer to a forward shift its requestor's lag as they say
pub answer-shifts : (kind : ForwardKind) (acks : ℕ) → (kind ≡ PutAck → ⊥) → Shifts (moved_by (forward_event kind) acks) (is_inv kind) acks
answer-shifts FwdGetS acks ne = none-shifts acks (acks == 0) refl
answer-shifts FwdGetM acks ne = none-shifts acks (acks == 0) refl
answer-shifts Inv acks ne = inv-shifts acks (acks == 0) (acks == 1) refl refl
answer-shifts PutAck acks ne = absurd (ne refl)

-- whether acks are owed then
pub still-so : (d : Lag) (invs acks m n : ℕ) → Shifts d invs acks → n + invs ≡ m + acks → still_owed (not (n == 0)) d (not (m == 0)) ≡ not (n == 0)
still-so Behind invs acks m n by h = sym (ap (λ (t : Bool). not t) (ne_eqb n 0 (λ none. absurd (omega (arith, by, h, none)))))
still-so Level invs acks m n by h = ap (λ k. not (k == 0)) (omega (arith, by, h))
still-so Ahead invs acks m n by h = refl
