-- What a cell of the home makes of what the requestor awaits beside what is owed to it.
use Rattle.std.proofs.Common.{◌≡◌, ℕ, ◌≤◌, inl, inr, Some, arith, ℤ, pos, ◌+ℤ◌}
use Rattle.std.proofs.lemmas.Int.{ints}
use Rattle.pairs.specs.declared.side.Lag.{Lag}
use Rattle.pairs.specs.declared.side.Lag.TheVariants.{Behind, Level, Ahead}
use Rattle.pairs.specs.declared.steps.Debt.{Debt}
use Rattle.pairs.specs.declared.steps.Debt.TheVariants.{Even, Announced, Invalidated, Uneven}
use Rattle.pairs.specs.Sights.{lag_after}
use Rattle.closing.proofs.Alpha.{LagIs}
use Rattle.closing.proofs.Lags.{lag-moved, not-behind, not-none}
use Rattle.closing.proofs.HomeBalance.{Owes}
use Rattle.closing.proofs.HomeDebts.{FewOwed}

few-if : (debt : Debt) (owed : ℕ) → (debt ≡ Uneven → ⊥) → FewOwed debt owed → owed ≤ 4294967296
few-if debt owed ne (inl uneven) = absurd (ne uneven)
few-if debt owed ne (inr few) = few

-- the lag behind it is what the debt says
pub lag-served : (debt : Debt) (l k : Lag) (counter : ℤ) (acks owed acks_first owed_first others : ℕ) → lag_after debt l ≡ Some k →
    Owes debt acks owed acks_first owed_first others → LagIs l (counter +ℤ pos acks_first) owed_first →
    (owed_first ≤ 4294967296 → FewOwed debt owed) → LagIs k (counter +ℤ pos acks) owed
lag-served Even Behind k counter acks owed acks_first owed_first others e owes lag few =
    lag-moved Level Behind k (counter +ℤ pos acks_first) owed_first (counter +ℤ pos acks) owed e (grind (arith, ints, owes)) lag (inl (not-behind k e))
lag-served Even Level k counter acks owed acks_first owed_first others e owes lag few =
    lag-moved Level Level k (counter +ℤ pos acks_first) owed_first (counter +ℤ pos acks) owed e (grind (arith, ints, owes)) lag
    (inr (few-if Even owed (λ u. absurd (cc)) (few lag.1)))
lag-served Even Ahead k counter acks owed acks_first owed_first others e owes lag few =
    lag-moved Level Ahead k (counter +ℤ pos acks_first) owed_first (counter +ℤ pos acks) owed e (grind (arith, ints, owes)) lag
    (inr (few-if Even owed (λ u. absurd (cc)) (few lag.1)))
lag-served Announced Behind k counter acks owed acks_first owed_first others e owes lag few = absurd (not-none k e)
lag-served Announced Level k counter acks owed acks_first owed_first others e owes lag few =
    lag-moved Ahead Level k (counter +ℤ pos acks_first) owed_first (counter +ℤ pos acks) owed e (grind (arith, ints, owes.0, owes.1)) lag
    (inr (few-if Announced owed (λ u. absurd (cc)) (few lag.1)))
lag-served Announced Ahead k counter acks owed acks_first owed_first others e owes lag few =
    lag-moved Ahead Ahead k (counter +ℤ pos acks_first) owed_first (counter +ℤ pos acks) owed e (grind (arith, ints, owes.0, owes.1)) lag
    (inr (few-if Announced owed (λ u. absurd (cc)) (few lag.1)))
lag-served Invalidated Behind k counter acks owed acks_first owed_first others e owes lag few =
    lag-moved Behind Behind k (counter +ℤ pos acks_first) owed_first (counter +ℤ pos acks) owed e (grind (arith, ints, owes.0, owes.1)) lag
    (inl (not-behind k e))
lag-served Invalidated Level k counter acks owed acks_first owed_first others e owes lag few =
    lag-moved Behind Level k (counter +ℤ pos acks_first) owed_first (counter +ℤ pos acks) owed e (grind (arith, ints, owes.0, owes.1)) lag
    (inl (not-behind k e))
lag-served Invalidated Ahead k counter acks owed acks_first owed_first others e owes lag few = absurd (not-none k e)
lag-served Uneven l k counter acks owed acks_first owed_first others e owes lag few = absurd (not-none k e)
