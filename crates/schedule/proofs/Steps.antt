-- A word more.
use Rattle.std.proofs.Common.{◌≡◌, ℕ, zero, suc, ◌+◌, refl, add-one, ap, sym}
use Rattle.rand_pcg.specs.Lcg.{Lcg, next, advance, next_state, state_after}

last_step : (w m inc n s : ℕ) → state_after w m inc (suc n) s ≡ next_state w m inc (state_after w m inc n s)
unfolding state_after
last_step w m inc zero s = refl
last_step w m inc (suc n) s = last_step w m inc n (next_state w m inc s)

pub advance_more : (w m n : ℕ) (g : Lcg) → next w m (advance w m n g) ≡ advance w m (n + 1) g
advance_more w m n g = rw add-one (ap (λ s. record g { state = s }) (sym (last_step w m g.increment n g.state)))

pub advance_none : (w m : ℕ) (g : Lcg) → advance w m 0 g ≡ g
unfolding state_after
advance_none w m g = refl
