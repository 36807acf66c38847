-- What the cores have outstanding once they issued or finished something.
use Rattle.std.proofs.Common.{◌≡◌, ◌≢◌, ◌<◌, ◌≤◌, ℕ, zero, suc, List, [], ◌∷◌, length, Option, Some, None, true, false, get_or, refl, ap, ◌∙◌, arith, replicate}
use Rattle.std.proofs.lemmas.Grind.{common_steps}
use Rattle.std.specs.Prelude.{is_none}
use Rattle.base.specs.declared.step.Ask.{Ask}
use Rattle.base.specs.declared.step.CoreAsk.{CoreAsk}
use Rattle.machine.specs.Completions.{Completion}
use Rattle.cores.specs.Cores.{Core, idle, issuing, finishing, with_core, is_free}
use Rattle.moment.specs.inner.Tracked.{outstanding}
use Rattle.moment.specs.Moments.{with_issued, with_finished}

pub with-length : (cores : List Core) (n : ℕ) (f : Core → Core) → length (with_core cores n f) ≡ length cores
with-length cores n f = grind (arith, common_steps)

pub with-here : (cores : List Core) (n : ℕ) (f : Core → Core) → n < length cores → get_or (with_core cores n f) n idle ≡ f (get_or cores n idle)
with-here cores n f low = grind (arith, common_steps)

pub with-other : (cores : List Core) (n m : ℕ) (f : Core → Core) → m ≢ n → get_or (with_core cores n f) m idle ≡ get_or cores m idle
with-other cores n m f ne = grind (arith, common_steps)

-- a core that isn't there waits for nothing
pub past-free : (cores : List Core) (n : ℕ) → length cores ≤ n → outstanding cores n ≡ None
past-free [] n low = refl
past-free (c ∷ cores) zero low = absurd (omega (arith, low))
past-free (c ∷ cores) (suc n) low = past-free cores n (omega (arith, low))

pub idle-free : (caches n : ℕ) → outstanding (replicate caches idle) n ≡ None
idle-free zero n = refl
idle-free (suc caches) zero = refl
idle-free (suc caches) (suc n) = idle-free caches n

none-told : {X : Type 0} (o : Option X) → is_none o ≡ true → o ≡ None
none-told None e = refl
none-told (Some x) e = absurd (cc e)

pub free-told : (cores : List Core) (n : ℕ) → is_free cores n ≡ true → outstanding cores n ≡ None
free-told cores n e = none-told (outstanding cores n) e

pub free-tells : (cores : List Core) (n : ℕ) → outstanding cores n ≡ None → is_free cores n ≡ true
free-tells cores n e = ap is_none e

pub waits-tells : (cores : List Core) (n : ℕ) (a : Ask) → outstanding cores n ≡ Some a → is_free cores n ≡ false
waits-tells cores n a e = ap is_none e

-- one ask issued, and one finished
pub after-none : (cores : List Core) (put : List CoreAsk) (done : List Completion) → put ≡ [] → done ≡ [] → with_finished done (with_issued put cores) ≡ cores
after-none cores put done p d = ap (λ x. with_finished x (with_issued put cores)) d ∙ ap (λ x. with_issued x cores) p

pub after-put : (cores : List Core) (put : List CoreAsk) (done : List Completion) (a : CoreAsk) → put ≡ a ∷ [] → done ≡ [] →
    with_finished done (with_issued put cores) ≡ with_core cores a.core.0 (issuing a.ask)
after-put cores put done a p d = ap (λ x. with_finished x (with_issued put cores)) d ∙ ap (λ x. with_issued x cores) p

pub after-done : (cores : List Core) (put : List CoreAsk) (done : List Completion) (c : Completion) → put ≡ [] → done ≡ c ∷ [] →
    with_finished done (with_issued put cores) ≡ with_core cores c.cache.0 finishing
after-done cores put done c p d = ap (λ x. with_finished x (with_issued put cores)) d ∙ ap (λ x. with_core (with_issued x cores) c.cache.0 finishing) p

pub after-both : (cores : List Core) (put : List CoreAsk) (done : List Completion) (a : CoreAsk) (c : Completion) → put ≡ a ∷ [] → done ≡ c ∷ [] →
    with_finished done (with_issued put cores) ≡ with_core (with_core cores a.core.0 (issuing a.ask)) c.cache.0 finishing
after-both cores put done a c p d = ap (λ x. with_finished x (with_issued put cores)) d ∙ ap (λ x. with_core (with_issued x cores) c.cache.0 finishing) p
