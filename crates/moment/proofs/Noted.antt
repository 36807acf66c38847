-- The step of a choice can be noted.
use Rattle.std.proofs.Common.{◌≡◌, ◌<◌, ◌∙◌, inl, inr, zero, suc, All, List, [], ◌∷◌, length, true, false, sym, ap, subst, arith}
use Rattle.base.specs.declared.step.CoreAsk.{CoreAsk}
use Rattle.base.specs.declared.step.Step.{Step}
use Rattle.tables.specs.Tables.{Tables}
use Rattle.machine.specs.Machine.{State, next}
use Rattle.machine.specs.Completions.{Completion}
use Rattle.cores.specs.Cores.{Core, issuing, is_free, with_core}
use Rattle.schedule.specs.Choices.{chosen_step}
use Rattle.schedule.specs.declared.choosing.Choice.{Choice}
use Rattle.moment.specs.Moments.{put_by, with_issued}
use Rattle.moment.specs.inner.Tracked.{IsTracked}
use Rattle.moment.specs.inner.Noting.{AreBusy, AreFree, CanBeNoted}
use Rattle.moment.proofs.CoreSteps.{waits-tells, with-here}
use Rattle.moment.proofs.Effects.{Effect, effect}
use Rattle.moment.proofs.Tracking.{PutsWhereFree, delivered-to-waiting}
use Rattle.moment.proofs.Chosen.{IsFair, fair-puts}

all-none : {X : Type 0} (P : X → Type 0) → All P []
all-none P k x low = absurd (omega (arith, low))

all-one : {X : Type 0} (P : X → Type 0) (x : X) → P x → All P (x ∷ [])
all-one P x h zero d low = h
all-one P x h (suc k) d low = absurd (omega (arith, low))

-- a core that has just issued an ask waits
issued-waits : (cores : List Core) (a : CoreAsk) → a.core.0 < length cores → is_free (with_issued (a ∷ []) cores) a.core.0 ≡ false
issued-waits cores a low =
    waits-tells (with_core cores a.core.0 (issuing a.ask)) a.core.0 a.ask (ap (λ (c : Core). c.outstanding) (with-here cores a.core.0 (issuing a.ask) low))

free-none : (cores : List Core) (put : List CoreAsk) → put ≡ [] → AreFree put cores
free-none cores put p = subst (λ (x : List CoreAsk). AreFree x cores) (sym p) (all-none (λ a. is_free cores a.core.0 ≡ true))

free-one : (cores : List Core) (put : List CoreAsk) (a : CoreAsk) → put ≡ a ∷ [] → is_free cores a.core.0 ≡ true → AreFree put cores
free-one cores put a p h = subst (λ (x : List CoreAsk). AreFree x cores) (sym p) (all-one (λ (a : CoreAsk). is_free cores a.core.0 ≡ true) a h)

busy-none : (cores : List Core) (done : List Completion) → done ≡ [] → AreBusy done cores
busy-none cores done d = subst (λ (x : List Completion). AreBusy x cores) (sym d) (all-none (λ c. is_free cores c.cache.0 ≡ false))

busy-one : (cores : List Core) (done : List Completion) (c : Completion) → done ≡ c ∷ [] → is_free cores c.cache.0 ≡ false → AreBusy done cores
busy-one cores done c d h = subst (λ (x : List Completion). AreBusy x cores) (sym d) (all-one (λ (c : Completion). is_free cores c.cache.0 ≡ false) c h)

noted-by : (tables : Tables) (state : State) (cores : List Core) (s : Step) → IsTracked state cores → PutsWhereFree s (next tables state s) cores →
    Effect state s (next tables state s) → CanBeNoted s (next tables state s).outcome cores
noted-by tables state cores s tracked free (inl h) = record {
  asks = free-none cores _ h.put;
  completes = busy-none _ _ h.done;
}
noted-by tables state cores s tracked free (inr (inl h)) = record {
  asks = free-one cores _ h.ask h.put (free h.ask h.put);
  completes = busy-none _ _ h.done;
}
noted-by tables state cores s tracked free (inr (inr (inl h))) =
    let low : h.ask.core.0 < length cores = tracked.few h.ask.core.0 h.ask.block.0 h.was h.there in
    let waits : is_free (with_issued (put_by s (next tables state s).outcome) cores) h.ask.core.0 ≡ false =
    ap (λ x. is_free (with_issued x cores) h.ask.core.0) h.put ∙ issued-waits cores h.ask low in
    record {
      asks = free-one cores _ h.ask h.put (free h.ask h.put);
      completes =
          busy-one _ _ h.completion h.done
          (ap (λ (a : CoreAsk). is_free (with_issued (put_by s (next tables state s).outcome) cores) a.core.0) h.answers ∙ waits);
    }
noted-by tables state cores s tracked free (inr (inr (inr h))) =
    let waits = delivered-to-waiting tables state s cores h.completion tracked h.delivery h.done in
    record {
      asks = free-none cores _ h.put;
      completes = busy-one _ _ h.completion h.done (ap (λ x. is_free (with_issued x cores) h.completion.cache.0) h.put ∙ waits.0);
    }

pub choice-notable : (tables : Tables) (state : State) (cores : List Core) (c : Choice) → IsTracked state cores → IsFair tables state cores c →
    CanBeNoted (chosen_step c) (next tables state (chosen_step c)).outcome cores
choice-notable tables state cores c tracked fair =
    noted-by tables state cores (chosen_step c) tracked (fair-puts tables state cores c fair) (effect tables state (chosen_step c))
