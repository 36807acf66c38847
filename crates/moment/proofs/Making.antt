-- What making a choice leaves.
use Rattle.std.proofs.Common.{◌≡◌, ℕ, List, Bool, true, Some, None, slice_get, sym, ap, ◌∙◌, subst}
use Rattle.std.specs.Prelude.{if◌then◌else◌}
use Rattle.base.specs.declared.step.Step.{Step}
use Rattle.base.specs.declared.step.Outcome.{Outcome}
use Rattle.tables.specs.Tables.{Tables}
use Rattle.cores.specs.Cores.{Core}
use Rattle.machine.proofs.Making.{next-told}
use Rattle.machine.specs.declared.made.Made.{Made}
use Rattle.machine.specs.Machine.{Next, State, next}
use Rattle.machine.specs.Made.{IsTold}
use Rattle.scenario.specs.Tree.{Tree}
use Rattle.schedule.specs.Choices.{choices_of, chosen_step}
use Rattle.schedule.specs.declared.choosing.Choice.{Choice}
use Rattle.moment.specs.Moments.{Moment, cores_after}
use Rattle.moment.specs.inner.Noting.{CanBeNoted}
use Rattle.moment.specs.inner.Tracked.{IsTracked}
use Rattle.moment.proofs.Chosen.{choice-fair, fair-puts}
use Rattle.moment.proofs.Noted.{choice-notable}
use Rattle.moment.proofs.Tracking.{tracked-next}

module _ (tables : Tables) (before : State) (cores : List Core) (rest : Tree) (k : ℕ) (choice : Choice) (step : Step) (made : Made) (behind : State)
    (tracked : IsTracked before cores) (taken : slice_get (choices_of tables before cores rest) k ≡ Some choice) (is : step ≡ chosen_step choice)
    (told : IsTold tables before step made behind) where
  pub outcome-made : made.outcome ≡ (next tables before (chosen_step choice)).outcome
  outcome-made =
      sym (ap (λ (n : Next). n.outcome) (next-told tables before step made behind told)) ∙ ap (λ (s : Step). (next tables before s).outcome) is

  pub state-made : behind ≡ (next tables before (chosen_step choice)).state
  state-made = told.state ∙ ap (λ (s : Step). (next tables before s).state) is

  pub cores-made : (now : List Core) → now ≡ cores_after step made.outcome cores →
      now ≡ cores_after (chosen_step choice) (next tables before (chosen_step choice)).outcome cores
  cores-made now noted = noted ∙ ap (λ s. cores_after s made.outcome cores) is ∙ ap (λ o. cores_after (chosen_step choice) o cores) outcome-made

  pub can-be-noted : CanBeNoted step made.outcome cores
  can-be-noted =
      subst (λ (s : Step). CanBeNoted s made.outcome cores) (sym is)
      (subst (λ (o : Outcome). CanBeNoted (chosen_step choice) o cores) (sym outcome-made)
      (choice-notable tables before cores choice tracked (choice-fair tables before cores rest k choice taken)))

  pub stays-tracked : (now : List Core) → now ≡ cores_after step made.outcome cores → IsTracked behind now
  stays-tracked now noted =
      subst (λ (s : State). IsTracked s now) (sym state-made)
      (subst (IsTracked (next tables before (chosen_step choice)).state) (sym (cores-made now noted))
      (tracked-next tables before (chosen_step choice) cores
      (fair-puts tables before cores choice (choice-fair tables before cores rest k choice taken)) tracked))

  -- so a moment that isn't spoilt is seen
  pub now-made : (now : List Core) (left : Tree) (usable : Bool) → now ≡ cores_after step made.outcome cores → usable ≡ true →
      (let m : Moment = record { state = behind; cores = now; rest = left } in if usable then Some m else None) ≡ Some (record {
        state = (next tables before (chosen_step choice)).state;
        cores = cores_after (chosen_step choice) (next tables before (chosen_step choice)).outcome cores;
        rest = left;
      })
  now-made now left usable noted whole =
      ap (λ t. let m : Moment = record { state = behind; cores = now; rest = left } in if t then Some m else None) whole
      ∙ ap (λ s. let m : Moment = record { state = s; cores = now; rest = left } in Some m) state-made
      ∙ ap (λ cs. let m : Moment = record { state = (next tables before (chosen_step choice)).state; cores = cs; rest = left } in Some m) (cores-made now noted)
