use Rattle.std.proofs.Common.{List, map, inl, inr, sym, ◌∙◌, subst}
use Rattle.record_lines.specs.declared.entry.Entry.{Entry}
use Rattle.schedule.specs.Words.{word}
use Rattle.moment.specs.Moments.{Moment}
use Rattle.trials.specs.Moments.{first_moment}
use Rattle.trials.specs.Trial.{IsVerdict}
use Rattle.trials.proofs.Verdicts.{trial-walks}
use Rattle.trials.proofs.Agreeing.{walks-agree, no-longer, same-verdict, same-kept}
use Rattle.trials.proofs.laws.one_trial_a_number.Goals as goal

pub returns : goal.returns
returns c terms tree number one other verdict another trial second =
    elim
    (walks-agree terms.tables (λ k. word terms.seed number k) (first_moment terms tree) trial.last second.last one.entries other.entries
    (trial-walks terms tree number one verdict trial) (trial-walks terms tree number other another second)) [
      | inl same ↦
          let ends =
          subst (λ (m : Moment). IsVerdict terms (map (λ (e : Entry). e.step) other.entries) m verdict) same.1
          (subst (λ (l : List Entry). IsVerdict terms (map (λ (e : Entry). e.step) l) trial.last verdict) same.0 trial.ends) in (
            same-kept one other trial.unowned second.unowned (trial.shape ∙ sym second.shape) (trial.tables ∙ sym second.tables)
                (trial.opening ∙ sym second.opening) same.0,
            same-verdict terms (map (λ (e : Entry). e.step) other.entries) second.last verdict another c.one_violation_at_most.ensures ends second.ends,
          )
      | inr (inl longer) ↦ absurd (no-longer terms one.entries other.entries trial.last second.last verdict another second.few longer trial.ends second.ends)
      | inr (inr longer) ↦ absurd (no-longer terms other.entries one.entries second.last trial.last another verdict trial.few longer second.ends trial.ends)
    ]
