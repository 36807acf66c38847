use Rattle.std.proofs.Common.{◌≡◌, ◌∙◌, Some, ap, subst}
use Rattle.base.specs.declared.step.Outcome.{Outcome}
use Rattle.tables.specs.Tables.{Tables}
use Rattle.machine.specs.Machine.{State, Next}
use Rattle.machine.specs.Made.{IsTold}
use Rattle.machine.proofs.Making.{next-told}
use Rattle.record.specs.View.{with_owned}
use Rattle.floor.proofs.halls.advance.Goals as goal

pub returns-clause-ok : goal.returns-clause-ok
returns-clause-ok c =
    let r = c.ready.ensures.kept in
    let m = c.in-Ok.ensures.ok in
    let old = c.args.world.now in
    let step = c.args.step in
    let made = c.in-Ok.made in
    let behind = c.make.new.self.state in
    let told : IsTold old.tables old.state step made behind =
    subst (λ (t : Tables). IsTold t old.state step made behind) r.tables
    (subst (λ (s : State). IsTold c.ready.new.self.tables s step made behind) r.state m.told) in
    let same : c.in_ok-outcome.outcome ≡ made.outcome =
    c.in_ok-outcome.ensures.ok.outcome ∙ ap (λ (n : Next). n.outcome) (next-told old.tables old.state step made behind told) in
    record {
      told = told;
      shape = m.shape ∙ r.shape;
      tables = m.tables ∙ r.tables;
      recorded = c.in_default.ensures.ok
          ∙ ap (λ (o : Outcome). with_owned c.args.recording.now (record { step = step; outcome = o }) (Some c.args.seat)) same;
    }
