use Rattle.tables.specs.Tables.{Tables}
use Rattle.tables.specs.declared.cell_places.CellPlace.{CellPlace}
use Rattle.tables.specs.declared.cell_places.CellPlace.TheVariants.{Cache, Directory}
use Rattle.machine.specs.Restraint.{AreRestrained}
use Rattle.certify.specs.Certificates.{IsCertificate, SaysRestrained}
use Rattle.certify.specs.Standings.{IsAdmitted}
use Rattle.certify.specs.declared.certifying.Certificate.{Certificate}
use Rattle.certify.specs.declared.certifying.Certificate.TheVariants.{NotProved, ClosedPairs, NeverStuck, AsksMayBeHeld, MessagesMayGetStuck}
use Rattle.certify.proofs.certifying.certify.Goals as goal

-- what an answer says of tables, where these are restrained
says-restrained : (tables : Tables) (x : Certificate) → IsCertificate tables x → SaysRestrained x → AreRestrained tables
says-restrained tables (NotProved cell refusal) h said = absurd said
says-restrained tables (ClosedPairs cell count flow) h said = absurd said
says-restrained tables NeverStuck h said = h.restrained
says-restrained tables (AsksMayBeHeld cell) h said = h.0
says-restrained tables (MessagesMayGetStuck cell) h said = h.0

admits : (tables : Tables) → AreRestrained tables → (cell : CellPlace) → IsAdmitted tables cell
admits tables r (Cache s e) = r.cache s e
admits tables r (Directory s e) = r.directory s e

said-where-restrained : (tables : Tables) (x : Certificate) → IsCertificate tables x → AreRestrained tables → SaysRestrained x
said-where-restrained tables (NotProved cell refusal) h r = h.barred (admits tables r cell)
said-where-restrained tables (ClosedPairs cell count flow) h r = h.0.barred (admits tables r cell)
said-where-restrained tables NeverStuck h r = tt
said-where-restrained tables (AsksMayBeHeld cell) h r = tt
said-where-restrained tables (MessagesMayGetStuck cell) h r = tt

pub returns-clause-restrained : goal.returns-clause-restrained
returns-clause-restrained c =
    (says-restrained c.args.tables.now c.answer_to.result c.answer_to.ensures, said-where-restrained c.args.tables.now c.answer_to.result c.answer_to.ensures)

pub returns-clause-runs : goal.returns-clause-runs
returns-clause-runs c =
    let tables = c.args.tables.now in
    let answer = c.answer_to.result in
    let is = c.answer_to.ensures in
    let told = c.certified_tables_are_safe.ensures in
    record {
      safe = λ said shape opening steps. told.safe tables answer shape opening steps is said;
      never_met = λ said shape opening steps step. c.restrained_tables_are_safe.ensures.never_met tables shape opening steps step
          (says-restrained tables answer is said);
      flowing = λ said shape opening steps. told.flowing tables answer shape opening steps is said;
      unstuck = λ said shape opening steps. told.unstuck tables answer shape opening steps is said;
    }
