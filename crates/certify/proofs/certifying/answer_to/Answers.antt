use Rattle.tables.specs.Tables.{Tables}
use Rattle.tables.specs.declared.cell_places.CellPlace.{CellPlace}
use Rattle.tables.specs.declared.cell_places.CellPlace.TheVariants.{Cache, Directory}
use Rattle.machine.specs.Restraint.{AreRestrained}
use Rattle.certify.specs.Standings.{IsAdmitted}
use Rattle.certify.proofs.certifying.answer_to.Goals as goal

restrained : (tables : Tables) → ((cell : CellPlace) → IsAdmitted tables cell) → AreRestrained tables
restrained tables h = record { cache = λ s e. h (Cache s e); directory = λ s e. h (Directory s e) }

pub answer_to_restrained-requires-clause-restrained : goal.answer_to_restrained-requires-clause-restrained
answer_to_restrained-requires-clause-restrained c = restrained c.args.tables.now c.in-None.ensures.none
