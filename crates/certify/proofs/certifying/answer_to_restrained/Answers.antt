use Rattle.tables.specs.Tables.{Tables}
use Rattle.tables.specs.declared.cell_places.CellPlace.{CellPlace}
use Rattle.tables.specs.declared.cell_places.CellPlace.TheVariants.{Cache, Directory}
use Rattle.machine.specs.Going.{KeepsGoing}
use Rattle.certify.specs.Certificates.{LetsFlow}
use Rattle.certify.proofs.certifying.answer_to_restrained.Goals as goal

going : (tables : Tables) → ((cell : CellPlace) → LetsFlow tables cell) → KeepsGoing tables
going tables h = record { cache = λ s e x. h (Cache s e) x; directory = λ s e x. h (Directory s e) x }

pub answer_to_flowing-requires-clause-going : goal.answer_to_flowing-requires-clause-going
answer_to_flowing-requires-clause-going c = going c.args.tables.now c.in-None.ensures.none

pub returns-in-Some : goal.returns-in-Some
returns-in-Some c = (c.requires.restrained, c.in-Some.ensures.some)
