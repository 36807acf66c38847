use Rattle.tables.specs.Tables.{Tables}
use Rattle.tables.specs.declared.cell_places.CellPlace.{CellPlace}
use Rattle.tables.specs.declared.cell_places.CellPlace.TheVariants.{Cache}
use Rattle.machine.specs.Going.{ServesAsks}
use Rattle.certify.specs.Certificates.{ServesAt}
use Rattle.certify.proofs.certifying.answer_to_flowing.Goals as goal

serving : (tables : Tables) → ((cell : CellPlace) → ServesAt tables cell) → ServesAsks tables
serving tables h = record { served = λ s e settled x. h (Cache s e) settled x }

pub returns-in-Some : goal.returns-in-Some
returns-in-Some c = (c.requires.restrained, c.requires.going, c.in-Some.ensures.some)

pub returns-in-None : goal.returns-in-None
returns-in-None c = record {
  restrained = c.requires.restrained;
  going = c.requires.going;
  serving = serving c.args.tables.now c.in-None.ensures.none;
}
