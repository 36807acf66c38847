-- What is asked of each cell of tables.
use Rattle.tables.specs.Tables.{Tables}
use Rattle.tables.specs.declared.cell_places.CellPlace.{CellPlace}
use Rattle.certify.specs.Certificates.{LetsFlow, ServesAt}
use Rattle.certify.specs.Standings.{IsAdmitted}
use Rattle.certify.specs.declared.certifying.Demand.{Demand}
use Rattle.certify.specs.declared.certifying.Demand.TheVariants.{Admission, Flow, Service}

-- a cell is as it is asked
abbrev pub Meets : Tables → Demand → CellPlace → Type 0
Meets tables Admission cell = IsAdmitted tables cell
Meets tables Flow cell = LetsFlow tables cell
Meets tables Service cell = ServesAt tables cell
