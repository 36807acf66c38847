-- How asks about a block are found.
use Rattle.std.specs.Prelude.{List}
use Rattle.base.specs.declared.step.CoreAsk.{CoreAsk}
use Rattle.schedule.specs.inner.Groups.{Cover}
use Rattle.schedule.specs.inner.Places.{ArePlaced}
use Rattle.schedule.specs.declared.asks.Search.{Search}
use Rattle.schedule.specs.declared.asks.Search.TheVariants as search
use Rattle.schedule.specs.declared.groups.Groups.{Groups}
use Rattle.schedule.specs.declared.places.Places.{Places}

-- what they are found by is right
abbrev pub AreFound : Search → Groups → Places → List CoreAsk → Type 0
AreFound search.All groups places asks = Unit {0}
AreFound search.Groups groups places asks = Cover groups asks
AreFound search.Places groups places asks = ArePlaced places asks
