-- That a decision is about the line that the block has.
use Rattle.std.specs.Prelude.{◌≡◌, List, Some, slice_get}
use Rattle.control.specs.declared.line.Line.{Line}
use Rattle.machine.specs.declared.decision.Decision.{Decision}
use Rattle.machine.specs.declared.decision.Decision.TheVariants.{Refused, AtLine, AtHome}

-- where a cell acts at a line, that is the line of its cache
abbrev pub IsAboutLine : List Line → Decision → Type 0
IsAboutLine lines (Refused what) = Unit {0}
IsAboutLine lines (AtLine cache line input next actions from) = Some line ≡ slice_get lines cache.0
IsAboutLine lines (AtHome input next actions from) = Unit {0}
