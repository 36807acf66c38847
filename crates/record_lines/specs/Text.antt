-- The lines of a recording's text, and the words of each.
use Rattle.std.specs.Prelude.{ℕ, List, [], ◌∷◌, ◌++◌, Option, Some, None, codes, map}
use Rattle.std.specs.Fmt.{decimal}
use Rattle.base.specs.Extent.{Extent}
use Rattle.base.specs.Words.{joined}
use Rattle.base.specs.Spelling.{step_words, outcome_words}
use Rattle.record_lines.specs.declared.entry.Entry.{Entry}
use Rattle.record_lines.specs.declared.told.Told.{Told}
use Rattle.record_lines.specs.declared.version.Version.{Version}
use Rattle.record_lines.specs.Versions.{version_word}

-- a line of these words, with its end
abbrev pub line : List (List ℕ) → List ℕ
line words = joined words ++ 10 ∷ []

-- the first line
abbrev pub header_words : Version → List (List ℕ)
header_words version = codes "msi-recording" ∷ version_word version ∷ []

-- the line of the shape
abbrev pub shape_words : Extent → List (List ℕ)
shape_words shape = codes "shape" ∷ decimal shape.caches ∷ decimal shape.blocks ∷ []

-- the line of the opening values
abbrev pub opening_words : List ℕ → List (List ℕ)
opening_words values = codes "opening" ∷ map decimal values

-- the line that says how many cells follow
abbrev pub cells_words : ℕ → List (List ℕ)
cells_words count = codes "cells" ∷ decimal count ∷ []

-- the line that says how many entries follow
abbrev pub entries_words : ℕ → List (List ℕ)
entries_words count = codes "entries" ∷ decimal count ∷ []

-- an entry: the step, and behind an equals sign the outcome
abbrev pub entry_words : Entry → List (List ℕ)
entry_words e = step_words e.step ++ codes "=" ∷ outcome_words e.outcome

-- in front of an entry that has an owner stands whose it is
abbrev pub by_words : Option ℕ → List (List ℕ)
by_words None = []
by_words (Some seat) = codes "by" ∷ decimal seat ∷ []

-- the line of an entry that is told
abbrev pub told_words : Told → List (List ℕ)
told_words t = by_words t.owner ++ entry_words t.entry

-- the last line
abbrev pub end_words : List (List ℕ)
end_words = codes "end" ∷ []
