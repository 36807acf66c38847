-- The history of a seat: which entries it owns.
use Rattle.std.specs.Prelude.{◌+◌, ◌==◌, ℕ, List, [], ◌∷◌, if◌then◌else◌}
use Rattle.record_lines.specs.declared.entry.Entry.{Entry}

-- the entries that a seat owns, each with its number, where the first has this number
abbrev pub owned_from : ℕ → ℕ → List Entry → List ℕ → List (ℕ × Entry)
owned_from seat number [] owners = []
owned_from seat number (entry ∷ entries) [] = []
owned_from seat number (entry ∷ entries) (owner ∷ owners) =
    if owner == seat then (number, entry) ∷ owned_from seat (number + 1) entries owners else owned_from seat (number + 1) entries owners

-- the history of a seat: the entries that it owns with their numbers, in rising order
abbrev pub history : ℕ → List Entry → List ℕ → List (ℕ × Entry)
history seat entries owners = owned_from seat 0 entries owners
