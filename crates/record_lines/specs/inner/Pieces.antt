-- What stands in front of an entry. Only private clauses cite this file.
use Rattle.std.specs.Prelude.{ℕ, List, [], ◌∷◌, ◌++◌, Option, Some, None, codes}
use Rattle.std.specs.Fmt.{decimal}

-- what stands in front of an entry that has an owner, with a blank behind it
abbrev pub by_text : Option ℕ → List ℕ
by_text None = []
by_text (Some seat) = codes "by" ++ (32 ∷ decimal seat) ++ codes " "
