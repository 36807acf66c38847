-- What a crew gives back.
use Rattle.std.specs.Prelude.{◌≡◌, ℕ, List, [], ◌∷◌, ◌++◌}
use Rattle.record_lines.specs.declared.entry.Entry.{Entry}
use Rattle.floor.specs.Turning.{SeatView}

-- the same seat later on, with its old receipts first
abbrev pub GoesOn : SeatView → SeatView → Type 0
GoesOn old new = (new.number ≡ old.number) × (more : List (ℕ × Entry)) × (new.made ≡ old.made ++ more)

-- each seat comes back once, in its place, with its old receipts first
abbrev pub ComeBack : {X : Type 0} → List SeatView → List (SeatView × X) → Type 0
ComeBack [] [] = Unit {0}
ComeBack (seat ∷ seats) (back ∷ others) = GoesOn seat back.0 × ComeBack seats others
ComeBack [] (back ∷ others) = ⊥
ComeBack (seat ∷ seats) [] = ⊥
