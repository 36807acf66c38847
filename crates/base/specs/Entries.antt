-- How entries of a table and changes of its cells are spelled, and when two entries are the same.
use Rattle.std.specs.Prelude.{◌≡◌, ◌≢◌, ℕ, ◌≤◌, ⊤, Bool, true, false, ◌==◌, ◌&&◌, List, [], ◌∷◌, codes, length, map}
use Rattle.base.specs.declared.controller.entry.CellEntry.{CellEntry}
use Rattle.base.specs.declared.controller.entry.CellEntry.TheVariants.{Blank, Stall, Act}
use Rattle.base.specs.declared.controller.entry.Change.{Change}
use Rattle.base.specs.declared.controller.entry.Side.{Side}
use Rattle.base.specs.declared.controller.entry.Side.TheVariants.{Cache, Directory}

-- the words that spell an entry
abbrev pub entry_words : {S A : Type 0} → (S → List ℕ) → (A → List ℕ) → CellEntry S A → List (List ℕ)
entry_words state action Blank = codes "blank" ∷ []
entry_words state action Stall = codes "stall" ∷ []
entry_words state action (Act next actions) = codes "act" ∷ state next ∷ map action actions

-- what is done, in order: nothing where there is no rule or the event waits
abbrev pub actions_of : {S A : Type 0} → CellEntry S A → List A
actions_of (Act next actions) = actions
actions_of other = []

-- an entry has at most eight actions
abbrev pub HasFewActions : {S A : Type 0} → CellEntry S A → Type 0
HasFewActions (Act next actions) = length actions ≤ 8
HasFewActions other = ⊤

-- these words spell no entry
abbrev pub IsNoEntry : {S A : Type 0} → (S → List ℕ) → (A → List ℕ) → List (List ℕ) → Type 0
IsNoEntry {S} {A} state action line = (entry : CellEntry S A) → HasFewActions entry → line ≢ entry_words state action entry

-- the word for a side
abbrev pub side_word : Side → List ℕ
side_word Cache = codes "cache"
side_word Directory = codes "directory"

-- the words that spell a change of a cell of this side's table
abbrev pub change_words : {S E A : Type 0} → (S → List ℕ) → (E → List ℕ) → (A → List ℕ) → Side → Change S E A → List (List ℕ)
change_words state event action side c =
    codes "cell" ∷ side_word side ∷ state c.state ∷ event c.event ∷ entry_words state action c.entry

-- these words spell no change of a cell of this side's table
abbrev pub IsNoChange : {S E A : Type 0} → (S → List ℕ) → (E → List ℕ) → (A → List ℕ) → Side → List (List ℕ) → Type 0
IsNoChange {S} {E} {A} state event action side line =
    (c : Change S E A) → HasFewActions c.entry → line ≢ change_words state event action side c

-- a line is the text of one change at most
abbrev pub SpellsOneChange : {S E A : Type 0} → (S → List ℕ) → (E → List ℕ) → (A → List ℕ) → Type 0
SpellsOneChange {S} {E} {A} state event action =
    (side : Side) (c d : Change S E A) → change_words state event action side c ≡ change_words state event action side d → c ≡ d

-- whether two lists have the same things, each of which has a number of its own, in the same order
abbrev pub same_list : {A : Type 0} → (A → ℕ) → List A → List A → Bool
same_list number [] [] = true
same_list number (a ∷ later) (b ∷ others) = (number a == number b) && same_list number later others
same_list number one other = false

-- whether two entries are the same: both blank, both a stall, or the same next state and the same actions
abbrev pub same_entry : {S A : Type 0} → (S → ℕ) → (A → ℕ) → CellEntry S A → CellEntry S A → Bool
same_entry state action Blank Blank = true
same_entry state action Stall Stall = true
same_entry state action (Act next actions) (Act other others) = (state next == state other) && same_list action actions others
same_entry state action entry other = false
