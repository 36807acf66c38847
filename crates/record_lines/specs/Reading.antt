-- How a text is read line by line.
use Rattle.std.specs.Prelude.{Bool, true, false, ◌≡◌, ◌≢◌, ◌⊎◌, ℕ, ◌+◌, ◌-◌, min, ◌<◌, ◌≤◌, ◌^◌, List, [], ◌∷◌, ◌++◌, Option, All, codes, length}
use Rattle.std.specs.Io.KnownBytes.{Consumes, IsAtEnd, prepend_known}
use Rattle.std.specs.Fmt.{decimal}
use Rattle.base.specs.Extent.{Extent}
use Rattle.base.specs.declared.controller.protocol.Protocol.{Protocol}
use Rattle.record_lines.specs.declared.version.Version.{Version}
use Rattle.record_lines.specs.Versions.{protocol_words, IsShapeIn}
use Rattle.record_lines.specs.Grammar.{FitsEntry, FitsTold, IsOwner}
use Rattle.base.specs.Words.{joined}
use Rattle.base.specs.Spelling.{step_words, FitsStep}
use Rattle.base.specs.declared.step.Step.{Step}
use Rattle.record_lines.specs.declared.cells.Cell.{Cell}
use Rattle.record_lines.specs.Cells.{cell_words, FitsCell}
use Rattle.record_lines.specs.Text.{by_words, end_words, entry_words, shape_words, opening_words, told_words}
use Rattle.record_lines.specs.declared.entry.Entry.{Entry}
use Rattle.record_lines.specs.declared.told.Told.{Told}
use Rattle.record_lines.specs.declared.fault.ReadKind.{ReadKind}
use Rattle.record_lines.specs.declared.fault.ReadKind.TheVariants.{OverLimit, BadLine, BadOutcome, CountDiffers, UnknownProtocol}
use Rattle.record_lines.specs.Refused.{HasNoEnd, IsHigherCount, IsOtherShape, HasNoOutcome, HasOtherName}

-- what was pulled of a source and isn't taken yet: the line as far as it is gathered, and the bytes ahead; and how many lines were taken
pub record Gathered : Type 0 where
  pub line : List ℕ
  pub ahead : List ℕ
  pub number : ℕ

-- the bytes that were pulled and aren't taken yet
abbrev pub pending : Gathered → List ℕ
pending gathered = gathered.line ++ gathered.ahead

-- all bytes that are still to come
abbrev pub stream : Gathered → Option (List ℕ) → Option (List ℕ)
stream gathered left = prepend_known (pending gathered) left

-- the next byte is the end of a line
abbrev pub BeginsWithEnd : List ℕ → Type 0
BeginsWithEnd bytes = (behind : List ℕ) × (bytes ≡ 10 ∷ behind)

-- whether there are bytes
abbrev pub AreSomeIf : Bool → List ℕ → Type 0
AreSomeIf true bytes = 0 < length bytes
AreSomeIf false bytes = bytes ≡ []

-- the line was gathered further of the bytes ahead, to no more than so many bytes unless it had more: none is lost, and its end isn't passed
pub record Gathers (most : ℕ) (old new : Gathered) : Type 0 where
  pub kept : pending new ≡ pending old
  pub ahead : length new.ahead ≤ length old.ahead
  pub no_end : HasNoEnd new.line
  pub short : length old.line ≤ most → length new.line ≤ most
  pub number : new.number ≡ old.number

-- the next bytes of a source were pulled, and stand ahead; or there were none, and the source is at its end
pub record Pulls (before after : Option (List ℕ)) (old new : Gathered) (some : Bool) : Type 0 where
  pub bytes : Consumes before after new.ahead
  pub some_if : AreSomeIf some new.ahead
  pub at_end : new.ahead ≡ [] → IsAtEnd after
  pub few : length new.ahead ≤ 4096
  pub line : new.line ≡ old.line
  pub number : new.number ≡ old.number

-- no bytes came of a source
pub record PullsNone (before after : Option (List ℕ)) (old new : Gathered) : Type 0 where
  pub ahead : new.ahead ≡ []
  pub bytes : Consumes before after new.ahead
  pub line : new.line ≡ old.line
  pub number : new.number ≡ old.number

-- the line, whose end is next, was taken off
pub record IsTakenOff (old new : Gathered) : Type 0 where
  pub line : new.line ≡ []
  pub ahead : old.ahead ≡ 10 ∷ new.ahead
  pub number : new.number ≡ old.number + 1

-- the line of this entry, no part of which was gathered, was taken off with its end
pub record IsEntryTakenOff (entry : Entry) (old new : Gathered) : Type 0 where
  pub fits : FitsEntry entry
  pub none : old.line ≡ []
  pub ahead : old.ahead ≡ joined (entry_words entry) ++ 10 ∷ new.ahead
  pub line : new.line ≡ []
  pub number : new.number ≡ old.number + 1

-- the number of the line behind, if numbers are high enough for it
abbrev pub next_number : ℕ → ℕ
next_number n = min (n + 1) (2 ^ 64 - 1)

-- the line of this step, no part of which was gathered, was taken off with its end
pub record IsStepTakenOff (step : Step) (old new : Gathered) : Type 0 where
  pub none : old.line ≡ []
  pub ahead : old.ahead ≡ joined (step_words step) ++ 10 ∷ new.ahead
  pub line : new.line ≡ []
  pub number : new.number ≡ next_number old.number

-- whether the front of a line is there: its end is next, or it has so many bytes
abbrev pub HasFrontIf : Bool → ℕ → Gathered → Type 0
HasFrontIf true most gathered = BeginsWithEnd gathered.ahead ⊎ (most ≤ length gathered.line)
HasFrontIf false most gathered = gathered.ahead ≡ []

-- the line was passed with its end
pub record IsPassed (old new : Gathered) : Type 0 where
  pub rest : List ℕ
  pub no_end : HasNoEnd rest
  pub ahead : old.ahead ≡ rest ++ 10 ∷ new.ahead
  pub line : new.line ≡ []
  pub number : new.number ≡ next_number old.number

-- whether the end of a line was pulled: the line was passed up to it, or all that was pulled
abbrev pub IsPassedIf : Bool → Gathered → Gathered → Type 0
IsPassedIf true old new = IsPassed old new
IsPassedIf false old new = HasNoEnd old.ahead × (new ≡ record { line = []; ahead = []; number = old.number })

-- a line that is whole has its end ahead, and of one that isn't nothing is ahead
abbrev pub IsWholeIf : Bool → List ℕ → Type 0
IsWholeIf true ahead = BeginsWithEnd ahead
IsWholeIf false ahead = ahead ≡ []

-- the bytes ahead stand between two ends of a buffer; a line has no end, isn't too long and has its room; and either all of it is
-- kept apart, or all of it stands in the buffer and is whole
pub record AreGathered (at end held : ℕ) (kept standing : List ℕ) (capacity : ℕ) : Type 0 where
  pub in_order : at ≤ end
  pub within : end ≤ 4096
  pub behind : held ≤ at
  pub apart : 0 < held → kept ≡ []
  pub whole : 0 < held → at < end
  pub no_end : HasNoEnd (kept ++ standing)
  pub short : length kept + held ≤ 1400000
  pub room : 1400000 ≤ capacity

-- why a line of words isn't a count of this name up to this number
abbrev pub IsBadCount : List ℕ → ℕ → List (List ℕ) → ReadKind → Type 0
IsBadCount name most line OverLimit = IsHigherCount name most line
IsBadCount name most line BadLine = ((n : ℕ) → n ≤ most → line ≢ name ∷ decimal n ∷ []) × ¬ IsHigherCount name most line
IsBadCount name most line other = ⊥

-- why a line of words isn't that of a protocol
abbrev pub IsBadProtocol : List (List ℕ) → ReadKind → Type 0
IsBadProtocol line UnknownProtocol = HasOtherName line
IsBadProtocol line BadLine = ((protocol : Protocol) → line ≢ protocol_words protocol) × ¬ HasOtherName line
IsBadProtocol line other = ⊥

-- why a line of words isn't that of a shape in this version
abbrev pub IsBadShape : Version → List (List ℕ) → ReadKind → Type 0
IsBadShape version line OverLimit = IsOtherShape version line
IsBadShape version line BadLine = ((shape : Extent) → IsShapeIn version shape → line ≢ shape_words shape) × ¬ IsOtherShape version line
IsBadShape version line other = ⊥

-- a line of words spells these opening values of so many blocks
pub record SpellsOpening (blocks : ℕ) (line : List (List ℕ)) (values : List ℕ) : Type 0 where
  pub count : length values ≡ blocks
  pub spelled : line ≡ opening_words values
  pub small : All (λ value. value < 2 ^ 64) values

-- why a line of words isn't that of the opening values of a shape
abbrev pub IsBadOpening : ℕ → List (List ℕ) → ReadKind → Type 0
IsBadOpening blocks line BadLine = (values : List ℕ) → length values ≡ blocks → All (λ value. value < 2 ^ 64) values → line ≢ opening_words values
IsBadOpening blocks line other = ⊥

-- no cell is spelled so
abbrev pub IsNoCell : List (List ℕ) → Type 0
IsNoCell line = (cell : Cell) → FitsCell cell → line ≢ cell_words cell

-- a step, an equals sign and something behind it stand in no line of these words
abbrev pub HasNoStep : List (List ℕ) → Type 0
HasNoStep line = (s : Step) (first : List ℕ) (others : List (List ℕ)) → FitsStep s → line ≢ step_words s ++ codes "=" ∷ first ∷ others

-- a step, an equals sign and an outcome: or where they aren't, why
abbrev pub IsBadEntry : List (List ℕ) → ReadKind → Type 0
IsBadEntry line BadOutcome = HasNoOutcome 0 line
IsBadEntry line BadLine = HasNoStep line
IsBadEntry line other = ⊥

-- in front of no entry of these seats stands whose it is
abbrev pub HasNoOwned : ℕ → List (List ℕ) → Type 0
HasNoOwned seats line =
    (owner : Option ℕ) (s : Step) (first : List ℕ) (others : List (List ℕ)) → IsOwner seats owner → FitsStep s →
    line ≢ by_words owner ++ (step_words s ++ codes "=" ∷ first ∷ others)

-- a line of words tells this entry, where there are so many seats
pub record TellsEntry (seats : ℕ) (line : List (List ℕ)) (told : Told) : Type 0 where
  pub fits : FitsTold seats told
  pub spelled : line ≡ told_words told

-- why a line of words isn't that of an entry that is told where there are so many seats
abbrev pub IsBadTold : ℕ → List (List ℕ) → ReadKind → Type 0
IsBadTold seats line BadOutcome = HasNoOutcome seats line
IsBadTold seats line BadLine = HasNoOwned seats line
IsBadTold seats line other = ⊥

-- where an entry is due of so many seats, why a line isn't one
abbrev pub IsFaultOfTold : ℕ → List (List ℕ) → ReadKind → Type 0
IsFaultOfTold seats line CountDiffers = line ≡ end_words
IsFaultOfTold seats line BadOutcome = HasNoOutcome seats line
IsFaultOfTold seats line BadLine = HasNoOwned seats line × (line ≢ end_words)
IsFaultOfTold seats line other = ⊥

-- no seat of so many stands in front of a line, with something behind it
abbrev pub HasNoSeat : ℕ → List (List ℕ) → Type 0
HasNoSeat seats line = (seat : ℕ) (first : List ℕ) (others : List (List ℕ)) → seat < seats → line ≢ codes "by" ∷ decimal seat ∷ first ∷ others

-- nobody's words stand in front of a line, with something behind them
abbrev pub HasNoBy : ℕ → List (List ℕ) → Type 0
HasNoBy seats line = (owner : Option ℕ) (first : List ℕ) (others : List (List ℕ)) → IsOwner seats owner → line ≢ by_words owner ++ first ∷ others
