-- The first fault of a text that isn't a recording's, line by line.
use Rattle.std.specs.Prelude.{◌≡◌, ◌≢◌, ◌⊎◌, ℕ, ◌+◌, ◌<◌, ◌≤◌, List, [], ◌∷◌, ◌++◌, Option, All, length, take, codes, slice_index}
use Rattle.std.specs.List.{flat_map}
use Rattle.std.specs.Io.KnownBytes.{Consumes, IsAtEnd}
use Rattle.std.specs.Fmt.{decimal}
use Rattle.base.specs.Extent.{Extent}
use Rattle.base.specs.Protocols.{protocol_name}
use Rattle.base.specs.declared.controller.protocol.Protocol.{Protocol}
use Rattle.base.specs.Words.{joined, words}
use Rattle.base.specs.Spelling.{step_words, outcome_words, FitsStep, FitsOutcome}
use Rattle.base.specs.declared.step.Step.{Step}
use Rattle.base.specs.declared.step.Outcome.{Outcome}
use Rattle.record_lines.specs.declared.told.Told.{Told}
use Rattle.record_lines.specs.declared.version.Version.{Version}
use Rattle.record_lines.specs.declared.version.Version.TheVariants.{One, Two}
use Rattle.record_lines.specs.Versions.{most_bytes, IsShapeIn}
use Rattle.record_lines.specs.declared.fault.ReadKind.{ReadKind}
use Rattle.record_lines.specs.declared.fault.ReadKind.TheVariants.{BadHeader, BadLine, Truncated, CountDiffers, BadOutcome, OverLimit, NoMemory, Device}
use Rattle.record_lines.specs.declared.fault.ReadKind.TheVariants.{UnknownProtocol}
use Rattle.record_lines.specs.Cells.{most_cells}
use Rattle.record_lines.specs.Text.{header_words, shape_words, by_words, told_words, end_words}
use Rattle.record_lines.specs.declared.due.Due.{Due}
use Rattle.record_lines.specs.declared.due.Due.TheVariants.{Header, ProtocolLine, ShapeLine, SeatsLine, OpeningLine, CellCount, CellLine, EntryCount}
use Rattle.record_lines.specs.declared.due.Due.TheVariants.{EntryLine, EndLine, Nothing}
use Rattle.record_lines.specs.Grammar.{IsOwner, FitsTold, Leads, Follow}

-- a line with its end
abbrev pub ended : List ℕ → List ℕ
ended line = line ++ 10 ∷ []

-- no line ends in these bytes
abbrev pub HasNoEnd : List ℕ → Type 0
HasNoEnd bytes = All (λ b. b ≢ 10) bytes

-- a number of any size is well spelled: digits, with no zero in front of others
pub record IsNumber (word : List ℕ) : Type 0 where
  pub some : 0 < length word
  pub digits : (k : ℕ) → k < length word → (48 ≤ slice_index word k) × (slice_index word k ≤ 57)
  pub no_zeros : slice_index word 0 ≡ 48 → length word ≡ 1

-- a count of this name that is well spelled, and higher than this
pub record IsHigherCount (name : List ℕ) (most : ℕ) (line : List (List ℕ)) : Type 0 where
  pub count : List ℕ
  pub spelled : line ≡ name ∷ count ∷ []
  pub number : IsNumber count
  pub higher : (n : ℕ) → n ≤ most → count ≢ decimal n

-- a shape that is well spelled, and isn't within the limits of its version
pub record IsOtherShape (version : Version) (line : List (List ℕ)) : Type 0 where
  pub caches : List ℕ
  pub blocks : List ℕ
  pub spelled : line ≡ codes "shape" ∷ caches ∷ blocks ∷ []
  pub cache_number : IsNumber caches
  pub block_number : IsNumber blocks
  pub outside : (shape : Extent) → IsShapeIn version shape → line ≢ shape_words shape

-- the line is past a limit of what is due
abbrev pub IsOver : Due → List (List ℕ) → Type 0
IsOver (ShapeLine f) line = IsOtherShape f.version line
IsOver (SeatsLine f shape) line = IsHigherCount (codes "seats") 64 line
IsOver (CellCount f) line = IsHigherCount (codes "cells") (most_cells f.protocol) line
IsOver (EntryCount f) line = IsHigherCount (codes "entries") 1000000 line
IsOver due line = ⊥

-- the end stands where an entry is due, or an entry where the end is due
abbrev pub IsMiscounted : Due → List (List ℕ) → Type 0
IsMiscounted (EntryLine f left) line = line ≡ end_words
IsMiscounted (EndLine f) line = (t : Told) × FitsTold f.seats t × (line ≡ told_words t)
IsMiscounted due line = ⊥

-- the protocol is due, and one word stands there that is the name of none
pub record HasOtherName (line : List (List ℕ)) : Type 0 where
  pub name : List ℕ
  pub spelled : line ≡ codes "protocol" ∷ name ∷ []
  pub some : 0 < length name
  pub none : (protocol : Protocol) → name ≢ protocol_name protocol

abbrev pub IsUnknown : Due → List (List ℕ) → Type 0
IsUnknown ProtocolLine line = HasOtherName line
IsUnknown due line = ⊥

-- where an entry of these seats is due, a step and an equals sign stand, and what follows is no outcome
pub record HasNoOutcome (seats : ℕ) (line : List (List ℕ)) : Type 0 where
  pub owner : Option ℕ
  pub owned : IsOwner seats owner
  pub step : Step
  pub first : List ℕ
  pub others : List (List ℕ)
  pub fits : FitsStep step
  pub spelled : line ≡ by_words owner ++ (step_words step ++ codes "=" ∷ first ∷ others)
  pub none : (o : Outcome) → FitsOutcome o → first ∷ others ≢ outcome_words o

-- an entry is due, and what follows its step is no outcome
abbrev pub IsBadOutcome : Due → List (List ℕ) → Type 0
IsBadOutcome (EntryLine f left) line = HasNoOutcome f.seats line
IsBadOutcome due line = ⊥

-- the line isn't the one that is due, and the fault isn't one of those above
pub record IsOther (due : Due) (line : List (List ℕ)) : Type 0 where
  pub behind_header : due ≢ Header
  pub other : (next : Due) → ¬ Leads due line next
  pub not_over : ¬ IsOver due line
  pub known : ¬ IsUnknown due line
  pub not_miscounted : ¬ IsMiscounted due line
  pub no_bad_outcome : ¬ IsBadOutcome due line

-- this is the fault of a whole line of these words, where this is due
abbrev pub IsFaultOfLine : Due → List (List ℕ) → ReadKind → Type 0
IsFaultOfLine due line OverLimit = IsOver due line
IsFaultOfLine due line BadHeader = (due ≡ Header) × ((version : Version) → line ≢ header_words version)
IsFaultOfLine due line UnknownProtocol = IsUnknown due line
IsFaultOfLine due line CountDiffers = IsMiscounted due line
IsFaultOfLine due line BadOutcome = IsBadOutcome due line
IsFaultOfLine due line BadLine = IsOther due line
IsFaultOfLine due line other = ⊥

-- the most bytes of the line that is due: of the first as in version 1, and of others as in their version
abbrev pub limit : Due → ℕ
limit Header = most_bytes One
limit ProtocolLine = most_bytes Two
limit (ShapeLine f) = most_bytes f.version
limit (SeatsLine f shape) = most_bytes f.version
limit (OpeningLine f shape) = most_bytes f.version
limit (CellCount f) = most_bytes f.version
limit (CellLine f left from) = most_bytes f.version
limit (EntryCount f) = most_bytes f.version
limit (EntryLine f left) = most_bytes f.version
limit (EndLine f) = most_bytes f.version
limit Nothing = 0

-- no line is too long: the first in its own limit, and those behind it in that of their version
abbrev pub AreShort : Version → List (List (List ℕ)) → Type 0
AreShort version [] = Unit {0}
AreShort version (first ∷ others) = (length (joined first) ≤ most_bytes One) × All (λ words. length (joined words) ≤ most_bytes version) others

-- a whole line, of which this is the fault, stands first
pub record BeginsFaulty (due : Due) (rest : List ℕ) (kind : ReadKind) : Type 0 where
  pub line : List ℕ
  pub behind : List ℕ
  pub stands : rest ≡ ended line ++ behind
  pub no_end : HasNoEnd line
  pub short : length line ≤ limit due
  pub fault : IsFaultOfLine due (words line) kind

-- one byte more than a line may have stands there without an end
pub record IsTooLong (most : ℕ) (rest : List ℕ) : Type 0 where
  pub long : most < length rest
  pub no_end : HasNoEnd (take (most + 1) rest)

-- a line that isn't whole yet, nor too long
pub record IsUnfinished (most : ℕ) (rest : List ℕ) : Type 0 where
  pub no_end : HasNoEnd rest
  pub short : length rest ≤ most

-- where this is due and these bytes have been read, this is the first fault: memory or a device fails only in a line that isn't whole yet
abbrev pub IsFaultOfRest : Due → List ℕ → Option (List ℕ) → ReadKind → Type 0
IsFaultOfRest due rest end Truncated = (due ≢ Nothing) × IsUnfinished (limit due) rest × IsAtEnd end
IsFaultOfRest due rest end OverLimit = ((due ≢ Nothing) × IsTooLong (limit due) rest) ⊎ BeginsFaulty due rest OverLimit
IsFaultOfRest due rest end BadLine = ((due ≡ Nothing) × (rest ≢ [])) ⊎ BeginsFaulty due rest BadLine
IsFaultOfRest due rest end NoMemory = (due ≢ Nothing) × IsUnfinished (limit due) rest
IsFaultOfRest due rest end Device = IsUnfinished (limit due) rest × (due ≡ Nothing → rest ≡ [])
IsFaultOfRest due rest end kind = BeginsFaulty due rest kind

-- what a source has left, behind so many lines and where this is due, is refused in this line: the lines before it are well formed, and it has this fault
pub record IsRefused (before end : Option (List ℕ)) (behind : ℕ) (due : Due) (line : ℕ) (kind : ReadKind) : Type 0 where
  pub lines : List (List ℕ)
  pub last : Due
  pub rest : List ℕ
  pub follow : Follow due lines last
  pub number : line ≡ behind + length lines + 1
  pub read : Consumes before end (flat_map ended lines ++ rest)
  pub fault : IsFaultOfRest last rest end kind

-- the bytes aren't at fault: memory was wanted, or a device failed
abbrev pub IsOutside : ReadKind → Type 0
IsOutside kind = (kind ≡ NoMemory) ⊎ (kind ≡ Device)

-- what a source had, up to what it has left, was well formed lines from the first to the last, and nothing is left
pub record IsWellFormed (before after : Option (List ℕ)) : Type 0 where
  pub lines : List (List ℕ)
  pub follow : Follow Header lines Nothing
  pub read : Consumes before after (flat_map ended lines)
  pub end : IsAtEnd after
