-- What differs by the version of a recording's text. Nothing else does.
use Rattle.std.specs.Prelude.{◌≡◌, ℕ, ◌≤◌, List, [], ◌∷◌, codes}
use Rattle.std.specs.Fmt.{decimal}
use Rattle.base.specs.Extent.{Extent, IsWithinLimits}
use Rattle.base.specs.Protocols.{protocol_name}
use Rattle.base.specs.declared.controller.protocol.Protocol.{Protocol}
use Rattle.base.specs.declared.controller.protocol.Protocol.TheVariants.{Msi}
use Rattle.record_lines.specs.declared.due.Due.{Due}
use Rattle.record_lines.specs.declared.due.Due.TheVariants.{ProtocolLine, ShapeLine, SeatsLine, OpeningLine}
use Rattle.record_lines.specs.declared.due.TextHead.{TextHead}
use Rattle.record_lines.specs.declared.version.Version.{Version}
use Rattle.record_lines.specs.declared.version.Version.TheVariants.{One, Two}

-- the second word of the first line
abbrev pub version_word : Version → List ℕ
version_word One = codes "1"
version_word Two = codes "2"

-- the most bytes of a line behind the first
abbrev pub most_bytes : Version → ℕ
most_bytes One = 90000
most_bytes Two = 1400000

-- the most caches and blocks
abbrev pub most_caches : Version → ℕ
most_caches One = 1024
most_caches Two = 4096

abbrev pub most_blocks : Version → ℕ
most_blocks One = 4096
most_blocks Two = 65536

-- the words of the line of the protocol, and of the line of the seats
abbrev pub protocol_words : Protocol → List (List ℕ)
protocol_words protocol = codes "protocol" ∷ protocol_name protocol ∷ []

abbrev pub seats_words : ℕ → List (List ℕ)
seats_words seats = codes "seats" ∷ decimal seats ∷ []

-- the lines in front of that of the shape: that of the protocol, where it is told
abbrev pub protocol_lines : Version → Protocol → List (List (List ℕ))
protocol_lines One protocol = []
protocol_lines Two protocol = protocol_words protocol ∷ []

-- the lines behind that of the shape: that of the seats, where they are told
abbrev pub seats_lines : Version → ℕ → List (List (List ℕ))
seats_lines One seats = []
seats_lines Two seats = seats_words seats ∷ []

-- a text of this protocol that tells of so many seats, or of none yet
abbrev pub form : Version → Protocol → ℕ → TextHead
form version protocol seats = record { version = version; protocol = protocol; seats = seats }

-- what is due behind the first line, and behind the shape's
abbrev pub header_leads : Version → Due
header_leads One = ShapeLine (form One Msi 0)
header_leads Two = ProtocolLine

abbrev pub shape_leads_in : Version → TextHead → Extent → Due
shape_leads_in One f shape = OpeningLine f shape
shape_leads_in Two f shape = SeatsLine f shape

-- a shape that a text of this version may have
pub record IsShapeIn (version : Version) (shape : Extent) : Type 0 where
  pub within : IsWithinLimits shape
  pub few_caches : shape.caches ≤ most_caches version
  pub few_blocks : shape.blocks ≤ most_blocks version

-- a text of this version tells this protocol, and so many seats
abbrev pub CanTell : Version → Protocol → ℕ → Type 0
CanTell One protocol seats = (protocol ≡ Msi) × (seats ≡ 0)
CanTell Two protocol seats = Unit {0}
