-- How a protocol is spelled.
use Rattle.std.specs.Prelude.{◌≡◌, ℕ, List, codes, true}
use Rattle.base.specs.Spelling.{is_name}
use Rattle.base.specs.declared.controller.protocol.Protocol.{Protocol}
use Rattle.base.specs.declared.controller.protocol.Protocol.TheVariants.{Msi, MsiE}

-- the name of a protocol
abbrev pub protocol_name : Protocol → List ℕ
protocol_name Msi = codes "msi"
protocol_name MsiE = codes "msi+e"

-- each protocol's name is one word, and no other's
pub record IsOfOne : Type 0 where
  pub plain : (p : Protocol) → is_name (protocol_name p) ≡ true
  pub one : (p q : Protocol) → protocol_name p ≡ protocol_name q → p ≡ q
