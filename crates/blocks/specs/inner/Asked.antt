-- What is known of the marks of a block's requests before all of them are tested.
use Rattle.std.specs.Prelude.{◌≡◌, ℕ, List, Bool, take}

-- the first so many marks are right
abbrev pub AreFirstRight : ℕ → List Bool → List Bool → Type 0
AreFirstRight count marks right = take count marks ≡ take count right
