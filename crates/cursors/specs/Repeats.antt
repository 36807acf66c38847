-- Trees that go on offering the same.
use Rattle.std.specs.Prelude.{◌≡◌, ◌<◌, ℕ, length}
use Rattle.scenario.specs.Tree.{Tree}
use Rattle.scenario.specs.Taking.{left, offers}

-- whichever offer is taken, the same is offered again
abbrev pub Repeats : Tree → Type 0
Repeats t = (i : ℕ) → i < length (offers t) → offers (left t i) ≡ offers t
