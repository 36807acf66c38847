-- How many asks a core has issued and finished.
use Rattle.std.specs.Prelude.{◌≡◌, ◌<◌, ℕ, is_none, if◌then◌else◌, List, length, slice_index_or}
use Rattle.cores.specs.Cores.{Core, idle, one_more}

-- what was issued is finished, but for the ask that is outstanding
abbrev pub IsCounted : Core → Type 0
IsCounted core = core.issued ≡ if is_none core.outstanding then core.finished else one_more core.finished

-- each of the cores is counted so
abbrev pub AreCounted : List Core → Type 0
AreCounted cores = (number : ℕ) → number < length cores → IsCounted (slice_index_or cores number idle)
