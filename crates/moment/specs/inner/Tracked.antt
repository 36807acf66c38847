-- What the cores have outstanding is what their caches wait for.
use Rattle.std.specs.Prelude.{◌≡◌, ◌≢◌, ◌<◌, ℕ, List, length, Option, Some, None, slice_index_or}
use Rattle.std.specs.Option.{option_map}
use Rattle.base.specs.declared.step.Ask.{Ask}
use Rattle.machine.specs.Coherence.{line_at}
use Rattle.machine.specs.Machine.{State}
use Rattle.cores.specs.Cores.{Core, Completes, idle}

-- what a core waits for
abbrev pub outstanding : List Core → ℕ → Option Ask
outstanding cores core = (slice_index_or cores core idle).outstanding

-- what the line of a cache for a block waits for, if the line is there
abbrev pub pending_at : State → ℕ → ℕ → Option (Option Ask)
pending_at state cache block = option_map (λ line. line.pending) (line_at state cache block)

-- what a core waits for is pending at one line of its cache, and nothing else is pending at its lines
abbrev pub Waits : State → ℕ → Option Ask → Type 0
Waits state cache None = (block : ℕ) (p : Option Ask) → pending_at state cache block ≡ Some p → p ≡ None
Waits state cache (Some a) =
    (at : ℕ) × (pending_at state cache at ≡ Some (Some a)) × Completes a × ((block : ℕ) (p : Option Ask) → block ≢ at →
    pending_at state cache block ≡ Some p → p ≡ None)

-- so does each core, and there is a core for each line
pub record IsTracked (state : State) (cores : List Core) : Type 0 where
  pub waits : (cache : ℕ) → Waits state cache (outstanding cores cache)
  pub few : (cache block : ℕ) (p : Option Ask) → pending_at state cache block ≡ Some p → cache < length cores
