-- What writing a scenario leaves of a sink.
use Rattle.std.specs.Prelude.{◌≡◌, ◌≤◌, ◌<◌, ℕ, List, Bool, true, Option, length, take, Result, Ok, Err, ⊤}
use Rattle.std.specs.Io.KnownBytes.{Appends}
use Rattle.serde_json.specs.Written.{compact_text}
use Rattle.scenario.specs.Tree.{Tree}
use Rattle.scenario.specs.Shown.{shown}
use Rattle.scenario.specs.Says.{IsTextOf}
use Rattle.scenario.specs.Limits.{depth}
use Rattle.scenario.specs.declared.writing.SaveFault.{SaveFault}
use Rattle.scenario.specs.declared.writing.SaveFault.TheVariants.{NoMemory, Device}

-- a call sets the mark of having failed exactly where the device failed
abbrev pub MarksSave : {T : Type 0} → Bool → Result T SaveFault → Bool → Type 0
MarksSave before (Ok value) after = after ≡ before
MarksSave before (Err NoMemory) after = after ≡ before
MarksSave before (Err (Device written)) after = after ≡ true

-- the whole text went out, or nothing for want of memory, or after a device's fault that many bytes of it and not all
abbrev pub GoesOut : {T : Type 0} → Option (List ℕ) → Option (List ℕ) → List ℕ → Result T SaveFault → Type 0
GoesOut before after text (Ok value) = Appends before after text
GoesOut before after text (Err NoMemory) = after ≡ before
GoesOut before after text (Err (Device written)) = Appends before after (take written text) × (written < length text)

-- the text of a tree of 48 levels at most is JSON that says the tree
abbrev pub ReadsBack : {T : Type 0} → Tree → Result T SaveFault → Type 0
ReadsBack tree (Err NoMemory) = ⊤
ReadsBack tree answer = depth tree ≤ 48 → IsTextOf (compact_text (shown tree)) tree
