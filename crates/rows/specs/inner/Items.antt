-- What of a row is held.
use Rattle.std.specs.Prelude.{◌≡◌, ℕ, ◌≤◌, ◌%◌, Bool, List, Option, None, Some, map, nat_eq, slice_get, slice_index, true}
use Rattle.std.specs.List.{range_with_len}
use Rattle.std.specs.Map.{keys_of, lookup}

-- what stands at each of so many places, where these keys have these items
abbrev pub items_of : {T : Type 0} → List (ℕ × T) → ℕ → List (Option T)
items_of held places = map (λ at. lookup (nat_eq at) held) (range_with_len 0 places)

-- nothing is held beyond so many places
pub record IsWithinRow {T : Type 0} (held : List (ℕ × T)) (places : ℕ) : Type 0 where
  pub beyond : (at : ℕ) → places ≤ at → lookup (nat_eq at) held ≡ None

-- each key stands where the hint for its place says
pub record AreHinted (keys hints : List ℕ) : Type 0 where
  pub each : (i at : ℕ) → slice_get keys i ≡ Some at → slice_index hints (at % 64) ≡ i

-- nothing is held beyond the places, and hints that are told to be exact are
pub record AreItemsKept {T : Type 0} (held : List (ℕ × T)) (places : ℕ) (hints : List ℕ) (exact : Bool) : Type 0 where
  pub within : IsWithinRow held places
  pub hinted : exact ≡ true → AreHinted (keys_of held) hints

-- the keys, with what is seen of each item
abbrev pub seen_entries : {T S : Type 0} → (T → S) → List (ℕ × T) → List (ℕ × S)
seen_entries seen held = map (λ e. (e.0, seen e.1)) held
