-- A row of places, of which some have an item.
use Rattle.std.specs.Prelude.{◌≡◌, ◌≢◌, ℕ, ◌+◌, ◌<◌, ◌≤◌, List, [], ◌∷◌, ◌++◌, Option, None, Some, IsSome}
use Rattle.std.specs.Prelude.{is_some, if◌then◌else◌, length, IsOk, IfErr, OnErr, OnOk}
use Rattle.std.specs.Prelude.{slice_get, slice_index, slice_index_or, slice_set}
use Rattle.std.specs.declared.result.Result.{Result}

-- a row, as contracts see it: what stands at each place, the places with an item in order of first use, and how many
-- more places get an item without asking for memory
pub record Row (T : Type 0) : Type 0 where
  pub items : List (Option T)
  pub keys : List ℕ
  pub spare : ℕ

module _ {T : Type 0} where
  -- what stands at a place; nothing stands beyond the row
  abbrev pub item : Row T → ℕ → Option T
  item row at = slice_index_or row.items at None

  -- the places with an item once this one has one
  abbrev pub keys_with : Row T → ℕ → List ℕ
  keys_with row at = if is_some (item row at) then row.keys else row.keys ++ at ∷ []

  -- the row after an item was written over the one at a place
  abbrev pub with_item : Row T → ℕ → T → Row T
  with_item row at value = record row { items = slice_set row.items at (Some value) }

  -- at most one place's memory has gone, and none where this place has an item
  pub record UsesOnePlace (at : ℕ) (old new : Row T) : Type 0 where
    pub one : old.spare ≤ new.spare + 1
    pub none : IsSome (item old at) → old.spare ≤ new.spare

  -- a place has this item, or it came back and no item has changed; where the place had one, or there was room, it has this one now
  pub record Puts {U : Type 0} (at : ℕ) (value : T) (result : Result U T) (old new : Row T) : Type 0 where
    pub ok : OnOk result (new.items ≡ slice_set old.items at (Some value))
    pub order : OnOk result (new.keys ≡ keys_with old at)
    pub err : OnErr result (new.items ≡ old.items)
    pub err_order : OnErr result (new.keys ≡ old.keys)
    pub back : IfErr result (λ returned. returned ≡ value)
    pub has_one : IsSome (item old at) → IsOk result
    pub succeeds : 0 < old.spare → IsOk result
    pub room : UsesOnePlace at old new

  -- there is room for so many more places to get an item, unless that was refused, which it isn't where there was; nothing else has changed
  pub record MakesPlaces {U E : Type 0} (more : ℕ) (result : Result U E) (old new : Row T) : Type 0 where
    pub items : new.items ≡ old.items
    pub keys : new.keys ≡ old.keys
    pub ok : OnOk result (more ≤ new.spare)
    pub succeeds : more ≤ old.spare → IsOk result
    pub room : old.spare ≤ new.spare

  -- the keys are just the places with an item, each listed once
  pub record AreTouched (row : Row T) : Type 0 where
    pub once : (i j : ℕ) → i < j → j < length row.keys → slice_index row.keys i ≢ slice_index row.keys j
    pub there : (i at : ℕ) → slice_get row.keys i ≡ Some at → at < length row.items × IsSome (item row at)
    pub all : (at : ℕ) → IsSome (item row at) → (i : ℕ) × (slice_get row.keys i ≡ Some at)
