-- Overrides as they are written in JSON: their form, before any name in them is looked up.
use Rattle.std.specs.Prelude.{ℕ, nat_le, List, Bool, true, false, ◌&&◌, ◌==◌, ◌+◌, if◌then◌else◌, Option, Some, None, is_some, option_map}
use Rattle.std.specs.Prelude.{option_and_then, codes}
use Rattle.std.specs.Str.{bytes_eq}
use Rattle.serde_json.specs.Data.{Data, Items, no_items, item}
use Rattle.serde_json.specs.Find.{get, as_str, as_array, as_object}
use Rattle.serde_json.specs.Events.{items_len, members_len}

-- the entry of a cell: one that acts has a next state, and the names of its actions
pub data WrittenEntry (S : Type 0) : Type 0 where
  blank : WrittenEntry S
  stall : WrittenEntry S
  act : S → Items → WrittenEntry S

-- a cell: the names of its state and its event, and its entry, in which the next state is a name too
pub record WrittenCell : Type 0 where
  pub state : List ℕ
  pub event : List ℕ
  pub entry : WrittenEntry (List ℕ)

-- an object with so many keys
abbrev pub has_keys : ℕ → Data → Bool
has_keys n d = elim (as_object d) [
  | None ↦ false
  | Some members ↦ members_len members == n
]

-- the text at a key
abbrev pub text_at : List ℕ → Data → Option (List ℕ)
text_at key d = option_and_then as_str (get key d)

-- whether each item is a text
abbrev pub are_texts : Items → Bool
are_texts no_items = true
are_texts (item d ds) = is_some (as_str d) && are_texts ds

-- at most eight texts
abbrev pub few_texts : Items → Option Items
few_texts ds = if nat_le (items_len ds) 8 && are_texts ds then Some ds else None

-- an object of the two keys `next`, a text, and `do`, at most eight texts
abbrev pub written_act : Data → Option (WrittenEntry (List ℕ))
written_act d =
    if has_keys 2 d then
    option_and_then (λ next.
    option_map (λ actions. act next actions) (option_and_then few_texts (option_and_then as_array (get (codes "do") d))))
    (text_at (codes "next") d)
    else None

-- one of two words
abbrev pub written_word : List ℕ → Option (WrittenEntry (List ℕ))
written_word word =
    if bytes_eq word (codes "blank") then Some blank else (if bytes_eq word (codes "stall") then Some stall else None)

-- a text is a word, and what isn't a text has to act
abbrev pub written_entry : Data → Option (WrittenEntry (List ℕ))
written_entry d = elim (as_str d) [
  | Some word ↦ written_word word
  | None ↦ written_act d
]

-- an object of the three keys `state` and `event`, texts, and `entry`
abbrev pub written_cell : Data → Option WrittenCell
written_cell d =
    if has_keys 3 d then
    option_and_then (λ state.
    option_and_then (λ event.
    option_map (λ entry. record { state = state; event = event; entry = entry }) (option_and_then written_entry (get (codes "entry") d)))
    (text_at (codes "event") d))
    (text_at (codes "state") d)
    else None

-- the cells of both sides
pub record WrittenSides : Type 0 where
  pub cache : Items
  pub directory : Items

-- the array at a key, which is one of no items where the key isn't there
abbrev pub side_at : List ℕ → Data → Option Items
side_at key d = elim (get key d) [
  | None ↦ Some no_items
  | Some side ↦ as_array side
]

-- how often a key is there, which is once at most
abbrev pub present : List ℕ → Data → ℕ
present key d = if is_some (get key d) then 1 else 0

-- an object of no other keys than `cache` and `directory`, each of them an array
abbrev pub written_sides : Data → Option WrittenSides
written_sides d =
    if has_keys (present (codes "cache") d + present (codes "directory") d) d then
    option_and_then (λ cache.
    option_map (λ directory. record { cache = cache; directory = directory }) (side_at (codes "directory") d))
    (side_at (codes "cache") d)
    else None
