-- Which node of a tree a JSON value is.
use Rattle.std.specs.Prelude.{◌^◌, ℕ, List, Bool, false, ◌==◌, nat_lt, if◌then◌else◌, Option, Some, None, option_map, option_and_then, codes}
use Rattle.std.specs.Str.{bytes_eq}
use Rattle.serde_json.specs.Data.{Data, Items}
use Rattle.serde_json.specs.Find.{get, as_number, as_u64, as_str, as_array, as_object}
use Rattle.serde_json.specs.Events.{members_len}
use Rattle.base.specs.declared.step.Ask.{Ask}
use Rattle.base.specs.declared.step.Ask.TheVariants.{Load, Store, Replace}
use Rattle.base.specs.declared.step.CoreAsk.{CoreAsk}

-- a node: what it is, and the values of its children, which may be no nodes
pub data Node : Type 0 where
  one : CoreAsk → Node
  seq : Items → Node
  any : Items → Node
  times : ℕ → Data → Node
  both : Items → Node

-- the first of two, where it is there, else the second
abbrev pub or_else : {X : Type 0} → Option X → Option X → Option X
or_else (Some x) other = Some x
or_else None other = other

-- an object of so many keys
abbrev pub has_keys : ℕ → Data → Bool
has_keys n d = elim (as_object d) [
  | None ↦ false
  | Some members ↦ members_len members == n
]

-- a thing that stands only in an object of so many keys
abbrev pub of_keys : {X : Type 0} → ℕ → Data → Option X → Option X
of_keys n d found = if has_keys n d then found else None

-- a number below a bound
abbrev pub below : ℕ → ℕ → Option ℕ
below bound n = if nat_lt n bound then Some n else None

-- the number at a key, if it is a whole one of so many bits
abbrev pub number_at : ℕ → List ℕ → Data → Option ℕ
number_at bits key d = option_and_then (below (2 ^ bits)) (option_and_then as_u64 (option_and_then as_number (get key d)))

-- what the word at `op` asks: a store has a value, and so one key more
abbrev pub asked : List ℕ → Data → Option Ask
asked word d =
    if bytes_eq word (codes "load") then of_keys 3 d (Some Load)
    else (if bytes_eq word (codes "replace") then of_keys 3 d (Some Replace)
    else (if bytes_eq word (codes "store") then of_keys 4 d (option_map Store (number_at 64 (codes "value") d))
    else None))

-- an ask: the numbers `core` and `block`, and the word `op`
abbrev pub ask_of : Data → Option CoreAsk
ask_of d =
    option_and_then (λ core.
    option_and_then (λ block.
    option_map (λ ask. record { core = record { 0 = core }; block = record { 0 = block }; ask = ask })
    (option_and_then (λ word. asked word d) (option_and_then as_str (get (codes "op") d))))
    (number_at 32 (codes "block") d))
    (number_at 32 (codes "core") d)

-- the array of an object that has this key alone
abbrev pub list_of : List ℕ → Data → Option Items
list_of key d = of_keys 1 d (option_and_then as_array (get key d))

-- the two keys `times`, a number, and `of`
abbrev pub turns_of : Data → Option Node
turns_of d = of_keys 2 d (option_and_then (λ n. option_map (times n) (get (codes "of") d)) (number_at 32 (codes "times") d))

-- the node that a value is, if it has exactly the keys of one, and these have what belongs there
abbrev pub node_of : Data → Option Node
node_of d =
    or_else (option_map one (ask_of d))
    (or_else (option_map seq (list_of (codes "seq") d))
    (or_else (option_map any (list_of (codes "any") d))
    (or_else (option_map both (list_of (codes "both") d))
    (turns_of d))))
