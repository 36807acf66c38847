-- An item of a list, in what the list stands for.
use Rattle.std.proofs.Common.{◌≡◌, ℕ, List, Some, map, option_map, slice_get, ap, ◌∙◌}
use Rattle.std.proofs.lemmas.Option.{slice_get-map}

pub get-map : {X Y : Type 0} (f : X → Y) (xs : List X) (i : ℕ) (x : X) → slice_get xs i ≡ Some x → slice_get (map f xs) i ≡ Some (f x)
get-map f xs i x e = slice_get-map f xs i ∙ ap (option_map f) e
