-- Lists of at most three as they are stored.
use Rattle.std.specs.Prelude.{◌≡◌, List, [], ◌∷◌, Bool, Option, Some, None, refl}
use Rattle.pairs.specs.declared.link.LinkPlace.{LinkPlace}
use Rattle.pairs.specs.declared.link.Places.{Places}
use Rattle.pairs.specs.declared.link.Places.TheVariants as places
use Rattle.pairs.specs.declared.marks.Flags.{Flags}
use Rattle.pairs.specs.declared.marks.Flags.TheVariants as flags

abbrev pub places_of : Places → List LinkPlace
places_of places.Zero = []
places_of (places.One x) = x ∷ []
places_of (places.Two x y) = x ∷ y ∷ []
places_of (places.Three x y z) = x ∷ y ∷ z ∷ []

abbrev pub of_places : List LinkPlace → Places
of_places [] = places.Zero
of_places (x ∷ []) = places.One x
of_places (x ∷ y ∷ []) = places.Two x y
of_places (x ∷ y ∷ z ∷ more) = places.Three x y z

pub places_again : (p : Places) → of_places (places_of p) ≡ p
places_again places.Zero = refl
places_again (places.One x) = refl
places_again (places.Two x y) = refl
places_again (places.Three x y z) = refl

abbrev pub flags_of : Flags → List Bool
flags_of flags.Zero = []
flags_of (flags.One x) = x ∷ []
flags_of (flags.Two x y) = x ∷ y ∷ []
flags_of (flags.Three x y z) = x ∷ y ∷ z ∷ []

abbrev pub of_flags : List Bool → Flags
of_flags [] = flags.Zero
of_flags (x ∷ []) = flags.One x
of_flags (x ∷ y ∷ []) = flags.Two x y
of_flags (x ∷ y ∷ z ∷ more) = flags.Three x y z

pub flags_again : (f : Flags) → of_flags (flags_of f) ≡ f
flags_again flags.Zero = refl
flags_again (flags.One x) = refl
flags_again (flags.Two x y) = refl
flags_again (flags.Three x y z) = refl

-- the head of a list, if there is one
abbrev pub head_of : {A : Type 0} → List A → Option A
head_of [] = None
head_of (x ∷ xs) = Some x

-- what is behind the head
abbrev pub behind : {A : Type 0} → List A → List A
behind [] = []
behind (x ∷ xs) = xs
