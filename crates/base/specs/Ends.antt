use Rattle.std.specs.Prelude.{◌≡◌, Bool, true, Result, Ok, Err}

-- a call sets the mark of having failed exactly where it fails
abbrev pub MarksFault : {T E : Type 0} → Bool → Result T E → Bool → Type 0
MarksFault before (Ok value) after = after ≡ before
MarksFault before (Err fault) after = after ≡ true
