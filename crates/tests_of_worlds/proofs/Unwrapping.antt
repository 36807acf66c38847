-- What is promised of a value, where a result is one.
use Rattle.std.proofs.Common.{◌≡◌, Ok, Err, IfOk, subst}
use Rattle.std.specs.declared.result.Result.{Result}

pub holds-of : {T E : Type 0} (P : T → Type 0) (r : Result T E) (x : T) → r ≡ Ok x → IfOk r P → P x
holds-of P (Ok y) x is p = let same : y ≡ x = cc is in subst P same p
holds-of P (Err e) x is p = absurd (cc is)
