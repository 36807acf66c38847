-- What a `?` hands on.
use Rattle.std.proofs.Common.{◌≡◌, Result}
use Rattle.std.specs.Result.{MatchResult, IsErrAnd}
use Rattle.std.proofs.lemmas.Result.{err_from_is_err_and}

-- what holds of the fault of a call holds of the fault that is handed on
pub handed-on : {T E : Type 0} (r : Result T E) (e : E) (P : T → Type 0) (Q : E → Type 0) → IsErrAnd r (λ y. y ≡ e) → Q e → MatchResult r P Q
handed-on r e P Q is q = let p = err_from_is_err_and r is in rw (p.1, p.2) q
