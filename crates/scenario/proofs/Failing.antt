-- What is said of the value of a call says nothing where the call failed.
use Rattle.std.proofs.Common.{◌≡◌, true, Result, Ok, Err, IfOk, OnOk, OnErr}
use Rattle.std.specs.Result.{is_err, MatchResult}

pub if_ok-failed : {T E : Type 0} (r : Result T E) (P : T → Type 0) → is_err r ≡ true → IfOk r P
if_ok-failed (Ok x) P e = absurd (cc e)
if_ok-failed (Err x) P e = tt

pub on_ok-failed : {T E : Type 0} (r : Result T E) (P : Type 0) → is_err r ≡ true → OnOk r P
on_ok-failed (Ok x) P e = absurd (cc e)
on_ok-failed (Err x) P e = tt

pub on_err-always : {T E : Type 0} (r : Result T E) (P : Type 0) → P → OnErr r P
on_err-always (Ok x) P p = tt
on_err-always (Err e) P p = p

pub on_err-map : {T E : Type 0} (r : Result T E) (P Q : Type 0) → (P → Q) → OnErr r P → OnErr r Q
on_err-map (Ok x) P Q f h = tt
on_err-map (Err e) P Q f h = f h

pub on_ok-map : {T E : Type 0} (r : Result T E) (P Q : Type 0) → (P → Q) → OnOk r P → OnOk r Q
on_ok-map (Ok x) P Q f h = f h
on_ok-map (Err e) P Q f h = tt

pub match-map : {T E : Type 0} (r : Result T E) {P P' : T → Type 0} {Q Q' : Type 0} → ((x : T) → P x → P' x) → (Q → Q')
    → MatchResult r P (λ _. Q) → MatchResult r P' (λ _. Q')
match-map (Ok x) p q h = p x h
match-map (Err e) p q h = q h
