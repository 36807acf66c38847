-- What waits on the links, as traffic says it.
use Rattle.std.proofs.Common.{◌≡◌, ℕ, Option, None, Some, Result, Ok, Err, Bool, List, true, false, not, map, refl, sym, ap, ◌∙◌, get_or, [], ◌∷◌}
use Rattle.std.specs.Prelude.{IfSome, IfNone, OnErr, OnOk, OnSome}
use Rattle.network.specs.declared.message.Forward.{Forward}
use Rattle.network.specs.declared.wire.Marked.{Marked}
use Rattle.network.proofs.Linked.{nil-is, waiting-at}
use Rattle.network.proofs.Parts.{messages-at}
use Rattle.network.specs.inner.Links.{messages_in, waiting_of}
use Rattle.network.specs.Traffic.{IsNextWaiting, NoneWaits, Traffic, is_nil, link}
use Rattle.rows.specs.Flags.{IsFirstFrom, NoneFrom}

not_not : (b : Bool) → not b ≡ true → b ≡ false
not_not true h = sym h
not_not false h = refl

some-there : (l : List (Marked Forward)) → is_nil l ≡ false → is_nil (messages_in l) ≡ false
some-there [] h = h
some-there (m ∷ l) h = refl

module _ (w : Traffic) (sent : List (List (Marked Forward))) (same : w.links ≡ map messages_in sent) where
  on : (k : ℕ) → messages_in (get_or sent k []) ≡ link w k
  on k = messages-at sent k ∙ ap (λ ls. get_or ls k []) (sym same)

  pub next-found : (from at : ℕ) → IsFirstFrom (waiting_of sent) from at → IsNextWaiting w from at
  next-found from at h = record {
    behind = h.behind;
    waits = sym (ap is_nil (on at)) ∙ some-there (get_or sent at []) (not_not (is_nil (get_or sent at [])) (sym (waiting-at sent at) ∙ h.set));
    first = λ k after before. sym (on k) ∙ ap messages_in (nil-is (get_or sent k []) (sym (waiting-at sent k) ∙ h.first k after before));
  }

  pub none-found : (from : ℕ) → NoneFrom (waiting_of sent) from → NoneWaits w from
  none-found from h = record {
    none = λ k after. sym (on k) ∙ ap messages_in (nil-is (get_or sent k []) (sym (waiting-at sent k) ∙ h.none k after));
  }

-- what holds anyway holds of a result
pub on_err : {T E : Type 0} {P : Type 0} (r : Result T E) → P → OnErr r P
on_err (Ok x) p = tt
on_err (Err e) p = p

pub on_ok-to : {T E : Type 0} {P Q : Type 0} (r : Result T E) → (P → Q) → OnOk r P → OnOk r Q
on_ok-to (Ok x) f p = f p
on_ok-to (Err e) f p = tt

pub on_some : {T : Type 0} {P : Type 0} (o : Option T) → P → OnSome o P
on_some None p = tt
on_some (Some x) p = p

pub if_none-to : {T : Type 0} {P Q : Type 0} (o : Option T) → (P → Q) → IfNone o P → IfNone o Q
if_none-to None f p = f p
if_none-to (Some x) f p = tt

pub if_some-to : {T : Type 0} {P Q : T → Type 0} (o : Option T) → ((x : T) → P x → Q x) → IfSome o P → IfSome o Q
if_some-to None f p = tt
if_some-to (Some x) f p = f x p
