-- A pass behind something that has changed no part, and calls that failed.
use Rattle.std.proofs.Common.{◌≡◌, ◌≤◌, ℕ, true, Result, Ok, Err, MatchResult, OnErr, OnOk, ap, subst, sym}
use Rattle.std.specs.Result.{is_err}
use Rattle.scenario.specs.Alike.{Alike}
use Rattle.scenario.specs.Taking.{left}
use Rattle.scenario.specs.Tree.{Tree}
use Rattle.cursors.specs.Calls.{Passes}
use Rattle.cursors.specs.Cursors.{Progress, remaining, standing, tree_left}
use Rattle.cursors.specs.Stock.{FitsIn, Stock, Within, most_used, room, stock, wants}
use Rattle.cursors.specs.declared.cursor.Cursor.{Cursor}

pub passes-behind : {A B T E : Type 0} (old mid new : Cursor A B) (at : ℕ) (r : Result T E) → standing mid ≡ standing old →
    stock mid.root ≡ stock old.root → Passes mid at r new → Passes old at r new
passes-behind old mid new at r same held passes = record {
  ok = subst (λ (p : Progress). OnOk r (Alike (remaining new) (left (tree_left p) at))) same passes.ok;
  err = subst (λ (p : Progress). OnErr r (remaining new ≡ tree_left p)) same passes.err;
  small = record {
    fits = λ tree fits. passes.small.fits tree (record {
      held = subst (λ (s : Stock). Within s (room tree)) (sym held) fits.held;
      wanted = subst (λ (p : Progress). Within (wants p) (room tree)) (sym same) fits.wanted;
    });
    used = subst (λ (p : Progress). most_used (standing new) ≤ most_used p) same passes.small.used;
  };
}

-- what is said of the error of a call that failed
pub match-failed : {T E : Type 0} (r : Result T E) (P : T → Type 0) (Q : Type 0) → is_err r ≡ true → Q → MatchResult r P (λ _. Q)
match-failed (Ok x) P Q e q = absurd (cc e)
match-failed (Err x) P Q e q = q
