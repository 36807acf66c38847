-- A batch with one trial more.
use Rattle.std.proofs.Common.{◌≡◌, ◌+◌, ℕ, List, [], ◌∷◌, ◌++◌, ap, sym, subst, ◌∙◌, inl, inr}
use Rattle.scenario.specs.Tree.{Tree}
use Rattle.trials.specs.declared.verdict.TrialResult.{TrialResult}
use Rattle.trials.specs.Terms.{Terms}
use Rattle.trials.specs.Trial.{IsResult, AreResults}
use Rattle.trials.proofs.Pushing.{get-push, length-push}

pub results-more : (terms : Terms) (tree : Tree) (n : ℕ) (old new : List TrialResult) (result : TrialResult) → AreResults terms tree n old →
    IsResult terms tree n result → new ≡ old ++ result ∷ [] → AreResults terms tree (n + 1) new
results-more terms tree n old new result are is pushed = subst (AreResults terms tree (n + 1)) (sym pushed) (record {
  count = length-push old result ∙ ap (λ k. k + 1) are.count;
  each = λ number x e. elim (get-push old result x number e) [
    | inl h ↦ are.each number x h.0
    | inr h ↦ subst (λ (k : ℕ). IsResult terms tree k x) (sym (h.0 ∙ are.count)) (subst (IsResult terms tree n) h.1 is)
  ];
})
