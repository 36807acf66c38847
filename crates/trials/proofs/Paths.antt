-- Paths that go on by one moment.
use Rattle.std.proofs.Common.{◌≡◌, ◌+◌, ℕ, List, [], ◌∷◌, ◌++◌, Some, length, slice_get, refl, ap, sym, subst, ◌∙◌, inl, inr, arith}
use Rattle.schedule.specs.Words.{word}
use Rattle.scenario.specs.Tree.{Tree}
use Rattle.record_lines.specs.declared.entry.Entry.{Entry}
use Rattle.trials.specs.Terms.{Terms}
use Rattle.moment.specs.Moments.{Moment}
use Rattle.trials.specs.Moments.{IsNext, IsPath, first_moment}
use Rattle.moment.proofs.Places.{same-some}
use Rattle.trials.proofs.Pushing.{get-push, get-pushed, get-before, length-push}

-- the path of a trial that has made no step
pub path-starts : (terms : Terms) (tree : Tree) (number : ℕ) → IsPath terms tree number (first_moment terms tree ∷ []) []
path-starts terms tree number = record {
  count = refl;
  first = refl;
  each = λ k before behind entry b h e. absurd (cc e);
}

-- the path of a trial that has made one step more
pub path-more : (terms : Terms) (tree : Tree) (number : ℕ) (moments : List Moment) (entries : List Entry) (last behind : Moment) (entry : Entry) →
    IsPath terms tree number moments entries → slice_get moments (length entries) ≡ Some last → IsNext terms.tables
    (word terms.seed number (length entries)) last entry behind →
    IsPath terms tree number (moments ++ behind ∷ []) (entries ++ entry ∷ [])
path-more terms tree number moments entries last behind entry path at next = record {
  count = length-push moments behind ∙ ap (λ n. n + 1) (path.count ∙ sym (length-push entries entry));
  first = let many = path.count in get-before moments behind 0 (omega (arith, many)) ∙ path.first;
  each = λ k b h e is_b is_h is_e.
      elim (get-push entries entry e k is_e) [
        | inl here ↦
            let many = path.count in
            let low = here.1 in
            path.each k b h e
            (sym (get-before moments behind k (omega (arith, many, low))) ∙ is_b)
            (sym (get-before moments behind (k + 1) (omega (arith, many, low))) ∙ is_h)
            here.0
        | inr here ↦
            let many = path.count in
            let same_k : k ≡ length entries = here.0 in
            let same_b : last ≡ b =
            same-some last b
            (sym at ∙ sym (get-before moments behind (length entries) (omega (arith, many))) ∙ ap (slice_get (moments ++ behind ∷ []))
            (sym same_k) ∙ is_b) in
            let same_h : behind ≡ h =
            same-some behind h (sym (get-pushed moments behind) ∙ ap (slice_get (moments ++ behind ∷ [])) (many ∙ ap (λ n. n + 1) (sym same_k)) ∙ is_h) in
            subst (λ (n : ℕ). IsNext terms.tables (word terms.seed number n) b e h) (sym same_k)
            (subst (λ (x : Moment). IsNext terms.tables (word terms.seed number (length entries)) x e h) same_b
            (subst (λ (x : Moment). IsNext terms.tables (word terms.seed number (length entries)) last e x) same_h
            (subst (λ (x : Entry). IsNext terms.tables (word terms.seed number (length entries)) last x behind) here.1 next)))
      ];
}

-- and the moment that it has come to
pub path-at : (moments : List Moment) (entries : List Entry) (behind : Moment) (entry : Entry) → length moments ≡ length entries + 1 →
    slice_get (moments ++ behind ∷ []) (length (entries ++ entry ∷ [])) ≡ Some behind
path-at moments entries behind entry many = ap (slice_get (moments ++ behind ∷ [])) (length-push entries entry ∙ sym many) ∙ get-pushed moments behind
