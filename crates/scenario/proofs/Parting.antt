-- A scenario of children, and what is left of it once its children are what is left of them.
use Rattle.std.proofs.Common.{◌≡◌, ◌<◌, ℕ, zero, suc, ◌==◌, Bool, true, false, cond, List, [], ◌∷◌, ◌++◌, Some, ◌≤◌, length, slice_get, slice_index_or, slice_set, refl, ap, sym, subst, ◌∙◌, arith}
use Rattle.std.specs.declared.vec.Vec.{Vec}
use Rattle.base.specs.declared.step.CoreAsk.{CoreAsk}
use Rattle.scenario.specs.declared.tree.Scenario.{Scenario}
use Rattle.scenario.specs.declared.tree.Scenario.TheVariants.{One, Seq, Any, Both}
use Rattle.scenario.specs.Tree as tree
use Rattle.scenario.specs.Tree.{Tree, Cons, Nil, plain, plain_all}
use Rattle.scenario.specs.Taking.{offers, offers_in_turn, offers_of_all}
use Rattle.scenario.specs.Limits.{depth, deepest}
use Rattle.scenario.specs.Rests.{Leaves, row_of}
use Rattle.scenario.proofs.Children.{plain-Seq, plain-Any, plain-Both}

row_is : {A : Type 0} (s : Scenario A) (v w : Vec (Scenario A) A) → s ≡ Seq v → w ≡ v → plain s ≡ tree.Seq (plain_all w.items)
row_is s v w is same = ap plain is ∙ (plain-Seq v ∙ ap (λ u. tree.Seq (plain_all u.items)) (sym same))

any_is : {A : Type 0} (s : Scenario A) (v w : Vec (Scenario A) A) → s ≡ Any v → w ≡ v → plain s ≡ tree.Any (plain_all w.items)
any_is s v w is same = ap plain is ∙ (plain-Any v ∙ ap (λ u. tree.Any (plain_all u.items)) (sym same))

both_is : {A : Type 0} (s : Scenario A) (v w : Vec (Scenario A) A) → s ≡ Both v → w ≡ v → plain s ≡ tree.Both (plain_all w.items)
both_is s v w is same = ap plain is ∙ (plain-Both v ∙ ap (λ u. tree.Both (plain_all u.items)) (sym same))

-- ---- it is deeper than its children by one

pub deeper_row : {A : Type 0} (s : Scenario A) (v w : Vec (Scenario A) A) → s ≡ Seq v → w ≡ v → depth (plain s) ≡ suc (deepest (plain_all w.items))
deeper_row s v w is same = ap depth (row_is s v w is same) ∙ omega arith

pub deeper_any : {A : Type 0} (s : Scenario A) (v w : Vec (Scenario A) A) → s ≡ Any v → w ≡ v → depth (plain s) ≡ suc (deepest (plain_all w.items))
deeper_any s v w is same = ap depth (any_is s v w is same) ∙ omega arith

pub deeper_both : {A : Type 0} (s : Scenario A) (v w : Vec (Scenario A) A) → s ≡ Both v → w ≡ v → depth (plain s) ≡ suc (deepest (plain_all w.items))
deeper_both s v w is same = ap depth (both_is s v w is same) ∙ omega arith

pub no_deeper : {A : Type 0} (ss : List (Scenario A)) (i : ℕ) (s : Scenario A) → slice_get ss i ≡ Some s → depth (plain s) ≤ deepest (plain_all ss)
no_deeper [] i s e = absurd (cc e)
no_deeper (t ∷ ss) zero s e = let e' : t ≡ s = cc e in rw (sym e') (omega arith)
no_deeper (t ∷ ss) (suc i) s e = let h = no_deeper ss i s e in omega (arith, h)

-- ---- its offers are its children's

pub within_row : {A : Type 0} (s : Scenario A) (v w : Vec (Scenario A) A) (at : ℕ) → s ≡ Seq v → w ≡ v → at < length (offers (plain s))
    → at < length (offers_in_turn (plain_all w.items))
within_row s v w at is same = subst (λ t. at < length (offers t)) (row_is s v w is same)

pub within_any : {A : Type 0} (s : Scenario A) (v w : Vec (Scenario A) A) (at : ℕ) → s ≡ Any v → w ≡ v → at < length (offers (plain s))
    → at < length (offers_of_all (plain_all w.items))
within_any s v w at is same = subst (λ t. at < length (offers t)) (any_is s v w is same)

pub within_both : {A : Type 0} (s : Scenario A) (v w : Vec (Scenario A) A) (at : ℕ) → s ≡ Both v → w ≡ v → at < length (offers (plain s))
    → at < length (offers_of_all (plain_all w.items))
within_both s v w at is same = subst (λ t. at < length (offers t)) (both_is s v w is same)

pub within_turns : (n : ℕ) (t : Tree) (at : ℕ) → at < length (offers (tree.Times n t)) → at < length (offers t)
within_turns n t at within = by_case (n == 0) within
  where
    by_case : (b : Bool) → at < length (cond b [] (offers t)) → at < length (offers t)
    by_case true none = absurd (omega (arith, none))
    by_case false some = some

-- ---- what is left of it is what is left of its children

ask_taken : (ask : CoreAsk) (at : ℕ) (new : Tree) → at < 1 → new ≡ tree.Seq Nil → Leaves (tree.One ask) at (Some ask) new
ask_taken ask zero new within e = (refl, e)
ask_taken ask (suc i) new within e = absurd (omega (arith, within))

pub left_of_ask : {A : Type 0} (s : Scenario A) (ask taken : CoreAsk) (at : ℕ) (new : Tree) → s ≡ One ask → taken ≡ ask
    → at < length (offers (plain s)) → new ≡ tree.Seq Nil → Leaves (plain s) at (Some taken) new
left_of_ask s ask taken at new is same within e =
    let here = subst (λ t. at < length (offers (plain t))) is within in
    subst (λ o. Leaves (plain s) at (Some o) new) (sym same) (subst (λ t. Leaves (plain t) at (Some ask) new) (sym is) (ask_taken ask at new here e))

pub left_of_any : {A : Type 0} (s : Scenario A) (v w : Vec (Scenario A) A) (at : ℕ) (ask : CoreAsk) (left new : Tree) → s ≡ Any v → w ≡ v
    → Leaves (tree.Any (plain_all w.items)) at (Some ask) left → new ≡ left → Leaves (plain s) at (Some ask) new
left_of_any s v w at ask left new is same takes e =
    subst (λ t. Leaves t at (Some ask) new) (sym (any_is s v w is same)) (takes.0, e ∙ takes.1)

-- ---- a row of one child, before a scenario

pub only_child : {A : Type 0} (ss : List (Scenario A)) (s : Scenario A) → length ss ≡ 1 → s ≡ slice_index_or ss 0 s
    → plain s ≡ row_of (plain_all ss)
only_child [] s one is = absurd (cc one)
only_child (t ∷ []) s one is = ap plain is
only_child (t ∷ u ∷ ss) s one is = absurd (omega (arith, one))

pub only_set : {A : Type 0} (ss : List (Scenario A)) (s : Scenario A) → length ss ≡ 1 → row_of (plain_all (slice_set ss 0 s)) ≡ plain s
only_set [] s one = absurd (cc one)
only_set (t ∷ []) s one = refl
only_set (t ∷ u ∷ ss) s one = absurd (omega (arith, one))

pub only_before : {A : Type 0} (ss : List (Scenario A)) (s : Scenario A) → length ss ≡ 1
    → plain_all (ss ++ s ∷ []) ≡ Cons (row_of (plain_all ss)) (Cons (plain s) Nil)
only_before [] s one = absurd (cc one)
only_before (t ∷ []) s one = refl
only_before (t ∷ u ∷ ss) s one = absurd (omega (arith, one))
