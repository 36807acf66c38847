-- A list that is written place by place, from the first on.
use Rattle.std.proofs.Common.{◌≡◌, ℕ, ◌+◌, ◌<◌, ◌≤◌, List, [], ◌∷◌, ◌++◌}
use Rattle.std.proofs.Common.{length, drop, get_or, map, set, take}
use Rattle.std.proofs.lemmas.List.{get_or-map, length-map}
use Rattle.std.proofs.Common.{refl, sym, ap, ◌∙◌, zero, suc, arith, add-zero}

-- a list of which the first so many places have what another has there
abbrev pub written : {X : Type 0} → List X → List X → ℕ → List X
written new old zero = old
written [] old (suc i) = old
written (x ∷ new) [] (suc i) = []
written (x ∷ new) (y ∷ old) (suc i) = x ∷ written new old i

on : (i : ℕ) → suc i + 1 ≡ suc (i + 1)
on i = omega arith

-- one more place is written
pub written-next : {X : Type 0} (d : X) (new old : List X) (i : ℕ) → length old ≡ length new → i < length new →
    set (written new old i) i (get_or new i d) ≡ written new old (i + 1)
written-next d [] old i same within = absurd (omega arith)
written-next d (x ∷ new) [] i same within = absurd (omega arith)
written-next d (x ∷ new) (y ∷ old) zero same within = refl
written-next d (x ∷ new) (y ∷ old) (suc i) same within =
    ap (λ xs. x ∷ xs) (written-next d new old i (omega arith) (omega arith)) ∙ ap (written (x ∷ new) (y ∷ old)) (sym (on i))

-- one that has it already needn't be
pub written-same : {X : Type 0} (d : X) (new old : List X) (i : ℕ) → length old ≡ length new → get_or new i d ≡ get_or old i d →
    written new old i ≡ written new old (i + 1)
written-same d [] [] zero same e = refl
written-same d [] [] (suc i) same e = ap (written [] []) (sym (on i))
written-same d [] (y ∷ old) i same e = absurd (omega arith)
written-same d (x ∷ new) [] i same e = absurd (omega arith)
written-same d (x ∷ new) (y ∷ old) zero same e = ap (λ z. z ∷ old) (sym e)
written-same d (x ∷ new) (y ∷ old) (suc i) same e =
    ap (λ xs. x ∷ xs) (written-same d new old i (omega arith) e) ∙ ap (written (x ∷ new) (y ∷ old)) (sym (on i))

pub written-skipped : {X : Type 0} (d : X) (new old : List X) (i n : ℕ) → length old ≡ length new →
    ((k : ℕ) → i ≤ k → k < i + n → get_or new k d ≡ get_or old k d) → written new old i ≡ written new old (i + n)
written-skipped d new old i zero same e = ap (written new old) (sym (add-zero i))
written-skipped d new old i (suc n) same e =
    written-same d new old i same (e i (omega arith) (omega arith))
    ∙ written-skipped d new old (i + 1) n same (λ k l u. e k (omega arith) (omega arith))
    ∙ ap (written new old) (let s : i + 1 + n ≡ i + suc n = omega arith in s)

-- all places are written
pub written-all : {X : Type 0} (new old : List X) (i : ℕ) → length old ≡ length new → length new ≤ i → written new old i ≡ new
written-all [] [] zero same past = refl
written-all [] [] (suc i) same past = refl
written-all [] (y ∷ old) i same past = absurd (omega arith)
written-all (x ∷ new) [] i same past = absurd (omega arith)
written-all (x ∷ new) (y ∷ old) zero same past = absurd (omega arith)
written-all (x ∷ new) (y ∷ old) (suc i) same past = ap (λ xs. x ∷ xs) (written-all new old i (omega arith) (omega arith))

-- what isn't written yet is as it was
pub written-at : {X : Type 0} (d : X) (new old : List X) (i : ℕ) → length old ≡ length new → get_or (written new old i) i d ≡ get_or old i d
written-at d new old zero same = refl
written-at d [] old (suc i) same = refl
written-at d (x ∷ new) [] (suc i) same = absurd (omega arith)
written-at d (x ∷ new) (y ∷ old) (suc i) same = written-at d new old i (omega arith)

-- ---- all places from one on are made anew

-- those before it needn't be written
pub written-behind : {X : Type 0} (f : X → X) (old : List X) (i : ℕ) → old ≡ written (take i old ++ map f (drop i old)) old i
written-behind f old zero = refl
written-behind f [] (suc i) = refl
written-behind f (x ∷ old) (suc i) = ap (λ xs. x ∷ xs) (written-behind f old i)

pub behind-length : {X : Type 0} (f : X → X) (old : List X) (n : ℕ) → length old ≡ length (take n old ++ map f (drop n old))
behind-length f old zero = sym (length-map old f)
behind-length f [] (suc n) = refl
behind-length f (x ∷ old) (suc n) = ap suc (behind-length f old n)

-- what is written there
pub behind-at : {X : Type 0} (d : X) (f : X → X) (old : List X) (n i : ℕ) → n ≤ i → i < length old →
    get_or (take n old ++ map f (drop n old)) i d ≡ f (get_or old i d)
behind-at d f old zero i after within = get_or-map f old i d d within
behind-at d f [] (suc n) i after within = absurd (omega arith)
behind-at d f (x ∷ old) (suc n) zero after within = absurd (omega arith)
behind-at d f (x ∷ old) (suc n) (suc i) after within = behind-at d f old n i (omega arith) (omega arith)

pub behind-next : {X : Type 0} (d : X) (f : X → X) (old now : List X) (n i : ℕ) (found : X) → n ≤ i → i < length old →
    now ≡ written (take n old ++ map f (drop n old)) old i → found ≡ get_or now i d →
    set now i (f found) ≡ written (take n old ++ map f (drop n old)) old (i + 1)
behind-next d f old now n i found after within before is =
    let new = take n old ++ map f (drop n old) in
    let long = behind-length f old n in
    let there : f found ≡ get_or new i d =
    ap f (is ∙ ap (λ xs. get_or xs i d) before ∙ written-at d new old i long) ∙ sym (behind-at d f old n i after within) in
    (λ j. set (before j) i (there j)) ∙ written-next d new old i long (omega arith)

pub behind-end : {X : Type 0} (f : X → X) (old : List X) (n i : ℕ) → length old ≤ i →
    written (take n old ++ map f (drop n old)) old i ≡ take n old ++ map f (drop n old)
behind-end f old n i past =
    let long = behind-length f old n in
    written-all (take n old ++ map f (drop n old)) old i long (omega arith)
