-- Where lines end.
use Rattle.std.proofs.Common.{◌≡◌, ◌≢◌, ◌<◌, ℕ, zero, suc, List, [], ◌∷◌, ◌++◌, length, take, refl, ap, sym, subst, ◌∙◌, arith}
use Rattle.std.specs.List.{AllByRecursion}
use Rattle.std.proofs.lemmas.List.Elements.{recursion_from_All}
use Rattle.record_lines.specs.Refused.{ended, HasNoEnd}

abbrev Open : List ℕ → Type 0
Open bytes = AllByRecursion (λ b. b ≢ 10) bytes

ended-some : (l more : List ℕ) → ended l ++ more ≢ []
ended-some [] more e = cc
ended-some (b ∷ bs) more e = cc

pub some-line : (l more : List ℕ) → [] ≢ ended l ++ more
some-line l more e = ended-some l more (sym e)

ended-shut : (l more : List ℕ) → Open (ended l ++ more) → ⊥
ended-shut [] more h = h.0 refl
ended-shut (b ∷ bs) more h = ended-shut bs more h.1

-- a line ends in bytes that begin with one
pub line-ends_in : (l more bytes : List ℕ) → bytes ≡ ended l ++ more → HasNoEnd bytes → ⊥
line-ends_in l more bytes is h = ended-shut l more (recursion_from_All (λ b. b ≢ 10) (ended l ++ more) (subst HasNoEnd is h))

front-shut : (k : ℕ) (l more : List ℕ) → length l < k → Open (take k (ended l ++ more)) → ⊥
front-shut zero l more low h = absurd (omega (arith, low))
front-shut (suc k) [] more low h = h.0 refl
front-shut (suc k) (b ∷ bs) more low h = front-shut k bs more (omega (arith, low)) h.1

-- and in a front of them that is longer than the line
pub line-ends_within : (k : ℕ) (l more bytes : List ℕ) → bytes ≡ ended l ++ more → length l < k → HasNoEnd (take k bytes) → ⊥
line-ends_within k l more bytes is low h =
    front-shut k l more low (recursion_from_All (λ b. b ≢ 10) (take k (ended l ++ more)) (subst (λ bs. HasNoEnd (take k bs)) is h))

one-by_one : (l m x y : List ℕ) → Open l → Open m → ended l ++ x ≡ ended m ++ y → (l ≡ m) × (x ≡ y)
one-by_one [] [] x y h k e = (refl, cc)
one-by_one [] (b ∷ bs) x y h k e = let is : b ≡ 10 = cc in absurd (k.0 is)
one-by_one (b ∷ bs) [] x y h k e = let is : b ≡ 10 = cc in absurd (h.0 is)
one-by_one (b ∷ bs) (c ∷ cs) x y h k e =
    let first : b ≡ c = cc in
    let rest : ended bs ++ x ≡ ended cs ++ y = cc in
    let both = one-by_one bs cs x y h.1 k.1 rest in
    (ap (λ z. z ∷ bs) first ∙ ap (λ l. c ∷ l) both.0, both.1)

-- bytes begin with one line at most
pub one-line_first : (l m x y : List ℕ) → HasNoEnd l → HasNoEnd m → ended l ++ x ≡ ended m ++ y → (l ≡ m) × (x ≡ y)
one-line_first l m x y h k e = one-by_one l m x y (recursion_from_All (λ b. b ≢ 10) l h) (recursion_from_All (λ b. b ≢ 10) m k) e
