-- A side or a pair equals another where its parts do.
use Rattle.std.proofs.Common.{◌≡◌, ℕ, List, Bool}
use Rattle.pairs.specs.declared.link.LinkPlace.{LinkPlace}
use Rattle.pairs.specs.declared.side.PairSide.{PairSide}
use Rattle.pairs.specs.declared.pair.Shared.{Shared}
use Rattle.pairs.specs.declared.pair.Pair.{Pair}

-- a side with other requests on their way
abbrev pub with_requests : PairSide → ℕ → ℕ → ℕ → ℕ → Bool → PairSide
with_requests s gets getm puts putm fresh = record s { gets = gets; getm = getm; puts = puts; putm = putm; fresh_putm = fresh }

pub same_requests : (s : PairSide) (g g2 m m2 p p2 q q2 : ℕ) (f f2 : Bool) → g ≡ g2 → m ≡ m2 → p ≡ p2 → q ≡ q2 → f ≡ f2 →
    with_requests s g m p q f ≡ with_requests s g2 m2 p2 q2 f2
same_requests s g g2 m m2 p p2 q q2 f f2 eg em ep eq ef = λ i. with_requests s (eg i) (em i) (ep i) (eq i) (ef i)

-- a side with other Data on their way
abbrev pub with_responses : PairSide → ℕ → ℕ → ℕ → Bool → PairSide
with_responses s dir owner excl fresh = record s { dir_data = dir; owner_data = owner; excl_data = excl; fresh_data = fresh }

pub same_responses : (s : PairSide) (d d2 o o2 x x2 : ℕ) (f f2 : Bool) → d ≡ d2 → o ≡ o2 → x ≡ x2 → f ≡ f2 →
    with_responses s d o x f ≡ with_responses s d2 o2 x2 f2
same_responses s d d2 o o2 x x2 f f2 ed eo ex ef = λ i. with_responses s (ed i) (eo i) (ex i) (ef i)

-- a side with other forwards on their way
abbrev pub with_forwards : PairSide → ℕ → ℕ → List LinkPlace → PairSide
with_forwards s gets getm link = record s { fwd_gets = gets; fwd_getm = getm; link = link }

pub same_forwards : (s : PairSide) (g g2 m m2 : ℕ) (l l2 : List LinkPlace) → g ≡ g2 → m ≡ m2 → l ≡ l2 → with_forwards s g m l ≡ with_forwards s g2 m2 l2
same_forwards s g g2 m m2 l l2 eg em el = λ i. with_forwards s (eg i) (em i) (el i)

-- what all see, with other Data on their way to the home
abbrev pub with_home_data : Shared → ℕ → Bool → Shared
with_home_data g n fresh = record g { home_data = n; fresh_home_data = fresh }

pub same_home_data : (g : Shared) (n n2 : ℕ) (f f2 : Bool) → n ≡ n2 → f ≡ f2 → with_home_data g n f ≡ with_home_data g n2 f2
same_home_data g n n2 f f2 en ef = λ i. with_home_data g (en i) (ef i)

-- a pair from its parts
abbrev pub paired : Shared → PairSide → PairSide → List Bool → List Bool → Pair
paired g s t m n = record { shared = g; first = s; second = t; first_names = m; second_names = n }

pub same_pair : (g g2 : Shared) (s s2 t t2 : PairSide) (m m2 n n2 : List Bool) → g ≡ g2 → s ≡ s2 → t ≡ t2 → m ≡ m2 → n ≡ n2 →
    paired g s t m n ≡ paired g2 s2 t2 m2 n2
same_pair g g2 s s2 t t2 m m2 n n2 eg es et em en = λ i. paired (eg i) (es i) (et i) (em i) (en i)
