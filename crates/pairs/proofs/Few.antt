-- A pair that isn't few doesn't become few where there is more of a kind.
use Rattle.std.proofs.Common.{◌≡◌, ℕ, ◌+◌, nat_le, Bool, true, false, ◌&&◌, [], ◌∷◌, ◌++◌, length-append, refl, arith}
use Rattle.std.proofs.lemmas.Bool.{and_parts, and_from, both_ways}
use Rattle.std.proofs.lemmas.Bool.Decides.{nat_tests}
use Rattle.pairs.specs.declared.link.LinkPlace.{LinkPlace}
use Rattle.pairs.specs.declared.side.PairSide.{PairSide}
use Rattle.pairs.specs.declared.pair.Pair.{Pair}
use Rattle.pairs.specs.Pairs.{is_few_side, is_few}

-- what follows from one test only if it follows from the other
pub false-from : (a b : Bool) → (a ≡ true → b ≡ true) → b ≡ false → a ≡ false
false-from true b h e = absurd (both_ways b e (h refl))
false-from false b h e = refl

pub few-gets : (s : PairSide) → is_few_side (record s { gets = s.gets + 1 }) ≡ true → is_few_side s ≡ true
few-gets s e = grind (arith, nat_tests)

pub few-getm : (s : PairSide) → is_few_side (record s { getm = s.getm + 1 }) ≡ true → is_few_side s ≡ true
few-getm s e = grind (arith, nat_tests)

pub few-puts : (s : PairSide) → is_few_side (record s { puts = s.puts + 1 }) ≡ true → is_few_side s ≡ true
few-puts s e = grind (arith, nat_tests)

pub few-putm : (s : PairSide) → is_few_side (record s { putm = s.putm + 1 }) ≡ true → is_few_side s ≡ true
few-putm s e = grind (arith, nat_tests)

pub few-dir_data : (s : PairSide) → is_few_side (record s { dir_data = s.dir_data + 1 }) ≡ true → is_few_side s ≡ true
few-dir_data s e = grind (arith, nat_tests)

pub few-owner_data : (s : PairSide) → is_few_side (record s { owner_data = s.owner_data + 1 }) ≡ true → is_few_side s ≡ true
few-owner_data s e = grind (arith, nat_tests)

pub few-excl_data : (s : PairSide) → is_few_side (record s { excl_data = s.excl_data + 1 }) ≡ true → is_few_side s ≡ true
few-excl_data s e = grind (arith, nat_tests)

pub few-fwd_gets : (s : PairSide) → is_few_side (record s { fwd_gets = s.fwd_gets + 1 }) ≡ true → is_few_side s ≡ true
few-fwd_gets s e = grind (arith, nat_tests)

pub few-fwd_getm : (s : PairSide) → is_few_side (record s { fwd_getm = s.fwd_getm + 1 }) ≡ true → is_few_side s ≡ true
few-fwd_getm s e = grind (arith, nat_tests)

pub few-link : (s : PairSide) (x : LinkPlace) → is_few_side (record s { link = s.link ++ x ∷ [] }) ≡ true → is_few_side s ≡ true
few-link s x e = let longer = length-append s.link (x ∷ []) in grind (arith, nat_tests)

-- a change of one part
pub few-first : (p : Pair) (s : PairSide) → (is_few_side s ≡ true → is_few_side p.first ≡ true) → is_few (record p { first = s }) ≡ true → is_few p ≡ true
few-first p s h e =
    let both = and_parts (nat_le p.shared.home_data 1 && is_few_side s) (is_few_side p.second) e in
    let parts = and_parts (nat_le p.shared.home_data 1) (is_few_side s) both.0 in
    and_from (nat_le p.shared.home_data 1 && is_few_side p.first) (is_few_side p.second)
    (and_from (nat_le p.shared.home_data 1) (is_few_side p.first) parts.0 (h parts.1)) both.1

pub few-second : (p : Pair) (s : PairSide) → (is_few_side s ≡ true → is_few_side p.second ≡ true) → is_few (record p { second = s }) ≡ true → is_few p ≡ true
few-second p s h e =
    let both = and_parts (nat_le p.shared.home_data 1 && is_few_side p.first) (is_few_side s) e in
    and_from (nat_le p.shared.home_data 1 && is_few_side p.first) (is_few_side p.second) both.0 (h both.1)

few-one_more : (n : ℕ) → nat_le (n + 1) 1 ≡ true → nat_le n 1 ≡ true
few-one_more n e = grind (arith, nat_tests)

pub few-home_data : (p : Pair) → is_few (record p { shared = record p.shared { home_data = p.shared.home_data + 1 } }) ≡ true → is_few p ≡ true
few-home_data p e =
    let both = and_parts (nat_le (p.shared.home_data + 1) 1 && is_few_side p.first) (is_few_side p.second) e in
    let parts = and_parts (nat_le (p.shared.home_data + 1) 1) (is_few_side p.first) both.0 in
    and_from (nat_le p.shared.home_data 1 && is_few_side p.first) (is_few_side p.second)
    (and_from (nat_le p.shared.home_data 1) (is_few_side p.first) (few-one_more p.shared.home_data parts.0) parts.1) both.1
