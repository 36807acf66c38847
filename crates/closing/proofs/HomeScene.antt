-- The scene that two caches see while a cell of the home acts.
use Rattle.std.proofs.Common.{◌≡◌, ◌≢◌, ℕ, ◌+◌, ◌<◌, List, [], ◌∷◌, refl, ap, sym, ◌∙◌, Option, Some, None, Bool, true, false, ◌&&◌, ◌||◌}
use Rattle.std.proofs.Common.{if◌then◌else◌, ◌==◌, not, arith, eq-eqb, length, replicate, slice_set, zero, suc}
use Rattle.std.proofs.lemmas.Bool.{ne_eqb}
use Rattle.base.specs.declared.ids.CacheId.{CacheId}
use Rattle.directory_table.specs.declared.state.DirectoryState.{DirectoryState}
use Rattle.network.specs.Room.{one_if}
use Rattle.control.specs.Sharing.{shares, others_from}
use Rattle.machine.specs.Block.{BlockState}
use Rattle.pairs.specs.declared.side.Owned.{Owned}
use Rattle.pairs.specs.declared.side.Owned.TheVariants.{ByNobody, ByItself, ByAnother}
use Rattle.pairs.specs.declared.side.PairSide.{PairSide}
use Rattle.pairs.specs.declared.pair.Shared.{Shared}
use Rattle.pairs.specs.declared.pair.Pair.{Pair}
use Rattle.pairs.specs.Pairs.{thirds_fit}
use Rattle.pairs.specs.declared.steps.Party.{Party}
use Rattle.pairs.specs.declared.steps.Party.TheVariants.{Nobody, First, Second, Third}
use Rattle.pairs.specs.declared.steps.Debt.{Debt}
use Rattle.pairs.specs.declared.steps.Scene.{Scene}
use Rattle.pairs.specs.Sights.{home_left, owner_in}
use Rattle.closing.proofs.Alpha.{Tags, alpha, side, shared, names_on, owned_in}
use Rattle.closing.proofs.AlphaFits.{not-both, thirds_from, split, split_too, among, some-others, both, alike-same}
use Rattle.closing.proofs.Sides.{paired}
use Rattle.closing.proofs.Sending.{party_of}

-- what two sides say of the sharers and the owner stays as it was while the actions go on
pub record Frame : Type 0 where
  pub first_others : Bool
  pub first_owned : Owned
  pub second_others : Bool
  pub second_owned : Owned

abbrev pub framed : Bool → Owned → PairSide → PairSide
framed others owned s = record s { others = others; owned = owned }

abbrev pub frame_of : Pair → Frame
frame_of p = record {
  first_others = p.first.others;
  first_owned = p.first.owned;
  second_others = p.second.others;
  second_owned = p.second.owned;
}

-- a scene from its parts
abbrev pub staged : Frame → Shared → PairSide → PairSide → List Bool → List Bool → Party → Bool → Debt → Scene
staged fr g s t m n o third debt = record {
  pair = paired g (framed fr.first_others fr.first_owned s) (framed fr.second_others fr.second_owned t) m n;
  owner = o;
  third_shares = third;
  debt = debt;
}

-- whether a cache that is neither of two shares
abbrev pub third_of : ℕ → ℕ → List Bool → Bool
third_of c d flags = not (thirds_from 0 c d flags == 0)

-- what two caches of a block see
abbrev pub scene_of : Frame → Debt → Tags → BlockState → ℕ → ℕ → Scene
scene_of fr debt tags b c d =
    staged fr (shared tags b) (side tags b c) (side tags b d) (names_on b c d) (names_on b d c) (party_of b.home.owner c d) (third_of c d b.home.sharers) debt

-- THE SHARERS
pub first-others : (c d : ℕ) (flags : List Bool) → c ≢ d → not (others_from 0 c flags == 0) ≡ shares flags d || third_of c d flags
first-others c d flags ne =
    some-others (others_from 0 c flags) (thirds_from 0 c d flags) (shares flags d)
    (omega (arith, split 0 c d flags ne, among 0 d d flags (omega arith)))

pub second-others : (c d : ℕ) (flags : List Bool) → c ≢ d → not (others_from 0 d flags == 0) ≡ shares flags c || third_of c d flags
second-others c d flags ne =
    some-others (others_from 0 d flags) (thirds_from 0 c d flags) (shares flags c)
    (omega (arith, split_too 0 c d flags ne, among 0 c c flags (omega arith)))

-- the test of a third sharer that is true
pub third-fits : (tags : Tags) (b : BlockState) (c d : ℕ) → c ≢ d → thirds_fit (third_of c d b.home.sharers) (alpha tags b c d) ≡ true
third-fits tags b c d ne =
    both _ _ (alike-same _ _ (first-others c d b.home.sharers ne)) (alike-same _ _ (second-others c d b.home.sharers ne))

-- WHERE THE ACTIONS BEGIN
owner-seen : (s t : Bool) → s && t ≡ false →
    owner_in (if s then ByItself else ByAnother) (if t then ByItself else ByAnother) ≡ (if s then First else (if t then Second else Third))
owner-seen true true e = absurd (cc)
owner-seen true false e = refl
owner-seen false true e = refl
owner-seen false false e = refl

pub owner-seen_of : (o : Option CacheId) (c d : ℕ) → c ≢ d → owner_in (owned_in o c) (owned_in o d) ≡ party_of o c d
owner-seen_of None c d ne = refl
owner-seen_of (Some o) c d ne = owner-seen (o.0 == c) (o.0 == d) (not-both o.0 c d ne)

-- WHERE THEY END
-- what the home leaves of a side is what a block shows of it
left-nobody : (next : DirectoryState) (s : Scene) → s.owner ≡ Nobody → home_left next s ≡ (let p : Pair = s.pair in record p {
  shared = record p.shared { home = next };
  first = record p.first { others = p.second.shares || s.third_shares; owned = ByNobody };
  second = record p.second { others = p.first.shares || s.third_shares; owned = ByNobody };
})
left-nobody next s e = ap (λ (o : Party). home_left next (record s { owner = o })) e

left-some : (next : DirectoryState) (s : Scene) (one other : Bool) → one && other ≡ false → s.owner ≡
    (if one then First else (if other then Second else Third)) →
    home_left next s ≡ (let p : Pair = s.pair in record p {
      shared = record p.shared { home = next };
      first = record p.first { others = p.second.shares || s.third_shares; owned = if one then ByItself else ByAnother };
      second = record p.second { others = p.first.shares || s.third_shares; owned = if other then ByItself else ByAnother };
    })
left-some next s true true apart e = absurd (cc)
left-some next s true false apart e = ap (λ (o : Party). home_left next (record s { owner = o })) e
left-some next s false true apart e = ap (λ (o : Party). home_left next (record s { owner = o })) e
left-some next s false false apart e = ap (λ (o : Party). home_left next (record s { owner = o })) e

left-owner : (next : DirectoryState) (s : Scene) (o : Option CacheId) (c d : ℕ) → c ≢ d → s.owner ≡ party_of o c d →
    home_left next s ≡ (let p : Pair = s.pair in record p {
      shared = record p.shared { home = next };
      first = record p.first { others = p.second.shares || s.third_shares; owned = owned_in o c };
      second = record p.second { others = p.first.shares || s.third_shares; owned = owned_in o d };
    })
left-owner next s None c d ne e = left-nobody next s e
left-owner next s (Some o) c d ne e = left-some next s (o.0 == c) (o.0 == d) (not-both o.0 c d ne) e

-- so it leaves the pair of the two caches
pub scene-left : (fr : Frame) (debt : Debt) (tags : Tags) (b : BlockState) (next : DirectoryState) (c d : ℕ) → c ≢ d →
    home_left next (scene_of fr debt tags b c d) ≡ alpha tags (record b { home = record b.home { state = next } }) c d
scene-left fr debt tags b next c d ne =
    left-owner next (scene_of fr debt tags b c d) b.home.owner c d ne refl ∙ (λ i. record (alpha tags (record b { home = record b.home { state = next } }) c
    d) {
      first = record (side tags (record b { home = record b.home { state = next } }) c) { others = sym (first-others c d b.home.sharers ne) i };
      second = record (side tags (record b { home = record b.home { state = next } }) d) { others = sym (second-others c d b.home.sharers ne) i };
    })

-- SHARERS THAT COME AND GO
one-less : (flag : Bool) (s t : Bool) → s ≡ true → one_if (flag && not s && not t) ≡ 0
one-less true true t e = refl
one-less true false t e = absurd (cc)
one-less false s t e = refl

one-less_too : (flag : Bool) (s t : Bool) → t ≡ true → one_if (flag && not s && not t) ≡ 0
one-less_too true true t e = refl
one-less_too true false true e = refl
one-less_too true false false e = absurd (cc)
one-less_too false s t e = refl

-- a flag of one of two caches doesn't count among the others
pub thirds-set_first : (i j c d : ℕ) (flags : List Bool) (flag : Bool) → i + j ≡ c → thirds_from i c d (slice_set flags j flag) ≡ thirds_from i c d flags
thirds-set_first i j c d [] flag e = refl
thirds-set_first i zero c d (x ∷ flags) flag e =
    let same : (i == c) ≡ true = eq-eqb i c (omega (arith, e)) in
    omega (arith, one-less x (i == c) (i == d) same, one-less flag (i == c) (i == d) same)
thirds-set_first i (suc j) c d (x ∷ flags) flag e = omega (arith, thirds-set_first (i + 1) j c d flags flag (omega (arith, e)))

pub thirds-set_second : (i j c d : ℕ) (flags : List Bool) (flag : Bool) → i + j ≡ d → thirds_from i c d (slice_set flags j flag) ≡ thirds_from i c d flags
thirds-set_second i j c d [] flag e = refl
thirds-set_second i zero c d (x ∷ flags) flag e =
    let same : (i == d) ≡ true = eq-eqb i d (omega (arith, e)) in
    omega (arith, one-less_too x (i == c) (i == d) same, one-less_too flag (i == c) (i == d) same)
thirds-set_second i (suc j) c d (x ∷ flags) flag e = omega (arith, thirds-set_second (i + 1) j c d flags flag (omega (arith, e)))

one-more : (s t : Bool) → s ≡ false → t ≡ false → one_if (true && not s && not t) ≡ 1
one-more true t e f = absurd (cc)
one-more false true e f = absurd (cc)
one-more false false e f = refl

-- a third cache that shares from now on counts
pub thirds-added : (i j c d : ℕ) (flags : List Bool) → i + j ≢ c → i + j ≢ d → j < length flags → 0 < thirds_from i c d (slice_set flags j true)
thirds-added i j c d [] ne differ h = absurd (omega arith)
thirds-added i zero c d (x ∷ flags) ne differ h =
    omega (arith, one-more (i == c) (i == d) (ne_eqb i c (λ e. ne (omega (arith, e)))) (ne_eqb i d (λ e. differ (omega (arith, e)))))
thirds-added i (suc j) c d (x ∷ flags) ne differ h =
    omega (arith, thirds-added (i + 1) j c d flags (λ e. ne (omega (arith, e))) (λ e. differ (omega (arith, e))) (omega (arith, h)))

pub thirds-cleared : (i c d n : ℕ) → thirds_from i c d (replicate n false) ≡ 0
thirds-cleared i c d zero = refl
thirds-cleared i c d (suc n) = omega (arith, thirds-cleared (i + 1) c d n)

-- a cache's own flag doesn't count among those of the others
pub others-set : (i j c : ℕ) (flags : List Bool) (flag : Bool) → i + j ≡ c → others_from i c (slice_set flags j flag) ≡ others_from i c flags
others-set i j c [] flag e = refl
others-set i zero c (x ∷ flags) flag e =
    let same : (i == c) ≡ true = eq-eqb i c (omega (arith, e)) in
    omega (arith, one-less x (i == c) false same, one-less flag (i == c) false same, and-true x (not (i == c)), and-true flag (not (i == c)))
  where
    and-true : (s t : Bool) → one_if (s && t && not false) ≡ one_if (s && t)
    and-true true true = refl
    and-true true false = refl
    and-true false t = refl
others-set i (suc j) c (x ∷ flags) flag e = omega (arith, others-set (i + 1) j c flags flag (omega (arith, e)))
