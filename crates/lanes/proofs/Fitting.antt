-- Lanes that fit in a scenario: what keeps them so, and how few parts they hold.
use Rattle.std.proofs.Common.{◌≡◌, ℕ, zero, suc, ◌+◌, ◌<◌, ◌≤◌, ◌^◌, Bool, true, false, if◌then◌else◌, leb, List, [], ◌∷◌, ◌++◌}
use Rattle.std.proofs.Common.{length, get_or, set, refl, sym, ap, ◌∙◌, subst, arith}
use Rattle.std.specs.List.{sum_by}
use Rattle.std.proofs.lemmas.Bool.{le-leb, lt-leb}
use Rattle.std.proofs.lemmas.List.Sums.{sum_by-cons}
use Rattle.cursors.specs.Stock.{FitsIn, Stock, Within, Empty, With, nodes, parts_in, room, total_nodes}
use Rattle.scenario.specs.Tree.{Tree, Trees, One, Seq, Any, Times, Both, Nil, Cons, plain, plain_all, trees_of}
use Rattle.cursors.specs.declared.cursor.Cursor.{Cursor}
use Rattle.scenario.specs.declared.tree.Scenario.{Scenario}
use Rattle.scenario.specs.declared.tree.Scenario as scenario
use Rattle.scenario.specs.declared.tree.Scenario.{out-Scenario, roll-Scenario, roll-out-Scenario}
use Rattle.scenario.specs.declared.tree.Scenario.TheBlock.{shown-the_row-Scenario-0}
use Rattle.scenario.specs.declared.tree.Scenario.TheVariants as rows
use Rattle.std.specs.declared.vec.Vec.{Vec}
use Rattle.cursors.proofs.Stock.{room-few}
use Rattle.lanes.specs.declared.lanes.Lane.{Lane}
use Rattle.lanes.specs.Fitting.{EachFits, Fits, KeepSource, LanesFit, how_many, lane_trees, parts_of_lanes}
use Rattle.lanes.specs.Lanes.{Laned, Source, Stocked}
use Rattle.lanes.specs.declared.lanes.Lanes.TheInside.{Inside}
use Rattle.lanes.specs.inner.Kept.{laned, stocked, stocks_in}

-- ---- what keeps them so

-- a cursor that fits in a tree, by its parts
pub fits-cursor : {A B : Type 0} (c : Cursor A B) (t : Tree) → FitsIn c t → Fits (stocked c) t
fits-cursor c t h = (h.held, h.wanted)

cursor-fits : {A B : Type 0} (c : Cursor A B) (t : Tree) → Fits (stocked c) t → FitsIn c t
cursor-fits c t h = record { held = h.0; wanted = h.1 }

-- lanes whose cursors are of the same parts
pub fits-same : (old new : List Stocked) (ts : Trees) → new ≡ old → EachFits old ts → EachFits new ts
fits-same old new ts e h = subst (λ (ss : List Stocked). EachFits ss ts) (sym e) h

-- one lane is changed, and fits in what it fitted in
pub fits-set : {A B : Type 0} (lanes : List (Lane A B)) (ts : Trees) (n : ℕ) (old new : Lane A B) → old ≡ get_or lanes n old →
    ((t : Tree) → FitsIn old.rest t → FitsIn new.rest t) → EachFits (stocks_in lanes) ts → EachFits (stocks_in (set lanes n new)) ts
fits-set [] ts n old new is more h = h
fits-set (x ∷ lanes) Nil n old new is more h = absurd h
fits-set {A} {B} (x ∷ lanes) (Cons t ts) zero old new is more h =
    let e : old ≡ x = is in
    let was : Fits (stocked old.rest) t = subst (λ (l : Lane A B). Fits (stocked l.rest) t) (sym e) h.0 in
    (fits-cursor new.rest t (more t (cursor-fits old.rest t was)), h.1)
fits-set (x ∷ lanes) (Cons t ts) (suc n) old new is more h = (h.0, fits-set lanes ts n old new is more h.1)

-- so it is where it fits in its tree
pub fits-put : {A B : Type 0} (lanes : List (Lane A B)) (ts : List Tree) (n : ℕ) (old new : Lane A B) (t : Tree) → old ≡ get_or lanes n old →
    t ≡ get_or ts n t → (FitsIn old.rest t → FitsIn new.rest t) → EachFits (stocks_in lanes) (trees_of ts) → EachFits (stocks_in (set lanes n new)) (trees_of ts)
fits-put [] ts n old new t is at more h = h
fits-put (x ∷ lanes) [] n old new t is at more h = absurd h
fits-put {A} {B} (x ∷ lanes) (u ∷ ts) zero old new t is at more h =
    let e : old ≡ x = is in
    let d : t ≡ u = at in
    let here : Fits (stocked x.rest) t = subst (λ (v : Tree). Fits (stocked x.rest) v) (sym d) h.0 in
    let was : Fits (stocked old.rest) t = subst (λ (l : Lane A B). Fits (stocked l.rest) t) (sym e) here in
    (subst (λ (v : Tree). Fits (stocked new.rest) v) d (fits-cursor new.rest t (more (cursor-fits old.rest t was))), h.1)
fits-put (x ∷ lanes) (u ∷ ts) (suc n) old new t is at more h = (h.0, fits-put lanes ts n old new t is at more h.1)

-- one lane more, and one tree
pub fits-push : {A B : Type 0} (lanes : List (Lane A B)) (ts : List Tree) (lane : Lane A B) (t : Tree) →
    EachFits (stocks_in lanes) (trees_of ts) → FitsIn lane.rest t → EachFits (stocks_in (lanes ++ lane ∷ [])) (trees_of (ts ++ t ∷ []))
fits-push [] [] lane t h f = (fits-cursor lane.rest t f, tt)
fits-push [] (u ∷ ts) lane t h f = absurd h
fits-push (x ∷ lanes) [] lane t h f = absurd h
fits-push (x ∷ lanes) (u ∷ ts) lane t h f = (h.0, fits-push lanes ts lane t h.1 f)

-- ---- the source, and what fits in it

pub keeps : (old new : Laned) → new.source ≡ old.source → ((ts : Trees) → trees_of old.source.trees ≡ ts → EachFits old.stocks ts → EachFits new.stocks ts) →
    KeepSource old new
keeps old new source each = record {
  source = source;
  fits = λ t h. record {
    source = ap (λ (s : Source). trees_of s.trees) source ∙ h.source;
    each = each (lane_trees t) h.source h.each;
  };
}

-- the cursor of one lane is changed, and fits in what it fitted in
pub keeps-step : {A B : Type 0} (l : Inside A B) (seen new : Laned) (lane : ℕ) (old made : Lane A B) → laned l ≡ seen → new.source ≡ (laned l).source →
    new.stocks ≡ stocks_in (set l.lanes.items lane made) → old ≡ get_or l.lanes.items lane old → ((t : Tree) → FitsIn old.rest t → FitsIn made.rest t) →
    KeepSource seen new
keeps-step l seen new lane old made view source stocks is more =
    subst (λ (s : Laned). KeepSource s new) view (keeps (laned l) new source
    (λ ts of h. fits-same _ new.stocks ts stocks (fits-set l.lanes.items ts lane old made is more h)))

pub keeps-same : (old new : Laned) → new.source ≡ old.source → new.stocks ≡ old.stocks → KeepSource old new
keeps-same old new source stocks = keeps old new source (λ ts of h. fits-same old.stocks new.stocks ts stocks h)

pub keeps-both : (a b c : Laned) → KeepSource a b → KeepSource b c → KeepSource a c
keeps-both a b c one two = record { source = two.source ∙ one.source; fits = λ t h. two.fits t (one.fits t h) }

-- ---- how many there are

pub fits-many : {A B : Type 0} (lanes : List (Lane A B)) (ts : Trees) → EachFits (stocks_in lanes) ts → length lanes ≡ how_many ts
fits-many [] Nil h = refl
fits-many [] (Cons t ts) h = absurd h
fits-many (x ∷ lanes) Nil h = absurd h
fits-many (x ∷ lanes) (Cons t ts) h = let e = fits-many lanes ts h.1 in omega (arith, e)

pub many-all : {C : Type 0} (ss : List (Scenario C)) → how_many (plain_all ss) ≡ length ss
many-all [] = refl
many-all (s ∷ ss) = let e = many-all ss in omega (arith, e)

-- a row of few trees has a lane for each
pub few-lanes : (ts : Trees) → how_many ts ≤ 2 ^ 31 → lane_trees (Both ts) ≡ ts
few-lanes ts few = ap (λ b. if b then ts else Cons (Both ts) Nil) (le-leb (how_many ts) (2 ^ 31) few)

-- ---- how few parts they hold

fewer : (a b : Stock) → Within a b → parts_in a ≤ parts_in b
fewer Empty b h = omega arith
fewer (With own others) Empty h = absurd h
fewer (With own others) (With own' others') h =
    let first = fewer own own' h.0 in
    let more = fewer others others' h.1 in
    omega (arith, first, more)

each-few : (ss : List Stocked) (ts : Trees) → EachFits ss ts → sum_by (λ (s : Stocked). 1 + parts_in s.held) ss ≤ total_nodes ts
each-few [] Nil h = omega arith
each-few [] (Cons t ts) h = absurd h
each-few (s ∷ ss) Nil h = absurd h
each-few (s ∷ ss) (Cons t ts) h =
    let one = fewer s.held (room t) h.0.0 in
    let node = room-few t in
    let others = each-few ss ts h.1 in
    let all = sum_by-cons (λ (s : Stocked). 1 + parts_in s.held) s ss in
    omega (arith, one, node, others, all)

lanes-few : (ss : List Stocked) (t : Tree) → EachFits ss (lane_trees t) → sum_by (λ (s : Stocked). 1 + parts_in s.held) ss ≤ nodes t
lanes-few ss (One ask) h = let few = each-few ss (Cons (One ask) Nil) h in omega (arith, few)
lanes-few ss (Seq ts) h = let few = each-few ss (Cons (Seq ts) Nil) h in omega (arith, few)
lanes-few ss (Any ts) h = let few = each-few ss (Cons (Any ts) Nil) h in omega (arith, few)
lanes-few ss (Times n t) h = let few = each-few ss (Cons (Times n t) Nil) h in omega (arith, few)
lanes-few ss (Both ts) h = by (leb (how_many ts) (2 ^ 31)) h
  where
    by : (b : Bool) → EachFits ss (if b then ts else Cons (Both ts) Nil) → sum_by (λ (s : Stocked). 1 + parts_in s.held) ss ≤ nodes (Both ts)
    by true h = let few = each-few ss ts h in omega (arith, few)
    by false h = let few = each-few ss (Cons (Both ts) Nil) h in omega (arith, few)

pub lanes-small : (l : Laned) (t : Tree) → LanesFit l t → parts_of_lanes l ≤ nodes t
lanes-small l t h = lanes-few l.stocks t h.each

-- a row of many trees has one lane
pub many-lanes : (ts : Trees) → 2 ^ 31 < how_many ts → lane_trees (Both ts) ≡ Cons (Both ts) Nil
many-lanes ts many = ap (λ b. if b then ts else Cons (Both ts) Nil) (lt-leb (how_many ts) (2 ^ 31) many)

-- what is no row has one lane
pub alone-lanes : {A : Type 0} (s : Scenario A) → ((v : Vec (Scenario A) A) → s ≡ rows.Both v → ⊥) → lane_trees (plain s) ≡ Cons (plain s) Nil
alone-lanes (scenario.One ask) other = refl
alone-lanes (scenario.Seq' shape row) other = refl
alone-lanes (scenario.Any' shape row) other = refl
alone-lanes (scenario.Times' n at child) other = refl
alone-lanes {A} (scenario.Both' shape row) other =
    let s : Scenario A = scenario.Both' shape row in
    let v = shown-the_row-Scenario-0 A shape row in
    absurd (other v (sym (roll-out-Scenario A s) ∙ ap (roll-Scenario A) (rows.outs-Both' shape row) ∙ rows.rolls-Both v))
