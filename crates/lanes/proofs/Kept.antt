-- What is kept of lanes, and what it says of all offers.
use Rattle.std.proofs.Common.{◌≡◌, ℕ, zero, suc, ◌+◌, ◌-◌, ◌<◌, ◌≤◌, nat_eq, Bool, true, false, if◌then◌else◌, List, [], ◌∷◌, ◌++◌, length, map, take}
use Rattle.std.proofs.Common.{get_or, slice_get, refl, sym, ap, ◌∙◌, arith}
use Rattle.std.specs.List.{sum}
use Rattle.std.proofs.lemmas.List.{length-map, length-append, ext_get_or, get_or-map}
use Rattle.std.proofs.lemmas.Bool.Decides.{nat_tests}
use Rattle.std.proofs.lemmas.Option.{slice_get-map}
use Rattle.std.specs.Option.{option_map}
use Rattle.base.specs.declared.step.CoreAsk.{CoreAsk}
use Rattle.rows.specs.Counts.{Finds}
use Rattle.rows.proofs.Bridge.{get_front, get_behind_by}
use Rattle.tables.specs.Tables.{Tables}
use Rattle.machine.specs.Machine.{State}
use Rattle.world.specs.Enabled.{enabled_steps}
use Rattle.cores.specs.Cores.{Core}
use Rattle.scenario.specs.Tree.{Tree, Seq, Nil}
use Rattle.scenario.specs.Taking.{offers}
use Rattle.schedule.specs.Choices.{choices_of, offers_from}
use Rattle.lanes.specs.declared.lanes.Lane.{Lane}
use Rattle.cursors.specs.Cursors.{remaining}
use Rattle.lanes.specs.Lanes.{AreReady, Laned, choices_by, listed_at, offers_at, puttable, source_at, whole}
use Rattle.world.specs.View.{View}
use Rattle.lanes.specs.declared.lanes.Lanes.TheInside.{Inside}
use Rattle.lanes.specs.inner.Kept.{AreAsOpened, AreListed, AreSound, IsLevel, IsListedAs, laned, listed_in, tree_of_lane, trees_in}
use Rattle.schedule.specs.Listed.{nothing_listed}
use Rattle.schedule.specs.Marks.{offers_by}
use Rattle.schedule.specs.declared.choosing.Choice.TheVariants.{Deliver}
use Rattle.schedule.proofs.Marking.{by-marks}
use Rattle.lanes.proofs.Offered.{CountsOf, all-counted, all-found}
use Rattle.lanes.proofs.Rows.{lengths_of, sum-lengths}

-- what holds of lanes that aren't spoilt
pub record AreLanesKept (l : Laned) : Type 0 where
  pub level : IsLevel l
  pub listed : AreListed l

pub are-kept : {A B : Type 0} (l : Inside A B) → AreSound l → l.usable ≡ true → AreLanesKept (laned l)
are-kept l sound usable = record { level = sound.level; listed = sound.listed usable }

-- so it holds of their fields where it is told of what contracts see
pub kept-inside : {A B : Type 0} (l : Inside A B) (seen : Laned) → AreSound l → laned l ≡ seen → seen.usable ≡ true → AreLanesKept (laned l)
kept-inside l seen sound is usable = are-kept l sound (ap (λ (s : Laned). s.usable) is ∙ usable)

-- the choices of lanes that aren't spoilt are those of what is left
pub choices-usable : (world : View) (cores : List Core) (l : Laned) → l.usable ≡ true →
    choices_of world.tables world.state cores (whole l) ≡ choices_by world cores l
choices-usable world cores l usable = sym (ap (λ t. if t then choices_of world.tables world.state cores (whole l) else []) usable)

-- whether lanes are spoilt doesn't change what is kept of them
pub listed-said : (l : Laned) (b : Bool) (tree : Tree) (lane : ℕ) → IsListedAs tree l lane → IsListedAs tree (record l { usable = b }) lane
listed-said l b tree lane h = record { offered = h.offered; count = h.count; short = h.short; reached = h.reached }

pub opened-said : (l : Laned) (b : Bool) → AreAsOpened l → AreAsOpened (record l { usable = b })
opened-said l b opened lane is = listed-said l b (source_at l lane) lane (opened lane is)

pub level-said : (l : Laned) (b : Bool) → IsLevel l → IsLevel (record l { usable = b })
level-said l b h = record {
  sources = h.sources;
  opened = h.opened;
  listed = h.listed;
  lengths = h.lengths;
  ready = h.ready;
  few = h.few;
  rows = h.rows;
}

-- nor do the marks that are noted
pub listed-noted : (l : Laned) (marks : List (List Bool)) → AreListed l →
    AreListed (record l { source = record { trees = l.source.trees; marks = marks } })
listed-noted l marks listed lane low =
    let h = listed lane low in record { offered = h.offered; count = h.count; short = h.short; reached = h.reached }

pub opened-noted : (l : Laned) (marks : List (List Bool)) → AreAsOpened l →
    AreAsOpened (record l { source = record { trees = l.source.trees; marks = marks } })
opened-noted l marks opened lane is =
    let h = opened lane is in record { offered = h.offered; count = h.count; short = h.short; reached = h.reached }

pub level-noted : (l : Laned) (marks : List (List Bool)) → IsLevel l → IsLevel (record l { source = record { trees = l.source.trees; marks = marks } })
level-noted l marks h = record {
  sources = h.sources;
  opened = h.opened;
  listed = h.listed;
  lengths = h.lengths;
  ready = h.ready;
  few = h.few;
  rows = h.rows;
}

-- the lengths are those of what the trees offer
pub lengths-are : (l : Laned) → AreLanesKept l → l.lengths ≡ lengths_of l.trees
lengths-are l kept =
    let many = kept.level.lengths in
    let same = length-map l.trees (λ t. length (offers t)) in
    ext_get_or 0 l.lengths (lengths_of l.trees) (many ∙ sym same) (λ i low.
    let there : i < length l.trees = omega (arith, low, many) in
    let listed = kept.listed i there in
    listed.count ∙ ap length listed.offered ∙ sym (get_or-map (λ t. length (offers t)) l.trees i (Seq Nil) 0 there))

pub all-lengths : (l : Laned) → AreLanesKept l → sum l.lengths ≡ length (offers (whole l))
all-lengths l kept = ap sum (lengths-are l kept) ∙ sum-lengths l.trees

pub counts-are : (tables : Tables) (s : State) (cores : List Core) (l : Laned) → AreLanesKept l → AreReady tables s cores l → s.broken ≡ false →
    CountsOf tables s cores l.trees l.ready
counts-are tables s cores l kept ready sound i low =
    ready.counted sound i low ∙ ap (puttable tables s cores) (kept.listed i low).offered

-- the choices of a world that isn't broken
pub choices-sound : (tables : Tables) (s : State) (cores : List Core) (t : Tree) → s.broken ≡ false →
    choices_of tables s cores t ≡ offers_from tables s cores 0 (offers t) ++ map Deliver (enabled_steps tables s)
choices-sound tables s cores t e =
    ap (λ b. if b then [] else (offers_from tables s cores 0 (offers t) ++ map Deliver (enabled_steps tables s))) e

pub offers-count : (tables : Tables) (s : State) (cores : List Core) (l : Laned) → AreLanesKept l → AreReady tables s cores l → s.broken ≡ false →
    length (offers_from tables s cores 0 (offers (whole l))) ≡ sum l.ready
offers-count tables s cores l kept ready sound =
    all-counted tables s cores 0 l.trees l.ready kept.level.ready (counts-are tables s cores l kept ready sound)

pub choices-count : (tables : Tables) (s : State) (cores : List Core) (l : Laned) (offered enabled : ℕ) → AreLanesKept l → AreReady tables s cores l →
    s.broken ≡ false → offered ≡ sum l.ready → enabled ≡ length (enabled_steps tables s) → offered + enabled ≡ length (choices_of tables s cores (whole l))
choices-count tables s cores l offered enabled kept ready sound one other =
    let os = offers_from tables s cores 0 (offers (whole l)) in
    let all = ap length (choices-sound tables s cores (whole l) sound) in
    let both = length-append os (map Deliver (enabled_steps tables s)) in
    let first = offers-count tables s cores l kept ready sound in
    let second = length-map (enabled_steps tables s) Deliver in
    omega (arith, one, other, all, both, first, second)

pub found-within : (ns : List ℕ) (p r : ℕ) → r < get_or ns p 0 → p < length ns
found-within [] p r w = absurd (omega (arith, w))
found-within (n ∷ ns) zero r w = omega arith
found-within (n ∷ ns) (suc p) r w = let h = found-within ns p r w in omega (arith, h)

pub lane-there : (l : Laned) (k p r : ℕ) → AreLanesKept l → Finds l.ready k p r → p < length l.trees
lane-there l k p r kept found = let w = found-within l.ready p r found.within in let m = kept.level.ready in omega (arith, w, m)

-- the k-th choice is an offer of the lane that k falls in, or a delivery
choice-offered : (tables : Tables) (s : State) (cores : List Core) (l : Laned) (k p r : ℕ) → AreLanesKept l → AreReady tables s cores l →
    s.broken ≡ false → Finds l.ready k p r → k < sum l.ready →
    slice_get (offers_from tables s cores (sum (take p l.lengths)) (offers_at l p)) r ≡ slice_get (choices_of tables s cores (whole l)) k
choice-offered tables s cores l k p r kept ready sound found low =
    let counts = counts-are tables s cores l kept ready sound in
    let os = offers_from tables s cores 0 (offers (whole l)) in
    let few = offers-count tables s cores l kept ready sound in
    let here : p < length l.trees = lane-there l k p r kept found in
    sym (ap (λ cs. slice_get cs k) (choices-sound tables s cores (whole l) sound)
    ∙ get_front os (map Deliver (enabled_steps tables s)) k (omega (arith, low, few))
    ∙ all-found tables s cores 0 l.trees l.ready k p r kept.level.ready counts found.front found.within
    ∙ ap (λ ls. slice_get (offers_from tables s cores (0 + sum (take p ls)) (offers (tree_of_lane l p))) r) (sym (lengths-are l kept))
    ∙ ap (λ n. slice_get (offers_from tables s cores n (offers (tree_of_lane l p))) r)
    (let z : 0 + sum (take p l.lengths) ≡ sum (take p l.lengths) = omega arith in z)
    ∙ ap (λ xs. slice_get (offers_from tables s cores (sum (take p l.lengths)) xs) r) (sym (kept.listed p here).offered))

-- so it is by the marks of that lane
pub choice-marked : (tables : Tables) (s : State) (cores : List Core) (l : Laned) (k p r : ℕ) → AreLanesKept l → AreReady tables s cores l →
    s.broken ≡ false → Finds l.ready k p r → k < sum l.ready →
    slice_get (offers_by cores (sum (take p l.lengths)) (offers_at l p) (listed_at l p).unheld) r ≡ slice_get (choices_of tables s cores (whole l)) k
choice-marked tables s cores l k p r kept ready sound found low =
    ap (λ cs. slice_get cs r)
    (by-marks tables s cores (sum (take p l.lengths)) (offers_at l p) (listed_at l p).unheld (ready.marked sound p (lane-there l k p r kept found)))
    ∙ choice-offered tables s cores l k p r kept ready sound found low

pub choice-delivered : (tables : Tables) (s : State) (cores : List Core) (l : Laned) (k offered : ℕ) → AreLanesKept l → AreReady tables s cores l →
    s.broken ≡ false → offered ≡ sum l.ready → offered ≤ k →
    option_map Deliver (slice_get (enabled_steps tables s) (k - offered)) ≡ slice_get (choices_of tables s cores (whole l)) k
choice-delivered tables s cores l k offered kept ready sound all past =
    let os = offers_from tables s cores 0 (offers (whole l)) in
    let few = offers-count tables s cores l kept ready sound in
    sym (ap (λ cs. slice_get cs k) (choices-sound tables s cores (whole l) sound)
    ∙ get_behind_by os (map Deliver (enabled_steps tables s)) k (omega (arith, all, past, few))
    ∙ ap (λ n. slice_get (map Deliver (enabled_steps tables s)) n) (let z : k - length os ≡ k - offered = omega (arith, all, few) in z)
    ∙ slice_get-map Deliver (enabled_steps tables s) (k - offered))

-- an offer of a lane by its place there is the one of its number
pub lane-finds : (l : Laned) (lane place : ℕ) → AreLanesKept l → lane < length l.trees → place < length (offers_at l lane) →
    Finds l.lengths (sum (take lane l.lengths) + place) lane place
lane-finds l lane place kept low offered = record {
  front = refl;
  within = let count = (kept.listed lane low).count in omega (arith, count, offered);
}

-- whether a list is empty, by its length
pub none-or-some : (n : ℕ) (asks : List CoreAsk) → n ≡ length asks → (nat_eq n 0 ≡ true → asks ≡ []) × (asks ≡ [] → nat_eq n 0 ≡ true)
none-or-some n [] e = (λ h. refl, λ h. let z : n ≡ 0 = e in grind (arith, nat_tests))
none-or-some n (ask ∷ asks) e = (λ h. let z : n ≡ 0 = grind (arith, nat_tests) in absurd (omega (arith, e, z)), λ h. absurd (cc h))

-- ---- a lane as it is kept

pub lane-listed : {A B : Type 0} (lanes : List (Lane A B)) (p : ℕ) (lane : Lane A B) → p < length lanes → lane ≡ get_or lanes p lane →
    lane.asks ≡ get_or (listed_in lanes) p nothing_listed
lane-listed lanes p lane low is =
    ap (λ l. l.asks) is ∙ sym (get_or-map (λ l. l.asks) lanes p lane nothing_listed low)

pub lane-tree : {A B : Type 0} (lanes : List (Lane A B)) (p : ℕ) (lane : Lane A B) → p < length lanes → lane ≡ get_or lanes p lane →
    remaining lane.rest ≡ get_or (trees_in lanes) p (Seq Nil)
lane-tree lanes p lane low is =
    ap (λ l. remaining l.rest) is ∙ sym (get_or-map (λ l. remaining l.rest) lanes p lane (Seq Nil) low)

pub listed-of-lane : {A B : Type 0} (lanes : List (Lane A B)) (p : ℕ) (d : Lane A B) → p < length lanes →
    (get_or lanes p d).asks ≡ get_or (listed_in lanes) p nothing_listed
listed-of-lane lanes p d low = sym (get_or-map (λ l. l.asks) lanes p d nothing_listed low)
