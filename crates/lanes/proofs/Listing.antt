-- What listing a lane anew, and taking an offer from it, keeps of the lanes.
use Rattle.std.proofs.Common.{◌≡◌, ◌≢◌, ℕ, ◌<◌, ◌^◌, inl, inr, length, map, Option, Some, None, get_or, set, slice_get, false, true, true≢false}
use Rattle.std.proofs.Common.{Bool, List, [], ◌≤◌, refl, sym, ap, ◌∙◌, subst, arith}
use Rattle.std.specs.List.{Contains}
use Rattle.std.proofs.lemmas.List.{length-map, length-set, map-set, get_or-set_same, get_or-set_other}
use Rattle.std.proofs.lemmas.Bool.{cases_eq}
use Rattle.base.specs.declared.step.CoreAsk.{CoreAsk}
use Rattle.rows.specs.Counts.{Finds}
use Rattle.tables.specs.Tables.{Tables}
use Rattle.machine.specs.Machine.{State}
use Rattle.scenario.specs.Tree.{Tree, Seq, Both, Nil, trees_of}
use Rattle.scenario.specs.Alike.{Alike, SeenTree}
use Rattle.cursors.specs.Repeats.{Repeats}
use Rattle.scenario.specs.Taking.{left, offers}
use Rattle.lanes.specs.declared.lanes.Lane.{Lane}
use Rattle.lanes.specs.declared.lanes.Lanes.TheInside.{Inside}
use Rattle.cursors.specs.Cursors.{remaining}
use Rattle.lanes.specs.Lanes.{Laned, Source, listed_at, offers_at, source_at, whole}
use Rattle.lanes.specs.inner.Kept.{AreAsOpened, AreSound, IsLevel, IsListed, IsListedAs, laned, lanes_of, stocked, tree_of_lane}
use Rattle.schedule.specs.Listed.{Listed, nothing_listed}
use Rattle.schedule.specs.Marks.{all_marked}
use Rattle.lanes.specs.inner.Changes.{KeepsOtherLanes, TakesFrom, marked_in}
use Rattle.std.proofs.Math.Seq.{map-set_same}
use Rattle.lanes.proofs.Kept.{AreLanesKept, found-within, lane-listed, lane-tree, lengths-are, listed-said}
use Rattle.lanes.proofs.Rows.{lengths_of, taken-there}

-- a lane was listed anew
pub record Relists (lane : ℕ) (made : Listed) (old new : Laned) : Type 0 where
  pub trees : new.trees ≡ old.trees
  pub written : new.listed ≡ set old.listed lane made
  pub lengths : new.lengths ≡ set old.lengths lane (length made.asks)
  pub ready : new.ready ≡ old.ready
  pub more : (core other : ℕ) → Contains (lanes_of old.reached core) other → Contains (lanes_of new.reached core) other
  pub reached : (at : ℕ) (ask : CoreAsk) → slice_get made.asks at ≡ Some ask → Contains (lanes_of new.reached ask.core.0) lane
  pub short : length made.asks < 2 ^ 32
  pub is : made.asks ≡ offers (tree_of_lane old lane)

pub relisted-at : (lane : ℕ) (made : Listed) (old new : Laned) → Relists lane made old new → IsLevel old → lane < length old.trees → listed_at new lane ≡ made
relisted-at lane made old new r level low =
    let many = level.listed in
    ap (λ xs. get_or xs lane nothing_listed) r.written ∙ get_or-set_same old.listed lane made nothing_listed (omega (arith, low, many))

pub relisted : (lane : ℕ) (made : Listed) (old new : Laned) → Relists lane made old new → IsLevel old → lane < length old.trees → IsListed new lane
relisted lane made old new r level low =
    let ml = level.lengths in
    let here : offers_at new lane ≡ made.asks = ap (λ (l : Listed). l.asks) (relisted-at lane made old new r level low) in
    record {
      offered = here ∙ r.is ∙ ap (λ ts. offers (get_or ts lane (Seq Nil))) (sym r.trees);
      count = ap (λ ns. get_or ns lane 0) r.lengths ∙ get_or-set_same old.lengths lane (length made.asks) 0 (omega (arith, low, ml)) ∙ ap length (sym here);
      short = subst (λ xs. length xs < 2 ^ 32) (sym here) r.short;
      reached = λ at ask e. r.reached at ask (ap (λ xs. slice_get xs at) (sym here) ∙ e);
    }

-- what is kept of the other lanes is what it was, but that more lanes may be noted of a core
pub record LeavesOthers (lane : ℕ) (old new : Laned) : Type 0 where
  pub listed : (other : ℕ) → other ≢ lane → listed_at new other ≡ listed_at old other
  pub lengths : (other : ℕ) → other ≢ lane → get_or new.lengths other 0 ≡ get_or old.lengths other 0
  pub more : (core other : ℕ) → Contains (lanes_of old.reached core) other → Contains (lanes_of new.reached core) other

leaves-others : (lane : ℕ) (made : Listed) (old new : Laned) → Relists lane made old new → LeavesOthers lane old new
leaves-others lane made old new r = record {
  listed = λ other ne. ap (λ xs. get_or xs other nothing_listed) r.written ∙ get_or-set_other old.listed lane other made nothing_listed ne;
  lengths = λ other ne. ap (λ ns. get_or ns other 0) r.lengths ∙ get_or-set_other old.lengths lane other (length made.asks) 0 ne;
  more = r.more;
}

listed-other : (lane : ℕ) (old new : Laned) (tree : Tree) (other : ℕ) → LeavesOthers lane old new → other ≢ lane →
    IsListedAs tree old other → IsListedAs tree new other
listed-other lane old new tree other r ne h =
    let same : offers_at new other ≡ offers_at old other = ap (λ (l : Listed). l.asks) (r.listed other ne) in
    record {
      offered = same ∙ h.offered;
      count = r.lengths other ne ∙ h.count ∙ ap length (sym same);
      short = subst (λ xs. length xs < 2 ^ 32) (sym same) h.short;
      reached = λ at ask e. r.more ask.core.0 other (h.reached at ask (ap (λ xs. slice_get xs at) (sym same) ∙ e));
    }

pub others-kept : (lane : ℕ) (made : Listed) (old new : Laned) → Relists lane made old new → KeepsOtherLanes lane old new
others-kept lane made old new r = record {
  count = ap length r.trees;
  ready = r.ready;
  same = (leaves-others lane made old new r).listed;
  listed = λ other ne h. subst (λ ts. IsListedAs (get_or ts other (Seq Nil)) new other) (sym r.trees)
      (listed-other lane old new (tree_of_lane old other) other (leaves-others lane made old new r) ne h);
}

-- the lane is said to be listed no longer as it was opened
pub opened-but : (lane : ℕ) (old new : Laned) → LeavesOthers lane old new → new.source ≡ old.source →
    new.as_opened ≡ set old.as_opened lane false → lane < length old.as_opened → AreAsOpened old → AreAsOpened new
opened-but lane old new r source said low opened other is = elim (cases_eq other lane) [
  | inl e ↦
      let not : get_or new.as_opened other false ≡ false =
      ap (λ bs. get_or bs other false) said ∙ ap (λ n. get_or (set old.as_opened lane false) n false) e
      ∙ get_or-set_same old.as_opened lane false false low in
      absurd (true≢false (sym is ∙ not))
  | inr ne ↦
      subst (λ (s : Source). IsListedAs (get_or s.trees other (Seq Nil)) new other) (sym source)
      (listed-other lane old new (source_at old other) other r ne
      (opened other (sym (ap (λ bs. get_or bs other false) said ∙ get_or-set_other old.as_opened lane other false false ne) ∙ is)))
]

-- ---- taking an offer

-- the offer that is found is one of its lane's
pub found-offered : (lane offer rest : ℕ) (old : Laned) → AreLanesKept old → Finds old.lengths offer lane rest → rest < length (offers (tree_of_lane old lane))
found-offered lane offer rest old kept found =
    let low : lane < length old.trees = (let h = found-within old.lengths lane rest found.within in let m = kept.level.lengths in omega (arith, h, m)) in
    let here = kept.listed lane low in
    let count = here.count in
    let offered = ap length here.offered in
    let within = found.within in
    omega (arith, count, offered, within)

-- of the lanes before the one that an offer was taken from is listed anew: another tree is left there
pub record Steps (lane : ℕ) (new : Tree) (old mid : Laned) : Type 0 where
  pub source : mid.source ≡ old.source
  pub opened : mid.as_opened ≡ old.as_opened
  pub trees : mid.trees ≡ set old.trees lane new
  pub listed : mid.listed ≡ old.listed
  pub lengths : mid.lengths ≡ old.lengths
  pub ready : mid.ready ≡ old.ready
  pub reached : mid.reached ≡ old.reached

listed-as-still : (lane : ℕ) (t : Tree) (old mid : Laned) → Steps lane t old mid → (tree : Tree) (other : ℕ) →
    IsListedAs tree old other → IsListedAs tree mid other
listed-as-still lane t old mid s tree other h =
    let same : offers_at mid other ≡ offers_at old other = ap (λ xs. (get_or xs other nothing_listed).asks) s.listed in
    record {
      offered = same ∙ h.offered;
      count = ap (λ ns. get_or ns other 0) s.lengths ∙ h.count ∙ ap length (sym same);
      short = subst (λ xs. length xs < 2 ^ 32) (sym same) h.short;
      reached = λ at ask e. subst (λ rs. Contains (lanes_of rs ask.core.0) other) (sym s.reached)
          (h.reached at ask (ap (λ xs. slice_get xs at) (sym same) ∙ e));
    }

listed-still : (lane : ℕ) (t : Tree) (old mid : Laned) → Steps lane t old mid → (other : ℕ) → other ≢ lane → IsListed old other → IsListed mid other
listed-still lane t old mid s other ne h =
    subst (λ tree. IsListedAs tree mid other)
    (sym (ap (λ ts. get_or ts other (Seq Nil)) s.trees ∙ get_or-set_other old.trees lane other t (Seq Nil) ne))
    (listed-as-still lane t old mid s (tree_of_lane old other) other h)

pub opened-still : (lane : ℕ) (t : Tree) (old mid : Laned) → Steps lane t old mid → AreAsOpened old → AreAsOpened mid
opened-still lane t old mid s opened other is =
    subst (λ (from : Source). IsListedAs (get_or from.trees other (Seq Nil)) mid other) (sym s.source)
    (listed-as-still lane t old mid s (source_at old other) other (opened other (sym (ap (λ bs. get_or bs other false) s.opened) ∙ is)))

-- an offer was taken, and what is kept of each lane is right
pub record Took (lane offer : ℕ) (old new : Laned) : Type 0 where
  pub takes : TakesFrom lane offer old new
  pub kept : AreLanesKept new

pub takes-from : (lane offer rest : ℕ) (t : Tree) (old mid new : Laned) → AreLanesKept old → Finds old.lengths offer lane rest →
    Alike t (left (tree_of_lane old lane) rest) → Steps lane t old mid → new.trees ≡ mid.trees → IsLevel new → IsListed new lane →
    KeepsOtherLanes lane mid new → new.usable ≡ true → Took lane offer old new
takes-from lane offer rest t old mid new kept found alike steps trees level listed others usable =
    let finds : Finds (lengths_of old.trees) offer lane rest = subst (λ ns. Finds ns offer lane rest) (lengths-are old kept) found in
    let low : lane < length old.trees = (let h = found-within old.lengths lane rest found.within in let m = kept.level.lengths in omega (arith, h, m)) in
    let many : length new.trees ≡ length old.trees = ap length trees ∙ ap length steps.trees ∙ length-set old.trees lane t in
    let still : (other : ℕ) → other ≢ lane → IsListed old other → IsListed new other =
    λ other ne h. others.listed other ne (listed-still lane t old mid steps other ne h) in
    record {
      takes = record {
        usable = usable;
        there = low;
        rest = subst (λ ts. Alike (Both (trees_of ts)) (left (whole old) offer)) (sym (trees ∙ steps.trees))
            (taken-there old.trees offer lane rest t finds alike);
        others = record {
          count = many;
          ready = others.ready ∙ steps.ready;
          same = λ other ne. others.same other ne ∙ ap (λ xs. get_or xs other nothing_listed) steps.listed;
          listed = still;
        };
      };
      kept = record {
        level = level;
        listed = λ other h. elim (cases_eq other lane) [
          | inl e ↦ subst (IsListed new) (sym e) listed
          | inr ne ↦ still other ne (kept.listed other (omega (arith, h, many)))
        ];
      };
    }

-- the other lanes are kept, whether or not they are spoilt
pub others-said : (lane : ℕ) (old new : Laned) (b : Bool) → KeepsOtherLanes lane old new → KeepsOtherLanes lane old (record new { usable = b })
others-said lane old new b o = record {
  count = o.count;
  ready = o.ready;
  same = o.same;
  listed = λ other ne h. listed-said new b (tree_of_lane new other) other (o.listed other ne h);
}

abbrev seen-offers : Option SeenTree → List CoreAsk
seen-offers None = []
seen-offers (Some s) = s.offers

-- a lane that offers the same again isn't listed anew
pub repeated-listed : (lane : ℕ) (t : Tree) (old mid : Laned) → AreLanesKept old → lane < length old.trees → Steps lane t old mid →
    offers t ≡ offers (tree_of_lane old lane) → IsListed mid lane
repeated-listed lane t old mid kept low s again =
    let h = listed-as-still lane t old mid s (tree_of_lane old lane) lane (kept.listed lane low) in
    let tree : tree_of_lane mid lane ≡ t = ap (λ ts. get_or ts lane (Seq Nil)) s.trees ∙ get_or-set_same old.trees lane t (Seq Nil) low in
    record { offered = h.offered ∙ sym again ∙ ap offers (sym tree); count = h.count; short = h.short; reached = h.reached }

steps-level : (lane : ℕ) (t : Tree) (old mid : Laned) → IsLevel old → Steps lane t old mid → IsLevel mid
steps-level lane t old mid level s =
    let many : length mid.trees ≡ length old.trees = ap length s.trees ∙ length-set old.trees lane t in
    record {
      sources = ap (λ (from : Source). length from.trees) s.source ∙ level.sources ∙ sym many;
      opened = ap length s.opened ∙ level.opened ∙ sym many;
      listed = ap length s.listed ∙ level.listed ∙ sym many;
      lengths = ap length s.lengths ∙ level.lengths ∙ sym many;
      ready = ap length s.ready ∙ level.ready ∙ sym many;
      few = subst (λ n. n ≤ 2 ^ 31) (sym many) level.few;
      rows = subst (λ rs. 1 ≤ length rs) (sym s.reached) level.rows;
    }

pub takes-again : (lane offer rest : ℕ) (t : Tree) (old mid : Laned) → AreLanesKept old → Finds old.lengths offer lane rest →
    Alike t (left (tree_of_lane old lane) rest) → Repeats (tree_of_lane old lane) → Steps lane t old mid →
    mid.usable ≡ true → Took lane offer old mid
takes-again lane offer rest t old mid kept found alike repeats steps usable =
    let low : lane < length old.trees = (let h = found-within old.lengths lane rest found.within in let m = kept.level.lengths in omega (arith, h, m)) in
    takes-from lane offer rest t old mid mid kept found alike steps refl (steps-level lane t old mid kept.level steps)
    (repeated-listed lane t old mid kept low steps (ap seen-offers (alike []) ∙ repeats rest (found-offered lane offer rest old kept found)))
    (record { count = refl; ready = refl; same = λ other ne. refl; listed = λ other ne h. h }) usable

-- ---- the same of lanes as they are kept

pub lane-low : {A B : Type 0} (l : Inside A B) (lane : ℕ) → lane < length (laned l).trees → lane < length l.lanes.items
lane-low l lane low = let many = length-map l.lanes.items (λ x. remaining x.rest) in omega (arith, low, many)

-- as much is kept of each lane as before
pub level-still : {A B : Type 0} (l new : Inside A B) → (laned new).source ≡ (laned l).source → length new.as_opened.items ≡ length l.as_opened.items →
    length new.lanes.items ≡ length l.lanes.items → length new.lengths ≡ length l.lengths →
    length new.ready ≡ length l.ready → length new.reached.items ≡ length l.reached.items → IsLevel (laned l) → IsLevel (laned new)
level-still l new source opened lanes lengths ready reached h =
    let trees = length-map l.lanes.items (λ x. remaining x.rest) in
    let trees' = length-map new.lanes.items (λ x. remaining x.rest) in
    let asks' = length-map new.lanes.items (λ x. x.asks) in
    let rows = length-map l.reached.items (λ of. of.items) in
    let rows' = length-map new.reached.items (λ of. of.items) in
    let a = h.listed in
    let b = h.lengths in
    let c = h.ready in
    let d = h.few in
    let e = h.rows in
    let from = ap (λ (s : Source). length s.trees) source in
    let p = h.sources in
    let q = h.opened in
    record {
      sources = omega (arith, from, lanes, trees, trees', p);
      opened = omega (arith, opened, lanes, trees, trees', q);
      listed = omega (arith, trees', asks');
      lengths = omega (arith, lanes, lengths, trees, trees', b);
      ready = omega (arith, lanes, ready, trees, trees', c);
      few = omega (arith, lanes, trees, trees', d);
      rows = omega (arith, reached, rows, rows', e);
    }

pub lane-relists : {A B : Type 0} (l new : Inside A B) (lane n : ℕ) (old made : Lane A B) → lane < length l.lanes.items → old ≡ get_or l.lanes.items lane old →
    new.lanes.items ≡ set l.lanes.items lane made → remaining made.rest ≡ remaining old.rest → made.asks.asks ≡ offers (remaining old.rest) →
    new.lengths ≡ set l.lengths lane n → n ≡ length made.asks.asks → n < 2 ^ 32 → new.ready ≡ l.ready →
    ((core other : ℕ) → Contains (lanes_of (laned l).reached core) other → Contains (lanes_of (laned new).reached core) other) →
    ((at : ℕ) (ask : CoreAsk) → slice_get made.asks.asks at ≡ Some ask → Contains (lanes_of (laned new).reached ask.core.0) lane) →
    Relists lane made.asks (laned l) (laned new)
lane-relists l new lane n old made low is lanes rest listed lengths count short ready more reached =
    let left = ap (map (λ x. remaining x.rest)) lanes
    ∙ map-set_same (λ x. remaining x.rest) l.lanes.items lane made old (rest ∙ ap (λ x. remaining x.rest) is) in
    record {
      trees = left;
      written = ap (map (λ x. x.asks)) lanes ∙ map-set (λ x. x.asks) l.lanes.items lane made;
      lengths = lengths ∙ ap (set l.lengths lane) count;
      ready = ready;
      more = more;
      reached = reached;
      short = subst (λ k. k < 2 ^ 32) count short;
      is = listed ∙ ap offers (lane-tree l.lanes.items lane old low is);
    }

pub lane-steps : {A B : Type 0} (l mid : Inside A B) (lane : ℕ) (old made : Lane A B) → (laned mid).source ≡ (laned l).source →
    mid.as_opened ≡ l.as_opened → old ≡ get_or l.lanes.items lane old →
    mid.lanes.items ≡ set l.lanes.items lane made → made.asks ≡ old.asks → mid.lengths ≡ l.lengths → mid.ready ≡ l.ready →
    mid.reached ≡ l.reached → Steps lane (remaining made.rest) (laned l) (laned mid)
lane-steps l mid lane old made source opened is lanes same lengths ready reached = record {
  source = source;
  opened = ap (λ v. v.items) opened;
  trees = ap (map (λ x. remaining x.rest)) lanes ∙ map-set (λ x. remaining x.rest) l.lanes.items lane made;
  listed = ap (map (λ x. x.asks)) lanes ∙ map-set_same (λ x. x.asks) l.lanes.items lane made old (same ∙ ap (λ x. x.asks) is);
  lengths = lengths;
  ready = ready;
  reached = ap (λ v. map (λ of. of.items) v.items) reached;
}

-- a lane that is marked anew
pub lane-marked : {A B : Type 0} (tables : Tables) (state : State) (l new : Inside A B) (lane : ℕ) (old made : Lane A B) →
    (laned new).source ≡ (laned l).source → new.as_opened ≡ l.as_opened → lane < length l.lanes.items →
    old ≡ get_or l.lanes.items lane old → new.lanes.items ≡ set l.lanes.items lane made → made.rest ≡ old.rest → made.asks ≡ all_marked tables state old.asks →
    new.lengths ≡ l.lengths → new.ready ≡ l.ready → new.reached ≡ l.reached → new.usable ≡ l.usable →
    laned new ≡ marked_in tables state lane (laned l)
lane-marked tables state l new lane old made source opened low is lanes rest asks lengths ready reached usable =
    let trees = ap (map (λ x. remaining x.rest)) lanes
    ∙ map-set_same (λ x. remaining x.rest) l.lanes.items lane made old (ap remaining rest ∙ ap (λ x. remaining x.rest) is) in
    let stocks = ap (map (λ x. stocked x.rest)) lanes
    ∙ map-set_same (λ x. stocked x.rest) l.lanes.items lane made old (ap stocked rest ∙ ap (λ x. stocked x.rest) is) in
    let listed = ap (map (λ x. x.asks)) lanes ∙ map-set (λ x. x.asks) l.lanes.items lane made
    ∙ ap (set (map (λ x. x.asks) l.lanes.items) lane) (asks ∙ ap (all_marked tables state) (lane-listed l.lanes.items lane old low is)) in
    let rows = ap (λ v. map (λ of. of.items) v.items) reached in
    λ i. record {
      source = source i;
      as_opened = (opened i).items;
      trees = trees i;
      stocks = stocks i;
      listed = listed i;
      lengths = lengths i;
      ready = ready i;
      reached = rows i;
      usable = usable i;
    }

-- what a lane offers, where it is kept
pub lane-is : {A B : Type 0} (l new : Inside A B) (lane : ℕ) (made : Lane A B) → lane < length l.lanes.items → new.lanes.items ≡ set l.lanes.items lane made →
    listed_at (laned new) lane ≡ made.asks
lane-is l new lane made low lanes =
    ap (λ xs. get_or (map (λ x. x.asks) xs) lane nothing_listed) lanes
    ∙ ap (λ xs. get_or xs lane nothing_listed) (map-set (λ x. x.asks) l.lanes.items lane made)
    ∙ get_or-set_same (map (λ x. x.asks) l.lanes.items) lane made.asks nothing_listed (let many = length-map l.lanes.items (λ x. x.asks) in omega
    (arith, low, many))

-- lanes that are spoilt hold together where one of them, which is said to be listed no longer as it was opened, has come to anything
pub sound-relisted : {A B : Type 0} (l new : Inside A B) (seen : Laned) (lane : ℕ) (made : Lane A B) → AreSound l → laned l ≡ seen →
    lane < length seen.trees → seen.usable ≡ false → new.usable ≡ l.usable → (laned new).source ≡ (laned l).source → new.as_opened.items ≡ set l.as_opened.items lane false → new.lanes.items ≡ set l.lanes.items lane made →
    length new.lengths ≡ length l.lengths → ((other : ℕ) → other ≢ lane → get_or new.lengths other 0 ≡ get_or l.lengths other 0) →
    length new.ready ≡ length l.ready → length new.reached.items ≡ length l.reached.items →
    ((core other : ℕ) → Contains (lanes_of (laned l).reached core) other → Contains (lanes_of (laned new).reached core) other) → AreSound new
sound-relisted {A} {B} l new seen lane made sound is there spoilt same source opened lanes lengths others ready reached more =
    let low : lane < length (laned l).trees = subst (λ (x : Laned). lane < length x.trees) (sym is) there in
    let many = ap length lanes ∙ length-set l.lanes.items lane made in
    let said = ap length opened ∙ length-set l.as_opened.items lane false in
    let written = ap (map (λ (x : Lane A B). x.asks)) lanes ∙ map-set (λ (x : Lane A B). x.asks) l.lanes.items lane made in
    let leaves : LeavesOthers lane (laned l) (laned new) = record {
      listed = λ other ne. ap (λ xs. get_or xs other nothing_listed) written ∙ get_or-set_other (laned l).listed lane other made.asks nothing_listed ne;
      lengths = others;
      more = more;
    } in
    record {
      level = level-still l new source said many lengths ready reached sound.level;
      opened = opened-but lane (laned l) (laned new) leaves source opened (let e = sound.level.opened in omega (arith, low, e)) sound.opened;
      listed = λ usable. absurd (true≢false (sym usable ∙ same ∙ ap (λ (x : Laned). x.usable) is ∙ spoilt));
    }

-- so do those of which another tree is left of one lane
pub sound-taken : {A B : Type 0} (l new : Inside A B) (lane : ℕ) (old made : Lane A B) → AreSound l → (laned new).source ≡ (laned l).source →
    new.as_opened ≡ l.as_opened → old ≡ get_or l.lanes.items lane old → new.lanes.items ≡ set l.lanes.items lane made → made.asks ≡ old.asks →
    new.lengths ≡ l.lengths → new.ready ≡ l.ready → new.reached ≡ l.reached → new.usable ≡ false → AreSound new
sound-taken l new lane old made sound source opened is lanes same lengths ready reached spoilt =
    let steps = lane-steps l new lane old made source opened is lanes same lengths ready reached in
    record {
      level = steps-level lane (remaining made.rest) (laned l) (laned new) sound.level steps;
      opened = opened-still lane (remaining made.rest) (laned l) (laned new) steps sound.opened;
      listed = λ usable. absurd (true≢false (sym usable ∙ spoilt));
    }
