-- Lanes that are listed from their source, and the marks that are noted of it.
use Rattle.std.proofs.Common.{◌≡◌, ◌<◌, ◌^◌, ℕ, Bool, false, true, true≢false, if◌then◌else◌, leb, List, [], Some, get_or, length, map, replicate, set, slice_get}
use Rattle.std.proofs.Common.{refl, sym, ap, ◌∙◌, subst, arith, inl, inr}
use Rattle.std.proofs.lemmas.Bool.{cases_eq, cases_lt}
use Rattle.std.proofs.lemmas.List.{get_or-map, get_or-replicate, get_or-set_other, get_or_past, length-map, length-replicate, length-set}
use Rattle.std.proofs.lemmas.Option.{get_or_from_slice_get, slice_get_read, slice_get_within}
use Rattle.tables.specs.Tables.{Tables}
use Rattle.machine.specs.Machine.{State}
use Rattle.cores.specs.Cores.{Core}
use Rattle.scenario.specs.Alike.{Alike}
use Rattle.scenario.specs.Taking.{offers}
use Rattle.scenario.specs.Tree.{Tree, Trees, One, Seq, Any, Times, Both, Nil, Cons, trees_of}
use Rattle.schedule.specs.Listed.{IsMarked, Listed, is_unheld, nothing_listed}
use Rattle.lanes.specs.Fitting.{how_many, lane_trees}
use Rattle.lanes.specs.Lanes.{AreOpened, IsSourceIn, IsSpoilt, Laned, Source, listed_at, source_at}
use Rattle.lanes.specs.declared.lanes.Lane.{Lane}
use Rattle.lanes.specs.declared.lanes.Lanes.TheInside.{Inside}
use Rattle.lanes.specs.inner.Changes.{KeepsOtherLanes, counted_at, marked_in}
use Rattle.lanes.specs.inner.Kept.{AreAsOpened, AreListed, AreSound, IsLevel, IsListed, IsListedAs, laned}
use Rattle.lanes.specs.inner.Opening.{AreUnlisted, IsReset, ListsAll, ListsWhole, with_marks}
use Rattle.lanes.proofs.Counting.{level-marked, marked-listed, marked-opened}
use Rattle.lanes.proofs.Kept.{lane-listed}
use Rattle.lanes.proofs.Listing.{lane-low}
use Rattle.lanes.proofs.Rows.{alone, same-alike}
use Rattle.world.specs.View.{View}

-- the trees that a scenario has lanes of are together as that is
alike-lanes : (t : Tree) (ts : Trees) → ts ≡ lane_trees t → Alike (Both ts) t
alike-lanes t ts e = subst (λ (us : Trees). Alike (Both us) t) (sym e) (of t)
  where
    of : (t : Tree) → Alike (Both (lane_trees t)) t
    of (One ask) = alone (One ask)
    of (Seq ts) = alone (Seq ts)
    of (Any ts) = alone (Any ts)
    of (Times n t) = alone (Times n t)
    of (Both ts) = by (leb (how_many ts) (2 ^ 31))
      where
        by : (b : Bool) → Alike (Both (if b then ts else Cons (Both ts) Nil)) (Both ts)
        by true = same-alike (Both ts) (Both ts) refl
        by false = alone (Both ts)

-- where all of the source is left, what is kept of a lane is about its tree there
pub of-source : (l : Laned) (lane : ℕ) → l.trees ≡ l.source.trees → IsListed l lane → IsListedAs (source_at l lane) l lane
of-source l lane whole h = subst (λ ts. IsListedAs (get_or ts lane (Seq Nil)) l lane) whole h

pub as-source : (l : Laned) (lane : ℕ) → l.trees ≡ l.source.trees → IsListedAs (source_at l lane) l lane → IsListed l lane
as-source l lane whole h = subst (λ ts. IsListedAs (get_or ts lane (Seq Nil)) l lane) (sym whole) h

-- the marks that are right are those of the source
noted-right : (tables : Tables) (state : State) (l : Laned) → l.trees ≡ l.source.trees → length l.listed ≡ length l.trees →
    ((lane : ℕ) → lane < length l.trees → IsListed l lane) → ((lane : ℕ) → lane < length l.trees → IsMarked tables state (listed_at l lane)) →
    IsSourceIn tables state (with_marks l)
noted-right tables state l whole many listed right lane marks there =
    let unheld : Listed → List Bool = λ x. x.unheld in
    let low : lane < length l.listed = (let h = slice_get_within (map unheld l.listed) lane marks there in
    let all = length-map l.listed unheld in omega (arith, h, all)) in
    let here : lane < length l.trees = omega (arith, low, many) in
    let is : marks ≡ (listed_at l lane).unheld =
    sym (get_or_from_slice_get (map unheld l.listed) lane marks [] there) ∙ get_or-map unheld l.listed lane nothing_listed [] low in
    is ∙ right lane here ∙ ap (map (is_unheld tables state)) (of-source l lane whole (listed lane here)).offered

-- what opening lanes comes to
pub opened-lanes : (tree : Tree) (world : View) (cores : List Core) (first listed new : Laned) → AreUnlisted tree first → ListsAll world cores first listed →
    listed.source ≡ first.source → new ≡ with_marks listed → AreOpened tree world cores new
opened-lanes tree world cores first listed new unlisted lists source is =
    let whole : listed.trees ≡ listed.source.trees = lists.trees ∙ unlisted.whole ∙ ap (λ (s : Source). s.trees) (sym source) in
    subst (AreOpened tree world cores) (sym is) (record {
      again = record {
        usable = lists.usable;
        whole = whole;
        ready = record { marked = lists.ready.marked; counted = lists.ready.counted };
      };
      alike = alike-lanes tree (trees_of listed.source.trees) (ap (λ (s : Source). trees_of s.trees) source ∙ unlisted.of);
      source = noted-right world.tables world.state listed whole lists.level.listed lists.listed lists.marked;
    })

-- of lanes of which no marks are noted all that are noted are right
pub none-noted : (tree : Tree) (tables : Tables) (state : State) (l : Laned) → AreUnlisted tree l → IsReset tables state l
none-noted tree tables state l unlisted = record {
  spoilt = unlisted.spoilt;
  whole = unlisted.whole;
  source = λ lane marks there. let e = sym (ap (λ ms. slice_get ms lane) unlisted.none) ∙ there in absurd (cc e);
}

-- none is said to be listed
pub none-opened : (l : Laned) (n : ℕ) → l.as_opened ≡ replicate n false → AreAsOpened l
none-opened l n none lane is = absurd (true≢false (sym is ∙ ap (λ bs. get_or bs lane false) none ∙ not lane))
  where
    not : (lane : ℕ) → get_or (replicate n false) lane false ≡ false
    not lane = elim (cases_lt lane n) [
      | inl low ↦ get_or-replicate n lane false false low
      | inr high ↦ get_or_past (replicate n false) lane false (let all = length-replicate n false in omega (arith, high, all))
    ]

-- a lane that was listed is said to be listed as it was opened
pub said-opened : (lane : ℕ) (l : Laned) → AreAsOpened l → IsListedAs (source_at l lane) l lane → AreAsOpened (record l { as_opened = set l.as_opened lane true })
said-opened lane l opened here other is = elim (cases_eq other lane) [
  | inl e ↦
      let h = subst (λ n. IsListedAs (source_at l n) l n) (sym e) here in
      record { offered = h.offered; count = h.count; short = h.short; reached = h.reached }
  | inr ne ↦
      let h = opened other (sym (get_or-set_other l.as_opened lane other true false ne) ∙ is) in
      record { offered = h.offered; count = h.count; short = h.short; reached = h.reached }
]

-- ---- a lane whose marks are copied

module _ {A B : Type 0} (tables : Tables) (state : State) (l : Inside A B) (seen : Laned) (lane : ℕ) (old : Lane A B) (sound : AreSound l)
    (view : laned l ≡ seen) (reset : IsReset tables state seen) (there : lane < length seen.trees) (opened : get_or l.as_opened.items lane false ≡ true)
    (is : old ≡ get_or l.lanes.items lane old) where
  here : IsReset tables state (laned l)
  here = subst (IsReset tables state) (sym view) reset

  low : lane < length (laned l).trees
  low = subst (λ (s : Laned). lane < length s.trees) (sym view) there

  -- the marks that were noted are those of its offers
  pub copied-right : (marks : List Bool) → lane < length l.marks.items → marks ≡ get_or l.marks.items lane marks →
      marks ≡ map (is_unheld tables state) old.asks.asks
  copied-right marks within noted =
      here.source lane marks (slice_get_read l.marks.items (length l.marks.items) lane marks refl within noted) ∙ ap (map (is_unheld tables state)) (sym (sound.opened lane opened).offered
      ∙ ap (λ (x : Listed). x.asks) (sym (lane-listed l.lanes.items lane old (lane-low l lane low) is)))

  pub copied-listed : IsListed seen lane
  copied-listed = subst (λ (s : Laned). IsListed s lane) view (as-source (laned l) lane here.whole (sound.opened lane opened))

-- lanes of which one is marked hold together
pub marked-sound : {A B : Type 0} (tables : Tables) (state : State) (l new : Inside A B) (lane : ℕ) → AreSound l → lane < length (laned l).trees →
    new.usable ≡ l.usable → laned new ≡ marked_in tables state lane (laned l) → AreSound new
marked-sound tables state l new lane sound low usable is = record {
  level = subst IsLevel (sym is) (level-marked tables state lane (laned l) sound.level);
  opened = subst AreAsOpened (sym is) (marked-opened tables state lane (laned l) sound.level low sound.opened);
  listed = λ whole. subst AreListed (sym is) (marked-listed tables state lane (laned l) sound.level low (sound.listed (sym usable ∙ whole)));
}

-- ---- a lane that is listed from its source

-- what marks one lane leaves the source
reset-marked : (tables : Tables) (state : State) (lane : ℕ) (l new : Laned) → IsReset tables state l → new ≡ marked_in tables state lane l →
    IsReset tables state new
reset-marked tables state lane l new reset is =
    subst (IsReset tables state) (sym is) (record { spoilt = reset.spoilt; whole = reset.whole; source = reset.source })

pub reset-counted : (tables : Tables) (state : State) (cores : List Core) (lane : ℕ) (l new : Laned) → IsReset tables state l →
    new ≡ counted_at cores lane l → IsReset tables state new
reset-counted tables state cores lane l new reset is =
    subst (IsReset tables state) (sym is) (record { spoilt = reset.spoilt; whole = reset.whole; source = reset.source })

pub lists-copied : (tables : Tables) (state : State) (lane : ℕ) (old new : Laned) → IsReset tables state old → IsLevel old → IsListed old lane →
    new ≡ marked_in tables state lane old → ListsWhole tables state lane old new
lists-copied tables state lane old new reset level listed is = record {
  reset = reset-marked tables state lane old new reset is;
  mid = old;
  level = level;
  here = listed;
  others = record { count = refl; ready = refl; same = λ other ne. refl; listed = λ other ne h. h };
  marks = is;
  trees = refl;
}

pub lists-anew : (tables : Tables) (state : State) (lane : ℕ) (old listed new : Laned) → IsReset tables state old → IsSpoilt listed →
    listed.trees ≡ old.trees → listed.source ≡ old.source → IsLevel listed → IsListed listed lane → KeepsOtherLanes lane old listed →
    new ≡ marked_in tables state lane (record listed { as_opened = set listed.as_opened lane true }) → ListsWhole tables state lane old new
lists-anew tables state lane old listed new reset spoilt trees source level is others marks = record {
  reset = reset-marked tables state lane said new (record {
    spoilt = spoilt;
    whole = trees ∙ reset.whole ∙ ap (λ (s : Source). s.trees) (sym source);
    source = subst (λ (s : Source). (at : ℕ) (ms : List Bool) → slice_get s.marks at ≡ Some ms →
        ms ≡ map (is_unheld tables state) (offers (get_or s.trees at (Seq Nil)))) (sym source) reset.source;
  }) marks;
  mid = said;
  level = record {
    sources = level.sources;
    opened = length-set listed.as_opened lane true ∙ level.opened;
    listed = level.listed;
    lengths = level.lengths;
    ready = level.ready;
    few = level.few;
    rows = level.rows;
  };
  here = record { offered = is.offered; count = is.count; short = is.short; reached = is.reached };
  others = record {
    count = others.count;
    ready = others.ready;
    same = others.same;
    listed = λ other ne h. let k = others.listed other ne h in record { offered = k.offered; count = k.count; short = k.short; reached = k.reached };
  };
  marks = marks;
  trees = trees;
}
  where
    said : Laned
    said = record listed { as_opened = set listed.as_opened lane true }

-- so they hold together
pub said-sound : {A B : Type 0} (l new : Inside A B) (seen : Laned) (lane : ℕ) → AreSound l → laned l ≡ seen → IsListed seen lane →
    seen.trees ≡ seen.source.trees → seen.usable ≡ false → laned new ≡ record (laned l) { as_opened = set (laned l).as_opened lane true } →
    new.usable ≡ l.usable → AreSound new
said-sound l new seen lane sound view listed whole spoilt is same =
    let here = subst (λ (s : Laned). IsListedAs (source_at s lane) s lane) (sym view) (of-source seen lane whole listed) in
    let level = sound.level in
    record {
      level = subst IsLevel (sym is) (record {
        sources = level.sources;
        opened = length-set (laned l).as_opened lane true ∙ level.opened;
        listed = level.listed;
        lengths = level.lengths;
        ready = level.ready;
        few = level.few;
        rows = level.rows;
      });
      opened = subst AreAsOpened (sym is) (said-opened lane (laned l) sound.opened here);
      listed = λ usable. absurd (true≢false (sym usable ∙ same ∙ ap (λ (s : Laned). s.usable) view ∙ spoilt));
    }
