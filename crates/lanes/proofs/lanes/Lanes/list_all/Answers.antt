use Rattle.std.proofs.Common.{◌≡◌, ◌∙◌, ◌<◌, ◌≤◌, ℕ, List, true, ap, arith, length, refl, subst, sym}
use Rattle.std.proofs.lemmas.List.{length-map}
use Rattle.tables.specs.Tables.{Tables}
use Rattle.machine.specs.Machine.{State}
use Rattle.cores.specs.Cores.{Core}
use Rattle.cursors.specs.Cursors.{remaining}
use Rattle.lanes.specs.Lanes.{Laned}
use Rattle.lanes.specs.declared.lanes.Lanes.TheInside.{Inside}
use Rattle.lanes.specs.inner.Kept.{AreListed, IsListed, laned, tree_of_lane}
use Rattle.lanes.proofs.Counting.{IsRight, Opens, one-listed, one-right}
use Rattle.lanes.proofs.Kept.{level-said, listed-said, opened-said}
use Rattle.lanes.proofs.Opening.{reset-counted}
use Rattle.lanes.proofs.lanes.Lanes.list_all.Goals as goal

pub loop-lane-init : goal.loop-lane-init
loop-lane-init g c = record {
  reset = c.requires;
  trees = refl;
  source = refl;
  stocks = refl;
  count =
      let same = ap (λ (l : Laned). length l.trees) c.self.view_is in
      let many = length-map c.self.inside.lanes.items (λ l. remaining l.rest) in
      omega (arith, same, many, c.len-lane-end.ensures);
  listed = λ at low. absurd (omega (arith, low));
  right = λ at low. absurd (omega (arith, low));
}

pub list_whole-requires-clause-reset : goal.list_whole-requires-clause-reset
list_whole-requires-clause-reset g c = c.loop-lane.invariant.reset

pub list_whole-requires-clause-there : goal.list_whole-requires-clause-there
list_whole-requires-clause-there g c = let all = c.loop-lane.invariant.count in omega (arith, c.loop-lane-test.true, all)

pub returns-in_err-list_whole-clause-source : goal.returns-in_err-list_whole-clause-source
returns-in_err-list_whole-clause-source g c = c.list_whole.ensures.source ∙ c.loop-lane.invariant.source

pub returns-in_err-list_whole-clause-stocks : goal.returns-in_err-list_whole-clause-stocks
returns-in_err-list_whole-clause-stocks g c = c.list_whole.ensures.stocks ∙ c.loop-lane.invariant.stocks

pub count_lane-requires : goal.count_lane-requires
count_lane-requires g c =
    let all = c.loop-lane.invariant.count in
    let lists = c.in_ok-list_whole.ensures.lists in
    let same = ap length (ap (λ (l : Laned). l.trees) lists.marks ∙ lists.trees) in
    omega (arith, c.loop-lane-test.true, all, same)

pub loop-lane-preserved : goal.loop-lane-preserved
loop-lane-preserved g c =
    let before = c.loop-lane.invariant in
    let w = c.args.world.now in
    let cores = c.args.cores.now in
    let lane = c.loop-lane.lane in
    let lists = c.in_ok-list_whole.ensures.lists in
    let marked : c.list_whole.new.self.trees ≡ c.loop-lane.self.trees = ap (λ (l : Laned). l.trees) lists.marks ∙ lists.trees in
    let trees : c.count_lane.new.self.trees ≡ c.loop-lane.self.trees = ap (λ (l : Laned). l.trees) c.count_lane.ensures.counts ∙ marked in
    let low = c.loop-lane-test.true in
    let all = before.count in
    let mid = ap length lists.trees in
    let opens : Opens w.tables w.state cores lane c.loop-lane.self lists.mid c.list_whole.new.self c.count_lane.new.self = record {
      level = lists.level;
      there = omega (arith, low, all, mid);
      here = lists.here;
      others = lists.others;
      marks = lists.marks;
      counts = c.count_lane.ensures.counts;
    } in
    record {
      reset = reset-counted w.tables w.state cores lane c.list_whole.new.self c.count_lane.new.self lists.reset c.count_lane.ensures.counts;
      trees = trees ∙ before.trees;
      source = ap (λ (l : Laned). l.source) c.count_lane.ensures.counts ∙ c.list_whole.ensures.source ∙ before.source;
      stocks = ap (λ (l : Laned). l.stocks) c.count_lane.ensures.counts ∙ c.list_whole.ensures.stocks ∙ before.stocks;
      count = ap length trees ∙ all;
      listed = one-listed w.tables w.state cores lane c.loop-lane.self lists.mid c.list_whole.new.self c.count_lane.new.self opens before.listed;
      right = one-right w.tables w.state cores lane c.loop-lane.self lists.mid c.list_whole.new.self c.count_lane.new.self opens before.right;
    }

-- what was listed, once the lanes are spoilt no longer
listed-now : {A B : Type 0} (l : Inside A B) (seen : Laned) (count : ℕ) → laned l ≡ seen → length seen.trees ≡ count →
    ((at : ℕ) → at < count → IsListed seen at) → AreListed (record (laned l) { usable = true })
listed-now l seen count view many listed lane low =
    let here = subst (λ (s : Laned). IsListed s lane) (sym view)
    (listed lane (let all = ap (λ (s : Laned). length s.trees) view in omega (arith, low, all, many))) in
    listed-said (laned l) true (tree_of_lane (laned l) lane) lane here

right-now : {A B : Type 0} (l : Inside A B) (seen : Laned) (count : ℕ) (tables : Tables) (state : State) (cores : List Core) → laned l ≡ seen →
    length seen.trees ≡ count → ((at : ℕ) → at < count → IsRight tables state cores seen at) → (lane : ℕ) → lane < length (laned l).trees →
    IsRight tables state cores (laned l) lane
right-now l seen count tables state cores view many right lane low =
    subst (λ (s : Laned). IsRight tables state cores s lane) (sym view)
    (right lane (let all = ap (λ (s : Laned). length s.trees) view in omega (arith, low, all, many)))

-- all lanes were gone through
past : (lane end : ℕ) {P : ℕ → Type 0} → end ≤ lane → lane ≤ end → ((at : ℕ) → at < lane → P at) → (at : ℕ) → at < end → P at
past lane end high low each at inside = each at (omega (arith, high, low, inside))

pub invariant_of-self : goal.invariant_of-self
invariant_of-self g c = record {
  level = level-said (laned c.self-2.inside) true c.self-2.invariant.level;
  opened = opened-said (laned c.self-2.inside) true c.self-2.invariant.opened;
  listed = λ usable. listed-now c.self-2.inside c.loop-lane.self c.len-lane-end.result c.self-2.view_is c.loop-lane.invariant.count
      (past c.loop-lane.lane c.len-lane-end.result c.loop-lane-test.false c.loop-lane.auto.lane-end c.loop-lane.invariant.listed);
}

pub returns-clause-lists : goal.returns-clause-lists
returns-clause-lists g c =
    let w = c.args.world.now in
    let right = right-now c.self-2.inside c.loop-lane.self c.len-lane-end.result w.tables w.state c.args.cores.now c.self-2.view_is
    c.loop-lane.invariant.count
    (past c.loop-lane.lane c.len-lane-end.result c.loop-lane-test.false c.loop-lane.auto.lane-end c.loop-lane.invariant.right) in
    record {
      usable = refl;
      trees = ap (λ (l : Laned). l.trees) c.self-2.view_is ∙ c.loop-lane.invariant.trees;
      level = level-said (laned c.self-2.inside) true c.self-2.invariant.level;
      listed = listed-now c.self-2.inside c.loop-lane.self c.len-lane-end.result c.self-2.view_is c.loop-lane.invariant.count
          (past c.loop-lane.lane c.len-lane-end.result c.loop-lane-test.false c.loop-lane.auto.lane-end c.loop-lane.invariant.listed);
      marked = λ lane low. (right lane low).marked;
      ready = record { marked = λ whole lane low. (right lane low).marked; counted = λ whole lane low. (right lane low).counted };
    }

pub returns-clause-source : goal.returns-clause-source
returns-clause-source g c = ap (λ (l : Laned). l.source) c.self-2.view_is ∙ c.loop-lane.invariant.source

pub returns-clause-stocks : goal.returns-clause-stocks
returns-clause-stocks g c = ap (λ (l : Laned). l.stocks) c.self-2.view_is ∙ c.loop-lane.invariant.stocks
