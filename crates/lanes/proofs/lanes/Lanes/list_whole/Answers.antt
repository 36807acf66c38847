use Rattle.std.proofs.Common.{◌∙◌, ◌<◌, ap, arith, length, refl, set, subst, sym, true}
use Rattle.lanes.specs.Lanes.{Laned, Source}
use Rattle.lanes.specs.inner.Changes.{KeepsOtherLanes, marked_in}
use Rattle.lanes.specs.inner.Kept.{laned}
use Rattle.lanes.proofs.Opening.{lists-anew, lists-copied, said-sound}
use Rattle.lanes.proofs.lanes.Lanes.list_whole.Given as given
use Rattle.lanes.proofs.lanes.Lanes.list_whole.Goals as goal

-- ---- the marks were copied

pub returns-then-copy_marks-clause-lists : goal.returns-then-copy_marks-clause-lists
returns-then-copy_marks-clause-lists g c =
    let w = c.args.world.now in
    let copied = c.if-copy_marks.ensures in
    lists-copied w.tables w.state c.args.lane c.args.self.now c.copy_marks.new.self c.requires.reset copied.level (copied.listed refl)
    (copied.marks w.tables w.state c.requires.reset)

pub returns-then-copy_marks-clause-source : goal.returns-then-copy_marks-clause-source
returns-then-copy_marks-clause-source g c =
    ap (λ (l : Laned). l.source) (c.if-copy_marks.ensures.marks c.args.world.now.tables c.args.world.now.state c.requires.reset)

pub returns-then-copy_marks-clause-stocks : goal.returns-then-copy_marks-clause-stocks
returns-then-copy_marks-clause-stocks g c =
    ap (λ (l : Laned). l.stocks) (c.if-copy_marks.ensures.marks c.args.world.now.tables c.args.world.now.state c.requires.reset)

-- ---- the lane was listed anew

pub list-requires-clause-spoilt : goal.list-requires-clause-spoilt
list-requires-clause-spoilt g c =
    ap (λ (l : Laned). l.usable) (c.if-copy_marks.ensures.marks c.args.world.now.tables c.args.world.now.state c.requires.reset) ∙ c.requires.reset.spoilt

pub list-requires-clause-there : goal.list-requires-clause-there
list-requires-clause-there g c =
    subst (λ (l : Laned). c.args.lane < length l.trees)
    (sym (c.if-copy_marks.ensures.marks c.args.world.now.tables c.args.world.now.state c.requires.reset)) c.requires.there

pub returns-in_err-anew-clause-source : goal.returns-in_err-anew-clause-source
returns-in_err-anew-clause-source g c =
    c.list.ensures.source
    ∙ ap (λ (l : Laned). l.source) (c.if-copy_marks.ensures.marks c.args.world.now.tables c.args.world.now.state c.requires.reset)

pub returns-in_err-anew-clause-stocks : goal.returns-in_err-anew-clause-stocks
returns-in_err-anew-clause-stocks g c =
    c.list.ensures.stocks
    ∙ ap (λ (l : Laned). l.stocks) (c.if-copy_marks.ensures.marks c.args.world.now.tables c.args.world.now.state c.requires.reset)

-- the lane is there still
low : (g : given.Over) (c : goal.After-index_mut-arg-1 g) → c.args.lane < length (laned c.self.inside).trees
low g c =
    subst (λ ts. c.args.lane < length ts)
    (sym (ap (λ (l : Laned). l.trees) c.self.view_is ∙ c.in_ok-anew.ensures.trees
    ∙ ap (λ (l : Laned). l.trees) (c.if-copy_marks.ensures.marks c.args.world.now.tables c.args.world.now.state c.requires.reset))) c.requires.there

pub index_mut-requires : goal.index_mut-requires
index_mut-requires g c = let there = low g c in let many = c.self.invariant.level.opened in omega (arith, there, many)

pub invariant_of-self : goal.invariant_of-self
invariant_of-self g c =
    let same = c.if-copy_marks.ensures.marks c.args.world.now.tables c.args.world.now.state c.requires.reset in
    said-sound c.self.inside _ c.list.new.self c.args.lane c.self.invariant c.self.view_is c.in_ok-anew.ensures.listed
    (c.in_ok-anew.ensures.trees ∙ ap (λ (l : Laned). l.trees) same ∙ c.requires.reset.whole ∙ ap (λ (l : Laned). l.source.trees) (sym same)
    ∙ ap (λ (s : Source). s.trees) (sym c.list.ensures.source)) c.in_ok-anew.ensures.spoilt refl refl

pub mark_lane-requires-clause-there : goal.mark_lane-requires-clause-there
mark_lane-requires-clause-there g c =
    subst (λ ts. c.args.lane < length ts)
    (sym (ap (λ (l : Laned). l.trees) c.self.view_is ∙ c.in_ok-anew.ensures.trees
    ∙ ap (λ (l : Laned). l.trees) (c.if-copy_marks.ensures.marks c.args.world.now.tables c.args.world.now.state c.requires.reset))) c.requires.there

pub returns-clause-lists : goal.returns-clause-lists
returns-clause-lists g c =
    let w = c.args.world.now in
    let same = c.if-copy_marks.ensures.marks w.tables w.state c.requires.reset in
    let made = c.in_ok-anew.ensures in
    lists-anew w.tables w.state c.args.lane c.args.self.now c.list.new.self c.mark_lane.new.self c.requires.reset made.spoilt
    (made.trees ∙ ap (λ (l : Laned). l.trees) same) (c.list.ensures.source ∙ ap (λ (l : Laned). l.source) same) made.level made.listed
    (subst (λ (l : Laned). KeepsOtherLanes c.args.lane l c.list.new.self) same made.others)
    (c.mark_lane.ensures ∙ ap (λ (l : Laned). marked_in w.tables w.state c.args.lane (record l { as_opened = set l.as_opened c.args.lane true })) c.self.view_is)

pub returns-clause-source : goal.returns-clause-source
returns-clause-source g c =
    ap (λ (l : Laned). l.source) c.mark_lane.ensures ∙ ap (λ (l : Laned). l.source) c.self.view_is ∙ c.list.ensures.source
    ∙ ap (λ (l : Laned). l.source) (c.if-copy_marks.ensures.marks c.args.world.now.tables c.args.world.now.state c.requires.reset)

pub returns-clause-stocks : goal.returns-clause-stocks
returns-clause-stocks g c =
    ap (λ (l : Laned). l.stocks) c.mark_lane.ensures ∙ ap (λ (l : Laned). l.stocks) c.self.view_is ∙ c.list.ensures.stocks
    ∙ ap (λ (l : Laned). l.stocks) (c.if-copy_marks.ensures.marks c.args.world.now.tables c.args.world.now.state c.requires.reset)
