use Rattle.std.proofs.Common.{sym, subst, Contains, List, Option, IfSome}
use Rattle.std.specs.Global.{Vec}
use Rattle.closing.specs.declared.following.Followed.{Followed}
use Rattle.closing.specs.declared.numbering.ViewNumbers.{ViewNumbers}
use Rattle.closing.specs.declared.ranked.RankedPair.{RankedPair}
use Rattle.closing.specs.inner.Numbered.{AreNumbered}
use Rattle.closing.specs.inner.Told.{AreTold, Keeps}
use Rattle.closing.proofs.Checked.{checked-kept}
use Rattle.closing.proofs.checking.kept_steps.Goals as goal

pub returns : goal.returns
returns c =
    let numbered = subst (λ (o : Option ViewNumbers). IfSome o (λ n. AreNumbered c.args.list.now n.views.items n.firsts.items n.seconds.items n.spans.items))
    c.in-Some.is c.in_ok-numbers.ensures in
    let told : AreTold c.args.tables.now c.args.list.now c.deref.result.now =
    subst (λ (ss : List (Vec Followed)). AreTold c.args.tables.now c.args.list.now ss) (sym c.deref.ensures.value)
    (subst (λ (o : Option (Vec (Vec Followed))). IfSome o (λ v. AreTold c.args.tables.now c.args.list.now v.items)) c.in-Some-2.is c.in_ok-steps.ensures) in
    let opened = subst (λ (r : RankedPair). Contains c.args.list.now r) c.opened.ensures (c.is_listed.ensures c.if-not-is_listed.false) in
    subst (λ (ss : List (Vec Followed)). Keeps c.args.tables.now c.args.list.now ss) c.deref.ensures.value
    (checked-kept c.args.tables.now c.args.list.now c.in-Some.numbers c.deref.result.now (c.are_sound.ensures c.if-not-are_sound.false) numbered told
    (c.are_glued.ensures c.if-not-are_glued.false) opened)
