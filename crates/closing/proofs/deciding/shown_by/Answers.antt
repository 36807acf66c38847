use Rattle.std.proofs.Common.{Option, IfSome, subst}
use Rattle.std.specs.Global.{Vec}
use Rattle.closing.specs.declared.following.Followed.{Followed}
use Rattle.closing.specs.inner.Told.{Keeps}
use Rattle.closing.proofs.Unranked.{pairs-closed}
use Rattle.closing.proofs.deciding.shown_by.Goals as goal

pub returns-in-Some : goal.returns-in-Some
returns-in-Some c = record {
  closed = pairs-closed c.args.tables.now c.args.list.now c.in-Some.steps.items
      (subst (λ (o : Option (Vec (Vec Followed))). IfSome o (λ v. Keeps c.args.tables.now c.args.list.now v.items)) c.in-Some.is c.in_ok-steps.ensures);
  flow = c.flow_by.ensures;
}
