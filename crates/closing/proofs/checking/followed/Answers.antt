use Rattle.std.proofs.Common.{◌≡◌, ℕ, List, subst, Some, slice_get}
use Rattle.closing.specs.declared.following.Followed.{Followed}
use Rattle.closing.specs.inner.Told.{LeadsInto}
use Rattle.closing.proofs.checking.followed.Goals as goal

pub returns-else-not-all_lead : goal.returns-else-not-all_lead
returns-else-not-all_lead c = record {
  told = c.in-Ok.ensures;
  leads = subst (λ (fs : List Followed). (k : ℕ) (f : Followed) → slice_get fs k ≡ Some f → LeadsInto c.args.list.now c.args.ranked.now f)
      c.deref.ensures.value (c.all_lead.ensures c.if-not-all_lead.false);
}
