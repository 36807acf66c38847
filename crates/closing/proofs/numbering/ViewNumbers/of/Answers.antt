use Rattle.std.proofs.Common.{ℕ, List, Option, IfSome, true, false, subst}
use Rattle.std.specs.Global.{Vec}
use Rattle.closing.specs.declared.numbering.Span.{Span}
use Rattle.closing.specs.declared.numbering.View.{View}
use Rattle.closing.specs.inner.Numbered.{AreWithin, HaveNumbers}
use Rattle.closing.proofs.numbering.ViewNumbers.of.Goals as goal

pub returns : goal.returns
returns c = record {
  first = subst (λ (vs : List View). HaveNumbers false c.args.list.now vs c.in-Some-Some.firsts.items) c.deref-2.ensures.value
      (subst (λ (o : Option (Vec ℕ)). IfSome o (λ ns. HaveNumbers false c.args.list.now c.deref-2.result.now ns.items)) c.in-Some-Some.is-0
      c.in_ok-numbers_of.ensures);
  second = subst (λ (vs : List View). HaveNumbers true c.args.list.now vs c.in-Some-Some.seconds.items) c.deref-3.ensures.value
      (subst (λ (o : Option (Vec ℕ)). IfSome o (λ ns. HaveNumbers true c.args.list.now c.deref-3.result.now ns.items)) c.in-Some-Some.is-1
      c.in_ok-seconds.ensures);
  within = subst (λ (ss : List Span). AreWithin c.in-Some-Some.firsts.items ss) c.deref-5.ensures.value
      (subst (λ (ns : List ℕ). AreWithin ns c.deref-5.result.now) c.deref-4.ensures.value (c.are_within.ensures c.if-not-are_within.false));
}
