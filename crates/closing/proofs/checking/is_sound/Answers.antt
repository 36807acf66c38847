use Rattle.std.proofs.Common.{◌∙◌, sym, subst, Contains}
use Rattle.closing.specs.declared.ranked.RankedPair.{RankedPair}
use Rattle.closing.proofs.LineActing.{both-true}
use Rattle.closing.proofs.checking.is_sound.Goals as goal

pub returns : goal.returns
returns c = λ all.
    let sides = both-true _ c.home_stays.result all in
    let first = both-true c.is_single.result c.is_listed.result sides.0 in
    record {
      few = sym c.is_few.ensures ∙ c.if-not-is_few.false;
      marked = c.is_marked.ensures.0 c.if-not-is_marked.false;
      turned = subst (λ (r : RankedPair). Contains c.args.list.now r) c.turned.ensures (c.is_listed.ensures first.1);
      single = c.is_single.ensures first.0;
      home_data = c.home_stays.ensures sides.1;
    }
