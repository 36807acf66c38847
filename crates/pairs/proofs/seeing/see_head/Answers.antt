use Rattle.std.proofs.Common.{◌∙◌, ap, sym, subst}
use Rattle.pairs.specs.declared.pair.Pair.{Pair}
use Rattle.pairs.specs.Pairs.{is_few}
use Rattle.pairs.specs.Marking.{IsMarked}
use Rattle.pairs.proofs.Taking.{few-headless, marked-headless}
use Rattle.pairs.proofs.seeing.see_head.Goals as goal

pub see_line-requires : goal.see_line-requires
see_line-requires c = (
  ap is_few c.unname.ensures
      ∙ few-headless c.requestor-to.result c.in-Some-Some.place.kind c.args.pair.now c.in-Some-Some.place c.behind-left.result
      c.behind-left-in-Some-Some.result c.in-Some-Some.ensures c.behind-left.ensures.rest c.requires.0,
  subst (λ (p : Pair). IsMarked p) (sym c.unname.ensures)
      (marked-headless c.requestor-to.result c.in-Some-Some.place.kind c.args.pair.now c.in-Some-Some.place c.behind-left.result
      c.in-Some-Some.mark c.behind-left-in-Some-Some.result c.in-Some-Some.ensures c.behind-left.ensures.rest c.in-Some-Some.ensures'
      c.behind-left-in-Some-Some.ensures c.requires.1),
)
