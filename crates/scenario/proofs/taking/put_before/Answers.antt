use Rattle.std.proofs.Common.{ap, ◌∙◌, arith}
use Rattle.std.proofs.lemmas.Grind.{common_steps}
use Rattle.scenario.specs.Tree as tree
use Rattle.scenario.specs.Tree.{plain, plain_all}
use Rattle.scenario.specs.Rests.{row_of}
use Rattle.scenario.proofs.Children.{plain-Seq}
use Rattle.scenario.proofs.Parting.{only_before}
use Rattle.scenario.proofs.taking.put_before.Goals as goal

pub push_reserved-requires : goal.push_reserved-requires
push_reserved-requires g c = grind (arith, common_steps)

pub returns : goal.returns
returns g c =
    let items = c.args.parts.items in
    let both = only_before items c.replace-later.result c.requires.turn ∙ ap (λ s. tree.Cons (row_of (plain_all items)) (tree.Cons (plain s) tree.Nil)) c.replace-later.ensures.value in
    plain-Seq c.push_reserved.new.self ∙ ap tree.Seq (ap plain_all c.push_reserved.ensures.items ∙ both)
