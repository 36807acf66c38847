use Rattle.std.proofs.Common.{◌≡◌, ap, ◌∙◌, arith, rules}
use Rattle.std.proofs.lemmas.Grind.{common_steps}
use Rattle.scenario.specs.Tree.{plain, plain_all}
use Rattle.scenario.specs.Rests.{row_of}
use Rattle.scenario.proofs.Children.{children, plain-Seq}
use Rattle.scenario.proofs.taking.shorten_row.Goals as goal

pub returns-in-Some : goal.returns-in-Some
returns-in-Some g c = λ ts e.
    let whole = ap plain c.in-Seq.is ∙ plain-Seq c.in-Seq.children in
    let same : plain_all c.in-Seq.children.items ≡ ts = cc (whole, e) in
    let row : plain c.in-Some.only ≡ row_of (plain_all c.in-Seq.children.items) = search rules in
    row ∙ ap row_of same

pub returns-in_default-only_child : goal.returns-in_default-only_child
returns-in_default-only_child g c = λ ts e. grind (arith, common_steps, children, e)
