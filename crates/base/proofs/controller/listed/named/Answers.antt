use Rattle.std.proofs.Common.{◌≡◌, subst, sym, ◌∙◌, ap}
use Rattle.std.specs.Prelude.{MatchOption}
use Rattle.base.specs.Spelling.{named_in, IsUnnamed}
use Rattle.base.proofs.Naming.{all-spelled}
use Rattle.base.proofs.controller.listed.named.Goals as goal

pub returns-clause-spelled : goal.returns-clause-spelled
returns-clause-spelled g c =
    let text = c.args.name.now in
    let spelling = g.N.Listed.spelling in
    subst (λ o. MatchOption o (IsUnnamed spelling text) (λ x. text ≡ spelling x))
    (sym (c.find_named.ensures ∙ ap (λ all. named_in spelling all text) c.all.ensures))
    (all-spelled spelling text g.N.Listed.kind g.N.Listed.place g.met.N.Listed.stands)
