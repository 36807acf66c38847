use Rattle.std.proofs.Common.{Some, ap, sym, ◌∙◌, arith}
use Rattle.std.proofs.lemmas.List.{drop_all}
use Rattle.std.specs.Str.{bytes_eq}
use Rattle.base.specs.Spelling.{named_in}
use Rattle.base.proofs.Naming.{found-here, found-later}
use Rattle.base.proofs.controller.listed.find_named.Goals as goal

pub returns-then-eq : goal.returns-then-eq
returns-then-eq g c =
    let spelling = g.N.Listed.spelling in
    let name = c.args.name.now in
    let one = c.one-item.result in
    let test = ap (λ n. bytes_eq n name) (sym (c.as_bytes.ensures.value ∙ c.name.ensures.name)) ∙ sym c.eq.ensures ∙ c.if-eq.true in
    ap Some c.one-item.is
    ∙ sym (found-here (λ x. bytes_eq (spelling x) name) c.args.all.now c.loop-one.one-index one (omega (arith, c.loop-one-test.true))
    (ap (λ x. bytes_eq (spelling x) name) (sym c.one-item.is) ∙ test))
    ∙ c.loop-one.invariant

pub loop-one-preserved : goal.loop-one-preserved
loop-one-preserved g c =
    let spelling = g.N.Listed.spelling in
    let name = c.args.name.now in
    let one = c.one-item.result in
    let test = ap (λ n. bytes_eq n name) (sym (c.as_bytes.ensures.value ∙ c.name.ensures.name)) ∙ sym c.eq.ensures ∙ c.if-eq.false in
    sym (found-later (λ x. bytes_eq (spelling x) name) c.args.all.now c.loop-one.one-index one (omega (arith, c.loop-one-test.true))
    (ap (λ x. bytes_eq (spelling x) name) (sym c.one-item.is) ∙ test))
    ∙ c.loop-one.invariant

pub returns : goal.returns
returns g c =
    sym (ap (λ all. named_in g.N.Listed.spelling all c.args.name.now) (drop_all c.loop-one.one-index c.args.all.now (omega (arith, c.loop-one-test.false))))
    ∙ c.loop-one.invariant
