use Rattle.std.proofs.Common.{◌≡◌, ◌∙◌, sym, ap, arith, Bool, List, ◌+◌, ◌<◌, ◌++◌, ◌∷◌, length, unwrap_or, false}
use Rattle.pairs.specs.declared.link.LinkPlace.{LinkPlace}
use Rattle.pairs.specs.inner.Short.{behind, head_of}
use Rattle.closing.specs.Closed as closed
use Rattle.closing.proofs.Reading.{length-push}
use Rattle.closing.proofs.Lengthening.{one-longer, one-behind, append-assoc, append-none, no-length}
use Rattle.closing.proofs.glueing.lengthened.Goals as goal

pub loop-preserved : goal.loop-preserved
loop-preserved c =
    let flag : Bool = c.unwrap_or.result in
    let is : unwrap_or (head_of c.loop.rest) false ≡ flag = ap (λ o. unwrap_or o false) (sym c.head.ensures) ∙ sym c.unwrap_or.ensures in
    let some : 0 < length c.loop.places = omega (arith, c.loop-test.true, c.len-end.ensures.count, c.loop.invariant.left) in
    record {
      made =
          ap (λ (xs : List Bool). xs ++ closed.lengthened c.behind-places.result c.behind-rest.result) c.push.ensures
          ∙ append-assoc c.loop.all flag _
          ∙ ap (λ (marks : List Bool). c.loop.all ++ flag ∷ closed.lengthened c.behind-places.result marks) c.behind-rest.ensures
          ∙ ap (λ (places : List LinkPlace). c.loop.all ++ flag ∷ closed.lengthened places (behind c.loop.rest)) c.behind-places.ensures.rest
          ∙ ap (λ (t : Bool). c.loop.all ++ t ∷ closed.lengthened (behind c.loop.places) (behind c.loop.rest)) (sym is)
          ∙ ap (λ (xs : List Bool). c.loop.all ++ xs) (sym (one-longer c.loop.places c.loop.rest some))
          ∙ c.loop.invariant.made;
      count = ap (λ (xs : List Bool). length xs) c.push.ensures ∙ omega (arith, length-push c.loop.all flag, c.loop.invariant.count);
      left = ap (λ (places : List LinkPlace). length places + (c.loop.counter + 1)) c.behind-places.ensures.rest
          ∙ omega (arith, one-behind c.loop.places some, c.loop.invariant.left);
    }

pub returns : goal.returns
returns c =
    sym (append-none c.loop.all)
    ∙ ap (λ (places : List LinkPlace). c.loop.all ++ closed.lengthened places c.loop.rest)
    (sym (no-length c.loop.places (omega (arith, c.loop-test.false, c.len-end.ensures.count, c.loop.invariant.left)))) ∙ c.loop.invariant.made
