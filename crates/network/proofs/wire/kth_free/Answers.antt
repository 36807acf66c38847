use Rattle.std.proofs.Common.{◌+◌, ◌∙◌, sym, ap, arith, drop, slice_get}
use Rattle.std.proofs.lemmas.List.{length-map}
use Rattle.network.specs.Marks.{unmarked}
use Rattle.network.specs.inner.Links.{marks_in}
use Rattle.network.proofs.Counted.{mark-of}
use Rattle.network.proofs.UnmarkedPlaces.{kth-held, kth-here, kth-behind, kth-none}
use Rattle.network.proofs.wire.kth_free.Goals as goal
use Rattle.network.proofs.wire.kth_free.Goals.{then-not-marked-index+else-left-eq0, else-not-marked-index}

pub returns-then-left-eq0 : goal.returns-then-left-eq0
returns-then-left-eq0 g c =
    let marks = marks_in c.args.marked.now in
    let long = length-map c.args.marked.now (λ m. m.held) in
    let mark = mark-of c.args.marked.now c.loop-index.index c.index-marked-index.result (omega (arith, c.loop-index-test.true)) in
    sym (kth-here marks c.loop-index.index (omega (arith, c.loop-index-test.true)) (mark ∙ c.if-not-marked-index.true))
    ∙ ap (slice_get (unmarked c.loop-index.index (drop c.loop-index.index marks))) (sym c.if-left-eq0.true)
    ∙ c.loop-index.invariant

pub loop-index-preserved : goal.loop-index-preserved
loop-index-preserved g c =
    let marks = marks_in c.args.marked.now in
    let i = c.loop-index.index in
    let long = length-map c.args.marked.now (λ m. m.held) in
    let mark = mark-of c.args.marked.now i c.index-marked-index.result (omega (arith, c.loop-index-test.true)) in
    elim c.if-not-marked-index.branch [
      | then-not-marked-index+else-left-eq0 w ↦
          ap (slice_get (unmarked (i + 1) (drop (i + 1) marks))) w.left-is
          ∙ sym (kth-behind marks i c.loop-index.left _ (omega (arith, c.loop-index-test.true)) (mark ∙ w.if-not-marked-index.true)
          (omega (arith, w.if-left-eq0.false)))
          ∙ c.loop-index.invariant
      | else-not-marked-index w ↦
          ap (slice_get (unmarked (i + 1) (drop (i + 1) marks))) w.left-is
          ∙ sym (kth-held marks i c.loop-index.left (omega (arith, c.loop-index-test.true)) (mark ∙ w.if-not-marked-index.false))
          ∙ c.loop-index.invariant
    ]

pub returns : goal.returns
returns g c =
    let long = length-map c.args.marked.now (λ m. m.held) in
    sym (kth-none (marks_in c.args.marked.now) c.loop-index.index c.loop-index.left (omega (arith, c.loop-index-test.false))) ∙ c.loop-index.invariant
