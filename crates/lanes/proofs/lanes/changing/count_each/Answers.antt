use Rattle.std.proofs.Common.{◌∙◌, ◌≡◌, inl, inr, List, ap, get_or, arith, length, map}
use Rattle.std.proofs.lemmas.List.{length-set, length-map}
use Rattle.schedule.specs.Listed.{Listed, nothing_listed}
use Rattle.lanes.specs.declared.lanes.Lane.{Lane}
use Rattle.lanes.specs.inner.Changes.{count_by}
use Rattle.lanes.proofs.Kept.{listed-of-lane}
use Rattle.lanes.proofs.Counting.{counted-more, left-more, not-among}
use Rattle.lanes.proofs.lanes.changing.count_each.Given as given
use Rattle.lanes.proofs.lanes.changing.count_each.Goals as goal
use Rattle.lanes.proofs.lanes.changing.count_each.Goals.{then-lane-lanes, else-lane-lanes}

-- what each lane offers
abbrev listed_in : (g : given.Over) → List (Lane g.row.A.Denot g.row.B.Denot) → List Listed
listed_in g lanes = map (λ (l : Lane g.row.A.Denot g.row.B.Denot). l.asks) lanes

pub loop-number-preserved : goal.loop-number-preserved
loop-number-preserved g c =
    let many = length-map c.args.lanes.now (λ (l : Lane g.row.A.Denot g.row.B.Denot). l.asks) in
    let same = c.loop-number.invariant.0 in
    let long = c.requires in
    elim c.if-lane-lanes.branch [
      | then-lane-lanes w ↦
          let inside = w.if-lane-lanes.true in
          rw (w.ready-is, w.set.ensures) (
            length-set c.loop-number.ready _ _ ∙ same,
            λ lane low. counted-more c.args.cores.now (listed_in g c.args.lanes.now) c.loop-number.ready c.args.ready.now c.args.which.now
                c.loop-number.number-index w.count-count.result (λ other l. c.loop-number.invariant.1 other (omega (arith, l, many)))
                (omega (arith, inside, same, long))
                (w.count-count.ensures ∙ ap (count_by c.args.cores.now) (listed-of-lane c.args.lanes.now _ _ inside))
                lane (omega (arith, low, many)),
          )
      | else-lane-lanes w ↦
          let past = w.if-lane-lanes.false in
          rw w.ready-is (
            same,
            λ lane low. left-more (λ n. get_or c.loop-number.ready n 0 ≡ count_by c.args.cores.now (get_or (listed_in g c.args.lanes.now) n nothing_listed))
                (λ n. get_or c.loop-number.ready n 0 ≡ get_or c.args.ready.now n 0) c.args.which.now c.loop-number.number-index (length c.args.lanes.now)
                c.loop-number.invariant.1 past lane low,
          )
    ]

pub returns-clause-each : goal.returns-clause-each
returns-clause-each g c lane low = elim (c.loop-number.invariant.1 lane low) [
  | inl e ↦ inl e
  | inr h ↦ inr (h.0, not-among c.args.which.now c.loop-number.number-index lane (let end = c.loop-number-test.false in omega (arith, end)) h.1)
]
