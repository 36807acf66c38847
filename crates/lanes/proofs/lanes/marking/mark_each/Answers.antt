use Rattle.std.proofs.Common.{◌∙◌, ◌≡◌, ◌+◌, ◌<◌, inl, inr, List, ap, get_or, set, sym, subst, arith, length, map}
use Rattle.std.proofs.lemmas.List.{length-set, length-map, map-set}
use Rattle.std.proofs.Math.Seq.{map-set_same}
use Rattle.cursors.specs.Cursors.{remaining}
use Rattle.lanes.specs.inner.Kept.{stocked}
use Rattle.schedule.specs.Listed.{Listed, nothing_listed}
use Rattle.schedule.specs.Marks.{marked_by}
use Rattle.lanes.specs.declared.lanes.Lane.{Lane}
use Rattle.lanes.proofs.Kept.{lane-listed}
use Rattle.lanes.proofs.Counting.{IsMarkedSoFar, marked-beyond, marked-more, marked-past, not-among}
use Rattle.lanes.proofs.lanes.marking.mark_each.Given as given
use Rattle.lanes.proofs.lanes.marking.mark_each.Goals as goal
use Rattle.lanes.proofs.lanes.marking.mark_each.Goals.{then-lane-len, else-lane-len}

-- what each lane offers
abbrev listed_in : (g : given.Over) → List (Lane g.row.A.Denot g.row.B.Denot) → List Listed
listed_in g lanes = map (λ (l : Lane g.row.A.Denot g.row.B.Denot). l.asks) lanes

pub loop-number-preserved-then-is_lane : goal.loop-number-preserved-then-is_lane
loop-number-preserved-then-is_lane g c = (
  c.loop-number.invariant.0,
  c.loop-number.invariant.1,
  marked-past c.args.held c.args.core c.args.block (listed_in g c.loop-number.lanes.items) (listed_in g c.args.lanes.now.items) c.args.which.now
      c.loop-number.number-index (length c.args.lanes.now.items) c.args.done c.loop-number.invariant.2 (c.is_lane.ensures c.if-is_lane.true),
  c.loop-number.invariant.3,
)

pub loop-number-preserved : goal.loop-number-preserved
loop-number-preserved g c = elim c.if-lane-len.branch [
  | then-lane-len w ↦
      let at = get_or c.args.which.now c.loop-number.number-index 0 in
      let inside = w.if-lane-len.true in
      let len = c.len.ensures in
      let same = c.loop-number.invariant.0 in
      let low : at < length c.loop-number.lanes.items = omega (arith, inside, len) in
      let many = length-map c.loop-number.lanes.items (λ (l : Lane g.row.A.Denot g.row.B.Denot). l.asks) in
      let made : Lane g.row.A.Denot g.row.B.Denot = record { rest = w.index_mut.result.now.rest; asks = w.mark.new.self } in
      let written : listed_in g (set c.loop-number.lanes.items at made) ≡ set (listed_in g c.loop-number.lanes.items) at
      (marked_by c.args.held c.args.core c.args.block (get_or (listed_in g c.loop-number.lanes.items) at nothing_listed)) =
      map-set (λ (l : Lane g.row.A.Denot g.row.B.Denot). l.asks) c.loop-number.lanes.items at made
      ∙ ap (set (listed_in g c.loop-number.lanes.items) at) (w.mark.ensures
      ∙ ap (marked_by c.args.held c.args.core c.args.block)
      (lane-listed c.loop-number.lanes.items at w.index_mut.result.now low w.index_mut.ensures.value)) in
      rw w.lanes-is (
        length-set c.loop-number.lanes.items at made ∙ same,
        map-set_same (λ (l : Lane g.row.A.Denot g.row.B.Denot). remaining l.rest) c.loop-number.lanes.items at made w.index_mut.result.now
            (ap (λ (l : Lane g.row.A.Denot g.row.B.Denot). remaining l.rest) w.index_mut.ensures.value) ∙ c.loop-number.invariant.1,
        λ lane under. subst (λ (ls : List Listed).
            IsMarkedSoFar c.args.held c.args.core c.args.block c.args.which.now (c.loop-number.number-index + 1) c.args.done ls
            (listed_in g c.args.lanes.now.items) lane)
            (sym written)
            (marked-more c.args.held c.args.core c.args.block (listed_in g c.loop-number.lanes.items)
            (listed_in g c.args.lanes.now.items) c.args.which.now c.loop-number.number-index c.args.done
            (λ other l. c.loop-number.invariant.2 other (omega (arith, l, many, same))) (omega (arith, low, many)) lane (omega (arith, under, many, same))),
        map-set_same (λ (l : Lane g.row.A.Denot g.row.B.Denot). stocked l.rest) c.loop-number.lanes.items at made w.index_mut.result.now
            (ap (λ (l : Lane g.row.A.Denot g.row.B.Denot). stocked l.rest) w.index_mut.ensures.value) ∙ c.loop-number.invariant.3,
      )
  | else-lane-len w ↦
      let past = w.if-lane-len.false in
      let same = c.loop-number.invariant.0 in
      let len = c.len.ensures in
      rw w.lanes-is (
        same,
        c.loop-number.invariant.1,
        marked-beyond c.args.held c.args.core c.args.block (listed_in g c.loop-number.lanes.items) (listed_in g c.args.lanes.now.items) c.args.which.now
            c.loop-number.number-index (length c.args.lanes.now.items) c.args.done c.loop-number.invariant.2 (omega (arith, past, same, len)),
        c.loop-number.invariant.3,
      )
]

pub returns-clause-each : goal.returns-clause-each
returns-clause-each g c lane low = elim (c.loop-number.invariant.2 lane low) [
  | inl e ↦ inl e
  | inr h ↦ inr (
    h.0,
    elim h.1 [
      | inl is ↦ inl is
      | inr apart ↦ inr (not-among c.args.which.now c.loop-number.number-index lane (let end = c.loop-number-test.false in omega (arith, end)) apart)
    ],
  )
]
