use Rattle.std.proofs.Common.{◌≡◌, ◌∙◌, Some, IsSome, ap, arith, length, refl, slice_get, subst, sym}
use Rattle.std.proofs.lemmas.Bool.{false≢true}
use Rattle.world.proofs.Keeping.{slice_get-some}
use Rattle.world.proofs.Openings.{reset-all, reset-more, reset-none, reset-past}
use Rattle.world.proofs.resetting.reset_all.Goals as goal
use Rattle.world.proofs.resetting.reset_all.Goals.{in-Some-opening_value, in_default-opening_value}

pub loop-index-init : goal.loop-index-init
loop-index-init c = (refl, reset-none c.args.opening.now c.args.blocks.now.keys c.args.blocks.now.items)

pub unreachable-requires : goal.unreachable-requires
unreachable-requires c =
    let low = c.loop-index-test.true in
    let many = c.held-index-end.ensures.count in
    let same = ap length c.loop-index.invariant.0 in
    let some = slice_get-some c.loop-index.blocks.keys c.loop-index.index (omega (arith, low, many, same)) in
    absurd (false≢true (subst IsSome (sym c.in_default.ensures.place) some))

pub loop-index-preserved : goal.loop-index-preserved
loop-index-preserved c =
    let h = c.loop-index.invariant in
    let key : slice_get c.args.blocks.now.keys c.loop-index.index ≡ Some c.in-Some.number =
    ap (λ ks. slice_get ks c.loop-index.index) (sym h.0) ∙ sym c.in-Some.ensures.place in
    elim c.match-opening_value.branch [
      | in-Some-opening_value w ↦ rw w.blocks-is (
        w.reset_one.ensures.keys ∙ h.0,
        reset-more c.args.opening.now c.args.blocks.now.keys c.loop-index.index c.in-Some.number w.in-Some-opening_value.value c.args.blocks.now.items
            c.loop-index.blocks.items w.reset_one.new.blocks.items h.1 key (sym w.in-Some-opening_value.ensures) w.reset_one.ensures.others
            w.reset_one.ensures.none w.reset_one.ensures.here,
      )
      | in_default-opening_value w ↦ rw w.blocks-is (
        h.0,
        reset-past c.args.opening.now c.args.blocks.now.keys c.loop-index.index c.in-Some.number c.args.blocks.now.items c.loop-index.blocks.items h.1 key
            (sym w.in_default-opening_value.ensures),
      )
    ]

pub returns-clause-count : goal.returns-clause-count
returns-clause-count c = c.loop-index.invariant.1.count

pub returns-clause-none : goal.returns-clause-none
returns-clause-none c = c.loop-index.invariant.1.none

pub returns-clause-opened : goal.returns-clause-opened
returns-clause-opened c = λ caches lined i v e.
    let end = c.loop-index-test.false in
    let many = c.held-index-end.ensures.count in
    reset-all c.args.opening.now c.args.blocks.now.keys c.loop-index.index caches c.args.blocks.now.items c.loop-index.blocks.items c.loop-index.invariant.1
    (omega (arith, end, many)) c.held-index-end.ensures.touched.all lined i v e
