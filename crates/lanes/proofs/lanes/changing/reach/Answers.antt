use Rattle.std.proofs.Common.{◌<◌, ◌∙◌, IfSome, Option, arith, length, length-set, subst}
use Rattle.std.proofs.lemmas.Grind.{common_steps}
use Rattle.std.proofs.lemmas.Option.{slice_get_within}
use Rattle.std.specs.List.{Contains}
use Rattle.base.specs.declared.ids.CacheId.{CacheId}
use Rattle.lanes.specs.inner.Kept.{lanes_of}
use Rattle.lanes.proofs.Reached.{grown-vec, now-in-vec, one-more, rows_in}
use Rattle.lanes.proofs.lanes.changing.reach.Goals as goal

pub returns-in_err-add-clause-more : goal.returns-in_err-add-clause-more
returns-in_err-add-clause-more c core other there =
    let many = c.loop-ask.invariant.0 in
    let some = c.requires in
    let row = c.row_of-row.ensures in
    let low : c.row_of-row.result < length c.loop-ask.reached.items = grind arith in
    grown-vec c.loop-ask.reached.items c.row_of-row.result core other c.index_mut.result.now c.add.new.lanes low c.index_mut.ensures.value
    c.in_err-add.ensures.more
    (c.loop-ask.invariant.1 core other there)

pub loop-ask-preserved : goal.loop-ask-preserved
loop-ask-preserved c =
    let many = c.loop-ask.invariant.0 in
    let some = c.requires in
    let row = c.row_of-row.ensures in
    let low : c.row_of-row.result < length c.loop-ask.reached.items = grind arith in (
      length-set c.loop-ask.reached.items c.row_of-row.result c.add.new.lanes ∙ many,
      λ core other there. grown-vec c.loop-ask.reached.items c.row_of-row.result core other c.index_mut.result.now c.add.new.lanes low c.index_mut.ensures.value
          c.in_ok-add.ensures.more (c.loop-ask.invariant.1 core other there),
      one-more c.args.offers.now c.loop-ask.ask-index c.args.lane _ _
          (λ at ask l e. grown-vec c.loop-ask.reached.items c.row_of-row.result ask.core.0 c.args.lane c.index_mut.result.now c.add.new.lanes low
          c.index_mut.ensures.value c.in_ok-add.ensures.more (c.loop-ask.invariant.2 at ask l e))
          c.loop-ask-test.true
          (now-in-vec c.loop-ask.reached.items c.row_of-row.result _ c.args.lane c.add.new.lanes low c.row_of-row.ensures c.in_ok-add.ensures.ok),
      now-in-vec c.loop-ask.reached.items c.row_of-row.result _ c.args.lane c.add.new.lanes low c.row_of-row.ensures c.in_ok-add.ensures.ok,
    )

pub returns-clause-ok : goal.returns-clause-ok
returns-clause-ok c at ask e =
    let low = slice_get_within c.args.offers.now at ask e in
    let end = c.loop-ask-test.false in
    c.loop-ask.invariant.2 at ask (omega (arith, low, end)) e

pub loop-ask-init : goal.loop-ask-init
loop-ask-init c = grind (arith, common_steps)

pub offset_bounds-offers-ask-index : goal.offset_bounds-offers-ask-index
offset_bounds-offers-ask-index c = grind (arith, common_steps)

pub bounds-offers-ask-index : goal.bounds-offers-ask-index
bounds-offers-ask-index c = grind (arith, common_steps)

pub loop-ask-smaller-then-is_of : goal.loop-ask-smaller-then-is_of
loop-ask-smaller-then-is_of c = grind (arith, common_steps)

pub returns-in_err-add-clause-count : goal.returns-in_err-add-clause-count
returns-in_err-add-clause-count c = grind (arith, common_steps)

pub returns-in_err-add-clause-ok : goal.returns-in_err-add-clause-ok
returns-in_err-add-clause-ok c = grind (arith, common_steps)

pub loop-ask-smaller : goal.loop-ask-smaller
loop-ask-smaller c = grind (arith, common_steps)

pub returns-clause-count : goal.returns-clause-count
returns-clause-count c = grind (arith, common_steps)

pub returns-clause-more : goal.returns-clause-more
returns-clause-more c = grind (arith, common_steps)

pub is_of-requires : goal.is_of-requires
is_of-requires c = grind (arith, common_steps)

pub row_of-row-requires : goal.row_of-row-requires
row_of-row-requires c = grind (arith, common_steps)

pub index_mut-requires : goal.index_mut-requires
index_mut-requires c = grind (arith, common_steps)

pub add-requires : goal.add-requires
add-requires c = grind (arith, common_steps)

pub loop-ask-preserved-then-is_of : goal.loop-ask-preserved-then-is_of
loop-ask-preserved-then-is_of c =
    let here = subst (λ (o : Option CacheId). IfSome o (λ core. Contains (lanes_of (rows_in c.loop-ask.reached.items) core.0) c.args.lane))
    (c.is_of.ensures c.if-is_of.true) c.loop-ask.invariant.3 in (
      c.loop-ask.invariant.0,
      c.loop-ask.invariant.1,
      one-more c.args.offers.now c.loop-ask.ask-index c.args.lane _ _ c.loop-ask.invariant.2 c.loop-ask-test.true here,
      c.loop-ask.invariant.3,
    )
