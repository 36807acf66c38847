use Rattle.std.proofs.Common.{◌<◌, ◌∙◌, ◌∷◌, [], ap, arith, length, refl, set}
use Rattle.std.proofs.lemmas.List.{length-set}
use Rattle.network.specs.declared.wire.Marked.{Marked}
use Rattle.network.specs.inner.Links.{held_count}
use Rattle.network.proofs.Counted.{count-set, one-fits}
use Rattle.network.proofs.Written.{behind-end, behind-next, written-behind}
use Rattle.network.proofs.wire.mark_from.Goals.{in-Some, in_default}
use Rattle.network.proofs.wire.mark_from.Goals as goal

pub loop-index-init : goal.loop-index-init
loop-index-init g c = record {
  sent = written-behind _ c.args.marked.now.items c.args.from;
  held = c.requires.held;
  count = refl;
  behind = omega arith;
  room = refl;
}

pub recounted-held-requires-clause-fits : goal.recounted-held-requires-clause-fits
recounted-held-requires-clause-fits g c =
    let within : c.loop-index.index < length c.loop-index.marked.items = omega (arith, c.in-Some.ensures.variant.0 refl, c.loop-index.marked.ok.0) in
    let fits = one-fits c.loop-index.marked.items c.loop-index.index c.in-Some.found.now c.in-Some.found.now
    (record { message = c.in-Some.found.now.message; held = c.mark-told.result }) within c.in-Some.ensures.item.1
    (omega (arith, c.loop-index.invariant.count, c.requires.few)) in
    omega (arith, c.loop-index.invariant.held)

pub loop-index-preserved : goal.loop-index-preserved
loop-index-preserved g c =
    let old = c.args.marked.now.items in
    let now = c.loop-index.marked.items in
    let i = c.loop-index.index in
    let loop = c.loop-index.invariant in
    elim c.match-get_mut.branch [
      | in-Some w ↦
          let found = w.in-Some.found.now in
          let within : i < length now = omega (arith, w.in-Some.ensures.variant.0 refl, c.loop-index.marked.ok.0) in
          let told = λ (h : _). set now i (record { message = found.message; held = h }) in
          rw w.marked-is
          (record {
            sent =
                ap told w.mark-told.ensures
                ∙ behind-next found _ old now c.args.from i found loop.behind (omega (arith, loop.count)) loop.sent w.in-Some.ensures.item.1;
            held =
                omega (
                  arith,
                  w.held-is,
                  w.recounted-held.ensures,
                  count-set now i (record { message = found.message; held = w.mark-told.result }) found within,
                  ap (λ (m : Marked _). held_count (m ∷ [])) w.in-Some.ensures.item.1,
                  loop.held,
                );
            count = length-set now i _ ∙ loop.count;
            behind = omega (arith, loop.behind);
            room = loop.room;
          })
      | in_default w ↦ absurd (cc (w.in_default.ensures.variant.1
          (omega (arith, c.loop-index-test.true, c.len-index-end.ensures, c.args.marked.now.ok.0, c.loop-index.marked.ok.0, loop.count))))
    ]

pub returns-clause-sent : goal.returns-clause-sent
returns-clause-sent g c =
    c.loop-index.invariant.sent
    ∙ behind-end _ c.args.marked.now.items c.args.from c.loop-index.index
    (omega (arith, c.loop-index-test.false, c.len-index-end.ensures, c.args.marked.now.ok.0))
