use Rattle.std.proofs.Common.{◌≡◌, arith, slice_index, ◌∙◌}
use Rattle.std.proofs.lemmas.List.{get_or_default}
use Rattle.rows.proofs.Counted.{first-found, none-left, none-more, place-fits}
use Rattle.rows.proofs.bits.Bits.next_from.Goals as goal

pub overflow_cast-result : goal.overflow_cast-result
overflow_cast-result c =
    let words = c.self.inside.words.items in
    let i = c.loop-i.i in
    let word : c.index.result.now ≡ slice_index words i = c.index.ensures ∙ get_or_default words i c.index.result.now 0 (omega arith) in
    let fits = place-fits words c.self.inside.places c.self.inside.ones i c.in-Some.bit c.self.invariant c.in-Some.ensures.within
    (rw word at c.in-Some.ensures.set) in
    omega arith

pub overflow_mul-result : goal.overflow_mul-result
overflow_mul-result c =
    let words = c.self.inside.words.items in
    let i = c.loop-i.i in
    let word : c.index.result.now ≡ slice_index words i = c.index.ensures ∙ get_or_default words i c.index.result.now 0 (omega arith) in
    let fits = place-fits words c.self.inside.places c.self.inside.ones i c.in-Some.bit c.self.invariant c.in-Some.ensures.within
    (rw word at c.in-Some.ensures.set) in
    omega arith

pub overflow_add-result : goal.overflow_add-result
overflow_add-result c =
    let words = c.self.inside.words.items in
    let i = c.loop-i.i in
    let word : c.index.result.now ≡ slice_index words i = c.index.ensures ∙ get_or_default words i c.index.result.now 0 (omega arith) in
    let fits = place-fits words c.self.inside.places c.self.inside.ones i c.in-Some.bit c.self.invariant c.in-Some.ensures.within
    (rw word at c.in-Some.ensures.set) in
    omega arith

pub loop-i-preserved : goal.loop-i-preserved
loop-i-preserved c =
    let words = c.self.inside.words.items in
    let i = c.loop-i.i in
    let word : c.index.result.now ≡ slice_index words i = c.index.ensures ∙ get_or_default words i c.index.result.now 0 (omega arith) in
    record {
      small = omega arith;
      near = omega (arith, c.loop-i.invariant.near, c.loop-i.invariant.small);
      none = none-more words c.args.at i c.loop-i.from c.loop-i.invariant.none (rw word at c.in_default.ensures.none);
    }

pub returns-in-Some-clause-some : goal.returns-in-Some-clause-some
returns-in-Some-clause-some c =
    let words = c.self.inside.words.items in
    let i = c.loop-i.i in
    let word : c.index.result.now ≡ slice_index words i = c.index.ensures ∙ get_or_default words i c.index.result.now 0 (omega arith) in
    rw (← c.self.view_is)
    (first-found words c.self.inside.places c.self.inside.ones c.args.at i c.loop-i.from c.in-Some.bit c.self.invariant c.loop-i.invariant.near
    c.loop-i.invariant.none
    c.in-Some.ensures.behind c.in-Some.ensures.within (rw word at c.in-Some.ensures.set) (rw word at c.in-Some.ensures.first))

pub returns-clause-none : goal.returns-clause-none
returns-clause-none c =
    rw (← c.self.view_is)
    (none-left c.self.inside.words.items c.self.inside.places c.self.inside.ones c.args.at c.loop-i.i c.loop-i.from c.self.invariant
    (omega arith) c.loop-i.invariant.none)
