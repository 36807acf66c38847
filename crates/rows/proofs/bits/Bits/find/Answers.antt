use Rattle.std.proofs.Common.{arith, refl, slice_index}
use Rattle.rows.specs.inner.Words.{IsRowOfWords}
use Rattle.rows.proofs.Counted.{kth-few, kth-found, low-whole, none-kth, place-fits, word-next}
use Rattle.rows.proofs.bits.Bits.find.Goals as goal

pub loop-i-init : goal.loop-i-init
loop-i-init c = omega arith

pub loop-i-preserved : goal.loop-i-preserved
loop-i-preserved c =
    let words = c.deref-word-items.result.now in
    let next = word-next words c.loop-i.i (c.type_inv.word-items c.loop-i.i).fits in
    omega (arith, c.loop-i.invariant, c.if-left-count.false)

pub overflow_cast-result : goal.overflow_cast-result
overflow_cast-result c =
    let words = c.deref-word-items.result.now in
    let whole : IsRowOfWords words c.self.inside.places c.self.inside.ones = rw c.deref-word-items.ensures.value c.self.invariant in
    let fits = place-fits words c.self.inside.places c.self.inside.ones c.loop-i.i c.find_in-bit.result whole c.find_in-bit.ensures.within
    c.find_in-bit.ensures.set in
    omega arith

pub overflow_mul-result : goal.overflow_mul-result
overflow_mul-result c =
    let words = c.deref-word-items.result.now in
    let whole : IsRowOfWords words c.self.inside.places c.self.inside.ones = rw c.deref-word-items.ensures.value c.self.invariant in
    let fits = place-fits words c.self.inside.places c.self.inside.ones c.loop-i.i c.find_in-bit.result whole c.find_in-bit.ensures.within
    c.find_in-bit.ensures.set in
    omega arith

pub overflow_add-result : goal.overflow_add-result
overflow_add-result c =
    let words = c.deref-word-items.result.now in
    let whole : IsRowOfWords words c.self.inside.places c.self.inside.ones = rw c.deref-word-items.ensures.value c.self.invariant in
    let fits = place-fits words c.self.inside.places c.self.inside.ones c.loop-i.i c.find_in-bit.result whole c.find_in-bit.ensures.within
    c.find_in-bit.ensures.set in
    omega arith

pub find_in-bit-requires : goal.find_in-bit-requires
find_in-bit-requires c = rw (low-whole (slice_index c.deref-word-items.result.now c.loop-i.i) c.type_inv.word.fits) c.if-left-count.true

pub returns-then-left-count-clause-place : goal.returns-then-left-count-clause-place
returns-then-left-count-clause-place c =
    let words = c.deref-word-items.result.now in
    let whole : IsRowOfWords words c.self.inside.places c.self.inside.ones = rw c.deref-word-items.ensures.value c.self.invariant in
    rw (← c.self.view_is, ← c.deref-word-items.ensures.value)
    (kth-found words c.self.inside.places c.self.inside.ones c.loop-i.i c.find_in-bit.result c.loop-i.left c.args.k whole c.loop-i.invariant
    c.find_in-bit.ensures.within c.find_in-bit.ensures.set c.find_in-bit.ensures.before)

pub returns-then-left-count-clause-found : goal.returns-then-left-count-clause-found
returns-then-left-count-clause-found c =
    let words = c.deref-word-items.result.now in
    let whole : IsRowOfWords words c.self.inside.places c.self.inside.ones = rw c.deref-word-items.ensures.value c.self.invariant in
    rw (← c.self.view_is, ← c.deref-word-items.ensures.value) (
      λ _. kth-few words c.self.inside.places c.self.inside.ones c.loop-i.i c.find_in-bit.result c.loop-i.left c.args.k whole c.loop-i.invariant
          c.find_in-bit.ensures.within c.find_in-bit.ensures.set c.find_in-bit.ensures.before,
      λ _. refl,
    )

pub returns-clause-found : goal.returns-clause-found
returns-clause-found c =
    let words = c.deref-word-items.result.now in
    let whole : IsRowOfWords words c.self.inside.places c.self.inside.ones = rw c.deref-word-items.ensures.value c.self.invariant in
    rw (← c.self.view_is, ← c.deref-word-items.ensures.value) (
      λ e. cc,
      λ few. absurd (none-kth words c.self.inside.places c.self.inside.ones c.loop-i.i c.loop-i.left c.args.k whole c.loop-i.invariant
          c.loop-i-test.false few),
    )
