use Rattle.std.proofs.Common.{◌≡◌, ◌+◌, ◌-◌, ◌/◌, ◌<◌, ◌≤◌, ap, arith}
use Rattle.rows.specs.inner.Words.{low}
use Rattle.rows.proofs.Counted.{low-half}
use Rattle.rows.proofs.Lowest.{lowest-left, lowest-off, masked-first, some-left}
use Rattle.rows.proofs.Words.{masked}
use Rattle.rows.proofs.bits.find_in.Goals as goal

pub loop-left-preserved-then-count-left : goal.loop-left-preserved-then-count-left
loop-left-preserved-then-count-left c =
    let at = c.loop-left.at in
    let width = c.loop-left.width in
    let counted = low-half c.args.word at (width / 2) (omega (arith, c.loop-left.invariant.within)) in
    let whole : at + width / 2 + (width - width / 2) ≡ at + width = omega arith in
    record {
      placed = omega (arith, counted, c.loop-left.invariant.placed, c.if-count-left.true);
      among = omega (arith, ap (low c.args.word) whole, c.loop-left.invariant.among);
      within = omega (arith, c.loop-left.invariant.within);
      some = omega (arith, c.loop-left.invariant.some);
    }

pub loop-left-preserved : goal.loop-left-preserved
loop-left-preserved c =
    let at = c.loop-left.at in
    let width = c.loop-left.width in
    let counted = low-half c.args.word at (width / 2) (omega (arith, c.loop-left.invariant.within)) in
    record {
      placed = c.loop-left.invariant.placed;
      among = omega (arith, counted, c.loop-left.invariant.placed, c.if-count-left.false);
      within = omega (arith, c.loop-left.invariant.within);
      some = omega (arith, c.if-width-gt1.true);
    }

pub loop-init : goal.loop-init
loop-init c =
    let at = c.loop-left.at in
    let inside : at < 64 = omega (arith, c.loop-left.invariant.within, c.loop-left.invariant.some) in
    let whole : at + c.loop-left.width ≤ 64 = c.loop-left.invariant.within in
    record {
      placed = c.loop-left.invariant.placed;
      some = c.requires;
      rest = rw (let e : low c.args.word at + 0 ≡ low c.args.word at = omega arith in e) (masked-first c.args.word at _
          (masked c.args.word at inside c.ranges.word.fits));
    }

pub overflow_sub-rest : goal.overflow_sub-rest
overflow_sub-rest c =
    some-left c.args.word _ c.loop.rest c.loop.invariant.rest
    (omega (arith, c.loop.invariant.placed, c.loop.invariant.some, c.loop-test.true))

pub loop-preserved : goal.loop-preserved
loop-preserved c = record {
  placed = c.loop.invariant.placed;
  some = c.loop.invariant.some;
  rest = (let e : low c.args.word c.loop-left.at + (c.loop.counter + 1) ≡ low c.args.word c.loop-left.at + c.loop.counter + 1 = omega arith in
      rw e (lowest-off c.args.word _ c.loop.rest c.loop.invariant.rest
      (omega (arith, c.loop.invariant.placed, c.loop.invariant.some, c.loop-test.true)) c.loop.auto.rest-fits.fits));
}

-- all before the k-th are taken off
pub returns-clause-within : goal.returns-clause-within
returns-clause-within c =
    let all : low c.args.word c.loop-left.at + c.loop.counter ≡ c.args.k =
    omega (arith, c.loop.invariant.placed, c.loop.auto.counter-end, c.loop-test.false) in
    (lowest-left c.args.word c.args.k c.loop.rest (rw all at c.loop.invariant.rest) c.requires c.loop.auto.rest-fits.fits).within

pub returns-clause-set : goal.returns-clause-set
returns-clause-set c =
    let all : low c.args.word c.loop-left.at + c.loop.counter ≡ c.args.k =
    omega (arith, c.loop.invariant.placed, c.loop.auto.counter-end, c.loop-test.false) in
    (lowest-left c.args.word c.args.k c.loop.rest (rw all at c.loop.invariant.rest) c.requires c.loop.auto.rest-fits.fits).set

pub returns-clause-before : goal.returns-clause-before
returns-clause-before c =
    let all : low c.args.word c.loop-left.at + c.loop.counter ≡ c.args.k =
    omega (arith, c.loop.invariant.placed, c.loop.auto.counter-end, c.loop-test.false) in
    (lowest-left c.args.word c.args.k c.loop.rest (rw all at c.loop.invariant.rest) c.requires c.loop.auto.rest-fits.fits).before
