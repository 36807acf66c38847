use Rattle.std.proofs.Common.{◌≡◌, Some, slice_get, sym, ◌∙◌, subst, arith, below_more}
use Rattle.tables.specs.CellPlaces.{all_places, place_number}
use Rattle.tables.specs.declared.cell_places.CellPlace.{CellPlace}
use Rattle.tables.proofs.CellPlaces.{get-own}
use Rattle.certify.specs.inner.Demands.{Meets}
use Rattle.certify.proofs.certifying.first_against.Goals as goal

some-same : (c d : CellPlace) → Some c ≡ Some d → c ≡ d
some-same c d e = cc

pub loop-number-init : goal.loop-number-init
loop-number-init c = λ k low other e. absurd (omega (arith, low))

pub returns-then-is_against-clause-some : goal.returns-then-is_against-clause-some
returns-then-is_against-clause-some c = record {
  number = c.loop-number.number;
  there = c.with_number-cell.ensures;
  barred = c.if-is_against.ensures;
  before = λ k other low e. c.loop-number.invariant k low other e;
}

pub loop-number-preserved : goal.loop-number-preserved
loop-number-preserved c =
    below_more (λ k. (other : CellPlace) → slice_get all_places k ≡ Some other → Meets c.args.tables.now c.args.demand other) _ c.loop-number.invariant
    (λ other e. subst (Meets c.args.tables.now c.args.demand) (some-same _ other (sym c.with_number-cell.ensures ∙ e)) (c.if-is_against.ensures))

pub returns-clause-none : goal.returns-clause-none
returns-clause-none c = λ cell. let own = get-own cell in
    c.loop-number.invariant (place_number cell) (omega (arith, own.1, c.loop-number-test.false)) cell own.0
