use Rattle.std.proofs.Common.{◌<◌, ap, arith, length, sym, ◌∙◌}
use Rattle.rows.specs.Flags.{is_set}
use Rattle.rows.proofs.Words.{count-lt, flags-length, other_off, other_on, set-off, set-on}
use Rattle.rows.proofs.bits.Bits.set.Goals as goal

pub index-word-requires : goal.index-word-requires
index-word-requires c = omega (
  arith,
  c.requires,
  ap length c.self.view_is,
  flags-length c.self.inside.words.items c.self.inside.places,
  c.self.invariant.long,
)

pub index_mut-requires : goal.index_mut-requires
index_mut-requires c = omega (
  arith,
  c.requires,
  ap length c.self.view_is,
  flags-length c.self.inside.words.items c.self.inside.places,
  c.self.invariant.long,
)

pub index_mut-requires-else-value : goal.index_mut-requires-else-value
index_mut-requires-else-value c = omega (
  arith,
  c.requires,
  ap length c.self.view_is,
  flags-length c.self.inside.words.items c.self.inside.places,
  c.self.invariant.long,
)

pub overflow_add-self : goal.overflow_add-self
overflow_add-self c =
    let inside : c.args.at < c.self.inside.places = omega (
      arith,
      c.requires,
      ap length c.self.view_is,
      flags-length c.self.inside.words.items
          c.self.inside.places,
    ) in
    let was = ap (λ flags. is_set flags c.args.at) c.self.view_is ∙ sym c.contains.ensures
    ∙ other_off c.contains.result c.args.value c.if-contains-value.false c.if-value.true in
    omega (arith, count-lt c.self.inside.words.items c.self.inside.places c.self.inside.ones c.args.at c.self.invariant inside was)

pub invariant_of-self : goal.invariant_of-self
invariant_of-self c =
    let inside : c.args.at < c.self.inside.places = omega (
      arith,
      c.requires,
      ap length c.self.view_is,
      flags-length c.self.inside.words.items
          c.self.inside.places,
    ) in
    let was = ap (λ flags. is_set flags c.args.at) c.self.view_is ∙ sym c.contains.ensures
    ∙ other_off c.contains.result c.args.value c.if-contains-value.false c.if-value.true in
    (set-on c.self.inside.words.items c.self.inside.places c.self.inside.ones c.args.at c.index-word.result.now c.self.invariant inside
    c.index-word.ensures was).whole

pub returns-then-value : goal.returns-then-value
returns-then-value c =
    let inside : c.args.at < c.self.inside.places = omega (
      arith,
      c.requires,
      ap length c.self.view_is,
      flags-length c.self.inside.words.items
          c.self.inside.places,
    ) in
    let was = ap (λ flags. is_set flags c.args.at) c.self.view_is ∙ sym c.contains.ensures
    ∙ other_off c.contains.result c.args.value c.if-contains-value.false c.if-value.true in
    rw (← c.self.view_is, c.if-value.true)
    (set-on c.self.inside.words.items c.self.inside.places c.self.inside.ones c.args.at c.index-word.result.now c.self.invariant inside
    c.index-word.ensures was).flags

pub invariant_of-self-else-value : goal.invariant_of-self-else-value
invariant_of-self-else-value c =
    let inside : c.args.at < c.self.inside.places = omega (
      arith,
      c.requires,
      ap length c.self.view_is,
      flags-length c.self.inside.words.items
          c.self.inside.places,
    ) in
    let was = ap (λ flags. is_set flags c.args.at) c.self.view_is ∙ sym c.contains.ensures
    ∙ other_on c.contains.result c.args.value c.if-contains-value.false c.if-value.false in
    (set-off c.self.inside.words.items c.self.inside.places c.self.inside.ones c.args.at c.index-word.result.now c.self.invariant inside
    c.index-word.ensures was).whole

pub returns-else-value : goal.returns-else-value
returns-else-value c =
    let inside : c.args.at < c.self.inside.places = omega (
      arith,
      c.requires,
      ap length c.self.view_is,
      flags-length c.self.inside.words.items
          c.self.inside.places,
    ) in
    let was = ap (λ flags. is_set flags c.args.at) c.self.view_is ∙ sym c.contains.ensures
    ∙ other_on c.contains.result c.args.value c.if-contains-value.false c.if-value.false in
    rw (← c.self.view_is, c.if-value.false)
    (set-off c.self.inside.words.items c.self.inside.places c.self.inside.ones c.args.at c.index-word.result.now c.self.invariant inside
    c.index-word.ensures was).flags
