use Rattle.std.proofs.lemmas.Grind.{common_steps}
use Rattle.std.proofs.Common.{rules, arith, ◌≡◌, ◌+◌, ◌++◌, ◌∷◌, [], Some, Ok, true, false, drop, ap, sym, ◌∙◌}
use Rattle.std.proofs.lemmas.Result.{err_from_is_err_and}
use Rattle.std.specs.List.{list_any}
use Rattle.serde_json.specs.Data.{item}
use Rattle.serde_json.specs.View.{view, items_view}
use Rattle.tables.specs.inner.Seen.{seen_cell}
use Rattle.tables.specs.Written.{written_cell}
use Rattle.base.specs.Spelling.{named_of}
use Rattle.tables.specs.Overrides.{changes_after, change_of, is_same_cell}
use Rattle.tables.proofs.Overriding.{changes-more, changes-twice, items-next}
use Rattle.tables.proofs.overrides.changes.changes.Goals as goal

-- the cell is of one that was changed before
pub returns-then-is_changed-clause-changes : goal.returns-then-is_changed-clause-changes
returns-then-is_changed-clause-changes g c =
    let of_cell =
    change_of (named_of (g.S.Listed.has c.args.protocol) g.S.Listed.spelling g.S.Listed.kind)
    (named_of (g.E.Listed.has c.args.protocol) g.E.Listed.spelling g.E.Listed.kind)
    (named_of (g.A.Listed.has c.args.protocol) g.A.Listed.spelling g.A.Listed.kind) in
    let same = is_same_cell g.S.Listed.place g.E.Listed.place in
    let next : items_view (drop c.loop-value.value-index c.args.values.now) ≡ item (view c.value-item.result)
    (items_view (drop (c.loop-value.value-index + 1) c.args.values.now)) =
    items-next c.args.values.now c.loop-value.value-index c.value-item.result _ (omega arith) c.value-item.is in
    let form : written_cell (view c.value-item.result) ≡ Some (seen_cell c.in-Some.cell) = search rules in
    let known : of_cell (seen_cell c.in-Some.cell) ≡ Ok c.in_ok-change.change = search rules in
    let old : list_any (λ d. same d c.in_ok-change.change) c.loop-value.changes.items ≡ true =
    ap (λ cs. list_any (λ d. same d c.in_ok-change.change) cs) (sym c.as_slice.ensures.value) ∙ sym c.is_changed.ensures ∙ c.if-is_changed.true in
    sym c.loop-value.invariant ∙ ap (λ ds. changes_after of_cell same c.loop-value.changes.items ds) next
    ∙ changes-twice of_cell same c.loop-value.changes.items (view c.value-item.result)
    (items_view (drop (c.loop-value.value-index + 1) c.args.values.now)) (seen_cell c.in-Some.cell) c.in_ok-change.change form known old

-- the change is one more
pub loop-value-preserved : goal.loop-value-preserved
loop-value-preserved g c =
    let of_cell =
    change_of (named_of (g.S.Listed.has c.args.protocol) g.S.Listed.spelling g.S.Listed.kind)
    (named_of (g.E.Listed.has c.args.protocol) g.E.Listed.spelling g.E.Listed.kind)
    (named_of (g.A.Listed.has c.args.protocol) g.A.Listed.spelling g.A.Listed.kind) in
    let same = is_same_cell g.S.Listed.place g.E.Listed.place in
    let next : items_view (drop c.loop-value.value-index c.args.values.now) ≡ item (view c.value-item.result)
    (items_view (drop (c.loop-value.value-index + 1) c.args.values.now)) =
    items-next c.args.values.now c.loop-value.value-index c.value-item.result _ (omega arith) c.value-item.is in
    let form : written_cell (view c.value-item.result) ≡ Some (seen_cell c.in-Some.cell) = search rules in
    let known : of_cell (seen_cell c.in-Some.cell) ≡ Ok c.in_ok-change.change = search rules in
    let new : list_any (λ d. same d c.in_ok-change.change) c.loop-value.changes.items ≡ false =
    ap (λ cs. list_any (λ d. same d c.in_ok-change.change) cs) (sym c.as_slice.ensures.value) ∙ sym c.is_changed.ensures
    ∙ c.if-is_changed.false in
    let pushed : c.push.new.self.items ≡ c.loop-value.changes.items ++ c.in_ok-change.change ∷ [] = search rules in
    ap (λ before. changes_after of_cell same before (items_view (drop (c.loop-value.value-index + 1) c.args.values.now))) pushed
    ∙ sym
    (changes-more of_cell same c.loop-value.changes.items (view c.value-item.result)
    (items_view (drop (c.loop-value.value-index + 1) c.args.values.now)) (seen_cell c.in-Some.cell) c.in_ok-change.change form known new)
    ∙ sym (ap (λ ds. changes_after of_cell same c.loop-value.changes.items ds) next) ∙ c.loop-value.invariant

pub loop-value-init : goal.loop-value-init
loop-value-init g c = grind (arith, common_steps)

pub returns-in_default-clause-changes : goal.returns-in_default-clause-changes
returns-in_default-clause-changes g c = grind (arith, common_steps)

pub returns-in_err-change-clause-changes : goal.returns-in_err-change-clause-changes
returns-in_err-change-clause-changes g c = grind (arith, common_steps)

pub returns-in_err-push-clause-changes : goal.returns-in_err-push-clause-changes
returns-in_err-push-clause-changes g c =
    let p = err_from_is_err_and c.from_residual-in_err-push.result c.from_residual-in_err-push.ensures.1 in rw (p.1, p.2) tt

pub returns-clause-changes : goal.returns-clause-changes
returns-clause-changes g c = grind (arith, common_steps)

pub offset_bounds-values-value-index : goal.offset_bounds-values-value-index
offset_bounds-values-value-index g c = grind (arith, common_steps)

pub bounds-values-value-index : goal.bounds-values-value-index
bounds-values-value-index g c = grind (arith, common_steps)

pub returns-in_default-clause-json : goal.returns-in_default-clause-json
returns-in_default-clause-json g c = grind (arith, common_steps)

pub returns-in_err-change-clause-json : goal.returns-in_err-change-clause-json
returns-in_err-change-clause-json g c = grind (arith, common_steps)

pub returns-then-is_changed-clause-json : goal.returns-then-is_changed-clause-json
returns-then-is_changed-clause-json g c = grind (arith, common_steps)

pub returns-in_err-push-clause-json : goal.returns-in_err-push-clause-json
returns-in_err-push-clause-json g c = grind (arith, common_steps)

pub loop-value-smaller : goal.loop-value-smaller
loop-value-smaller g c = grind (arith, common_steps)

pub returns-clause-json : goal.returns-clause-json
returns-clause-json g c = grind (arith, common_steps)
