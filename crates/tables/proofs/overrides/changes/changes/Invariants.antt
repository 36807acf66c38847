use Rattle.std.proofs.Common.{◌≡◌, [], drop}
use Rattle.serde_json.specs.View.{items_view}
use Rattle.base.specs.Spelling.{named_of}
use Rattle.tables.specs.Overrides.{changes_after, change_of, is_same_cell}
use Rattle.tables.proofs.overrides.changes.changes.Given as goal

-- behind the changes so far, the values left make those that all values make
abbrev pub invariant-loop-value : goal.invariant-loop-value
invariant-loop-value g l =
    let of_cell =
    change_of (named_of (g.S.Listed.has l.protocol) g.S.Listed.spelling g.S.Listed.kind)
    (named_of (g.E.Listed.has l.protocol) g.E.Listed.spelling g.E.Listed.kind) (named_of (g.A.Listed.has l.protocol) g.A.Listed.spelling g.A.Listed.kind) in
    let same = is_same_cell g.S.Listed.place g.E.Listed.place in
    changes_after of_cell same l.changes.items (items_view (drop l.value-index l.values)) ≡ changes_after of_cell same [] (items_view l.values)
