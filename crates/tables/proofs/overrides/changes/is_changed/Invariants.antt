use Rattle.std.proofs.Common.{◌≡◌, drop}
use Rattle.std.specs.List.{list_any}
use Rattle.base.specs.Cells.{is_of}
use Rattle.tables.proofs.overrides.changes.is_changed.Given as goal

-- the changes so far are of other cells
abbrev pub invariant-loop-earlier : goal.invariant-loop-earlier
invariant-loop-earlier g l =
    list_any (λ c. is_of g.S.Listed.place g.E.Listed.place c l.change.state l.change.event) (drop l.earlier-index l.changes)
    ≡ list_any (λ c. is_of g.S.Listed.place g.E.Listed.place c l.change.state l.change.event) l.changes
