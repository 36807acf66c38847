use Rattle.std.proofs.Common.{◌≡◌, ◌++◌, drop, length, option_map}
use Rattle.serde_json.specs.View.{items_view}
use Rattle.base.specs.Spelling.{named_of}
use Rattle.tables.specs.Overrides.{known_actions}
use Rattle.tables.proofs.overrides.changes.known_actions.Given as goal

-- the actions so far, and those that the values left name, are those that all values name
abbrev pub invariant-loop-value : goal.invariant-loop-value
invariant-loop-value g l =
    (length l.actions ≡ l.value-index)
    × (option_map (λ rest. l.actions ++ rest)
    (known_actions (named_of (g.A.Listed.has l.protocol) g.A.Listed.spelling g.A.Listed.kind) (items_view (drop l.value-index l.values)))
    ≡ known_actions (named_of (g.A.Listed.has l.protocol) g.A.Listed.spelling g.A.Listed.kind) (items_view l.values))
