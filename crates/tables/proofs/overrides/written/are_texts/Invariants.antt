use Rattle.std.proofs.Common.{◌≡◌, drop}
use Rattle.serde_json.specs.View.{items_view}
use Rattle.tables.specs.Written.{are_texts}
use Rattle.tables.proofs.overrides.written.are_texts.Given as goal

-- the values so far are texts
abbrev pub invariant-loop-value : goal.invariant-loop-value
invariant-loop-value l = are_texts (items_view (drop l.value-index l.values)) ≡ are_texts (items_view l.values)
