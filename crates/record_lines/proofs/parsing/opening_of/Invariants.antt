use Rattle.std.proofs.Common.{◌≡◌, ◌≤◌, ◌-◌, ◌++◌, ◌<◌, ◌^◌, length}
use Rattle.std.specs.Prelude.{All}
use Rattle.std.specs.Vec.{vec_capacity}
use Rattle.base.specs.Words.{words, words_behind}
use Rattle.record_lines.specs.Text.{opening_words}
use Rattle.record_lines.proofs.parsing.opening_of.Given as goal

abbrev pub invariant-loop-rest : goal.invariant-loop-rest
invariant-loop-rest l =
    (words l.line ≡ opening_words l.values.items ++ words_behind l.rest) × (length l.values.items ≤ l.blocks)
    × All (λ value. value < 2 ^ 64) l.values.items × (l.blocks ≤ vec_capacity l.values)
    × (vec_capacity l.values ≡ vec_capacity l.fn.values)

abbrev pub decreases-loop-rest : goal.decreases-loop-rest
decreases-loop-rest l = l.blocks - length l.values.items
