use Rattle.std.proofs.Common.{List, Option, ap, ℕ, refl}
use Rattle.control.specs.declared.line.Line.{Line}
use Rattle.blocks.proofs.Copying.{lines-copied}
use Rattle.blocks.proofs.block.BlockTryClone.try_clone.Goals as goal

-- what a copy of a row of lines has of it
abbrev Lines : Type 0
Lines = record { items : List (Option Line); keys : List ℕ }

pub invariant_of-result : goal.invariant_of-result
invariant_of-result c =
    let lines = lines-copied c.in_ok-lines.lines.items c.self.inside.lines.items (ap (λ (s : Lines). s.items) c.in_ok-lines.ensures) in
    rw (lines, c.in_ok-home.ensures, c.in_ok-wires.ensures.traffic) c.self.invariant

pub returns : goal.returns
returns c =
    let lines = lines-copied c.in_ok-lines.lines.items c.self.inside.lines.items (ap (λ (s : Lines). s.items) c.in_ok-lines.ensures) in
    rw (← c.self.view_is, lines, c.in_ok-home.ensures, c.in_ok-wires.ensures.traffic, c.in_ok-wires.ensures.marks) refl
