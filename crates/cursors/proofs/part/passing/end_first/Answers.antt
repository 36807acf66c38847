use Rattle.std.proofs.Common.{◌≡◌, ◌<◌, Some, length, slice_get, ap, ◌∙◌, arith, rules}
use Rattle.std.proofs.lemmas.Grind.{common_steps}
use Rattle.std.proofs.lemmas.Option.{slice_get-get_or}
use Rattle.cursors.specs.Stock.{stock}
use Rattle.cursors.proofs.Cursors.{parts}
use Rattle.cursors.proofs.Leading.{same-set}
use Rattle.cursors.proofs.Passing.{first-set}
use Rattle.cursors.proofs.part.passing.end_first.Goals as goal

pub returns-else-is_empty-clause-ended : goal.returns-else-is_empty-clause-ended
returns-else-is_empty-clause-ended g c done =
    let some : 0 < length c.in-Begun.parts.items = grind (arith, common_steps) in
    let first = first-set c.in-Begun.parts.items c.move_to.new.self some in
    grind (arith, common_steps, parts, first)

pub enum_noted-parts : goal.enum_noted-parts
enum_noted-parts g c = grind (arith, parts)

pub returns-else-is_empty-clause-held : goal.returns-else-is_empty-clause-held
returns-else-is_empty-clause-held g c =
    let items = c.in-Begun.parts.items in
    let some : 0 < length items = grind (arith, common_steps) in
    let old = c.index_mut.result.now in
    let at : slice_get items 0 ≡ Some old = slice_get-get_or items 0 old some ∙ ap Some (search rules) in
    let same = same-set stock items 0 old c.move_to.new.self at c.move_to.ensures.held in
    grind (arith, common_steps, parts, same)
