use Rattle.std.proofs.Common.{◌≤◌, length, subst, arith}
use Rattle.std.proofs.lemmas.Grind.{common_steps}
use Rattle.std.proofs.lemmas.List.{length-map}
use Rattle.cursors.specs.inner.Parts.{parts_of}
use Rattle.cursors.proofs.Cursors.{parts}
use Rattle.cursors.proofs.part.starting.keep_others.Goals as goal

pub make_whole_but-requires-clause-room : goal.make_whole_but-requires-clause-room
make_whole_but-requires-clause-room g c = grind (arith, common_steps, parts, length-map)

pub returns-clause-whole : goal.returns-clause-whole
returns-clause-whole g c = grind (arith, common_steps, parts)

pub unreachable-requires : goal.unreachable-requires
unreachable-requires g c =
    let room : length c.args.children.now ≤ 0 = subst (λ p. length c.args.children.now ≤ length (parts_of p)) c.in-Fresh.is c.requires.room in
    let low = c.requires.part in
    omega (arith, room, low)

pub returns-clause-count : goal.returns-clause-count
returns-clause-count g c = grind (arith, common_steps, parts, length-map)

pub make_whole_but-requires-clause-part : goal.make_whole_but-requires-clause-part
make_whole_but-requires-clause-part g c = grind (arith, common_steps)

pub unreachable-unreachable : goal.unreachable-unreachable
unreachable-unreachable g c = grind (arith, common_steps)

pub enum_noted-parts : goal.enum_noted-parts
enum_noted-parts g c = grind (arith, parts)
