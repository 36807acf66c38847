use Rattle.std.proofs.Common.{map, ap, sym, ◌∙◌}
use Rattle.cursors.specs.Cursors.{progress}
use Rattle.cursors.specs.inner.Parts.{parts_of}
use Rattle.cursors.proofs.Cursors.{parts-Begun}
use Rattle.cursors.proofs.part.Part.parts.Goals as goal

pub returns-in-Begun : goal.returns-in-Begun
returns-in-Begun g c = ap (map progress) c.as_slice.ensures.value ∙ sym (ap parts_of c.in-Begun.is ∙ parts-Begun c.in-Begun.field-0 c.in-Begun.parts)
