use Rattle.std.proofs.Common.{map, take, ap, ◌∙◌, arith}
use Rattle.std.proofs.lemmas.Grind.{common_steps}
use Rattle.cursors.specs.Cursors.{progress}
use Rattle.cursors.specs.inner.Parts.{count_at, parts_of, place_of}
use Rattle.cursors.proofs.Cursors.{parts-lower, progress-is, take-cut}
use Rattle.cursors.proofs.part.Part.in_use.Goals as goal

pub returns-clause-parts : goal.returns-clause-parts
returns-clause-parts g c =
    let xs = c.parts-parts.result.now in
    let count = c.parts_at-count.result in
    ap (λ n. map progress (take n xs)) c.min.ensures
    ∙ (take-cut progress count xs ∙ (ap (take count) c.parts-parts.ensures
    ∙ ap (λ at. take at (parts_of c.args.self.now)) (c.parts_at-count.ensures ∙ ap count_at c.place.ensures)))

pub returns-clause-lower : goal.returns-clause-lower
returns-clause-lower g c =
    rw (returns-clause-parts g c, progress-is c.args.self.now) (parts-lower (place_of c.args.self.now) (parts_of c.args.self.now))

pub slice_bounds-result-end : goal.slice_bounds-result-end
slice_bounds-result-end g c = grind (arith, common_steps)
