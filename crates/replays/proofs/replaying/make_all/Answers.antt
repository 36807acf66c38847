use Rattle.std.proofs.Common.{◌++◌, ◌+◌, ◌∙◌, List, ap, arith, drop, sym, take, take-append-drop}
use Rattle.std.proofs.lemmas.List.{drop_more, length-take-le}
use Rattle.record_lines.specs.declared.entry.Entry.{Entry}
use Rattle.record.proofs.Exits.{handed-on}
use Rattle.replays.proofs.replaying.make_all.Goals as goal

pub returns-in_err-make-clause-differs : goal.returns-in_err-make-clause-differs
returns-in_err-make-clause-differs c =
    let told = c.entries-told.result.now in
    let k = c.loop-number.number in
    let low = c.loop-number-test.true in
    handed-on c.from_residual.result c.in_err-make.field-0.0 _ _ c.from_residual.ensures.1 (
    c.in_err-make.ensures.differs c.args.recording.now (take k told) (drop (k + 1) told) (sym (length-take-le k told (omega (arith, low))))
    c.loop-number.invariant
    (sym c.entries-told.ensures.value ∙ sym (take-append-drop k told) ∙ ap (λ (l : List Entry). take k told ++ l) (drop_more told k _ low)))
