use Rattle.std.proofs.Common.{◌+◌, ap, arith, inl, inr, length, refl, subst, sym, ◌∙◌, []}
use Rattle.std.proofs.lemmas.Bool.{cases_eq}
use Rattle.std.proofs.lemmas.List.{take_all}
use Rattle.record.specs.Recordable.{AreWhole}
use Rattle.record.specs.Text.{changed_cells}
use Rattle.record.specs.inner.Pieces.{IsOut, PieceFits, pieces, places_before}
use Rattle.record.proofs.Exits.{handed-on}
use Rattle.record.proofs.Outs.{cut-at, out-more}
use Rattle.record.proofs.Whole.{flat, cut-text, out-text, pieces-count}
use Rattle.record.proofs.recording.Recording.write.Goals as goal

pub piece-piece-requires-clause-changed : goal.piece-piece-requires-clause-changed
piece-piece-requires-clause-changed g c = c.count_changed-changed.ensures.count ∙ ap (λ t. length (changed_cells t)) c.tables.ensures

pub loop-number-preserved : goal.loop-number-preserved
loop-number-preserved g c =
    let r = c.args.self.now in
    let low = c.loop-number-test.true in
    let count = c.count_of_pieces-number-end.ensures.count in (
      out-more (λ piece. piece) (pieces r) c.loop-number.number [] _ (g.S.Sink.taken c.loop-number.sink) _ 0 c.loop-number.written _ c.as_slice.result.now
          (omega (arith, low, count)) (c.as_slice.ensures.text ∙ c.piece-piece.ensures.piece.is) c.loop-number.invariant.0 c.in_ok-written.ensures.ok,
      c.in_ok-written.ensures.mark ∙ c.loop-number.invariant.1,
      omega (arith, c.in_ok-written.ensures.ok.sum, ap length c.as_slice.ensures.text, c.piece-piece.ensures.piece.short, c.loop-number.invariant.2),
      λ n below. elim (cases_eq n c.loop-number.number) [
        | inl here ↦ subst (PieceFits r) (sym here) c.piece-piece.ensures.fits
        | inr not ↦ c.loop-number.invariant.3 n (omega (arith, below, not))
      ],
    )

pub returns-clause-written : goal.returns-clause-written
returns-clause-written g c =
    let r = c.args.self.now in
    let count = c.count_of_pieces-number-end.ensures.count in
    let kept = c.count_of_pieces-number-end.ensures.kept in
    let end = c.loop-number-test.false in
    let all = pieces-count r in
    let old = g.S.Sink.taken c.args.sink.now in
    let new = g.S.Sink.taken c.loop-number.sink in
    record {
      sent =
          out-text r old new c.loop-number.written
          (subst (λ l. IsOut old new (flat l) 0 c.loop-number.written)
          (take_all c.loop-number.number (pieces r) (omega (arith, count, end))) c.loop-number.invariant.0);
      recordable = record {
        shape = kept.within;
        tables = subst AreWhole c.tables.ensures c.count_changed-changed.ensures.whole;
        opening = record {
          each = kept.each;
          small = λ k d low. (c.loop-number.invariant.3 (k + 1) (omega (arith, low, count, all, end))).value k d refl low;
        };
        few = kept.few;
        owners = kept.owners;
        fits = λ k d low. (c.loop-number.invariant.3 (places_before r + k) (omega (arith, low, count, all, end))).entry k d refl low;
      };
    }

pub returns-in_err-written-clause-written : goal.returns-in_err-written-clause-written
returns-in_err-written-clause-written g c =
    let low = c.loop-number-test.true in
    let count = c.count_of_pieces-number-end.ensures.count in
    let cut = cut-text c.args.self.now _ _ _
    (cut-at (λ piece. piece) (pieces c.args.self.now) c.loop-number.number [] _
    (g.S.Sink.taken c.loop-number.sink) _ 0 c.loop-number.written _ c.as_slice.result.now
    (omega (arith, low, count)) (c.as_slice.ensures.text ∙ c.piece-piece.ensures.piece.is) c.loop-number.invariant.0 c.in_err-written.ensures.err) in
    handed-on c.from_residual.result _ _ _ c.from_residual.ensures.1 (record { sent = cut.0; short = cut.1 })
