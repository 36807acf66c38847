use Rattle.std.proofs.Common.{[], refl, ap, sym, subst}
use Rattle.std.proofs.KnownBytes.{Consumes-nil}
use Rattle.std.specs.Io.KnownBytes.{Consumes}
use Rattle.record.specs.inner.Drafts.{kept}
use Rattle.record_lines.specs.Reading.{Gathered, stream}
use Rattle.record_lines.proofs.Streams.{none-held}
use Rattle.record.proofs.reader.Reader.open.Goals as goal

pub returns-clause-reading : goal.returns-clause-reading
returns-clause-reading g c left =
    let none = c.in_ok-open.ensures in
    let draft = c.in_ok-open-2.field-0 in
    record {
      recording = kept draft;
      read = record {
        head = refl;
        read = c.in_ok-open-2.ensures.read;
        told = c.requires.none;
      };
      taken = record {
        lines = [];
        follow = refl;
        told = refl;
        number = ap (λ (l : Gathered). l.number) none;
        taken =
            subst (λ (l : Gathered). Consumes left (stream l left) []) (sym none) (subst (λ b. Consumes left b []) (sym (none-held left)) (Consumes-nil left));
      };
    }
