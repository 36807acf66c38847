use Rattle.std.proofs.Common.{◌+◌, subst, sym}
use Rattle.record_lines.specs.declared.due.Due.TheVariants.{Header}
use Rattle.record_lines.specs.Refused.{IsRefused}
use Rattle.record.proofs.Steps.{no-room}
use Rattle.record.proofs.reading.read_text.Goals as goal

pub returns-in_default-clause-refused : goal.returns-in_default-clause-refused
returns-in_default-clause-refused g c = record {
  refused = no-room (g.S.Source.left c.args.source.now);
  device = λ e. absurd (cc e);
}

pub returns-in-Err-clause-refused : goal.returns-in-Err-clause-refused
returns-in-Err-clause-refused g c = record {
  refused =
      subst (λ n. IsRefused (g.S.Source.left c.args.source.now) (g.S.Source.left c.read_all.new.source) 0 Header (n + 1) c.in-Err.kind)
      (sym c.number.ensures) c.in-Err.ensures.fault;
  device = c.in-Err.ensures.device;
}
