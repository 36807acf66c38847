use Rattle.std.proofs.Common.{ap, length, arith}
use Rattle.record.proofs.Telling.{ready-taken}
use Rattle.record.proofs.reader.Reader.accept.Goals as goal

pub returns-clause-ready : goal.returns-clause-ready
returns-clause-ready g c =
    let read = c.requires.read in
    ready-taken g.N.Entries.has_room c.args.self.now _ _ c.requires.ready (c.in_ok-self.ensures.ok read.0 read.1).taken.leads c.accept.ensures.room
    c.accept.ensures.space c.take_off.ensures

pub accept-requires-clause-space : goal.accept-requires-clause-space
accept-requires-clause-space g c = c.requires.ready.space 1 (omega (arith, ap length c.requires.line.whole.1))
