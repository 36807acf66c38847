use Rattle.std.proofs.Common.{rules}
use Rattle.machine.proofs.Making.{next-told}
use Rattle.replays.proofs.Makings.{differs-more, made-more}
use Rattle.replays.proofs.making.Run.make.Goals as goal

pub returns-then-ne-clause-differs : goal.returns-then-ne-clause-differs
returns-then-ne-clause-differs c r done rest is h all =
    differs-more r done rest c.args.entry c.args.self.now.world c.make.new.self c.args.self.now.watch c.args.self.now.violation c.in-Ok.made.outcome
    c.args.number is h all (next-told _ _ _ c.in-Ok.made _ c.in-Ok.ensures.ok.told) (search rules)

pub returns-clause-ok : goal.returns-clause-ok
returns-clause-ok c r done is h =
    made-more r done c.args.entry c.args.self.now.world c.make.new.self c.args.self.now.watch c.see_made-seen.new.self c.args.self.now.violation _
    c.see_made-seen.result c.in-Ok.made.outcome c.args.number c.note.ensures is h
    (next-told _ _ _ c.in-Ok.made _ c.in-Ok.ensures.ok.told) c.in-Ok.ensures.ok.shape c.in-Ok.ensures.ok.tables (search rules)
    c.see_made-seen.ensures.history c.see_made-seen.ensures.seen
