use Rattle.std.proofs.Common.{arith}
use Rattle.desk.proofs.Drawing.{deals}
use Rattle.desk.proofs.word.deal_part.Goals as goal

pub split_seat-requires : goal.split_seat-requires
split_seat-requires c =
    let r = c.requires in (
      r.of_word.table,
      omega (arith, r.of_word.one),
      deals c.args.word.now.shared.key c.args.token.now.id c.args.token.now.me.0 r.unused r.some,
    )
