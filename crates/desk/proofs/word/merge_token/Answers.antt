use Rattle.std.proofs.Common.{arith}
use Rattle.desk.proofs.Drawing.{merges}
use Rattle.desk.proofs.word.merge_token.Goals as goal

pub join_seat-requires : goal.join_seat-requires
join_seat-requires c =
    let r = c.requires in (
      r.token.table,
      r.other.table,
      r.other.free,
      omega (arith, r.token.one),
      merges c.args.word.now.shared.key c.args.token.now.id c.args.other.id
          c.args.token.now.me.0 c.args.other.me.0,
    )
