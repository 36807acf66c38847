use Rattle.std.proofs.Common.{arith}
use Rattle.desk.proofs.Drawing.{steps}
use Rattle.desk.proofs.word.draw_number.Goals as goal

pub fetch_add-number-requires : goal.fetch_add-number-requires
fetch_add-number-requires c =
    let r = c.requires in (
      r.of_word.table,
      omega (arith, r.of_word.one),
      steps c.args.word.now.shared.key c.args.word.now.shared.table_id.slots c.args.token.now.id c.args.token.now.me
          r.count_is r.part r.small r.on,
    )
