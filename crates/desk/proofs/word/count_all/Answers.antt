use Rattle.std.proofs.Common.{min, arith}
use Rattle.desk.proofs.Drawing.{tells}
use Rattle.desk.proofs.word.count_all.Goals as goal

pub load-requires : goal.load-requires
load-requires c =
    let r = c.requires in (
      r.of_word.table,
      omega (arith, r.of_word.one),
      tells c.args.word.now.shared.key c.args.word.now.shared.table_id.slots c.args.token.now.id c.args.token.now.me
          r.count_is r.all,
    )

pub returns : goal.returns
returns c =
    let e = c.load.ensures.2 in record {
      c = min c.load.result c.args.token.now.me.0.count;
      within = omega arith;
      each = e.0;
      all = λ yes. let far = e.1 yes in omega (arith, far);
    }
