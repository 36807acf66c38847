use Rattle.std.proofs.Common.{ap, arith, length}
use Rattle.record.proofs.Whole.{pieces-count}
use Rattle.record.proofs.recording.Recording.count_of_pieces.Goals as goal

pub returns-clause-count : goal.returns-clause-count
returns-clause-count c = omega (arith, pieces-count c.args.self.now, ap length c.opening.ensures.value, ap length c.entries.ensures.value)

pub returns-clause-few : goal.returns-clause-few
returns-clause-few c =
    omega (
      arith,
      c.opening.ensures.each,
      c.opening.ensures.within.few_blocks,
      ap length c.opening.ensures.value,
      ap length c.entries.ensures.value,
      c.entries.ensures.few,
    )

pub returns-clause-kept : goal.returns-clause-kept
returns-clause-kept c = record {
  within = c.opening.ensures.within;
  each = c.opening.ensures.each;
  few = c.entries.ensures.few;
  owners = c.entries.ensures.owned;
}
