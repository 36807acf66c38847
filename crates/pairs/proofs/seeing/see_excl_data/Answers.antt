use Rattle.std.proofs.Common.{◌∙◌, ap, arith}
use Rattle.std.proofs.lemmas.Grind.{common_steps}
use Rattle.pairs.specs.Pairs.{is_few_side}
use Rattle.pairs.proofs.Taking.{few-less_excl_data, few-with_first}
use Rattle.pairs.proofs.seeing.see_excl_data.Goals as goal

pub see_event-requires : goal.see_event-requires
see_event-requires c = (
  few-with_first c.args.pair.now c.take_data.new.self
      (λ few. ap is_few_side c.take_data.ensures ∙ few-less_excl_data c.args.pair.now.first few) c.requires.0,
  record { first = grind (arith, common_steps); second = grind (arith, common_steps) },
)
