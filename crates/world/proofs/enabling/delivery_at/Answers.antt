use Rattle.std.proofs.Common.{arith}
use Rattle.std.proofs.lemmas.Grind.{common_steps}
use Rattle.world.proofs.enabling.delivery_at.Goals as goal

pub returns-in_err-kept : goal.returns-in_err-kept
returns-in_err-kept c = grind (arith, common_steps)

pub returns-in_err-index-in-Request : goal.returns-in_err-index-in-Request
returns-in_err-index-in-Request c = grind (arith, common_steps)

pub returns-in_err-cache-in-Head : goal.returns-in_err-cache-in-Head
returns-in_err-cache-in-Head c = grind (arith, common_steps)

pub returns-in_err-index-in-Response : goal.returns-in_err-index-in-Response
returns-in_err-index-in-Response c = grind (arith, common_steps)

pub returns-in_ok-index-in-Request : goal.returns-in_ok-index-in-Request
returns-in_ok-index-in-Request c = grind (arith, common_steps)

pub returns-in_ok-cache-in-Head : goal.returns-in_ok-cache-in-Head
returns-in_ok-cache-in-Head c = grind (arith, common_steps)

pub returns-in_ok-index-in-Response : goal.returns-in_ok-index-in-Response
returns-in_ok-index-in-Response c = grind (arith, common_steps)
