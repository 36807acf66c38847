use Rattle.std.proofs.Common.{Contains, true, false, refl, arith}
use Rattle.pairs.specs.declared.steps.Rule.{Rule}
use Rattle.pairs.specs.declared.steps.Rule.TheVariants.{AsksLoad, AsksStore, AsksReplacement, TakesHead}
use Rattle.pairs.specs.declared.steps.Rule.TheVariants.{SentGetS, SentGetM, SentPutS, SentPutM, GetsDirData, GetsOwnerData, GetsExclData, GetsInvAck}
use Rattle.pairs.specs.declared.steps.TheConstants as constants
use Rattle.pairs.proofs.steps.each_rule_is_listed.Goals as goal

-- each rule at its place
listed : (rule : Rule) → Contains constants.Rule.ALL rule
listed AsksLoad = (0, omega arith, refl)
listed AsksStore = (1, omega arith, refl)
listed AsksReplacement = (2, omega arith, refl)
listed TakesHead = (3, omega arith, refl)
listed SentGetS = (4, omega arith, refl)
listed SentGetM = (5, omega arith, refl)
listed SentPutS = (6, omega arith, refl)
listed SentPutM = (7, omega arith, refl)
listed GetsDirData = (8, omega arith, refl)
listed GetsOwnerData = (9, omega arith, refl)
listed GetsExclData = (10, omega arith, refl)
listed (GetsInvAck false false) = (11, omega arith, refl)
listed (GetsInvAck false true) = (12, omega arith, refl)
listed (GetsInvAck true false) = (13, omega arith, refl)
listed (GetsInvAck true true) = (14, omega arith, refl)

pub returns : goal.returns
returns c = listed
