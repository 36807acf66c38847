use Rattle.std.proofs.Common.{◌≡◌, List, [], ◌∷◌, false, subst, arith}
use Rattle.base.specs.declared.step.Outcome.{Outcome}
use Rattle.cores.specs.Cores.{Core, is_free}
use Rattle.machine.specs.Completions.{Completion, completed_by}
use Rattle.moment.specs.inner.Noting.{AreBusy}
use Rattle.moment.proofs.noting.finish.Goals as goal

busy : (c : Completion) (cores : List Core) → AreBusy (c ∷ []) cores → is_free cores c.cache.0 ≡ false
busy c cores h = h 0 c (omega arith)

pub finish-requires : goal.finish-requires
finish-requires c = busy _ _ (subst (λ (o : Outcome). AreBusy (completed_by c.args.step o) c.args.cores.now) c.in-Load.is c.requires)

pub finish-requires-in-Store : goal.finish-requires-in-Store
finish-requires-in-Store c = busy _ _ (subst (λ (o : Outcome). AreBusy (completed_by c.args.step o) c.args.cores.now) c.in-Store.is c.requires)
