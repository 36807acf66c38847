use Rattle.std.proofs.Common.{◌≡◌, All, arith, length, subst, sym}
use Rattle.std.proofs.lemmas.Grind.{common_steps}
use Rattle.std.proofs.lemmas.List.Elements.{All-push}
use Rattle.world.specs.inner.Counts.{Rows, none_counted}
use Rattle.floor.proofs.shares.open_shares.Goals as goal

pub loop-preserved : goal.loop-preserved
loop-preserved c = record {
  count = grind (arith, common_steps);
  none = subst (All (λ (rows : Rows). rows ≡ none_counted (length c.args.setup.now.opening))) (sym c.in_ok-push.ensures.items)
      (All-push (λ (rows : Rows). rows ≡ none_counted (length c.args.setup.now.opening)) c.loop.shares.items c.in_ok-counts.counts c.loop.invariant.none
      (grind (arith, common_steps)));
}
