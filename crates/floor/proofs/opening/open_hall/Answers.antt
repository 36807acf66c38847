use Rattle.std.proofs.Common.{◌≡◌, ◌∙◌, ap, sym, subst, [], ℕ, List, None, arith}
use Rattle.std.proofs.lemmas.Grind.{common_steps}
use Rattle.trials.specs.Terms.{Terms}
use Rattle.floor.specs.FloorId.{FloorId}
use Rattle.floor.specs.inner.Keeping.{AreParts, IsKeptUp}
use Rattle.floor.proofs.Entering.{kept_first}
use Rattle.floor.proofs.Recounting.{shared_first}
use Rattle.floor.proofs.opening.open_hall.Goals as goal

pub invariant_of-hall : goal.invariant_of-hall
invariant_of-hall g c =
    let parts = c.in_ok-world.ensures in
    let setup : c.args.setup.now ≡ g.F.Naming.floor.setup = ap (λ (f : FloorId). f.setup) (sym c.requires.name) in
    let seats : c.args.seats ≡ g.F.Naming.floor.seats = ap (λ (f : FloorId). f.seats) (sym c.requires.name) in (
      subst (λ (owners : List ℕ). IsKeptUp g.F.Naming.floor c.in_ok-world.world c.in_ok-world.watch c.in_ok-world.recording owners None)
          (sym c.new.ensures.items) (kept_first g.F.Naming.floor c.in_ok-world.world c.in_ok-world.watch c.in_ok-world.recording
          (subst (λ (t : Terms). AreParts g.F.Naming.floor.seats t c.in_ok-world.world c.in_ok-world.watch c.in_ok-world.recording) setup
          (subst (λ n. AreParts n c.args.setup.now c.in_ok-world.world c.in_ok-world.watch c.in_ok-world.recording) seats parts))),
      record {
        capacity_is = grind (arith, common_steps);
        seats_is = grind (arith, common_steps);
        some = grind (arith, common_steps);
        few = grind (arith, common_steps);
        shared = shared_first g.F.Naming.floor.seats c.args.setup.now c.in_ok-world.world c.in_ok-shares.shares.items parts.starts
            (c.in_ok-shares.ensures.count ∙ seats) c.in_ok-shares.ensures.none;
        within = grind (arith, common_steps);
        table_is = grind (arith, common_steps);
        one = grind (arith, common_steps);
        token_is = grind (arith, common_steps);
        keeps = grind (arith, common_steps);
      },
    )

pub returns-in_err-world : goal.returns-in_err-world
returns-in_err-world g c = grind (arith, common_steps)

pub returns : goal.returns
returns g c = grind (arith, common_steps)
