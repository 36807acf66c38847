use Rattle.std.proofs.Common.{◌≡◌, ◌∙◌, List, [], ◌∷◌, Bool, ap, arith, length, map, refl, set}
use Rattle.std.proofs.lemmas.Grind.{common_steps}
use Rattle.base.specs.declared.step.CoreAsk.{CoreAsk}
use Rattle.schedule.specs.Listed.{is_unheld}
use Rattle.schedule.proofs.asks.Asks.put_alone.Goals as goal

-- the only mark is made anew for another ask
only-mark : (f : CoreAsk → Bool) (asks : List CoreAsk) (marks : List Bool) (ask : CoreAsk) → length asks ≡ 1 → length marks ≡ length asks →
    set marks 0 (f ask) ≡ map f (set asks 0 ask)
only-mark f [] marks ask one long = absurd (omega (arith, one))
only-mark f (x ∷ []) [] ask one long = absurd (omega (arith, long))
only-mark f (x ∷ []) (m ∷ []) ask one long = refl
only-mark f (x ∷ []) (m ∷ k ∷ marks) ask one long = absurd (omega (arith, long))
only-mark f (x ∷ y ∷ asks) marks ask one long = absurd (omega (arith, one))

pub returns-clause-marked : goal.returns-clause-marked
returns-clause-marked c =
    let one : length c.self.inside.asks.items ≡ 1 = grind (arith, common_steps) in
    c.set.ensures
    ∙ ap (set c.self.inside.unheld 0) c.is_unheld.ensures
    ∙ only-mark (is_unheld c.args.world.now.tables c.args.world.now.state) c.self.inside.asks.items c.self.inside.unheld c.args.ask one
    c.self.invariant.0.long
