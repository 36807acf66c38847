use Rattle.std.proofs.Common.{◌∙◌, ap, sym}
use Rattle.pairs.proofs.HomeSettling.{settled-few, settled-many}
use Rattle.pairs.specs.declared.pair.Pair.{Pair}
use Rattle.pairs.specs.declared.steps.Party.{Party}
use Rattle.pairs.specs.Sights.{concerned_by, home_acts, looked_at}
use Rattle.pairs.proofs.homes.see_act.Goals as goal

pub returns-in_default : goal.returns-in_default
returns-in_default c =
    (sym (settled-many _ c.args.next (home_acts c.args.asked c.args.value c.args.actions.now c.args.scene.now) c.in_default.ensures.scene), tt)

pub returns : goal.returns
returns c = (
  c.look_at.ensures.0
      ∙ ap (λ (p : Party). looked_at p (record c.left-left.result { first = record c.left-left.result.first { lag = c.in-Some-moved.lag } }))
      c.concerned.ensures
      ∙ ap (λ (p : Pair). looked_at (concerned_by c.args.asked c.args.actions.now c.args.scene.now.owner)
      (record p { first = record p.first { lag = c.in-Some-moved.lag } })) c.left-left.ensures
      ∙ sym (settled-few _ c.args.next (home_acts c.args.asked c.args.value c.args.actions.now c.args.scene.now) c.in-Some.after
      c.in-Some-moved.lag c.in-Some.ensures.scene c.in-Some-moved.ensures),
  c.look_at.ensures.1,
)
