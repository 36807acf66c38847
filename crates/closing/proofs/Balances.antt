-- What the check looks at keeps the balance.
use Rattle.std.proofs.Common.{List, subst, Contains}
use Rattle.std.specs.Global.{Vec}
use Rattle.tables.specs.Tables.{Tables}
use Rattle.pairs.specs.declared.pair.Pair.{Pair}
use Rattle.pairs.specs.declared.steps.Party.{Party}
use Rattle.pairs.specs.declared.steps.Rule.{Rule}
use Rattle.pairs.specs.declared.steps.Sight.{Sight}
use Rattle.closing.specs.declared.following.Followed.{Followed}
use Rattle.closing.specs.declared.ranked.RankedPair.{RankedPair}
use Rattle.closing.specs.inner.Told.{AreBalanced, AreTold, IsTold, KeepsBalanceIn}
use Rattle.closing.specs.Ranked.{Balanced, KeepsBalance, Sees, SeesAtHome}
use Rattle.closing.proofs.Reading.{contained-at}

module _ (tables : Tables) (list : List RankedPair) (steps : List (Vec Followed)) (told : AreTold tables list steps) (all : AreBalanced tables list steps) where
  step-balanced : (r : RankedPair) (rule : Rule) (concerned : Party) (q : Pair) → Contains list r → Sees tables rule r.pair concerned q →
      KeepsBalance concerned r.pair q
  step-balanced r rule concerned q has sees =
      let at = contained-at list r has in
      let mine = told at.0 r at.1 in
      let f = contained-at mine.0.items (record { rule = rule; concerned = concerned; after = q })
      (subst (λ (s : Sight). IsTold mine.0.items rule s) sees.1 (mine.2.told rule sees.0)) in
      (all at.0 r mine.0 at.1 mine.1).steps f.0 _ f.1

  home-balanced : (r : RankedPair) (concerned : Party) (q : Pair) → Contains list r → SeesAtHome tables r.pair concerned q → KeepsBalance concerned r.pair q
  home-balanced r concerned q has sees =
      let at = contained-at list r has in
      let mine = told at.0 r at.1 in
      subst (λ (s : Sight). KeepsBalanceIn r.pair s) sees.1 ((all at.0 r mine.0 at.1 mine.1).home_data sees.0)

  pub checked-balanced : Balanced tables list
  checked-balanced = record { steps = step-balanced; home_data = home-balanced }
