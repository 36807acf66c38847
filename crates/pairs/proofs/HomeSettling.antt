-- What is seen where the actions of a home are done.
use Rattle.std.proofs.Common.{◌≡◌, ◌∙◌, if◌then◌else◌, Bool, true, false, Option, Some, None, refl, ap, sym}
use Rattle.directory_table.specs.declared.state.DirectoryState.{DirectoryState}
use Rattle.pairs.specs.declared.side.Lag.{Lag}
use Rattle.pairs.specs.declared.pair.Pair.{Pair}
use Rattle.pairs.specs.declared.steps.Party.{Party}
use Rattle.pairs.specs.declared.steps.Scene.{Scene}
use Rattle.pairs.specs.declared.steps.Sight.TheVariants.{Lost}
use Rattle.pairs.specs.Pairs.{is_few}
use Rattle.pairs.specs.Sights.{home_left, home_settled, lag_after, lag_settled, looked_at}
use Rattle.pairs.specs.inner.Following.{few_scene}

few-none : (b : Bool) (s : Scene) → ◌≡◌ {A = Option Scene} None (if b then Some s else None) → b ≡ false
few-none true s e = cc
few-none false s e = refl

some-few : (b : Bool) (s r : Scene) → Some r ≡ (if b then Some s else None) → r ≡ s
some-few true s r e = cc
some-few false s r e = cc

lost : (concerned : Party) (lag : Option Lag) (p : Pair) → is_few p ≡ false → lag_settled concerned lag p ≡ Lost
lost concerned None p e = refl
lost concerned (Some lag) p e = rw e refl

-- where the pair isn't few, it is lost
pub settled-many : (concerned : Party) (next : DirectoryState) (s : Scene) → None ≡ few_scene s → home_settled concerned next s ≡ Lost
settled-many concerned next s none = lost concerned (lag_after s.debt s.pair.first.lag) (home_left next s) (few-none (is_few s.pair) s none)

-- else it is looked at with the lag that it has then
pub settled-few : (concerned : Party) (next : DirectoryState) (s after : Scene) (lag : Lag) → Some after ≡ few_scene s →
    Some lag ≡ lag_after after.debt after.pair.first.lag →
    home_settled concerned next s ≡ looked_at concerned (let p : Pair = home_left next after in record p { first = record p.first { lag = lag } })
settled-few concerned next s after lag few is =
    ap (λ (t : Scene). home_settled concerned next t) (sym (some-few (is_few s.pair) s after few))
    ∙ ap (λ (o : Option Lag). lag_settled concerned o (home_left next after)) (sym is)
