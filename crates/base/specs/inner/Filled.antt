use Rattle.std.specs.Prelude.{◌≡◌, ◌-◌, ◌≤◌, ◌++◌, List, length, take, replicate}
use Rattle.std.proofs.Common.{ap, sym}
use Rattle.base.specs.declared.controller.actions.Actions.TheInside.{Inside}

-- there are at most eight actions, and what stands behind them is always the same
pub record IsFilled {A : Type 0} (head : A) (a : Inside A) : Type 0 where
  pub few : a.count ≤ 8
  pub counted : length (take a.count a.items) ≡ a.count
  pub rest : a.items ≡ take a.count a.items ++ replicate (8 - a.count) head

-- the fields that hold these actions
abbrev pub filled : {A : Type 0} → A → List A → Inside A
filled head actions = record { items = actions ++ replicate (8 - length actions) head; count = length actions }

-- the actions give their fields back
pub filled_back : {A : Type 0} (head : A) (a : Inside A) → IsFilled head a → filled head (take a.count a.items) ≡ a
filled_back {A} head a h =
    rw h.counted (ap (λ items. let b : Inside A = record { items = items; count = a.count } in b) (sym h.rest))
