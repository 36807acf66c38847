use Rattle.std.proofs.Common.{◌≡◌, List, [], ◌∷◌, ◌++◌, ℕ, refl, ap, sym, ◌∙◌}
use Rattle.base.specs.declared.step.Step.{Step}
use Rattle.tables.specs.Tables.{Tables}
use Rattle.machine.specs.Machine.{State, next, state_after, opened, IsHistory}
use Rattle.world.specs.View.{View}

-- steps lead on from where the ones before them led
pub state_after-append : (tables : Tables) (s : State) (xs ys : List Step) → state_after tables s (xs ++ ys) ≡ state_after tables (state_after tables s xs) ys
state_after-append tables s [] ys = refl
state_after-append tables s (x ∷ xs) ys = state_after-append tables (next tables s x).state xs ys

-- a history goes on by the steps that a world makes
pub history-append : (old new : View) (opening : List ℕ) (before steps : List Step) → IsHistory old.shape old.tables opening before old.state →
    new.shape ≡ old.shape → new.tables ≡ old.tables → new.state ≡ state_after old.tables old.state steps →
    IsHistory new.shape new.tables opening (before ++ steps) new.state
history-append old new opening before steps h shape tables state =
    rw (shape, tables) (record {
      opens = h.opens;
      leads = state_after-append old.tables (opened old.shape opening) before steps ∙ ap (λ (s : State). state_after old.tables s steps) h.leads ∙ sym state;
    })
