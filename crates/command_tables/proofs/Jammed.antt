-- A world without a delivery, in which messages are on their way, shows that messages get stuck.
use Rattle.std.proofs.Common.{◌≡◌, ◌<◌, ◌∙◌, ℕ, suc, List, [], ◌∷◌, ◌++◌, length, Some, Bool, true, false, ◌&&◌, slice_get, IsTrue, refl, sym, ap}
use Rattle.std.proofs.Common.{subst, append_assoc, arith}
use Rattle.std.proofs.lemmas.List.{append-nil, length-append}
use Rattle.base.specs.Extent.{Extent}
use Rattle.base.specs.Spelling.{IsStepLine}
use Rattle.base.specs.declared.ids.BlockId.{BlockId}
use Rattle.base.specs.declared.step.Step.{Step}
use Rattle.network.specs.Traffic.{is_quiet}
use Rattle.tables.specs.Tables.{Tables}
use Rattle.machine.specs.Block.{BlockState}
use Rattle.machine.specs.Machine.{State, IsHistory, opened, after}
use Rattle.machine.specs.Unstuck.{Flowing}
use Rattle.world.specs.Enabled.{enabled_steps}
use Rattle.world.specs.Looks.{all_quiet}
use Rattle.world.specs.View.{View, LeadsOn}
use Rattle.schedule.proofs.Disabled.{nothing-delivers}
use Rattle.command_tables.specs.Jams.{GetsStuck, Tells}
use Rattle.command_tables.specs.inner.Leading.{IsFresh, HasGoneOn}

is-quiet : (t : Bool) → ¬ (¬ IsTrue t) → t ≡ true
is-quiet true h = refl
is-quiet false h = absurd (h (λ e. absurd (cc e)))

blocks-quiet : (bs : List BlockState) → ((k : ℕ) (b : BlockState) → slice_get bs k ≡ Some b → is_quiet b.traffic ≡ true) → all_quiet bs ≡ true
blocks-quiet [] h = refl
blocks-quiet (b ∷ bs) h = ap (λ t. t && all_quiet bs) (h 0 b refl) ∙ blocks-quiet bs (λ k c e. h (suc k) c e)

empty : (steps : List Step) → length steps ≡ 0 → steps ≡ []
empty [] e = refl
empty (s ∷ steps) e = absurd (omega arith)

-- where messages are on their way and no delivery is enabled, messages don't flow
pub jammed : (tables : Tables) (state : State) → state.broken ≡ false → all_quiet state.blocks ≡ false → length (enabled_steps tables state) ≡ 0 →
    ¬ Flowing tables state
jammed tables state whole some none flowing =
    let quiet : all_quiet state.blocks ≡ true = blocks-quiet state.blocks (λ k b at.
    let block : BlockId = record { 0 = k } in
    is-quiet (is_quiet b.traffic)
    (λ moving. let moves = (flowing block b at).moves moving in
    nothing-delivers tables state block b moves.0 whole (empty (enabled_steps tables state) none) at moves.1)) in
    let no : false ≡ true = sym some ∙ quiet in absurd (cc)

tells-more : (text rest line behind : List ℕ) (steps : List Step) (s : Step) → Tells text rest steps → rest ≡ line ++ 10 ∷ behind →
    IsStepLine line s → Tells text behind (steps ++ s ∷ [])
tells-more text rest line behind [] s told at is = (line, behind, told ∙ at, is, refl)
tells-more text rest line behind (x ∷ steps) s told at is =
    (told.0, told.1, told.2, told.3, tells-more told.1 rest line behind steps s told.4 at is)

pub gone-more : (old mid new : View) (text rest line behind : List ℕ) (s : Step) → HasGoneOn old text rest mid →
    rest ≡ line ++ 10 ∷ behind → IsStepLine line s → LeadsOn mid (s ∷ []) new → new.tables ≡ mid.tables → new.shape ≡ mid.shape →
    HasGoneOn old text behind new
gone-more old mid new text rest line behind s gone at is leads under shape = record {
  steps = gone.steps ++ s ∷ [];
  told = tells-more text rest line behind gone.steps s gone.told at is;
  leads = λ opening before h. subst (λ ss. IsHistory new.shape new.tables opening ss new.state) (append_assoc before gone.steps (s ∷ []))
      (leads opening (before ++ gone.steps) (gone.leads opening before h));
  under = under ∙ gone.under;
  shape = shape ∙ gone.shape;
}

pub stuck-run : (tables : Tables) (text : List ℕ) (old new : View) → IsFresh tables old → HasGoneOn old text [] new →
    ¬ Flowing new.tables new.state → GetsStuck tables text
stuck-run tables text old new fresh gone stuck =
    let history : IsHistory new.shape new.tables (0 ∷ []) gone.steps new.state = gone.leads (0 ∷ []) [] fresh.history in
    let there : ¬ Flowing new.tables (after new.tables (opened new.shape (0 ∷ [])) gone.steps).state =
    subst (λ s. ¬ Flowing new.tables s) (sym history.leads) stuck in
    let under : ¬ Flowing tables (after tables (opened new.shape (0 ∷ [])) gone.steps).state =
    subst (λ (t : Tables). ¬ Flowing t (after t (opened new.shape (0 ∷ [])) gone.steps).state) (gone.under ∙ fresh.under) there in
    record {
      steps = gone.steps;
      told = gone.told;
      stuck = subst (λ (e : Extent). ¬ Flowing tables (after tables (opened e (0 ∷ [])) gone.steps).state) (gone.shape ∙ fresh.shape) under;
    }
