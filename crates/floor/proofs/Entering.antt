-- One entry more keeps what the lock keeps.
use Rattle.std.proofs.Common.{◌≡◌, ◌<◌, ◌≤◌, ℕ, List, [], ◌∷◌, ◌++◌, ◌+◌, Option, None, Some}
use Rattle.std.proofs.Common.{true, length, take, refl, sym, ap, ◌∙◌, subst, inl, inr, arith, length-append}
use Rattle.std.proofs.lemmas.List.{map_push, length-map, take-append-le}
use Rattle.base.specs.Extent.{Extent}
use Rattle.base.specs.declared.step.Step.{Step}
use Rattle.tables.specs.Tables.{Tables}
use Rattle.machine.specs.declared.made.Made.{Made}
use Rattle.machine.specs.Machine.{State, Next, next, opened, state_after, outcomes_of}
use Rattle.machine.proofs.Making.{next-told}
use Rattle.machine.specs.Completions.{completions_of}
use Rattle.world.specs.View.{View, stepped}
use Rattle.monitor.specs.declared.violation.Violation.{Violation}
use Rattle.monitor.specs.Scenes.{Answers}
use Rattle.monitor.specs.Violations.{AnswersFirst}
use Rattle.monitor.specs.Watching.{HasSeen, LeadTo, AnswersHistory, SeesNext, AreDue, made_after, scene_after}
use Rattle.monitor.proofs.FirstViolations.{first_seen, first-push}
use Rattle.record_lines.specs.declared.entry.Entry.{Entry}
use Rattle.record.specs.View.{RecordingView, steps_of, with_owned}
use Rattle.trials.specs.Terms.{Terms}
use Rattle.floor.specs.FloorId.{FloorId}
use Rattle.floor.specs.Turning.{recorded, recorded_at, is_its}
use Rattle.floor.specs.Closing.{HaveOwners}
use Rattle.floor.specs.inner.Keeping.{AreParts, IsKeptUp, Advances}
use Rattle.floor.proofs.Lists.{get_push, take_whole}

state_push : (tables : Tables) (s : State) (xs : List Step) (step : Step) →
    state_after tables s (xs ++ step ∷ []) ≡ (next tables (state_after tables s xs) step).state
state_push tables s [] step = refl
state_push tables s (x ∷ xs) step = state_push tables (next tables s x).state xs step

outcomes_push : (tables : Tables) (s : State) (xs : List Step) (step : Step) →
    outcomes_of tables s (xs ++ step ∷ []) ≡ outcomes_of tables s xs ++ (next tables (state_after tables s xs) step).outcome ∷ []
outcomes_push tables s [] step = refl
outcomes_push tables s (x ∷ xs) step = ap (λ os. (next tables s x).outcome ∷ os) (outcomes_push tables (next tables s x).state xs step)

-- the owner of the new entry is one to whom its step belonged
owned_push : (f : FloorId) (es : List Entry) (os : List ℕ) (e : Entry) (o : ℕ) → HaveOwners f es os → o < f.seats → is_its f es o e.step ≡ true →
    HaveOwners f (es ++ e ∷ []) (os ++ o ∷ [])
owned_push f es os e o h lt mine = record {
  each = omega (arith, h.each, length-append es (e ∷ []), length-append os (o ∷ []));
  belonged = λ k x p at by. elim (get_push es e x k at) [
    | inl a ↦ elim (get_push os o p k by) [
      | inl b ↦
          let low : k ≤ length es = (let l = a.1 in omega (arith, l)) in
          subst (λ (l : List Entry). (p < f.seats) × (is_its f l p x.step ≡ true)) (sym (take-append-le k es (e ∷ []) low)) (h.belonged k x p a.0 b.0)
      | inr b ↦ absurd (let l = a.1 in let r = b.0 in omega (arith, l, r, h.each))
    ]
    | inr a ↦ elim (get_push os o p k by) [
      | inl b ↦ absurd (let l = b.1 in let r = a.0 in omega (arith, l, r, h.each))
      | inr b ↦
          let front : take k (es ++ e ∷ []) ≡ es = ap (λ n. take n (es ++ e ∷ [])) a.0 ∙ take_whole es (e ∷ []) in
          subst (λ (l : List Entry). (p < f.seats) × (is_its f l p x.step ≡ true)) (sym front)
          (subst (λ (q : ℕ). (q < f.seats) × (is_its f es q x.step ≡ true)) b.1
          (subst (λ (y : Entry). (o < f.seats) × (is_its f es o y.step ≡ true)) a.1 (lt, mine)))
    ]
  ];
}

-- one entry more, made by a step of the world that its watch has seen
kept_push : (f : FloorId) (world new : View) (watch watch' : List ℕ) (recording : RecordingView) (os : List ℕ) (violation : Option (ℕ × Violation))
    (e : Entry) (o : ℕ)
    (seen : Option Violation) →
    IsKeptUp f world watch recording os violation → o < f.seats → is_its f recording.entries o e.step ≡ true →
    next world.tables world.state e.step ≡ stepped new.state e.outcome → new.shape ≡ world.shape → new.tables ≡ world.tables →
    AnswersHistory new watch e.step e.outcome seen → SeesNext new watch e.step e.outcome watch' →
    IsKeptUp f new watch' (recorded_at f (recording.entries ++ e ∷ []) (os ++ o ∷ [])) (os ++ o ∷ []) (first_seen violation (length recording.entries) seen)
kept_push f world new watch watch' recording os violation e o seen h lt mine made shape tables answers sees =
    let es : List Entry = recording.entries in
    let setup : Terms = f.setup in
    let s : State = opened setup.shape setup.opening in
    let before : List Step = steps_of (recorded setup es) in
    let steps : steps_of (recorded setup (es ++ e ∷ [])) ≡ before ++ e.step ∷ [] = map_push (λ (e : Entry). e.step) es e in
    let here : next setup.tables (state_after setup.tables s before) e.step ≡ stepped new.state e.outcome =
    ap (λ (t : Tables). next t (state_after setup.tables s before) e.step) (sym h.tables)
    ∙ (ap (λ (x : State). next world.tables x e.step) (sym h.state) ∙ made) in
    let new_shape : new.shape ≡ setup.shape = shape ∙ h.shape in
    let new_tables : new.tables ≡ setup.tables = tables ∙ h.tables in
    let has_seen : HasSeen new setup.opening before watch =
    subst (λ (x : Extent). AreDue setup.opening (completions_of x new.tables setup.opening before) watch) (sym shape)
    (subst (λ (t : Tables). AreDue setup.opening (completions_of world.shape t setup.opening before) watch) (sym tables) h.seen) in
    let leads : LeadTo setup.opening before e.step e.outcome new =
    ap (λ (x : Extent). made_after x new.tables setup.opening before e.step) new_shape
    ∙ (ap (λ (t : Tables). made_after setup.shape t setup.opening before e.step) new_tables ∙ here) in
    let scene : Answers (scene_after setup.shape setup.tables setup.opening before e.step) seen =
    subst (λ (x : Extent). Answers (scene_after x setup.tables setup.opening before e.step) seen) new_shape
    (subst (λ (t : Tables). Answers (scene_after new.shape t setup.opening before e.step) seen) new_tables
    (answers setup.opening before has_seen leads)) in
    record {
      recorded_is = refl;
      legal =
          map_push (λ (e : Entry). e.outcome) es e ∙ (ap (λ os. os ++ e.outcome ∷ []) h.legal
          ∙ (ap (λ o. outcomes_of setup.tables s before ++ o ∷ []) (ap (λ (n : Next). n.outcome) (sym here))
          ∙ (sym (outcomes_push setup.tables s before e.step) ∙ ap (outcomes_of setup.tables s) (sym steps))));
      shape = new_shape;
      tables = new_tables;
      state = ap (λ (n : Next). n.state) (sym here) ∙ (sym (state_push setup.tables s before e.step) ∙ ap (state_after setup.tables s) (sym steps));
      seen = subst (λ (l : List Step). HasSeen new setup.opening l watch') (sym steps) (sees setup.opening before has_seen leads);
      first = subst (λ (l : List Step). AnswersFirst setup.shape setup.tables setup.opening l (first_seen violation (length es) seen)) (sym steps)
          (first-push setup.shape setup.tables setup.opening before e.step (length es) violation seen
          (sym (length-map es (λ (e : Entry). e.step))) h.first scene);
      owned = owned_push f es os e o h.owned lt mine;
    }

pub kept_more : (f : FloorId) (world new : View) (watch watch' : List ℕ) (recording recording' : RecordingView) (os os' : List ℕ)
    (violation violation' : Option (ℕ × Violation))
    (step : Step) (made : Made) (o n : ℕ) (seen : Option Violation) →
    IsKeptUp f world watch recording os violation → o < f.seats → is_its f recording.entries o step ≡ true →
    Advances world new recording recording' o step made → AnswersHistory new watch step made.outcome seen → SeesNext new watch step made.outcome watch' →
    os' ≡ os ++ o ∷ [] → n ≡ length recording.entries → violation' ≡ first_seen violation n seen →
    IsKeptUp f new watch' recording' os' violation'
kept_more f world new watch watch' recording recording' os os' violation violation' step made o n seen
    h lt mine a answers sees same_owners number same_violation =
    let e : Entry = record { step = step; outcome = made.outcome } in
    let kept = kept_push f world new watch watch' recording os violation e o seen h lt mine
    (next-told world.tables world.state step made new.state a.told) a.shape a.tables answers sees in
    let same : recording' ≡ recorded_at f (recording.entries ++ e ∷ []) (os ++ o ∷ []) =
    a.recorded ∙ ap (λ (k : RecordingView). with_owned k e (Some o)) h.recorded_is in
    rw (same, same_owners, same_violation, number) kept

-- there was room for one entry more
pub fits_more : (recording recording' : RecordingView) (es : List Entry) (e : Entry) (o capacity : ℕ) → recording' ≡ with_owned recording e (Some o) →
    recording.entries ≡ es → length es < capacity →
    length recording'.entries ≤ capacity
fits_more recording recording' es e o capacity same is room =
    let count : length recording'.entries ≡ length recording.entries + 1 =
    ap (λ (k : RecordingView). length k.entries) same ∙ length-append recording.entries (e ∷ []) in
    let low : length recording.entries < capacity = subst (λ (l : List Entry). length l < capacity) (sym is) room in
    omega (arith, count, low)

-- a world, a watch and a recording that are opened under the floor's setup are kept up
pub kept_first : (f : FloorId) (world : View) (watch : List ℕ) (recording : RecordingView) → AreParts f.seats f.setup world watch recording →
    IsKeptUp f world watch recording [] None
kept_first f world watch recording parts = subst (λ (r : RecordingView). IsKeptUp f world watch r [] None) (sym parts.opens) (record {
  recorded_is = refl;
  legal = refl;
  shape = parts.starts.shape;
  tables = parts.starts.tables;
  state = parts.starts.state;
  seen = parts.seen world;
  first = λ number step at. absurd (cc at);
  owned = record { each = refl; belonged = λ number entry owner at by. absurd (cc at) };
})
