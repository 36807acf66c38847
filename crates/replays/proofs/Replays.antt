-- What a replay keeps, entry by entry.
use Rattle.std.proofs.Common.{◌≡◌, ◌≢◌, ◌<◌, ℕ, zero, suc, List, [], ◌∷◌, ◌++◌, Option, Some, length, take, map, slice_get, get_or, refl, ap}
use Rattle.std.proofs.Common.{sym, subst, ◌∙◌, arith}
use Rattle.std.proofs.lemmas.List.{map_push, take-map, length-map}
use Rattle.base.specs.Extent.{Extent}
use Rattle.base.specs.declared.step.Step.{Step}
use Rattle.base.specs.declared.step.Outcome.{Outcome}
use Rattle.tables.specs.Tables.{Tables}
use Rattle.machine.specs.Machine.{State, Next, next, opened, state_after, outcomes_of}
use Rattle.world.specs.View.{View, stepped}
use Rattle.monitor.specs.declared.violation.Violation.{Violation}
use Rattle.monitor.specs.Scenes.{Answers}
use Rattle.machine.specs.Completions.{completions_of}
use Rattle.monitor.specs.Watching.{HasSeen, LeadTo, AnswersHistory, SeesNext, AreDue, made_after, scene_after}
use Rattle.record_lines.specs.declared.entry.Entry.{Entry}
use Rattle.record.specs.View.{RecordingView, steps_of}
use Rattle.replays.specs.Replaying.{IsFirstToDiffer}
use Rattle.monitor.specs.Violations.{AnswersFirst}
use Rattle.monitor.proofs.FirstViolations.{first_seen, first-push}
use Rattle.replays.specs.inner.SoFar.{IsSoFar, steps_in}

outcome-at : (tables : Tables) (s : State) (steps : List Step) (k : ℕ) (step : Step) → slice_get steps k ≡ Some step →
    slice_get (outcomes_of tables s steps) k ≡ Some (next tables (state_after tables s (take k steps)) step).outcome
outcome-at tables s [] k step e = absurd (cc)
outcome-at tables s (x ∷ xs) zero step e = let same : x ≡ step = cc in ap (λ (t : Step). Some (next tables s t).outcome) same
outcome-at tables s (x ∷ xs) (suc k) step e = outcome-at tables (next tables s x).state xs k step e

outcomes-take : (tables : Tables) (s : State) (steps : List Step) (k : ℕ) → take k (outcomes_of tables s steps) ≡ outcomes_of tables s (take k steps)
outcomes-take tables s steps zero = refl
outcomes-take tables s [] (suc k) = refl
outcomes-take tables s (x ∷ xs) (suc k) = ap (λ os. (next tables s x).outcome ∷ os) (outcomes-take tables (next tables s x).state xs k)

get-map : {X Y : Type 0} (f : X → Y) (xs : List X) (k : ℕ) (d : X) → k < length xs → slice_get (map f xs) k ≡ Some (f (get_or xs k d))
get-map f [] k d low = absurd (omega (arith, low))
get-map f (x ∷ xs) zero d low = refl
get-map f (x ∷ xs) (suc k) d low = get-map f xs k d (omega (arith, low))

-- the outcome that a step has behind those so far
found-here : (r : RecordingView) (done : List Entry) (world new : View) (watch : List ℕ) (violation : Option (ℕ × Violation))
    (step : Step) (what : Outcome) →
    IsSoFar r done world watch violation → next world.tables world.state step ≡ stepped new.state what →
    next r.tables (state_after r.tables (opened r.shape r.opening) (steps_in done)) step ≡ stepped new.state what
found-here r done world new watch violation step what h made =
    ap (λ (t : Tables). next t (state_after r.tables (opened r.shape r.opening) (steps_in done)) step) (sym h.tables)
    ∙ ap (λ (s : State). next world.tables s step) (sym h.state) ∙ made

-- the first entry that differs
pub differs-here : (r : RecordingView) (k : ℕ) (d : Entry) (world new : View) (watch : List ℕ) (violation : Option (ℕ × Violation))
    (what : Outcome) →
    k < length r.entries → IsSoFar r (take k r.entries) world watch violation →
    next world.tables world.state (get_or r.entries k d).step ≡ stepped new.state what → what ≢ (get_or r.entries k d).outcome →
    IsFirstToDiffer r k (get_or r.entries k d).outcome what
differs-here r k d world new watch violation what low h made other =
    let s : State = opened r.shape r.opening in
    let front : take k (steps_of r) ≡ steps_in (take k r.entries) = take-map (λ (e : Entry). e.step) k r.entries in
    record {
      is_told = get-map (λ (e : Entry). e.outcome) r.entries k d low;
      is_found = outcome-at r.tables s (steps_of r) k (get_or r.entries k d).step (get-map (λ (e : Entry). e.step) r.entries k d low)
          ∙ ap (λ (steps : List Step). Some (next r.tables (state_after r.tables s steps) (get_or r.entries k d).step).outcome) front
          ∙ ap (λ (n : Next). Some n.outcome) (found-here r (take k r.entries) world new watch violation (get_or r.entries k d).step what h made);
      differs = λ same. other (sym same);
      first =
          take-map (λ (e : Entry). e.outcome) k r.entries ∙ h.legal ∙ ap (outcomes_of r.tables s) (sym front) ∙ sym (outcomes-take r.tables s (steps_of r) k);
    }

state-push : (tables : Tables) (s : State) (xs : List Step) (step : Step) →
    state_after tables s (xs ++ step ∷ []) ≡ (next tables (state_after tables s xs) step).state
state-push tables s [] step = refl
state-push tables s (x ∷ xs) step = state-push tables (next tables s x).state xs step

pub outcomes-push : (tables : Tables) (s : State) (xs : List Step) (step : Step) →
    outcomes_of tables s (xs ++ step ∷ []) ≡ outcomes_of tables s xs ++ (next tables (state_after tables s xs) step).outcome ∷ []
outcomes-push tables s [] step = refl
outcomes-push tables s (x ∷ xs) step = ap (λ os. (next tables s x).outcome ∷ os) (outcomes-push tables (next tables s x).state xs step)

-- one entry more, whose outcome is as told
pub push-so-far : (r : RecordingView) (done : List Entry) (e : Entry) (world new : View) (old_watch watch : List ℕ)
    (violation : Option (ℕ × Violation)) (seen : Option Violation) (what : Outcome) (n : ℕ) →
    n ≡ length done → IsSoFar r done world old_watch violation → next world.tables world.state e.step ≡ stepped new.state what →
    new.shape ≡ world.shape → new.tables ≡ world.tables → what ≡ e.outcome →
    AnswersHistory new old_watch e.step what seen → SeesNext new old_watch e.step what watch →
    IsSoFar r (done ++ e ∷ []) new watch (first_seen violation n seen)
push-so-far r done e world new old_watch watch violation seen what n is h made shape tables told answers sees =
    let s : State = opened r.shape r.opening in
    let steps : steps_in (done ++ e ∷ []) ≡ steps_in done ++ e.step ∷ [] = map_push (λ (e : Entry). e.step) done e in
    let here = found-here r done world new old_watch violation e.step what h made in
    let new_shape : new.shape ≡ r.shape = shape ∙ h.shape in
    let new_tables : new.tables ≡ r.tables = tables ∙ h.tables in
    let has_seen : HasSeen new r.opening (steps_in done) old_watch =
    subst (λ (x : Extent). AreDue r.opening (completions_of x new.tables r.opening (steps_in done)) old_watch) (sym shape)
    (subst (λ (t : Tables). AreDue r.opening (completions_of world.shape t r.opening (steps_in done)) old_watch) (sym tables) h.seen) in
    let leads : LeadTo r.opening (steps_in done) e.step what new =
    ap (λ (x : Extent). made_after x new.tables r.opening (steps_in done) e.step) new_shape
    ∙ ap (λ (t : Tables). made_after r.shape t r.opening (steps_in done) e.step) new_tables ∙ here in
    let scene : Answers (scene_after r.shape r.tables r.opening (steps_in done) e.step) seen =
    subst (λ (x : Extent). Answers (scene_after x r.tables r.opening (steps_in done) e.step) seen) new_shape
    (subst (λ (t : Tables). Answers (scene_after new.shape t r.opening (steps_in done) e.step) seen) new_tables
    (answers r.opening (steps_in done) has_seen leads)) in
    record {
      shape = new_shape;
      tables = new_tables;
      state = ap (λ (n : Next). n.state) (sym here) ∙ sym (state-push r.tables s (steps_in done) e.step) ∙ ap (state_after r.tables s) (sym steps);
      seen = subst (λ (l : List Step). HasSeen new r.opening l watch) (sym steps) (sees r.opening (steps_in done) has_seen leads);
      legal =
          map_push (λ (e : Entry). e.outcome) done e ∙ ap (λ os. os ++ e.outcome ∷ []) h.legal
          ∙ ap (λ o. outcomes_of r.tables s (steps_in done) ++ o ∷ []) (sym told ∙ ap (λ (n : Next). n.outcome) (sym here))
          ∙ sym (outcomes-push r.tables s (steps_in done) e.step) ∙ ap (outcomes_of r.tables s) (sym steps);
      first = subst (λ (l : List Step). AnswersFirst r.shape r.tables r.opening l (first_seen violation n seen)) (sym steps)
          (first-push r.shape r.tables r.opening (steps_in done) e.step n violation seen (is ∙ sym (length-map done (λ (e : Entry). e.step))) h.first scene);
    }
