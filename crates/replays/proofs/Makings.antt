-- What is kept of entries that are made as they are read.
use Rattle.std.proofs.Common.{◌≡◌, ◌≢◌, ◌<◌, ℕ, zero, suc, List, [], ◌∷◌, ◌++◌, Option, Some, length, take, slice_get, get_or, refl, ap, sym, subst, ◌∙◌}
use Rattle.std.proofs.Common.{arith, length-append}
use Rattle.std.proofs.lemmas.List.{map_push, take-append-le}
use Rattle.std.proofs.lemmas.Option.{slice_get_within}
use Rattle.std.proofs.Math.Seq.{take-append_seam}
use Rattle.base.specs.declared.step.Outcome.{Outcome}
use Rattle.machine.specs.Machine.{State, next, opened, outcomes_of, state_after}
use Rattle.world.specs.View.{View, stepped}
use Rattle.monitor.specs.declared.violation.Violation.{Violation}
use Rattle.monitor.specs.Watching.{AnswersHistory, SeesNext}
use Rattle.monitor.proofs.FirstViolations.{first_seen}
use Rattle.replays.specs.declared.making.Run.{Run}
use Rattle.replays.specs.declared.making.Stage.{Stage}
use Rattle.replays.specs.declared.making.Stage.TheVariants.{Closed, Same, Refused}
use Rattle.record_lines.specs.declared.entry.Entry.{Entry}
use Rattle.replays.specs.declared.replaying.ReplayFault.{ReplayFault}
use Rattle.replays.specs.declared.replaying.ReplayFault.TheVariants.{Differs, NoMemory}
use Rattle.base.specs.Extent.{Extent}
use Rattle.tables.specs.Tables.{Tables}
use Rattle.record.specs.View.{RecordingView, found_by, opened_of, steps_of, told_by, with_owned}
use Rattle.replays.specs.Replaying.{FaultOf, IsFirstToDiffer}
use Rattle.replays.specs.inner.Making.{HasCome, HasMadeFirst}
use Rattle.replays.specs.inner.SoFar.{IsSoFar}
use Rattle.replays.proofs.Replays.{differs-here, outcomes-push, push-so-far}

-- with an entry more to come, those so far are made
pub to-come : (r : RecordingView) (e : Entry) (owner : Option ℕ) (done : List Entry) (run : Run) → HasMadeFirst r done run →
    HasMadeFirst (with_owned r e owner) done run
to-come r e owner done run h =
    record { shape = h.shape; tables = h.tables; state = h.state; seen = h.seen; legal = h.legal; first = h.first }

-- before the first entry none is made
pub none-made : (r : RecordingView) (shape : Extent) (tables : Tables) (opening : List ℕ) (run : Run) → shape ≡ r.shape → tables ≡ r.tables →
    opening ≡ r.opening → HasMadeFirst (opened_of 0 shape tables opening) [] run → HasMadeFirst r [] run
none-made r shape tables opening run same_shape same_tables same_opening h =
    let made =
    subst (λ (x : Extent). HasMadeFirst (opened_of 0 x r.tables r.opening) [] run) same_shape
    (subst (λ (x : Tables). HasMadeFirst (opened_of 0 shape x r.opening) [] run) same_tables
    (subst (λ (x : List ℕ). HasMadeFirst (opened_of 0 shape tables x) [] run) same_opening h)) in
    record { shape = made.shape; tables = made.tables; state = made.state; seen = made.seen; legal = made.legal; first = made.first }

-- one entry more, whose outcome is as told
pub made-more : (r : RecordingView) (done : List Entry) (e : Entry) (world new : View) (old_watch watch : List ℕ)
    (violation v : Option (ℕ × Violation)) (seen : Option Violation) (what : Outcome) (n : ℕ) →
    v ≡ first_seen violation n seen → n ≡ length done → IsSoFar r done world old_watch violation →
    next world.tables world.state e.step ≡ stepped new.state what → new.shape ≡ world.shape → new.tables ≡ world.tables → what ≡ e.outcome →
    AnswersHistory new old_watch e.step what seen → SeesNext new old_watch e.step what watch → IsSoFar r (done ++ e ∷ []) new watch v
made-more r done e world new old_watch watch violation v seen what n first is h made shape tables told answers sees =
    subst (λ (x : Option (ℕ × Violation)). IsSoFar r (done ++ e ∷ []) new watch x) (sym first)
    (push-so-far r done e world new old_watch watch violation seen what n is h made shape tables told answers sees)

get-behind : (xs rest : List Entry) (e : Entry) → get_or (xs ++ e ∷ rest) (length xs) e ≡ e
get-behind [] rest e = refl
get-behind (x ∷ xs) rest e = get-behind xs rest e

-- one entry more, which is the first that differs
pub differs-more : (r : RecordingView) (done rest : List Entry) (e : Entry) (world new : View) (watch : List ℕ) (violation : Option (ℕ × Violation))
    (what : Outcome) (n : ℕ) → n ≡ length done → IsSoFar r done world watch violation → r.entries ≡ done ++ e ∷ rest →
    next world.tables world.state e.step ≡ stepped new.state what → what ≢ e.outcome → IsFirstToDiffer r n e.outcome what
differs-more r done rest e world new watch violation what n is h all made other =
    let k : ℕ = length done in
    let here : get_or r.entries k e ≡ e = ap (λ (es : List Entry). get_or es k e) all ∙ get-behind done rest e in
    let front : take k r.entries ≡ done = ap (take k) all ∙ take-append_seam done (e ∷ rest) in
    let so_far : IsSoFar r (take k r.entries) world watch violation =
    subst (λ (first : List Entry). IsSoFar r first world watch violation) (sym front) h in
    subst (λ (m : ℕ). IsFirstToDiffer r m e.outcome what) (sym is)
    (subst (λ (x : Entry). IsFirstToDiffer r k x.outcome what) here
    (differs-here r k e world new watch violation what (omega (arith, ap length all, length-append done (e ∷ rest))) so_far
    (subst (λ (x : Entry). next world.tables world.state x.step ≡ stepped new.state what) (sym here) made)
    (subst (λ (x : Entry). what ≢ x.outcome) (sym here) other)))

-- ---- behind the first that differs

get-kept : {X : Type 0} (xs ys : List X) (k : ℕ) (x : X) → slice_get xs k ≡ Some x → slice_get (xs ++ ys) k ≡ Some x
get-kept [] ys k x e = absurd (cc)
get-kept (y ∷ xs) ys zero x e = e
get-kept (y ∷ xs) ys (suc k) x e = get-kept xs ys k x e

differs-still : (r : RecordingView) (e : Entry) (owner : Option ℕ) (k : ℕ) (told found : Outcome) → IsFirstToDiffer r k told found →
    IsFirstToDiffer (with_owned r e owner) k told found
differs-still r e owner k told found h =
    let s : State = opened r.shape r.opening in
    let r' : RecordingView = with_owned r e owner in
    let more : told_by r' ≡ told_by r ++ e.outcome ∷ [] = map_push (λ (e : Entry). e.outcome) r.entries e in
    let what : Outcome = (next r.tables (state_after r.tables s (steps_of r)) e.step).outcome in
    let made : found_by r' ≡ found_by r ++ what ∷ [] =
    ap (outcomes_of r.tables s) (map_push (λ (e : Entry). e.step) r.entries e) ∙ outcomes-push r.tables s (steps_of r) e.step in
    let in_told : k < length (told_by r) = slice_get_within (told_by r) k told h.is_told in
    let in_found : k < length (found_by r) = slice_get_within (found_by r) k found h.is_found in
    record {
      is_told = ap (λ (os : List Outcome). slice_get os k) more ∙ get-kept (told_by r) (e.outcome ∷ []) k told h.is_told;
      is_found = ap (λ (os : List Outcome). slice_get os k) made ∙ get-kept (found_by r) (what ∷ []) k found h.is_found;
      differs = h.differs;
      first =
          ap (take k) more ∙ take-append-le k (told_by r) (e.outcome ∷ []) (omega (arith, in_told)) ∙ h.first
          ∙ sym (take-append-le k (found_by r) (what ∷ []) (omega (arith, in_found))) ∙ ap (take k) (sym made);
    }

refused-still : (r : RecordingView) (e : Entry) (owner : Option ℕ) (fault : ReplayFault) → FaultOf r fault → FaultOf (with_owned r e owner) fault
refused-still r e owner (Differs k told found) h = differs-still r e owner k told found h
refused-still r e owner NoMemory h = tt

pub stays-refused : (r : RecordingView) (e : Entry) (owner : Option ℕ) (stage : Stage) → ((run : Run) → stage ≢ Same run) → HasCome r stage →
    HasCome (with_owned r e owner) stage
stays-refused r e owner Closed other h = absurd h
stays-refused r e owner (Same run) other h = absurd (other run refl)
stays-refused r e owner (Refused fault) other h = refused-still r e owner fault h
