-- The step that a word draws.
use Rattle.std.proofs.Common.{◌≡◌, ◌<◌, ◌%◌, ℕ, List, Option, true, length, sym, ap, ◌∙◌, subst}
use Rattle.std.proofs.lemmas.Option.{get_or_from_slice_get}
use Rattle.std.proofs.lemmas.List.Elements.{filter_passes}
use Rattle.base.specs.Extent.{Extent}
use Rattle.base.specs.declared.step.Step.{Step}
use Rattle.machine.specs.Machine.{State}
use Rattle.tables.specs.Tables.{Tables}
use Rattle.world.specs.Enabled.{enabled_steps}
use Rattle.world.specs.View.{View}
use Rattle.monitor.specs.declared.violation.Violation.{Violation}
use Rattle.record_lines.specs.declared.entry.Entry.{Entry}
use Rattle.record.specs.View.{RecordingView}
use Rattle.floor.specs.Belonging.{ready_for}
use Rattle.floor.specs.FloorId.{FloorId}
use Rattle.floor.specs.Turning.{Draws, is_its, its_ready, state_of}
use Rattle.floor.specs.inner.Keeping.{IsKeptUp}
use Rattle.floor.specs.inner.Sharing.{IsDrawn}
use Rattle.floor.proofs.Recounting.{get-below}

-- what is ready for a seat in a hall's world is what is ready for it at the floor
pub ready-its : (f : FloorId) (world : View) (watch : List ℕ) (recording : RecordingView) (os : List ℕ) (violation : Option (ℕ × Violation))
    (seats : ℕ) (es : List Entry) (number seat : ℕ) → IsKeptUp f world watch recording os violation →
    recording.entries ≡ es → number ≡ seat → seats ≡ f.seats →
    ready_for seats world.shape.caches world.tables world.state number ≡ its_ready f es seat
ready-its f world watch recording os violation seats es number seat h entries is many =
    let caches : world.shape.caches ≡ f.setup.shape.caches = ap (λ (x : Extent). x.caches) h.shape in
    let state : world.state ≡ state_of f.setup es = h.state ∙ ap (state_of f.setup) entries in
    ap (λ n. ready_for n world.shape.caches world.tables world.state number) many
    ∙ (ap (λ n. ready_for f.seats n world.tables world.state number) caches
    ∙ (ap (λ (t : Tables). ready_for f.seats f.setup.shape.caches t world.state number) h.tables
    ∙ (ap (λ (x : State). ready_for f.seats f.setup.shape.caches f.setup.tables x number) state
    ∙ ap (λ n. its_ready f es n) is)))

-- the step that a word draws among the deliveries that are ready for a seat is the seat's
pub drawn : (f : FloorId) (es : List Entry) (seat word : ℕ) (steps : List Step) (s : Step) →
    steps ≡ its_ready f es seat → IsDrawn steps word s → Draws f es seat word s × (is_its f es seat s ≡ true)
drawn f es seat word steps s same draws =
    let at : Draws f es seat word s = subst (λ l. IsDrawn l word s) same draws in
    let ready : List Step = its_ready f es seat in
    let k : ℕ = word % length ready in
    let inside : k < length ready = get-below ready k s at in
    let passes = filter_passes (λ x. is_its f es seat x) (enabled_steps f.setup.tables (state_of f.setup es)) k s inside in
    (at, ap (λ x. is_its f es seat x) (sym (get_or_from_slice_get ready k s s at)) ∙ passes)
