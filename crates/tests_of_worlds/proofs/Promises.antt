-- What the calls of homes, lines and worlds promise, each promise by itself, where it is no field of their contracts' records.
use Rattle.std.proofs.Common.{◌≡◌, ◌∙◌, ◌⊎◌, [], ◌∷◌, Err, List, Ok, Option, Result, ap, arith, false, inl, inr, length, subst, sym, take}
use Rattle.std.specs.Prelude.{IfErr, IfOk, IsOk, OnErr, OnOk}
use Rattle.std.proofs.Math.Seq.{take-length}
use Rattle.base.specs.declared.ids.CacheId.{CacheId}
use Rattle.base.specs.declared.step.Outcome.{Outcome}
use Rattle.base.specs.declared.step.Step.{Step}
use Rattle.cache_table.specs.declared.actions.CacheAction.{CacheAction}
use Rattle.cache_table.specs.declared.state.CacheState.{CacheState}
use Rattle.directory_table.specs.declared.actions.DirectoryAction.{DirectoryAction}
use Rattle.directory_table.specs.declared.state.DirectoryState.{DirectoryState}
use Rattle.network.specs.Marks.{Marks}
use Rattle.network.specs.Room.{Wiring}
use Rattle.network.proofs.Sending.{links-sends, requests-stay}
use Rattle.control.specs.Acts.{HasFlagsAndLinks, HomeActs, LineActs}
use Rattle.control.specs.HomeEffect.{brought_by, home_after, home_sends, sender_of}
use Rattle.control.specs.Homes.{IsBelow, NamesBelow}
use Rattle.control.specs.LineEffect.{line_sends, requestor_of, taken_in}
use Rattle.control.specs.declared.home.Home.{Home}
use Rattle.control.specs.declared.home.HomeInput.{HomeInput}
use Rattle.control.specs.declared.line.Line.{Line}
use Rattle.control.specs.declared.line.LineCompletion.{LineCompletion}
use Rattle.control.specs.declared.line.LineInput.{LineInput}
use Rattle.control.proofs.HomeSends.{Keeps, keeps-moved}
use Rattle.blocks.proofs.Relinking.{messages-marks}
use Rattle.machine.specs.Machine.{sent_by}
use Rattle.world.specs.Coherent.{HasBeenSafe, IsUnstuck}
use Rattle.world.specs.Keeping.{KeepsAsIs, KeepsOthers}
use Rattle.world.specs.OneStep.{NeedsNoMemory, StaysSafely, StepsSafely}
use Rattle.world.specs.Runs.{RunsSafely, StopsSafely}
use Rattle.world.specs.View.{HasRoomToStep, View, wakes}
use Rattle.world.specs.declared.runs.RunStop.{RunStop}

-- ---- a home acts

-- whatever it becomes, it is named as before
keeps-after : (input : HomeInput) (next : DirectoryState) (actions : List DirectoryAction) (home : Home)
    → Keeps (sender_of input) home (home_after input next actions home)
keeps-after input next actions home =
    let moved = keeps-moved (sender_of input) (brought_by input) actions home in
    record {
      flags = moved.flags;
      names = λ n h l. let named = moved.names n h l in record { owner = named.owner; sharers = named.sharers };
    }

-- it has as many flags as before
pub as-many-flags : (input : HomeInput) (next : DirectoryState) (actions : List DirectoryAction) (home after : Home) (wires left : Wiring) →
    HomeActs input next actions home wires after left → length after.sharers ≡ length home.sharers
as-many-flags input next actions home after wires left acts =
    ap (λ (h : Home). length h.sharers) acts.home ∙ (keeps-after input next actions home).flags

-- and its block as many links
pub as-many-links : (input : HomeInput) (next : DirectoryState) (actions : List DirectoryAction) (home after : Home) (wires left : Wiring) →
    HomeActs input next actions home wires after left → length left.traffic.links ≡ length wires.traffic.links
as-many-links input next actions home after wires left acts = links-sends (home_sends input actions home) wires left acts.sent

-- whoever is named has a flag and a link again
pub named-again : (input : HomeInput) (next : DirectoryState) (actions : List DirectoryAction) (home after : Home) (wires left : Wiring) →
    HasFlagsAndLinks (sender_of input) home wires → HomeActs input next actions home wires after left → HasFlagsAndLinks (sender_of input) after left
named-again input next actions home after wires left places acts =
    let keeps = keeps-after input next actions home in
    let flags = as-many-flags input next actions home after wires left acts in
    let links = as-many-links input next actions home after wires left acts in
    record {
      flags =
          subst (λ n. NamesBelow n after) (sym flags)
          (subst (NamesBelow (length home.sharers)) (sym acts.home) (keeps.names _ places.flags places.sender_flag));
      links =
          subst (λ n. NamesBelow n after) (sym links)
          (subst (NamesBelow (length wires.traffic.links)) (sym acts.home) (keeps.names _ places.links places.sender_link));
      sender_flag = subst (IsBelow (sender_of input)) (sym flags) places.sender_flag;
      sender_link = subst (IsBelow (sender_of input)) (sym links) places.sender_link;
    }

-- ---- a line acts

-- no mark of a link changes
pub marks-of-links : (cache : CacheId) (input : LineInput) (next : CacheState) (actions : List CacheAction) (line after : Line) (wires left : Wiring)
    (completion : Option LineCompletion) → LineActs cache input next actions line wires completion after left → left.marks.links ≡ wires.marks.links
marks-of-links cache input next actions line after wires left completion acts =
    ap (λ (m : Marks). m.links) acts.sent.marks ∙ messages-marks cache (taken_in input line).value (requestor_of input) actions wires.marks

-- nor one of a request that was there
pub marks-of-requests : (cache : CacheId) (input : LineInput) (next : CacheState) (actions : List CacheAction) (line after : Line)
    (wires left : Wiring) (completion : Option LineCompletion) → LineActs cache input next actions line wires completion after left →
    take (length wires.marks.requests) left.marks.requests ≡ wires.marks.requests
marks-of-requests cache input next actions line after wires left completion acts =
    ap (λ (m : Marks). take (length wires.marks.requests) m.requests) acts.sent.marks
    ∙ requests-stay (line_sends cache input actions line) wires.marks (length wires.marks.requests) (omega arith)
    ∙ take-length wires.marks.requests

-- ---- a world makes a step, refused or not

pub step-shape : {E : Type 0} (old new : View) (step : Step) (r : Result Outcome E) → IfOk r (λ what. StepsSafely old step what new) →
    OnErr r (StaysSafely old step new) → new.shape ≡ old.shape
step-shape old new step (Ok what) steps stays = steps.shape
step-shape old new step (Err fault) steps stays = stays.as_before.shape

pub step-tables : {E : Type 0} (old new : View) (step : Step) (r : Result Outcome E) → IfOk r (λ what. StepsSafely old step what new) →
    OnErr r (StaysSafely old step new) → new.tables ≡ old.tables
step-tables old new step (Ok what) steps stays = steps.tables
step-tables old new step (Err fault) steps stays = stays.as_before.tables

pub step-opening : {E : Type 0} (old new : View) (step : Step) (r : Result Outcome E) → IfOk r (λ what. StepsSafely old step what new) →
    OnErr r (StaysSafely old step new) → new.opening ≡ old.opening
step-opening old new step (Ok what) steps stays = steps.opening
step-opening old new step (Err fault) steps stays = stays.as_before.opening

pub step-keeps : {E : Type 0} (old new : View) (step : Step) (r : Result Outcome E) → IfOk r (λ what. StepsSafely old step what new) →
    OnErr r (StaysSafely old step new) → KeepsAsIs old step new
step-keeps old new step (Ok what) steps stays = steps.keeps
step-keeps old new step (Err fault) steps stays = stays.as_before.keeps

pub step-safe : {E : Type 0} (old new : View) (step : Step) (r : Result Outcome E) → IfOk r (λ what. StepsSafely old step what new) →
    OnErr r (StaysSafely old step new) → HasBeenSafe new
step-safe old new step (Ok what) steps stays = steps.safe
step-safe old new step (Err fault) steps stays = stays.safe

pub step-unstuck : {E : Type 0} (old new : View) (step : Step) (r : Result Outcome E) → IfOk r (λ what. StepsSafely old step what new) →
    OnErr r (StaysSafely old step new) → IsUnstuck new
step-unstuck old new step (Ok what) steps stays = steps.unstuck
step-unstuck old new step (Err fault) steps stays = stays.unstuck

-- with room it succeeds
pub with-room : {T E : Type 0} (world : View) (step : Step) (r : Result T E) → (NeedsNoMemory world step → IsOk r) → HasRoomToStep world step → IsOk r
with-room world step r succeeds room = succeeds (inl room)

-- and so does one that sends nothing, but for an ask that acts at a line in I
pub sending-nothing : {T E : Type 0} (world : View) (step : Step) (r : Result T E) → (NeedsNoMemory world step → IsOk r) →
    sent_by world.tables world.state step ≡ [] → wakes world step ≡ false → IsOk r
sending-nothing world step r succeeds none asleep = succeeds (inr (none, asleep))

-- ---- a world makes a run, stopped or not

pub run-keeps : (old new : View) (steps : List Step) (before after : List Outcome) (r : Result Unit RunStop) →
    OnOk r (RunsSafely old steps before new after) → IfErr r (λ stop. StopsSafely old steps stop.done before new after) → KeepsOthers old steps new
run-keeps old new steps before after (Ok done) runs stops = runs.keeps
run-keeps old new steps before after (Err stop) runs stops = stops.keeps

pub run-safe : (old new : View) (steps : List Step) (before after : List Outcome) (r : Result Unit RunStop) →
    OnOk r (RunsSafely old steps before new after) → IfErr r (λ stop. StopsSafely old steps stop.done before new after) → HasBeenSafe new
run-safe old new steps before after (Ok done) runs stops = runs.safe
run-safe old new steps before after (Err stop) runs stops = stops.safe

pub run-unstuck : (old new : View) (steps : List Step) (before after : List Outcome) (r : Result Unit RunStop) →
    OnOk r (RunsSafely old steps before new after) → IfErr r (λ stop. StopsSafely old steps stop.done before new after) → IsUnstuck new
run-unstuck old new steps before after (Ok done) runs stops = runs.unstuck
run-unstuck old new steps before after (Err stop) runs stops = stops.unstuck
