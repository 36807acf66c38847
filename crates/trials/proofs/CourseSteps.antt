-- One step of a trial on its way.
use Rattle.std.proofs.Common.{◌≡◌, ◌<◌, ◌+◌, ◌%◌, ℕ, List, [], ◌∷◌, ◌++◌, Option, Some, None, IfSome, length, slice_get, refl, ap, sym, subst, ◌∙◌, arith}
use Rattle.std.proofs.lemmas.List.{map_push}
use Rattle.rand_pcg.specs.Lcg.{Lcg}
use Rattle.rand_pcg.specs.Lcg as lcg
use Rattle.rand_pcg.specs.Pcg.{multiplier_64}
use Rattle.base.specs.Extent.{Extent}
use Rattle.base.specs.declared.step.Step.{Step}
use Rattle.base.specs.declared.step.Outcome.{Outcome}
use Rattle.tables.specs.Tables.{Tables}
use Rattle.machine.proofs.Making.{next-told, outcome-told}
use Rattle.machine.specs.declared.made.Made.{Made}
use Rattle.machine.specs.Made.{made_of}
use Rattle.machine.specs.Machine.{State, next, opened, state_after}
use Rattle.monitor.specs.declared.violation.Violation.{Violation}
use Rattle.monitor.specs.Scenes.{HasNone, IsViolation, Answers}
use Rattle.monitor.specs.Watching.{LeadTo, made_after, scene_after}
use Rattle.scenario.specs.Tree.{Tree}
use Rattle.scenario.specs.Alike.{Alike}
use Rattle.schedule.specs.Choices.{chosen_step, IsOffered, rest_after}
use Rattle.schedule.specs.Words.{dice_after, word, word_of}
use Rattle.schedule.specs.declared.choosing.Choice.{Choice}
use Rattle.schedule.specs.declared.choosing.Choice.TheVariants.{Offer, Deliver}
use Rattle.moment.proofs.Offered.{choice-offered}
use Rattle.moment.proofs.Places.{same-some}
use Rattle.moment.specs.Moments.{Moment, choices_at, moment_after}
use Rattle.moment.specs.Seen as seen
use Rattle.moment.specs.Seen.{IsAt, Seen, choices_in}
use Rattle.record_lines.specs.declared.entry.Entry.{Entry}
use Rattle.record.specs.View.{RecordingView, steps_of}
use Rattle.monitor.specs.Violations.{HasNoViolation, IsFirstViolation}
use Rattle.trials.specs.Terms.{Terms}
use Rattle.trials.specs.Moments.{IsNext, IsPath}
use Rattle.trials.specs.Trial.{IsUnowned}
use Rattle.trials.specs.inner.Going.{Chooses, Course, GoesOn, IsGoing, MakesAndNotes}
use Rattle.trials.proofs.Pushing.{length-push}
use Rattle.trials.proofs.Paths.{path-more, path-at}
use Rattle.trials.proofs.Courses.{NextWord, SameLeft, SameChoices, same-choices}

-- the law on violations that is used here
abbrev pub NoneMore : Type 0
NoneMore = (shape : Extent) (tables : Tables) (opening : List ℕ) (steps : List Step) (step : Step) →
    HasNoViolation shape tables opening steps → HasNone (scene_after shape tables opening steps step) → HasNoViolation shape tables opening (steps ++ step ∷ [])

abbrev pub FirstMore : Type 0
FirstMore = (shape : Extent) (tables : Tables) (opening : List ℕ) (steps : List Step) (step : Step) (violation : Violation) →
    HasNoViolation shape tables opening steps → IsViolation
    (scene_after shape tables opening steps step) violation → IsFirstViolation shape tables opening (steps ++ step ∷ []) (length steps) violation

state-push : (tables : Tables) (s : State) (xs : List Step) (step : Step) →
    state_after tables s (xs ++ step ∷ []) ≡ (next tables (state_after tables s xs) step).state
state-push tables s [] step = refl
state-push tables s (x ∷ xs) step = state-push tables (next tables s x).state xs step

rest-alike : SameLeft → (choice : Choice) (s t : Tree) → IsOffered choice s → Alike s t → Alike (rest_after choice s) (rest_after choice t)
rest-alike same (Offer i ask) s t low alike = same s t i alike low
rest-alike same (Deliver step) s t low alike = alike

-- the k-th choice was made at the last moment of a path, with what is then left of the scenario
record MakesAt (tables : Tables) (last : Moment) (rest : Tree) (k : ℕ) (step : Step) (made : Made) (new : Seen) : Type 0 where
  pub choice : Choice
  pub taken : slice_get (choices_at tables (record { state = last.state; cores = last.cores; rest = rest })) k ≡ Some choice
  pub step_is : step ≡ chosen_step choice
  pub told : made ≡ made_of tables last.state step
  pub leads : IsAt new (moment_after tables (record { state = last.state; cores = last.cores; rest = rest }) choice)

makes-at : (terms : Terms) (last : Moment) (old new : Seen) (k : ℕ) (step : Step) (made : Made) → old.tables ≡ terms.tables →
    (at : IsAt old last) → seen.MakesChoice old k step made new → MakesAt terms.tables last at.rest k step made new
makes-at terms last old new k step made tables at m =
    let here : Moment = record { state = last.state; cores = last.cores; rest = at.rest } in
    let is : m.before ≡ here = same-some m.before here (sym m.was ∙ at.now) in
    record {
      choice = m.choice;
      taken = subst (λ (x : Moment). slice_get (choices_at terms.tables x) k ≡ Some m.choice) is
          (subst (λ (t : Tables). slice_get (choices_at t m.before) k ≡ Some m.choice) tables m.taken);
      step_is = m.step_is;
      told = m.told ∙ ap (λ (t : Tables). made_of t m.before.state step) tables ∙ ap (λ (x : Moment). made_of terms.tables x.state step) is;
      leads = subst (λ (x : Moment). IsAt new (moment_after terms.tables x m.choice)) is
          (subst (λ (t : Tables). IsAt new (moment_after t m.before m.choice)) tables m.leads);
    }

module _ (more : NextWord) (left : SameLeft) (same : SameChoices) (terms : Terms) (tree : Tree) (number : ℕ) (c made : Course) (k : ℕ)
    (violation : Option Violation) (g : IsGoing terms tree number c)
    (drawn : k ≡ word_of c.dice % length (choices_in c.moment))
    (m : MakesAndNotes (record c { dice = lcg.next 64 multiplier_64 c.dice }) k made violation) where
  at : MakesAt terms.tables g.last g.at.rest k m.step m.made made.moment
  at = makes-at terms g.last c.moment made.moment k m.step m.made g.under.tables g.at m.makes

  abbrev entry : Entry
  entry = record { step = m.step; outcome = m.made.outcome }

  abbrev behind : Moment
  behind = moment_after terms.tables g.last at.choice

  choices-there : choices_at terms.tables (record { state = g.last.state; cores = g.last.cores; rest = g.at.rest }) ≡ choices_at terms.tables g.last
  choices-there = same terms.tables g.last.state g.last.cores g.at.rest g.last.rest g.at.alike

  number-drawn : k ≡ word terms.seed number (length c.recording.entries) % length (choices_at terms.tables g.last)
  number-drawn =
      drawn ∙ ap (λ (d : Lcg). word_of d % length (choices_in c.moment)) g.drawn
      ∙ ap (λ (cs : List Choice). word terms.seed number (length c.recording.entries) % length cs) (same-choices same terms tree number c g)

  outcome-there : m.made.outcome ≡ (next terms.tables g.last.state (chosen_step at.choice)).outcome
  outcome-there =
      ap (λ (x : Made). x.outcome) at.told ∙ sym (outcome-told terms.tables g.last.state m.step)
      ∙ ap (λ (s : Step). (next terms.tables g.last.state s).outcome) at.step_is

  state-there : behind.state ≡ (next terms.tables g.last.state m.step).state
  state-there = ap (λ (s : Step). (next terms.tables g.last.state s).state) (sym at.step_is)

  is-next : IsNext terms.tables (word terms.seed number (length c.recording.entries)) g.last entry behind
  is-next = record {
    choice = at.choice;
    taken = ap (slice_get (choices_at terms.tables g.last)) (sym number-drawn) ∙ ap (λ (cs : List Choice). slice_get cs k) (sym choices-there) ∙ at.taken;
    made = ap (λ (s : Step). let e : Entry = record { step = s; outcome = m.made.outcome } in e) at.step_is
        ∙ ap (λ (o : Outcome). let e : Entry = record { step = chosen_step at.choice; outcome = o } in e) outcome-there;
    leads = refl;
  }

  steps-made : steps_of made.recording ≡ steps_of c.recording ++ m.step ∷ []
  steps-made = ap steps_of m.recorded ∙ map_push (λ (e : Entry). e.step) c.recording.entries entry

  many-made : length made.recording.entries ≡ length c.recording.entries + 1
  many-made = ap (λ (r : RecordingView). length r.entries) m.recorded ∙ length-push c.recording.entries entry

  world-state : m.world.state ≡ (next terms.tables g.last.state m.step).state
  world-state = subst (λ (o : Option Moment). IfSome o (λ x. m.world.state ≡ x.state)) at.leads.now m.is.state ∙ state-there

  leads-to : LeadTo terms.opening (steps_of c.recording) m.step m.made.outcome m.world
  leads-to =
      ap (λ (x : Extent). made_after x m.world.tables terms.opening (steps_of c.recording) m.step) (m.is.shape ∙ m.like.shape ∙ g.under.shape)
      ∙ ap (λ (t : Tables). made_after terms.shape t terms.opening (steps_of c.recording) m.step) (m.is.tables ∙ m.like.tables ∙ g.under.tables)
      ∙ ap (λ (s : State). next terms.tables s m.step) (sym g.led)
      ∙ next-told terms.tables g.last.state m.step m.made m.world.state (record { told = at.told; state = world-state })

  -- what the step shows
  scene-made : Answers (scene_after terms.shape terms.tables terms.opening (steps_of c.recording) m.step) violation
  scene-made =
      subst (λ (x : Extent). Answers (scene_after x terms.tables terms.opening (steps_of c.recording) m.step) violation)
      (m.is.shape ∙ m.like.shape ∙ g.under.shape)
      (subst (λ (t : Tables). Answers (scene_after m.world.shape t terms.opening (steps_of c.recording) m.step) violation)
      (m.is.tables ∙ m.like.tables ∙ g.under.tables) (m.answer terms.opening (steps_of c.recording) leads-to))

  -- the path goes on to the moment behind the step
  path-made : IsPath terms tree number (g.moments ++ behind ∷ []) made.recording.entries
  path-made =
      subst (λ (es : List Entry). IsPath terms tree number (g.moments ++ behind ∷ []) es) (sym (ap (λ (r : RecordingView). r.entries) m.recorded))
      (path-more terms tree number g.moments c.recording.entries g.last behind entry g.path g.at_last is-next)

  at-made : slice_get (g.moments ++ behind ∷ []) (length made.recording.entries) ≡ Some behind
  at-made =
      ap (λ (r : RecordingView). slice_get (g.moments ++ behind ∷ []) (length r.entries)) m.recorded
      ∙ path-at g.moments c.recording.entries behind entry g.path.count

  goes-on-clean : HasNoViolation terms.shape terms.tables terms.opening (steps_of c.recording ++ m.step ∷ []) → IsGoing terms tree number made
  goes-on-clean clean = record {
    under = record { shape = m.like.shape ∙ g.under.shape; tables = m.like.tables ∙ g.under.tables; opening = m.like.opening ∙ g.under.opening };
    shape = ap (λ (r : RecordingView). r.shape) m.recorded ∙ g.shape;
    tables = ap (λ (r : RecordingView). r.tables) m.recorded ∙ g.tables;
    opening = ap (λ (r : RecordingView). r.opening) m.recorded ∙ g.opening;
    unowned = subst IsUnowned (sym m.recorded) (record { seats = g.unowned.seats; owners = g.unowned.owners });
    moments = g.moments ++ behind ∷ [];
    last = behind;
    path = path-made;
    at_last = at-made;
    at = record {
      rest = at.leads.rest;
      now = at.leads.now;
      alike =
          λ path. at.leads.alike path
          ∙ rest-alike left at.choice g.at.rest g.last.rest
          (choice-offered terms.tables g.last.state g.last.cores g.at.rest k at.choice at.taken) g.at.alike path;
    };
    drawn = m.dice ∙ ap (λ (d : Lcg). lcg.next 64 multiplier_64 d) g.drawn ∙ more terms.seed number (length c.recording.entries)
        ∙ ap (dice_after terms.seed number) (sym many-made);
    led = state-there ∙ ap (λ (s : State). (next terms.tables s m.step).state) g.led
        ∙ sym (state-push terms.tables (opened terms.shape terms.opening) (steps_of c.recording) m.step)
        ∙ ap (state_after terms.tables (opened terms.shape terms.opening)) (sym steps-made);
    clean = subst (HasNoViolation terms.shape terms.tables terms.opening) (sym steps-made) clean;
  }

goes-on-drawn : NoneMore → FirstMore → NextWord → SameLeft → SameChoices →
    (terms : Terms) (tree : Tree) (number : ℕ) (c made : Course) (k : ℕ) (violation : Option Violation) → IsGoing terms tree number c →
    length c.recording.entries < terms.limit → k ≡ word_of c.dice % length (choices_in c.moment) →
    MakesAndNotes (record c { dice = lcg.next 64 multiplier_64 c.dice }) k made violation → GoesOn terms tree number made violation
goes-on-drawn none first more left same terms tree number c made k None g low drawn m =
    goes-on-clean more left same terms tree number c made k None g drawn m
    (none terms.shape terms.tables terms.opening (steps_of c.recording) m.step g.clean (scene-made more left same terms tree number c made k None g drawn m))
goes-on-drawn none first more left same terms tree number c made k (Some violation) g low drawn m =
    let steps = steps-made more left same terms tree number c made k (Some violation) g drawn m in
    let shown =
    first terms.shape terms.tables terms.opening (steps_of c.recording) m.step violation g.clean
    (scene-made more left same terms tree number c made k (Some violation) g drawn m) in
    record {
      shape = ap (λ (r : RecordingView). r.shape) m.recorded ∙ g.shape;
      tables = ap (λ (r : RecordingView). r.tables) m.recorded ∙ g.tables;
      opening = ap (λ (r : RecordingView). r.opening) m.recorded ∙ g.opening;
      unowned = subst IsUnowned (sym m.recorded) (record { seats = g.unowned.seats; owners = g.unowned.owners });
      moments = g.moments ++ behind more left same terms tree number c made k (Some violation) g drawn m ∷ [];
      last = behind more left same terms tree number c made k (Some violation) g drawn m;
      path = path-made more left same terms tree number c made k (Some violation) g drawn m;
      at_last = at-made more left same terms tree number c made k (Some violation) g drawn m;
      few = let many = many-made more left same terms tree number c made k (Some violation) g drawn m in omega (arith, many, low);
      ends = (
        length (steps_of c.recording),
        ap length steps ∙ length-push (steps_of c.recording) m.step,
        subst (λ (ss : List Step). IsFirstViolation terms.shape terms.tables terms.opening ss (length (steps_of c.recording)) violation) (sym steps) shown,
      );
    }

-- a choice that is made leads on, or ends the trial with the violation that its step shows
pub goes-on : NoneMore → FirstMore → NextWord → SameLeft → SameChoices →
    (terms : Terms) (tree : Tree) (number : ℕ) (c chosen made : Course) (k : ℕ) (violation : Option Violation) → IsGoing terms tree number c →
    length c.recording.entries < terms.limit → Chooses c (Some k) chosen → MakesAndNotes chosen k made violation → GoesOn terms tree number made violation
goes-on none first more left same terms tree number c chosen made k violation g low taken m =
    goes-on-drawn none first more left same terms tree number c made k violation g low taken.1
    (subst (λ (x : Course). MakesAndNotes x k made violation) taken.2 m)
